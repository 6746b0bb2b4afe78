use Rattle.planner.proofs.Words.{◌≡◌, ◌+◌, ◌++◌, ◌∷◌, [], length, sym, ap, subst, ◌∙◌, arith, rules, YieldsList-from_vec, YieldsList-end, YieldsList-turn}
use Rattle.planner.proofs.Words.{length_push, get_or_default, Scene, ClearAt, space_of, IsSessionOf}
use Rattle.planner.proofs.Causes.{given_none, given_some}
use Rattle.planner.proofs.GivenBatches.{clear_at_number, one_session_more}
use Rattle.planner.proofs.batches.sessions_of.Goals as goal

pub loop-scene-preserved : goal.loop-scene-preserved
loop-scene-preserved g c =
    let scenes = c.args.scenes.items in
    let polled = c.loop-scene.yielded in
    let scene = c.in-Some.scene in
    let xs = c.loop-scene.sessions.items in
    let session = c.in-Some-2.session in
    let turn = YieldsList-turn (YieldsList-from_vec {s = c.into_iter-scene-iterator.result} scenes (search rules) (search rules))
    polled c.loop-scene.scene-iterator c.loop-scene.yielded_by c.next.result c.next.new.self scene c.in-Some.is c.next.ensures.steps in
    let pushed : c.push.new.self.items ≡ xs ++ session ∷ [] = search rules in
    let kept = c.loop-scene.invariant in
    let one_more = length_push polled scene in
    let made : IsSessionOf c.args.workers c.args.slice scene session =
    given_some _ _ _ c.in-Some-2.is c.in_ok-session.ensures.session in
    let all = one_session_more c.args.workers c.args.slice scenes xs session (length polled) kept.0 kept.1
    (λ d. subst (λ (s : Scene). IsSessionOf c.args.workers c.args.slice s session) (turn.1 ∙ get_or_default scenes (length polled) scene d turn.0) made) in (
      ap length pushed ∙ (length_push xs session ∙ (ap (λ n. n + 1) kept.0 ∙ sym one_more)),
      rw (pushed, one_more) all,
    )

-- the scene that is at hand has no clear start
pub returns-in_default-clause-blocked : goal.returns-in_default-clause-blocked
returns-in_default-clause-blocked g c =
    let scenes = c.args.scenes.items in
    let polled = c.loop-scene.yielded in
    let scene = c.in-Some.scene in
    let turn = YieldsList-turn (YieldsList-from_vec {s = c.into_iter-scene-iterator.result} scenes (search rules) (search rules))
    polled c.loop-scene.scene-iterator c.loop-scene.yielded_by c.next.result c.next.new.self scene c.in-Some.is c.next.ensures.steps in
    let blocked : ¬ ClearAt (space_of scene) scene.start = given_none _ _ c.in_default.is c.in_ok-session.ensures.blocked in
    λ clear. blocked (subst (λ (s : Scene). ClearAt (space_of s) s.start) (sym turn.1) (clear_at_number scenes (length polled) scene clear turn.0))

-- all scenes have been at hand
pub returns-clause-each : goal.returns-clause-each
returns-clause-each g c =
    let scenes = c.args.scenes.items in
    let polled = c.loop-scene.yielded in
    let end = YieldsList-end (YieldsList-from_vec {s = c.into_iter-scene-iterator.result} scenes (search rules) (search rules))
    polled c.loop-scene.scene-iterator c.loop-scene.yielded_by c.next.result c.next.new.self c.in-None.is c.next.ensures.steps in
    λ i scene s within. c.loop-scene.invariant.1 i scene s (omega (arith, within, end.1))
