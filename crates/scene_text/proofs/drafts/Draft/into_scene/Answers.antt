use Rattle.scene_text.proofs.Words.{◌≤◌, eqb, length, refl, sym, ap, rules, corners_from, corner_numbers, goal_from, goal_numbers, ◌∙◌, arith, common_steps}
use Rattle.scene_text.proofs.Words.{point_from, number_or, point_numbers, amount_numbers}
use Rattle.scene_text.proofs.DraftScenes.{AreWithin-draft, known-given, default-given, given_back, complete-draft}
use Rattle.scene_text.proofs.CanonicalNumbers.{corners_from-numbers}
use Rattle.scene_text.proofs.drafts.Draft.into_scene.Goals as goal

pub invariant_of-result : goal.invariant_of-result
invariant_of-result c =
    let version = c.in-Some.version in
    let known = c.in-Some-Some-Some in
    let within = AreWithin-draft version c.args.self (c.requires.stand version c.in-Some.is) in
    let step = within.step known.step known.is-2 in
    let some : 1 ≤ length c.args.self.goals.items = grind (arith, common_steps) in
    record {
      version_low = c.requires.low version c.in-Some.is;
      version_high = c.requires.high version c.in-Some.is;
      room_within = within.room known.room known.is-0;
      body_within = rw c.in_ok-body.ensures within.body;
      obstacles_within = rw c.from_vec.ensures within.obstacles;
      clearance_high = rw c.unwrap_or.ensures within.clearance;
      start_within = within.start known.start known.is-1;
      goals_within = rw c.from_vec-2.ensures (within.goals some);
      step_low = step.above;
      step_high = step.below;
      gamma_high = rw c.unwrap_or-2.ensures within.gamma;
      seed_high = search rules;
      strips_low = rw c.unwrap_or-4.ensures within.strips.above;
      strips_high = rw c.unwrap_or-4.ensures within.strips.below;
      informed_within = rw c.unwrap_or-5.ensures within.informed;
      plan_within = rw c.plan_of.ensures within.plan;
    }

pub returns-clause-complete : goal.returns-clause-complete
returns-clause-complete c =
    let known = c.in-Some-Some-Some in
    let some : 1 ≤ length c.args.self.goals.items = grind (arith, common_steps) in
    complete-draft c.args.self c.in-Some.version known.room known.start known.step c.in-Some.is known.is-0 known.is-1 known.is-2 some

pub returns-clause-fields : goal.returns-clause-fields
returns-clause-fields c =
    let draft = c.args.self in
    let known = c.in-Some-Some-Some in
    record {
      version = c.in-Some.is;
      room = known-given point_numbers point_from draft.room known.room known.is-0 refl;
      body = c.in_ok-body.ensures;
      obstacles = c.from_vec.ensures ∙ given_back corner_numbers corners_from (λ vs. sym (corners_from-numbers vs)) draft.obstacles.items;
      clearance = c.unwrap_or.ensures ∙ default-given 0 draft.clearance;
      start = known-given point_numbers point_from draft.start known.start known.is-1 refl;
      goals = c.from_vec-2.ensures ∙ given_back goal_numbers goal_from (λ goal. refl) draft.goals.items;
      step = known-given amount_numbers (number_or 0) draft.step known.step known.is-2 refl;
      gamma = c.unwrap_or-2.ensures ∙ default-given 0 draft.gamma;
      seed = c.unwrap_or-3.ensures ∙ default-given 0 draft.seed;
      strips = c.unwrap_or-4.ensures ∙ default-given 1 draft.strips;
      informed = ap (λ n. eqb n 1) (c.unwrap_or-5.ensures ∙ default-given 0 draft.informed);
      plan = c.plan_of.ensures;
    }
