use Rattle.any_time.proofs.Words.{◌≡◌, ◌++◌, ◌∷◌, [], ◌+◌, List, Option, Some, length, map, take, sym, subst, ap, ◌∙◌, arith, rules}
use Rattle.any_time.proofs.Words.{true≢false, IsSome, YieldsList-from_vec, YieldsList-turn, YieldsList-end}
use Rattle.any_time.proofs.Words.{length_push, map_more, map_push, Grown, SessionState}
use Rattle.std.proofs.Math.Seq.{take-length}
use Rattle.any_time.proofs.batches.runs_of.Goals as goal

pub loop-session-preserved : goal.loop-session-preserved
loop-session-preserved g c =
    let sessions = c.args.sessions.items in
    let polled = c.loop-session.yielded in
    let session = c.in-Some.session in
    let runs = c.loop-session.runs.items in
    let run = c.in-Some-finish.run' in
    let run_of : SessionState → Option Grown = λ s. s.run in
    let turn = YieldsList-turn (YieldsList-from_vec {s = c.into_iter-session-iterator.result} sessions (search rules) (search rules))
    polled c.loop-session.session-iterator c.loop-session.yielded_by c.next.result c.next.new.self session c.in-Some.is c.next.ensures.steps in
    let one_more = length_push polled session in
    let given : Some run ≡ run_of session = sym c.in-Some-finish.is ∙ c.finish.ensures in (
      ap length c.push_reserved.ensures.items ∙ (length_push runs run ∙ (ap (λ n. n + 1) c.loop-session.invariant.0 ∙ sym one_more)),
      search rules,
      ap (map Some) c.push_reserved.ensures.items
          ∙ (map_push Some runs run
          ∙ (ap (λ (xs : List (Option Grown)). xs ++ Some run ∷ []) c.loop-session.invariant.2
          ∙ (ap (λ (x : Option Grown). map run_of (take (length polled) sessions) ++ x ∷ []) (given ∙ ap run_of turn.1)
          ∙ (sym (map_more run_of sessions (length polled) session turn.0) ∙ ap (λ n. map run_of (take n sessions)) (sym one_more))))),
    )

pub push_reserved-requires : goal.push_reserved-requires
push_reserved-requires g c =
    let turn = YieldsList-turn (YieldsList-from_vec {s = c.into_iter-session-iterator.result} c.args.sessions.items (search rules) (search rules))
    c.loop-session.yielded c.loop-session.session-iterator c.loop-session.yielded_by c.next.result c.next.new.self
    c.in-Some.session c.in-Some.is c.next.ensures.steps in
    omega (arith, c.loop-session.invariant.0, c.loop-session.invariant.1, turn.0)

pub unreachable-requires : goal.unreachable-requires
unreachable-requires g c =
    let turn = YieldsList-turn (YieldsList-from_vec {s = c.into_iter-session-iterator.result} c.args.sessions.items (search rules) (search rules))
    c.loop-session.yielded c.loop-session.session-iterator c.loop-session.yielded_by c.next.result c.next.new.self
    c.in-Some.session c.in-Some.is c.next.ensures.steps in
    let some = subst (λ (s : SessionState). IsSome s.run) (sym turn.1) (c.requires.runs (length c.loop-session.yielded) c.in-Some.session turn.0) in
    true≢false (sym (rw (← c.finish.ensures, c.in_default.is) at some))

pub returns : goal.returns
returns g c =
    let end = YieldsList-end (YieldsList-from_vec {s = c.into_iter-session-iterator.result} c.args.sessions.items (search rules) (search rules))
    c.loop-session.yielded c.loop-session.session-iterator c.loop-session.yielded_by c.next.result c.next.new.self c.in-None.is c.next.ensures.steps in
    sym (rw (end.1, take-length c.args.sessions.items) at c.loop-session.invariant.2)
