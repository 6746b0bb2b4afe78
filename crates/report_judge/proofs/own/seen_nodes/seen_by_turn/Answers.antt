use Rattle.report_judge.proofs.Words.{◌≡◌, suc, ◌+◌, [], ◌∷◌, length, length-append, arith, sym, ap, ◌∙◌, subst, None, slice_get, slice_index_or}
use Rattle.report_judge.proofs.Words.{slice_get_within, state_of_lists, AreSeen}
use Rattle.report_judge.proofs.Workers.SeenTurns.{low_mark}
use Rattle.report_judge.proofs.Texts.ListPlaces.{pushed_each}
use Rattle.report_judge.proofs.Workers.SeenStarts.{one_counted}
use Rattle.report_judge.proofs.own.seen_nodes.seen_by_turn.Goals as goal

pub loop-k-init : goal.loop-k-init
loop-k-init c =
    let first = c.at_start-seen.ensures c.args.records.now c.args.turns.now.worker in
    let none = c.in_ok-all.ensures.items in
    record {
      long = ap length none;
      room =
          omega (
            arith,
            first.counted,
            one_counted c.args.knots.now c.args.records.now c.args.turns.now.worker (omega (arith, c.requires.numbers)),
          );
      now = first;
      each = λ turn own is.
          let within = slice_get_within [] turn own (ap (λ xs. slice_get xs turn) (sym none) ∙ is) in
          absurd (omega (arith, within));
    }

pub after-seen-requires-clause-low : goal.after-seen-requires-clause-low
after-seen-requires-clause-low c =
    let index = c.loop-k.k-index in
    low_mark c.args.records.now c.args.turns.now.worker index (slice_index_or c.deref-k-items.result.now index None)
    (rw c.deref-k-items.ensures.value (c.requires.marks index (omega (arith, c.loop-k-test.true, ap length c.deref-k-items.ensures.value))))

pub loop-k-preserved : goal.loop-k-preserved
loop-k-preserved c =
    let run = state_of_lists c.args.knots.now c.args.records.now in
    let old = c.loop-k.all.items in
    let index = c.loop-k.k-index in
    let next : suc index ≡ index + 1 = omega arith in
    let items = c.in_ok-push.ensures.items in
    record {
      long = omega (arith, ap length items, length-append old (c.loop-k.seen ∷ []), c.loop-k.invariant.long);
      room = omega (arith, c.after-seen.ensures.more, c.loop-k.invariant.room);
      now =
          subst (λ t. AreSeen c.args.goals.now run c.args.turns.now.worker t c.after-seen.result) next
          (c.after-seen.ensures.seen c.args.turns.now.worker index
          (rw c.deref-k-items.ensures.value (c.requires.marks index (omega (arith, c.loop-k-test.true, ap length c.deref-k-items.ensures.value))))
          c.loop-k.invariant.now);
      each = λ turn own is.
          pushed_each (AreSeen c.args.goals.now run c.args.turns.now.worker) old c.loop-k.seen c.loop-k.invariant.each
          (subst (λ t. AreSeen c.args.goals.now run c.args.turns.now.worker t c.loop-k.seen) (sym c.loop-k.invariant.long)
          c.loop-k.invariant.now) turn own
          (ap (λ xs. slice_get xs turn) (sym items) ∙ is);
    }
