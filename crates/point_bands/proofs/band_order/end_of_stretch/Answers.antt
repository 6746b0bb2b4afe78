use Rattle.point_bands.proofs.Words.{arith, inl, inr, subst, sym, cases_eq, StandsBetween, nowhere, numbered_at}
use Rattle.point_bands.proofs.band_order.end_of_stretch.Goals as goal

pub loop-end-preserved : goal.loop-end-preserved
loop-end-preserved c =
    let so_far = c.loop-end.invariant in
    let left = (numbered_at c.args.points.now c.args.start).point.x in
    let rises = c.requires.sorted c.args.start c.loop-end.end nowhere (omega (arith, so_far.some)) c.loop-end-test.true in
    let key = c.key.ensures c.args.height_log c.requires.height c.band_rows-rows.ensures in
    let column = (c.requires.bounded c.loop-end.end nowhere c.loop-end-test.true).right in
    record {
      some = omega (arith, so_far.some);
      within = omega (arith, c.loop-end-test.true);
      columns = λ j later below.
          elim (cases_eq j c.loop-end.end) [
            | inl same ↦
                subst (StandsBetween left c.args.right c.args.points.now) (sym same) (
                  omega (arith, rises, column, key, c.if-key-last.false, c.place-last.ensures, c.lowest_row.ensures),
                  omega (arith, rises, column, key, c.if-key-last.false, c.place-last.ensures, c.lowest_row.ensures),
                )
            | inr other ↦ so_far.columns j later (omega (arith, below, other))
          ];
    }
