use Rattle.point_bands.proofs.Words.{ap, arith, inl, inr, cases_lt, numbered_at}
use Rattle.point_bands.proofs.BandSkips.{in_columns}
use Rattle.point_bands.proofs.band_order.next_stretch.Goals as goal

pub returns-then-start-at : goal.returns-then-start-at
returns-then-start-at c = record {
  onward = omega (arith, c.loop-at.invariant.later, c.if-start-at.true);
  some = c.end_of_stretch-end.ensures.some;
  inside = c.end_of_stretch-end.ensures.within;
  columns = λ j later below.
      let disc = c.args.disc in
      let here = c.skipped-start.ensures.columns c.if-start-at.true in
      let there = c.end_of_stretch-end.ensures.columns j later below in
      in_columns disc.center disc.square disc.reach disc.reached (numbered_at c.args.points.now j).point
      (omega (arith, here.0, there.0, ap (λ i. (numbered_at c.args.points.now i).point.x) c.if-start-at.true)) (omega (arith, there.1, c.right.ensures));
  skipped = λ j from below. c.loop-at.invariant.none j from (omega (arith, below, c.if-start-at.true));
}

pub loop-at-preserved : goal.loop-at-preserved
loop-at-preserved c = record {
  later = omega (arith, c.loop-at.invariant.later, c.skipped-start.ensures.later);
  none = λ j from below.
      elim (cases_lt j c.loop-at.at) [
        | inl before ↦ c.loop-at.invariant.none j from before
        | inr after ↦ c.skipped-start.ensures.none j after below
      ];
}

pub returns : goal.returns
returns c = λ j from below. c.loop-at.invariant.none j from (omega (arith, below, c.loop-at-test.false))
