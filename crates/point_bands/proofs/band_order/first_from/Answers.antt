use Rattle.point_bands.proofs.Words.{ℕ, ◌+◌, ◌-◌, ◌/◌, ◌<◌, length, arith, nowhere}
use Rattle.point_bands.proofs.band_order.first_from.Goals as goal
use Rattle.point_bands.proofs.band_order.first_from.Goals.{then-key-target, else-key-target}

pub loop-count-preserved : goal.loop-count-preserved
loop-count-preserved c =
    let so_far = c.loop-count.invariant in
    let low = c.loop-count.low in
    let count = c.loop-count.count in
    let half : ℕ = count - count / 2 in
    let key = c.key.ensures c.args.height_log c.requires.height c.band_rows-rows.ensures in
    elim c.if-key-target.branch [
      | then-key-target w ↦ record {
        later = omega (arith, w.low-is, so_far.later);
        within = omega (arith, w.low-is, so_far.within);
        before = λ j from below.
            let inside : low + half - 1 < length c.args.points.now = omega (arith, so_far.within, c.loop-count-test.true) in
            let rises = c.requires.sorted j (low + half - 1) nowhere (omega (arith, below, w.low-is)) inside in
            omega (arith, rises, key, w.if-key-target.true);
      }
      | else-key-target w ↦ record {
        later = omega (arith, w.low-is, so_far.later);
        within = omega (arith, w.low-is, so_far.within);
        before = λ j from below. so_far.before j from (omega (arith, below, w.low-is));
      }
    ]
