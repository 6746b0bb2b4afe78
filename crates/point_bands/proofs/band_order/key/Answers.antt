use Rattle.std.proofs.Common.{◌∙◌, arith, bit_and, bit_or, ◌*◌, ◌%◌}
use Rattle.point_bands.proofs.BandSkips.{masked_place}
use Rattle.point_bands.proofs.band_order.key.Goals as goal

pub returns : goal.returns
returns c height_log few rows =
    (λ i. bit_or (bit_and (c.from.ensures i * 4294967296 % 18446744073709551616) (rows i)) (c.from-2.ensures i))
    ∙ masked_place height_log c.args.point.y c.args.point.x few (omega arith) (omega arith)
