use Rattle.std.proofs.Common.{◌+◌, ◌^◌, ◌∙◌, arith}
use Rattle.grown_runs.proofs.Table.PackedFields.{or-two}
use Rattle.grown_runs.proofs.point_words.pack_point.Goals as goal

pub returns : goal.returns
returns c =
    or-two 20 c.from.result c.from-2.result (2 ^ 43 + c.from.result) (omega arith) (omega arith) (omega arith) ∙ omega arith
