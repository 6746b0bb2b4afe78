use Rattle.std.proofs.Common.{◌∙◌, arith}
use Rattle.grown_runs.proofs.Table.PackedFields.{or-record}
use Rattle.grown_runs.proofs.record_words.pack_mark.Goals as goal

pub returns : goal.returns
returns c =
    or-record c.from.result c.number_of.result c.from-2.result c.from-3.result c.from-4.result
    (omega arith) (omega arith) (omega arith) (omega arith) (omega arith)
    ∙ omega arith
