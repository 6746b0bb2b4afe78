use Rattle.std.proofs.Common.{◌+◌, ◌^◌, ◌∙◌, arith}
use Rattle.grown_runs.proofs.Table.PackedFields.{or-two}
use Rattle.grown_runs.proofs.tree_words.pack_tree.Goals as goal

pub returns : goal.returns
returns c =
    or-two 18 c.args.cost c.from.result (2 ^ 45 + c.args.cost) (omega arith) (omega arith) (omega arith) ∙ omega arith
