use Rattle.twin_trees.proofs.BridgeLaws.{IsBridge-same}
use Rattle.twin_trees.proofs.bridge_laws.bridges_are_unique.Goals as goal

pub returns : goal.returns
returns c = IsBridge-same
