use Rattle.shared_tree_tests.proofs.SmallRuns.BegunWorld.{IsWorld-begun}
use Rattle.shared_tree_tests.proofs.worlds.vectors.lawful_worlds.Goals as goal

pub returns : goal.returns
returns c = record { nothing_claimed = IsWorld-begun }
