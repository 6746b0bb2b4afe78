use Rattle.plan_work.proofs.PlacedHands.{HasPlaced-placed, IsSome-placed}
use Rattle.plan_work.proofs.placed_laws.placed_nodes_may_rewire.Goals as goal

pub returns : goal.returns
returns c = record { hand = IsSome-placed; placed = HasPlaced-placed }
