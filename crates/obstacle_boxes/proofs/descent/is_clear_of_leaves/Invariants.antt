use Rattle.obstacle_boxes.specs.Trees.{AreApartBelow, HasSearched}
use Rattle.obstacle_boxes.proofs.descent.is_clear_of_leaves.Given as goal

abbrev pub invariant-loop-low : goal.invariant-loop-low
invariant-loop-low g l =
    record {
      searched : HasSearched l.nodes l.zones l.a l.b l.initial.steps l.steps l.next;
      apart : AreApartBelow l.nodes l.a l.b l.low;
    }

abbrev pub decreases-loop-low : goal.decreases-loop-low
decreases-loop-low g l = l.next
