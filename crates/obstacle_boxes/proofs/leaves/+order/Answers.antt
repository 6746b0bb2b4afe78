use Rattle.std.proofs.lemmas.List.Sorted.{IsPermutation-append, IsPermutation-trans}
use Rattle.obstacle_boxes.proofs.leaves.+order.Goals as goal

pub returns : goal.returns
returns t c =
    IsPermutation-trans _ _ _ c.sort.ensures
    (rw c.split_at_mut-lower.ensures.value (IsPermutation-append _ _ _ _ c.order.ensures c.order-2.ensures))
