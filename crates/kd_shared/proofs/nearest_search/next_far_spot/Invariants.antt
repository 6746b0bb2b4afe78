use Rattle.kd_shared.proofs.Words.{◌≡◌, length, BelongsTo, sight_in, OnlyLooks, searched}
use Rattle.kd_shared.proofs.PoppedNodes.{IsPopping}
use Rattle.kd_shared.proofs.nearest_search.next_far_spot.Given as goal

-- the far sides of those that were popped are finished
abbrev pub invariant-pops : goal.invariant-pops
invariant-pops l = record {
  belongs : BelongsTo l.pass l.shared;
  looks : OnlyLooks l.fn.pass.view l.pass.view;
  others : l.pass ≡ searched l.fn.pass l.pass.view (record l.fn.pass.lists.search { spots = l.pass.lists.search.spots });
  pops : IsPopping (sight_in l.fn.pass.view) (sight_in l.pass.view) l.p l.bound l.fn.pass.lists.search.spots l.pass.lists.search.spots;
}

-- how many are on the stack
abbrev pub decreases-pops : goal.decreases-pops
decreases-pops l = length l.pass.lists.search.spots
