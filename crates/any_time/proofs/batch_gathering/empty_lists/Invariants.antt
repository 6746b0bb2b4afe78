use Rattle.any_time.proofs.Words.{◌≡◌, length, AllEmpty}
use Rattle.any_time.proofs.batch_gathering.empty_lists.Given as goal

abbrev pub invariant-loop-number : goal.invariant-loop-number
invariant-loop-number l = (length l.lists.items ≡ l._number) × AllEmpty l.lists.items
