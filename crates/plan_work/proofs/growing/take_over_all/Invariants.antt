use Rattle.plan_work.proofs.Words.{◌≡◌, ◌++◌, [], ◌∷◌, All, List, length, MayClaim, PassState, HasLeft, HasTakenOver, left_of}
use Rattle.plan_work.proofs.growing.take_over_all.Given as goal

abbrev pub invariant-others : goal.invariant-others
invariant-others l = record {
  stopped : All HasLeft l.others.items;
  rest : All (MayClaim l.shared) (left_of l.others.items);
  taken : (taken : List PassState) × (left_of l.fn.all.items ≡ left_of l.others.items ++ taken) × HasTakenOver l.shared taken l.taken;
  one : (own : PassState) → left_of l.fn.all.items ≡ own ∷ [] → l.taken ≡ own;
}

abbrev pub decreases-others : goal.decreases-others
decreases-others l = length l.others.items
