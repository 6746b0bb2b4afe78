use Rattle.seq_planner.proofs.Words.{refl, Record-from_fields}
use Rattle.seq_planner.proofs.extensions.Extension.placed.Goals as goal

pub returns-clause-entry : goal.returns-clause-entry
returns-clause-entry c = Record-from_fields _ _ (record {
  worker = refl;
  turn = refl;
  nearest = refl;
  outcome = refl;
  first_parent = refl;
  first_cost = refl;
  class = refl;
})
