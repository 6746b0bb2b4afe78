use Rattle.std.specs.Prelude.{IsTrue}
use Rattle.plan_model.proofs.LeastPairLaws.{IsFirstLeast-unique}
use Rattle.plan_model.proofs.laws.trees.least_pair_is_unique.Goals as goal

pub returns : goal.returns
returns c = λ key p. IsFirstLeast-unique key (λ i. IsTrue (p i))
