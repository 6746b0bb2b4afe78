-- The best word of a run that workers go on from.
use Rattle.plan_words.specs.Terms.{Best, Grown, IsLeastBest, IsLeastBest-prop, skipping_goals, state_of_grown, words_of_grown}

-- it is the least pair of kept cost and number of the run's goal nodes
abbrev pub HasLeastBest : Grown → Type 0
HasLeastBest grown = IsLeastBest (skipping_goals grown.task.scene) (state_of_grown grown) (words_of_grown grown Best)

pub HasLeastBest-prop : (grown : Grown) → IsProp (HasLeastBest grown)
HasLeastBest-prop grown = IsLeastBest-prop (skipping_goals grown.task.scene) (state_of_grown grown) (words_of_grown grown Best)
