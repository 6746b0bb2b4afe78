use Rattle.step_core.proofs.Seen.SeenWords.{HasSeenAtLeast-words, IsTrueOf-words}
use Rattle.step_core.proofs.seen_laws.seen_words_are_true.Goals as goal

pub returns-clause-no_more : goal.returns-clause-no_more
returns-clause-no_more c = HasSeenAtLeast-words

pub returns-clause-of_the_tree : goal.returns-clause-of_the_tree
returns-clause-of_the_tree c = IsTrueOf-words
