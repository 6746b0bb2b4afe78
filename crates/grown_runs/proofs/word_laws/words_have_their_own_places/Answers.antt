use Rattle.grown_runs.proofs.Table.WordReads.{place_of-once, place_of-within}
use Rattle.grown_runs.proofs.word_laws.words_have_their_own_places.Goals as goal

pub returns : goal.returns
returns c = record { once = place_of-once; within = place_of-within }
