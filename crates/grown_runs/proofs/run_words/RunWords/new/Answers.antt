use Rattle.grown_runs.specs.Table.PlacesOfWords.{sizes_in}
use Rattle.grown_runs.proofs.Runs.StartWords.{word_at-zeros}
use Rattle.grown_runs.proofs.run_words.RunWords.new.Goals as goal

pub returns-clause-zeros : goal.returns-clause-zeros
returns-clause-zeros c =
    word_at-zeros (sizes_in c.of-places.result) c.in_ok-list.list.items c.len.result (c.in_ok-list.ensures.items_if_clones_equal (λ y e. e))
