use Rattle.std.proofs.Common.{refl}
use Rattle.grown_runs.specs.Table.WordPlaces.{word_at}
use Rattle.shared_tree_tests.proofs.worlds.vectors.steps.Goals as goal

pub returns : goal.returns
unfolding word_at
returns c = record {
  load_of_a_child = refl;
  load_of_no_child = refl;
  claim = refl;
  join = refl;
  load_of_the_best = refl;
  load_that_is_not_taken = refl;
  post_of_the_node_in_hand = refl;
  post_of_a_dearer_node = refl;
  post_of_another_node = refl;
  new_looker = refl;
  first_view = refl;
}
