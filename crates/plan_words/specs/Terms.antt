-- What the definitions here say of the crates below and of the types of this one, passed on from one place. Declares nothing.
pub use Rattle.atomic_table.specs.Seated.{TableId}
pub use Rattle.atomic_table.specs.Table.{Me, Step}
pub use Rattle.grown_runs.specs.ChildChains.{FitsNumbers, IndexesChains}
pub use Rattle.grown_runs.specs.Runs.GrownRuns.{state_of_grown, words_of_grown}
pub use Rattle.grown_runs.specs.Runs.PackedRuns.{IsLeastBest, IsLeastBest-prop}
pub use Rattle.grown_runs.specs.Table.PlacesOfWords.{sizes_in}
pub use Rattle.grown_runs.specs.Table.WordNames.{ChangesOnly, IsCounter}
pub use Rattle.grown_runs.specs.Table.Words.{point_in}
pub use Rattle.grown_runs.specs.declared.child_index.ChildIndex.{ChildIndex}
pub use Rattle.grown_runs.specs.declared.grown.Grown.{Grown}
pub use Rattle.grown_runs.specs.declared.word_places.WordPlaces.{WordPlaces}
pub use Rattle.plan_model.specs.Geometry.Lengths.{root_ceiling}
pub use Rattle.plan_model.specs.Scenes.MarkPoints.{strip_of_mark}
pub use Rattle.plan_words.specs.declared.lowered_children.Above.{Above}
pub use Rattle.plan_words.specs.declared.lowered_children.FoundChild.{FoundChild}
pub use Rattle.plan_words.specs.declared.openings.Aim.{Aim}
pub use Rattle.plan_words.specs.declared.spots.Cell.{Cell}
pub use Rattle.plan_words.specs.declared.spots.Found.{Found}
pub use Rattle.plan_words.specs.declared.spots.Spot.{Spot}
pub use Rattle.step_core.specs.Histories.{HasLooked, IsLater, IsLawfulView}
pub use Rattle.step_core.specs.SeenBests.{SeesGoal}
pub use Rattle.step_core.specs.SeenRecords.{own_count}
pub use Rattle.step_core.specs.Views.{IsSharedRun, crew_from, last_look, member_of, newcomer, run_of, run_sizes, sees, setup_in, share, tree_seen}
pub use Rattle.step_core.specs.Views.{words_of_run}
pub use Rattle.step_core.specs.ViewSteps.{best_loaded, claimed, counted, finished_at, half, hand_with_post, last_note, linked, linked_at, loaded, mark_of}
pub use Rattle.step_core.specs.ViewSteps.{new_hand, note_before, noting, pair_in_hand, place_in, pointed, posted, saw_at, treed, with_post}
pub use Rattle.step_core.specs.ViewTrees.{IsOnWayOf, LeadsTo, MayLoad, SeesNode, SeesPoint}
pub use Rattle.step_core.specs.Worlds.{IsWorld, counters}
pub use Rattle.step_core.specs.declared.views.Hand.{Hand}
pub use Rattle.step_core.specs.declared.views.Member.{Member}
pub use Rattle.step_core.specs.declared.views.SharedRun.{SharedRun}
pub use Rattle.step_core.specs.declared.views.Stage.TheVariants.{Counted, Linked}
pub use Rattle.step_core.specs.declared.views.View.{View}
pub use Rattle.step_core.specs.Terms.{Best, ChildOf, Count, Counter, FirstOf, IsAllowedEdge, IsBounded, Point, PointOf, Record, Task, TreeOf, Word, Words}
pub use Rattle.step_core.specs.Terms.{WritesWord, best_cost_in, best_node_in, best_word, cost_in, cost_of, get_elem?, is_claimed, no_best, node_count}
pub use Rattle.step_core.specs.Terms.{parent_in, quota_of, skipping_goals, some, word_count}
