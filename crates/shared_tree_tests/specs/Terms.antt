-- What the definitions here say of the crates below and of the types of this one, passed on from one place. Declares nothing.
pub use Rattle.grown_runs.specs.Runs.GrownRuns.{CostsInstead}
pub use Rattle.grown_runs.specs.Table.Words.{best_of_word}
pub use Rattle.kd_shared.specs.declared.placing.Placing.{Placing}
pub use Rattle.plan_model.specs.Runs.Endings.{unplaced_record}
pub use Rattle.plan_model.specs.Spaces.ConfigurationSpace.{empty_room}
pub use Rattle.plan_model.specs.Vectors.Reports.{placed_by}
pub use Rattle.plan_model.specs.Vectors.Geometry.{at}
pub use Rattle.plan_words.specs.States.{MayClaim}
pub use Rattle.step_core.specs.Histories.{HasOrFell, StandsAsSeen, WasFree}
pub use Rattle.step_core.specs.SeenBests.{IsUnskipped, MayBeSkipped, MayPost}
pub use Rattle.step_core.specs.SeenRecords.{MayRecord}
pub use Rattle.step_core.specs.Stages.{MayBeRecorded, has_point}
pub use Rattle.step_core.specs.ViewSteps.{joined, looker}
pub use Rattle.step_core.specs.ViewTrees.{IsSteered, MayHang, MayLower}
pub use Rattle.step_core.specs.declared.views.Note.{Note}
pub use Rattle.step_core.specs.declared.views.Stage.{Stage}
pub use Rattle.step_core.specs.declared.views.Stage.TheVariants.{Claimed, Half, Pointed, Posted, Treed}
pub use Rattle.plan_words.specs.Terms.{ChildOf, Count, Counted, Counter, Hand, IsLater, IsLawfulView, IsWorld, LeadsTo, Linked, MayLoad, Member, Point}
pub use Rattle.plan_words.specs.Terms.{PointOf, Record, SeesPoint, SharedRun, TreeOf, View, best_loaded, best_word, claimed, cost_of, loaded, new_hand}
pub use Rattle.plan_words.specs.Terms.{newcomer, no_best, posted, run_sizes, sees, setup_in, share, tree_seen, words_of_run}
pub use Rattle.step_core.specs.Terms.{Clear, IsNotAbove, TreeState, distance_to, has_node, mark_at, point_of, point_word, record_word, tree_word}
pub use Rattle.kd_shared.specs.Terms.{BelongsTo, PassState, SharedState, state_of_links}
