-- What the definitions here say of the crates below and of the types of this one, passed on from one place. Declares nothing.
pub use Rattle.std.specs.Prelude.{is_some, option_map, slice_index_or}
pub use Rattle.edge_cost.specs.declared.radii.Radii.{Radii}
pub use Rattle.grown_runs.specs.Runs.PackedRuns.{FitsRecord, IsKnot, state_of_lists}
pub use Rattle.plan_model.specs.Geometry.Plane.{squared_distance}
pub use Rattle.plan_model.specs.Reports.ReportText.{ending_words, full_report, line, path_to}
pub use Rattle.plan_model.specs.Runs.ClosedLaw.{IsEarlier, IsLawfulRecord, ReachesLawfully, first_cost_through, mark_at, outcome_count}
pub use Rattle.plan_model.specs.Runs.Endings.{Ending, NoWay, Reached, SameNode, SkippedBy, ending_of}
pub use Rattle.plan_model.specs.Runs.OrderLaw.{IsAllowedEdge, turns_of}
pub use Rattle.plan_model.specs.Runs.Outcomes.{is_blocked, is_same, is_skipped}
pub use Rattle.plan_model.specs.Runs.Textbook.{Setup}
pub use Rattle.plan_model.specs.Spaces.Clearance.{Clear}
pub use Rattle.plan_model.specs.Spaces.ConfigurationSpace.{space_of}
pub use Rattle.plan_model.specs.Texts.SceneGrammar.{text_of}
pub use Rattle.plan_model.specs.Trees.BestNode.{best_node, goals_of}
pub use Rattle.plan_model.specs.Trees.Nearness.{IsNotAbove, distance_to, is_within}
pub use Rattle.plan_model.specs.Trees.NodeLists.{FallAlong, edge_by}
pub use Rattle.plan_model.specs.Trees.TreeStates.{IsSettled, first_cost_of, sum_in}
pub use Rattle.plan_model.specs.declared.configuration_spaces.ConfigurationSpace.{ConfigurationSpace}
pub use Rattle.plan_model.specs.declared.scenes.Scene.{Scene}
pub use Rattle.point_bands.specs.Walks.{numbered_at}
pub use Rattle.point_bands.specs.declared.bands.Numbered.{Numbered}
pub use Rattle.report_judge.specs.declared.costed_paths.CostedPath.{CostedPath}
pub use Rattle.report_judge.specs.declared.marks.judged.Judged.{Judged}
pub use Rattle.report_judge.specs.declared.marks.judged.Listed.{Listed}
pub use Rattle.report_judge.specs.declared.own.own_histories.OwnHistory.{OwnHistory}
pub use Rattle.report_judge.specs.declared.own.own_turns.OwnTurns.{OwnTurns}
pub use Rattle.report_judge.specs.declared.own.searches.NearerSearch.{NearerSearch}
pub use Rattle.report_judge.specs.declared.own.searches.NeighbourSearch.{NeighbourSearch}
pub use Rattle.report_judge.specs.declared.own.seen_nodes.Seen.{Seen}
pub use Rattle.report_judge.specs.declared.own.standings.Standing.{Standing}
pub use Rattle.report_judge.specs.declared.reading.sheets.SheetRead.{SheetRead}
pub use Rattle.report_judge.specs.declared.verdicts.Verdict.{Verdict}
pub use Rattle.report_judge.specs.declared.verdicts.Verdict.TheVariants.{Broken, Lawful}
pub use Rattle.grown_runs.specs.Terms.{Goal, IsBounded, IsClosed, IsGoalNode, IsPresent, Knot, MOST_MARKS, NewNode, Point, Record, StandsAt, Steered, Task}
pub use Rattle.grown_runs.specs.Terms.{TreeState, cost_of, is_placed, node_count, point_at, point_of, range_with_len, setup_of}
pub use Rattle.plan_model.specs.Terms.{List, Option, [], count_by, list_all, ℕ}
