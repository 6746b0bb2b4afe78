-- The names that proofs of the crates above cite, passed on from one place. Declares nothing.
pub use Rattle.step_core.proofs.OneView.LaterViews.{IsLater-counted, IsLater-half, IsLater-pointed, IsLater-treed, HasLooked-trans, IsLater-claimed}
pub use Rattle.step_core.proofs.OneView.LaterViews.{IsLater-finished, IsLater-joined, IsLater-loaded, IsLater-refl, IsLater-stepped, IsLater-trans}
pub use Rattle.step_core.proofs.OneView.LaterViews.{IsLawfulView-world}
pub use Rattle.step_core.proofs.OneView.LawfulSights.{IsBounded-seen, IsBounded-steered, IsLaterMoment-later, IsPresent-seen, KeepsSight-lawful}
pub use Rattle.step_core.proofs.OneView.LinkedViews.{ShowsNode, sees-linked}
pub use Rattle.step_core.proofs.OneView.SeenTreesOfViews.{SeesTree-apart, SeesTree-looker, SeesTree-parted, SeesTree-stepped}
pub use Rattle.step_core.proofs.OneView.SeenViews.{point_at-kept, has_node-recorded, own_recorded, present_recorded, linked_points-seen, HasSeenAtLeast-later}
pub use Rattle.step_core.proofs.OneView.SeenViews.{IsPresent-later, SeesPoint-later}
pub use Rattle.step_core.proofs.Parts.LawfulRecords.{is_own_node-earlier, own_count-most}
pub use Rattle.step_core.proofs.Parts.LinkedStates.{linked-present, record-unplaced, IsOnWayOf-found}
pub use Rattle.step_core.proofs.Parts.MarksInHand.{in_hand}
pub use Rattle.step_core.proofs.Parts.ViewLists.{at-set}
pub use Rattle.step_core.proofs.Parts.WorldHands.{IsWrittenFor}
pub use Rattle.step_core.proofs.Parts.WorldLinks.{count-most}
pub use Rattle.step_core.proofs.Parts.WorldNotes.{last_seen-table, zero-read}
pub use Rattle.step_core.proofs.Parts.WorldPairs.{HasFirst, HasTree}
pub use Rattle.step_core.proofs.Parts.WorldRecords.{AreSeenLawfully-all}
pub use Rattle.step_core.proofs.Seen.DistinctNumbers.{AreDifferent, AreDifferent-after, AreDifferent-few, AreDifferent-within, Contains-cases, Contains-none}
pub use Rattle.step_core.proofs.Seen.DistinctNumbers.{Contains-within}
pub use Rattle.step_core.proofs.Seen.LaterWords.{word_at-merged}
pub use Rattle.step_core.proofs.Seen.Looks.{same_name}
pub use Rattle.step_core.proofs.Seen.SeenByViews.{IsViewOf-best, WritesWord-look_best, WritesWord-looked, WritesWord-saw, WritesWord-zero}
pub use Rattle.step_core.proofs.Seen.SeenWays.{IsFree-here, IsOnWay-later}
pub use Rattle.step_core.proofs.Seen.SeenWords.{point_at-seen, seen-within, linked-within, point_at-linked}
pub use Rattle.step_core.proofs.Steps.FinishedMarks.{IsTurnWord-packed, IsWorld-recorded}
pub use Rattle.step_core.proofs.Steps.WorldJoins.{AreBehind-nothing, IsWorld-joined}
pub use Rattle.step_core.proofs.Steps.WorldNodes.{IsLater-lowered, IsWorld-lowered, lower-found, tree-written, IsLater-link, IsWorld-counted, IsWorld-half}
pub use Rattle.step_core.proofs.Steps.WorldNodes.{IsWorld-linked, IsWorld-pointed, IsWorld-treed}
pub use Rattle.step_core.proofs.Steps.WorldPosts.{IsLater-best, IsWorld-best_loaded, IsWorld-posted}
pub use Rattle.step_core.proofs.Steps.WorldSplits.{IsCut-looker, IsCut-parted, IsWorld-cut, goes_at, stays_at}
pub use Rattle.step_core.proofs.Steps.WorldStarts.{IsWorld-started}
pub use Rattle.step_core.proofs.Steps.WorldSteps.{HasWord-load, IsWorld-claimed, IsWorld-loaded, follow, live, seen_within, tree}
pub use Rattle.step_core.proofs.Whole.ClosedWorlds.{AreSameRuns-cleared, HoldRun-whole, StandsAsSeen-whole, own_workers-whole}
pub use Rattle.step_core.proofs.Whole.GrownFromWords.{GrowsInto-seen}
pub use Rattle.step_core.proofs.Whole.WholeCopies.{children-whole, count-whole, nodes-whole, points-whole, records-whole, sees-whole}
pub use Rattle.step_core.specs.Histories.{StandsAsSeen, HasLooked, IsLater, IsLawfulView}
pub use Rattle.step_core.specs.Notes.{FillsNoPlace, HasMade, HasNoted, IsLoaded, KnowsAsBefore, NotesAsSeen, SeesSome, last_seen}
pub use Rattle.step_core.specs.SeenBests.{IsInformed, IsUnskipped, MayBeSkipped, MayPost, SeesGoal, seen_first_cost}
pub use Rattle.step_core.specs.SeenRecords.{IsOwnNeighbour, MayBeBlocked, MayBePlaced, MayEnd, MayReach, MayRecord, MaySteer, is_own_node, own_count}
pub use Rattle.step_core.specs.SeenRecords.{own_first_cost}
pub use Rattle.step_core.specs.Stages.{linked_point, linked_points, state_of_links, MayBeRecorded, has_count, has_first, has_link, has_point}
pub use Rattle.step_core.specs.Views.{crew_from, member_of, IsViewOf, last_look, last_zero, run_of, run_sizes, sees, setup_in, share, spent, times, took_over}
pub use Rattle.step_core.specs.Views.{tree_seen, words_of_run}
pub use Rattle.step_core.specs.ViewSteps.{best_loaded, best_taken, best_with, claimed, counted, finished, finished_at, half, hand_with_best, hand_with_post}
pub use Rattle.step_core.specs.ViewSteps.{joined, last_note, linked, linked_at, loaded, looker, lowered, mark_of, new_hand, note_before, noting, one_turn_more}
pub use Rattle.step_core.specs.ViewSteps.{pair_in_hand, parted, place_in, pointed, post_noted, posted, saw, saw_at, second_alone, stepped, steps_then, treed}
pub use Rattle.step_core.specs.ViewSteps.{unlooked, with_best, with_post, without_second, worker_apart}
pub use Rattle.step_core.specs.ViewTrees.{IsCostBelow, IsSeenPair, IsSteered, LeadsTo, MayHang, MayLoad, MayLower, SeesCost, SeesNode, SeesPoint, SeesTree}
pub use Rattle.step_core.specs.ViewTrees.{sight_in}
pub use Rattle.step_core.specs.Steps.{steps_by}
pub use Rattle.step_core.specs.Worlds.{Agree, EachView, IsMember, IsRecordWord, IsWorld, SeesBest, SomeSharer, Trees, counters, state_in}
