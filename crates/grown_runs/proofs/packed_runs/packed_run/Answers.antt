use Rattle.grown_runs.proofs.Words.{sym, subst, None, is_some, slice_index_or, FollowWays, children_of_words, points_of_words, AreUnlinked, FitWords, sizes_in}
use Rattle.grown_runs.proofs.Words.{words_in}
use Rattle.grown_runs.proofs.Runs.FittingRuns.{FitWords-closed}
use Rattle.grown_runs.proofs.Runs.PackedLists.{AreUnlinked-written, HoldRun-linked, AreSameRuns-linked}
use Rattle.grown_runs.proofs.packed_runs.packed_run.Goals as goal

pub write_lists-requires-clause-fit : goal.write_lists-requires-clause-fit
write_lists-requires-clause-fit c =
    subst (λ s. FitWords s c.args.knots.now c.args.records.now) (sym c.in_ok-words.ensures.sizes)
    (FitWords-closed c.args.task.now c.args.knots.now c.args.records.now c.requires)

pub link_all-requires : goal.link_all-requires
link_all-requires c =
    subst (λ places. AreUnlinked (sizes_in places) (words_in c.write_lists.new.words) (λ n. is_some (slice_index_or c.args.knots.now n None)))
    (sym c.write_lists.ensures.places)
    (AreUnlinked-written c.args.task.now c.args.knots.now c.args.records.now (sizes_in c.in_ok-words.words.places) c.in_ok-words.ensures.sizes
    (words_in c.write_lists.new.words) c.requires
    (FitWords-closed c.args.task.now c.args.knots.now c.args.records.now c.requires) c.write_lists.ensures.lists c.write_lists.ensures.children)

pub returns-clause-run : goal.returns-clause-run
returns-clause-run c =
    HoldRun-linked c.args.task.now c.args.knots.now c.args.records.now (sizes_in c.in_ok-words.words.places) c.in_ok-words.ensures.sizes
    (words_in c.write_lists.new.words) c.requires
    (FitWords-closed c.args.task.now c.args.knots.now c.args.records.now c.requires) c.write_lists.ensures.lists (words_in c.link_all.new.words)
    c.link_all.ensures.others
    (subst (λ places. FollowWays (children_of_words (words_in c.link_all.new.words)) (points_of_words (sizes_in places) (words_in c.link_all.new.words)))
    c.write_lists.ensures.places c.link_all.ensures.ways)

pub returns-clause-state : goal.returns-clause-state
returns-clause-state c =
    AreSameRuns-linked c.args.task.now c.args.knots.now c.args.records.now (sizes_in c.in_ok-words.words.places) c.in_ok-words.ensures.sizes
    (words_in c.write_lists.new.words) c.requires
    (FitWords-closed c.args.task.now c.args.knots.now c.args.records.now c.requires) c.write_lists.ensures.lists (words_in c.link_all.new.words)
    c.link_all.ensures.others
