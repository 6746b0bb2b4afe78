-- A pass with the share of all workers finds each word as it has seen it, and the count as that of the nodes that it sees.
use Rattle.plan_words.proofs.Words.{◌≡◌, ◌≢◌, ℕ, ◌<◌, List, Some, arith, refl, sym, ap, ◌∙◌, subst, IsTrue, IsGoalNode, is_goal_point, node_count, point_at}
use Rattle.plan_words.proofs.Words.{IsPresent-goal, Word, Words, Best, ChildOf, Count, Counter, FirstOf, PointOf, RecordOf, TreeOf, best_cost_in, best_node_in}
use Rattle.plan_words.proofs.Words.{cost_in, no_best, FindsGoalNode, HasWholeShare, linked_points, MayLoad, run_sizes, sees, share, tree_seen, IsWorld}
use Rattle.plan_words.proofs.Words.{linked-present, count-whole, nodes-whole, points-whole, sees-whole, Hand, SharedRun, Linked, View}
use mathlib.Core.Option.{some}
use lib.ListN.{get_elem?}
use Rattle.step_core.proofs.Whole.WholeCopies.{best-whole as best-same}

module _ (run : SharedRun) (words : Words) (views : List View) (id : ℕ) (view : View) (world : IsWorld run words views)
    (at : get_elem? views id ≡ some view) (own : view.run ≡ run) (whole : HasWholeShare view) where
  all_workers : share view ≡ run.workers
  all_workers = whole ∙ ap (λ r. r.workers) own

  pub words-whole : (name : Word) → name ≢ Count → MayLoad view name → words name ≡ sees view name
  words-whole Count apart may = absurd (apart refl)
  words-whole Best apart may = absurd may
  words-whole (Counter g) apart may = sym (sees-whole run words views id view world at all_workers (Counter g) (subst (λ r. g < r.strips) own may))
  words-whole (PointOf n) apart may =
      sym (sees-whole run words views id view world at all_workers (PointOf n) ((nodes-whole run words views id view world at all_workers n).0 may))
  words-whole (ChildOf n side) apart may =
      sym (sees-whole run words views id view world at all_workers (ChildOf n side) ((nodes-whole run words views id view world at all_workers n).0 may))
  words-whole (TreeOf n) apart may =
      sym (sees-whole run words views id view world at all_workers (TreeOf n) ((nodes-whole run words views id view world at all_workers n).0 may))
  words-whole (FirstOf n) apart may = absurd may
  words-whole (RecordOf k) apart may = absurd may

  pub word_count-whole : ((hand : Hand) → view.hand ≡ Some hand → hand.stage ≢ Linked) → words Count ≡ node_count (tree_seen view).points
  word_count-whole done = count-whole run words views id view world at all_workers done

  -- what it saw last of the best word is what that is
  pub best-as_seen : words Best ≡ view.best
  best-as_seen = sym (best-same run words views id view world at all_workers)

  -- The goal node of the best word is seen, at no more than is said there.
  pub best-whole : words Best ≢ no_best → FindsGoalNode view (best_node_in (words Best), best_cost_in (words Best))
  best-whole some_pair =
      let g : ℕ = best_node_in (words Best) in
      let is = world.best.pair some_pair in
      let points = points-whole run words views id view world at all_workers in
      let here = IsPresent-goal run.goals (point_at (linked_points (run_sizes run) words) g) is.0 in
      let linked = linked-present (run_sizes run) words g here in
      let same = sees-whole run words views id view world at all_workers (TreeOf g) linked in
      record {
        goal =
            subst (λ r. IsTrue (is_goal_point r.goals (point_at (tree_seen view).points g))) (sym own)
            (subst (λ l. IsGoalNode run.goals l g) (sym points) is.0);
        written = omega (arith, same, (world.trees.written g linked).tree);
        paid = omega (arith, ap cost_in same, is.1);
      }
