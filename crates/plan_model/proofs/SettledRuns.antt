-- Settled runs: what stays while one grows into another, and that a textbook run is settled already.
use Rattle.plan_model.proofs.Words.{◌≡◌, ℕ, ◌≤◌, List, arith, sym, ap, ◌∙◌, subst, Point, Goal, IsBestNode, ClearAt, IsPresent, point_at, IsOfTextbookRun}
use Rattle.plan_model.proofs.Words.{Setup, AreSameRuns, ChangesCosts, GrowsInto, IsSettled, TreeState, state_of, sum_in, sum_by}
use Rattle.plan_model.proofs.BestNodeLaws.{IsPresent-goal}
use Rattle.plan_model.proofs.GoalNodes.{IsGoalNode-grows}
use Rattle.plan_model.proofs.SameTrees.{AreSameRuns-trans, IsSettled-of_textbook}
use Rattle.plan_model.proofs.TreeStateLaws.{IsPresent-grows, cost-grows}

-- no sum rises
pub sum_in-grows :
    (before after : TreeState) → GrowsInto before after → IsSettled before → IsSettled after
    → (n : ℕ) → IsPresent before.points n → sum_in after n ≤ sum_in before n
sum_in-grows before after grows settled settled_after n here =
    let falls = cost-grows before after grows n here in
    let was = settled n here in
    let is = settled_after n (IsPresent-grows before after grows n here) in
    let first : sum_in after n ≤ before.cost n = subst (λ c. c ≤ before.cost n) is falls in
    subst (λ c. sum_in after n ≤ c) was first

le-through : (l m n : ℕ) → l ≤ m → m ≤ n → l ≤ n
le-through l m n f g = omega arith

-- the best sum does not rise
pub best_sum-grows :
    (goals : List Goal) (before after : TreeState) (m n : ℕ) → GrowsInto before after → IsSettled before → IsSettled after
    → IsBestNode goals before m → IsBestNode goals after n → sum_in after n ≤ sum_in before m
best_sum-grows goals before after m n grows settled settled_after best best_after =
    le-through _ _ _ (best_after.not_above m (IsGoalNode-grows goals before after grows m best.member)).least
    (sum_in-grows before after grows settled settled_after m (IsPresent-goal goals (point_at before.points m) best.member))

-- The tree of a textbook run stays one when it is settled, since its costs are the sums already.
pub IsOfTextbookRun-settled :
    (setup : Setup) (marks : List Point) (before after : TreeState) → ClearAt setup.space setup.start → IsOfTextbookRun setup marks before
    → ChangesCosts before after → IsSettled after → IsOfTextbookRun setup marks after
IsOfTextbookRun-settled setup marks before after clear of_run changes settled = record {
  nodes = of_run.nodes;
  records = of_run.records;
  run = of_run.run;
  same = AreSameRuns-trans (state_of of_run.nodes of_run.records) before after of_run.same same;
}
  where
    sum-same : (n : ℕ) → sum_in after n ≡ sum_in before n
    sum-same n =
        ap (λ points. sum_by points after.parent n) changes.points ∙ ap (λ parents. sum_by before.points parents n) (λ t i. changes.parents i t)

    same : AreSameRuns before after
    same = record {
      points = λ n. ap (λ points. point_at points n) changes.points;
      parents = λ n here. changes.parents n;
      costs = λ n here.
          settled n (subst (λ points. IsPresent points n) (sym changes.points) here) ∙ sum-same n
          ∙ sym (IsSettled-of_textbook setup marks before clear of_run n here);
      records = changes.records;
    }
