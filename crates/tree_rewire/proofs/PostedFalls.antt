-- Goal nodes of which the best word is at most the pair, while a pass with the whole share lowers costs.
use Rattle.tree_rewire.proofs.Words.{◌≡◌, ℕ, ◌<◌, ◌≤◌, ◌^◌, Result, Ok, Err, arith, ap, ◌∙◌, IfOk, IsOk, HasPostedGoals, GoesOn, HasPostedGoals-more}
use Rattle.tree_rewire.proofs.Words.{SeesGoal-kept, SeesGoal, sees, WritesWord, PointOf, TreeOf, best_word, cost_in, tree_word, cost_in-tree_word, View}

-- a node is lowered, and posted if it is a goal node
pub HasPostedGoals-lower : (before after : View) (n parent cost value : ℕ) (result : Result Unit (ℕ × ℕ)) → parent < 2 ^ 18 → cost < 2 ^ 44
    → GoesOn before after → WritesWord (TreeOf n) value (sees before) (sees after) → IsOk result
    → IfOk result (λ done. sees after (TreeOf n) ≡ tree_word parent cost) → IfOk result (λ done. SeesGoal before n → after.best ≤ best_word cost n)
    → HasPostedGoals before → HasPostedGoals after
HasPostedGoals-lower before after n parent cost value (Ok done) small low goes_on writes ok lowered posted =
    let cost_is : cost_in (sees after (TreeOf n)) ≡ cost = ap cost_in lowered ∙ cost_in-tree_word parent cost small low in
    HasPostedGoals-more before after goes_on.later n (λ i apart. writes.others (PointOf i) (λ e. cc))
    (λ i apart. writes.others (TreeOf i) (λ e. apart cc))
    (λ goal.
    let was = SeesGoal-kept before after n goes_on.later (writes.others (PointOf n) (λ e. cc)) goal in
    omega (arith, posted was, ap (λ c. best_word c n) cost_is))
HasPostedGoals-lower before after n parent cost value (Err pair) small low goes_on writes ok lowered posted = cc
