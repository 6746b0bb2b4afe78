-- All marks are the same, and there are not too many.
use Rattle.shared_tree_tests.proofs.Words.{◌≡◌, ℕ, zero, suc, ◌≤◌, List, true, leb, length, arith, refl, ap, ◌∙◌, IsTrue, replicate, list_all, and_from, le-leb}
use Rattle.shared_tree_tests.proofs.Words.{length-replicate, Point, MOST_MARKS, Listed, is_mark, is_plan, at}
use Rattle.shared_tree_tests.proofs.passes.support.marks_on_start.Goals as goal

list_all-replicate : (n : ℕ) → list_all (is_mark 1) (replicate n (at 0 0)) ≡ true
list_all-replicate zero = refl
list_all-replicate (suc n) = list_all-replicate n

is_plan-replicate : (n : ℕ) (items : List Point) → n ≤ MOST_MARKS → items ≡ replicate n (at 0 0) → IsTrue (is_plan 1 (Listed items))
is_plan-replicate n items low same =
    let few = le-leb (length items) MOST_MARKS (omega (arith, low, ap length same, length-replicate n (at 0 0))) in
    let each : list_all (is_mark 1) items ≡ true = ap (list_all (is_mark 1)) same ∙ list_all-replicate n in
    and_from (leb (length items) MOST_MARKS) (list_all (is_mark 1) items) few each

pub returns-clause-plan : goal.returns-clause-plan
returns-clause-plan c =
    is_plan-replicate c.args.count c.in_ok-vec.field-0.items c.requires (c.in_ok-vec.ensures.items_if_clones_equal (λ y e. e))
