-- All marks are the same, and there are not too many.
use Rattle.std.proofs.Common.{◌≡◌, ℕ, zero, suc, ◌≤◌, List, true, leb, length, arith, refl, ap, ◌∙◌}
use Rattle.std.specs.Prelude.{IsTrue, replicate}
use Rattle.std.specs.List.{list_all}
use Rattle.std.proofs.lemmas.Bool.{and_from, le-leb}
use Rattle.std.proofs.lemmas.List.{length-replicate}
use Rattle.grown_runs.proofs.Common.{Point, MOST_MARKS, Listed, is_mark, is_plan, at}
use Rattle.runs_tests.proofs.packed_runs.grown.many_marks.Goals as goal

list_all-replicate : (n : ℕ) → list_all (is_mark 1) (replicate n (at 7 9)) ≡ true
list_all-replicate zero = refl
list_all-replicate (suc n) = list_all-replicate n

is_plan-replicate : (n : ℕ) (items : List Point) → n ≤ MOST_MARKS → items ≡ replicate n (at 7 9) → IsTrue (is_plan 1 (Listed items))
is_plan-replicate n items low same =
    let few = le-leb (length items) MOST_MARKS (omega (arith, low, ap length same, length-replicate n (at 7 9))) in
    let each : list_all (is_mark 1) items ≡ true = ap (list_all (is_mark 1)) same ∙ list_all-replicate n in
    and_from (leb (length items) MOST_MARKS) (list_all (is_mark 1) items) few each

pub returns : goal.returns
returns c =
    is_plan-replicate c.args.count c.in_ok-vec.field-0.items c.requires (c.in_ok-vec.ensures.items_if_clones_equal (λ y e. e))
