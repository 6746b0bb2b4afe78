-- The edge from the start to the mark of a small run, what it costs, and what two views say.
use Rattle.shared_tree_tests.proofs.Words.{◌≡◌, zero, suc, [], ◌∷◌, arith, sym, subst, Clear, mark_bound, at, Clear-empty_room, root_ceiling-from_squares}
use Rattle.shared_tree_tests.proofs.Words.{root_ceiling-zero, setup_in, EachView, View, goal_run, small_run}
use mathlib.Core.Option.{some-injective, some-ne-none}
use Rattle.plan_model.specs.Geometry.Lengths.{root_ceiling}
use Rattle.plan_model.specs.Trees.BestNode.{bound_of}

pub edge : root_ceiling 1638400 ≡ 1280
edge = root_ceiling-from_squares 1638400 1280 (omega arith) (omega arith)

-- the edge to the mark, and on to it
pub bound : mark_bound (setup_in goal_run) (at 8 9) ≡ 1280
unfolding bound_of
bound = omega (arith, edge, root_ceiling-zero)

pub clear : Clear small_run.space (at 5 5) (at 8 9)
clear =
    Clear-empty_room (at 100 100) (at 5 5) (at 8 9) (record { horizontal = omega arith; vertical = omega arith })
    (record { horizontal = omega arith; vertical = omega arith })

-- what both say, each does
pub both : {one other : View} (has : View → Type 0) → has one → has other → EachView (one ∷ other ∷ []) has
both {one = one} has a b zero u e = subst has (some-injective one u e) a
both {other = other} has a b (suc zero) u e = subst has (some-injective other u e) b
both has a b (suc (suc i)) u e = absurd (some-ne-none u (sym e))
