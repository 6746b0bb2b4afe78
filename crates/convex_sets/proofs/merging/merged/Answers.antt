use Rattle.convex_sets.proofs.Words.{ℕ, List, inl, inr, arith, ints, LEAST_CORNER_COORDINATE, MOST_CORNER_COORDINATE, Vertex, corner_at, AreBoundedCorners}
use Rattle.convex_sets.proofs.Corners.{IsWithin, bounded_corner, bounded_at}
use Rattle.convex_sets.proofs.MergeSteps.{IsAt}
use Rattle.convex_sets.proofs.MergedPaths.{IsMergedTo-start, IsMergedTo-step, IsMergeStep-goes_on, pushed_is}
use Rattle.convex_sets.proofs.ClosedPaths.{IsMerged-closed}
use Rattle.convex_sets.proofs.merging.merged.Goals as goal
use Rattle.convex_sets.proofs.merging.merged.Goals.{then-reached-a, else-reached-a+then-reached-b}

-- the corners that were reached are bounded
near : (a b : List Vertex) (i j : ℕ) (e : Vertex) → AreBoundedCorners a → AreBoundedCorners b → IsAt a b i j e
    → IsWithin LEAST_CORNER_COORDINATE MOST_CORNER_COORDINATE (corner_at a i) × IsWithin LEAST_CORNER_COORDINATE MOST_CORNER_COORDINATE (corner_at b j)
near a b i j e p q at = (bounded_corner (corner_at a i) (bounded_at a i p at.within_a), bounded_corner (corner_at b j) (bounded_at b j q at.within_b))

pub loop-reached-init : goal.loop-reached-init
loop-reached-init c =
    rw c.new-corners.ensures.items (IsMergedTo-start c.args.a.now c.args.b.now c.requires.first c.requires.second)

pub overflow_add-a : goal.overflow_add-a
overflow_add-a c =
    let at = near _ _ _ _ _ c.requires.first_bounded c.requires.second_bounded c.loop-reached.invariant.at in
    omega (arith, ints)

pub overflow_add-a-in-loop-reached : goal.overflow_add-a-in-loop-reached
overflow_add-a-in-loop-reached c =
    let at = near _ _ _ _ _ c.requires.first_bounded c.requires.second_bounded c.loop-reached.invariant.at in
    omega (arith, ints)

pub merge_step-reached-requires-clause-more : goal.merge_step-reached-requires-clause-more
merge_step-reached-requires-clause-more c =
    elim c.if-reached-a.branch [ then-reached-a w ↦ inl w.if-reached-a.true | else-reached-a+then-reached-b w ↦ inr w.if-reached-b.true ]

pub loop-reached-preserved : goal.loop-reached-preserved
loop-reached-preserved c =
    let a = c.args.a.now in
    let b = c.args.b.now in
    let at = near _ _ _ _ _ c.requires.first_bounded c.requires.second_bounded c.loop-reached.invariant.at in
    let items = c.in_ok-push.ensures.items in
    let i = c.loop-reached.reached.first in
    let j = c.loop-reached.reached.second in
    IsMergedTo-step a b c.loop-reached.corners.items c.push.new.self.items i j c.merge_step-reached.result.first
    c.merge_step-reached.result.second c.loop-reached.invariant c.requires.first c.requires.second c.merge_step-reached.ensures
    (pushed_is c.loop-reached.corners.items c.push.new.self.items _ _ items (omega (arith, ints)) (omega (arith, ints)))

pub returns : goal.returns
returns c =
    let h = c.loop-reached.invariant in
    IsMerged-closed c.args.a.now c.args.b.now c.loop-reached.corners.items c.loop-reached.reached.first c.loop-reached.reached.second c.requires.first
    c.requires.second h (omega arith) (omega arith) c.requires.polygon

pub loop-reached-smaller : goal.loop-reached-smaller
loop-reached-smaller c =
    let at = c.loop-reached.invariant.at in
    IsMergeStep-goes_on c.args.a.now c.args.b.now c.loop-reached.reached.first c.loop-reached.reached.second c.merge_step-reached.result.first
    c.merge_step-reached.result.second c.merge_step-reached.ensures at.within_a at.within_b
