use Rattle.plan_model.proofs.Words.{◌≡◌, ℕ, ◌+◌, ◌<◌, ◌≤◌, max, List, length, get_or, take, sym, ap, ◌∙◌, rules, w32, to_z, of_z, pos, to_z-of_z, fold_more}
use Rattle.plan_model.proofs.Words.{Vertex, above_zero, below_zero, reach}
use Rattle.std.proofs.Common.{take_all}
use Rattle.plan_model.proofs.spans.Reach.of.Goals as goal

-- the reach of the corners so far and of the next one
reach_more : (extent : Vertex → ℕ) (corners : List Vertex) (i far next last : ℕ) (d : Vertex) → i < length corners
    → far ≡ reach extent (take i corners) → next ≡ extent (get_or corners i d) → last ≡ max far next
    → last ≡ reach extent (take (i + 1) corners)
reach_more extent corners i far next last d within so_far of_next is =
    is ∙ (λ k. max (so_far k) (of_next k)) ∙ sym (fold_more (λ far corner. max far (extent corner)) 0 corners i d within)

pub loop-corner-preserved : goal.loop-corner-preserved
loop-corner-preserved c =
    let corners = c.args.corners.now in
    let i = c.loop-corner.corner-index in
    let far = c.loop-corner.far in
    let so_far = c.loop-corner.invariant in
    let none : Vertex = record { x = pos 0; y = pos 0 } in
    let corner = get_or corners i none in
    let x : to_z w32 (of_z w32 corner.x) ≡ corner.x = to_z-of_z w32 corner.x (search rules) in
    let y : to_z w32 (of_z w32 corner.y) ≡ corner.y = to_z-of_z w32 corner.y (search rules) in
    let within = c.loop-corner-test.true in
    record {
      left = reach_more (λ v. below_zero v.x) corners i far.left c.below_zero.result c.max.result none within
          so_far.left (c.below_zero.ensures ∙ ap below_zero x) c.max.ensures;
      right = reach_more (λ v. above_zero v.x) corners i far.right c.above_zero.result c.max-in-loop-corner.result none within
          so_far.right (c.above_zero.ensures ∙ ap above_zero x) c.max-in-loop-corner.ensures;
      down = reach_more (λ v. below_zero v.y) corners i far.down c.below_zero-in-loop-corner.result
          c.max-in-loop-corner-2.result none within
          so_far.down (c.below_zero-in-loop-corner.ensures ∙ ap below_zero y) c.max-in-loop-corner-2.ensures;
      up = reach_more (λ v. above_zero v.y) corners i far.up c.above_zero-in-loop-corner.result
          c.max-in-loop-corner-3.result none within
          so_far.up (c.above_zero-in-loop-corner.ensures ∙ ap above_zero y) c.max-in-loop-corner-3.ensures;
    }

-- the reach of all corners
reach_all : (extent : Vertex → ℕ) (corners : List Vertex) (i far : ℕ) → length corners ≤ i → far ≡ reach extent (take i corners)
    → far ≡ reach extent corners
reach_all extent corners i far all is = is ∙ ap (reach extent) (take_all i corners all)

pub returns-clause-left : goal.returns-clause-left
returns-clause-left c = reach_all (λ v. below_zero v.x) c.args.corners.now _ _ c.loop-corner-test.false c.loop-corner.invariant.left

pub returns-clause-right : goal.returns-clause-right
returns-clause-right c = reach_all (λ v. above_zero v.x) c.args.corners.now _ _ c.loop-corner-test.false c.loop-corner.invariant.right

pub returns-clause-down : goal.returns-clause-down
returns-clause-down c = reach_all (λ v. below_zero v.y) c.args.corners.now _ _ c.loop-corner-test.false c.loop-corner.invariant.down

pub returns-clause-up : goal.returns-clause-up
returns-clause-up c = reach_all (λ v. above_zero v.y) c.args.corners.now _ _ c.loop-corner-test.false c.loop-corner.invariant.up
