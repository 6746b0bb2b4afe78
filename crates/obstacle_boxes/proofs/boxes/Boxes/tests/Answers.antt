use Rattle.obstacle_boxes.proofs.Words.{refl, InRoom, at_lattice, CrossesNone-clear, clear_of, first_in_room, last_in_room}
use Rattle.obstacle_boxes.proofs.ZoneTrees.{leaves-among, CrossesNone-leaves, leaves_met-near, true_unless, not_none}
use Rattle.obstacle_boxes.proofs.boxes.Boxes.tests.Goals as goal
use Rattle.obstacle_boxes.proofs.boxes.Boxes.tests.Goals.{then-not-is_in_room-via-then-not-is_in_room}
use Rattle.obstacle_boxes.proofs.boxes.Boxes.tests.Goals.{then-not-is_in_room-via-else-not-is_in_room+then-not-is_in_room-2}

pub returns-then-not-is_in_room-clause-clear : goal.returns-then-not-is_in_room-clause-clear
returns-then-not-is_in_room-clause-clear g c = (
  λ t. cc,
  λ clear.
      let space = c.args.self.now in
      let first = c.is_in_room.ensures.room.1 (rw (← c.self.view_is) at (first_in_room space c.args.a c.args.b clear)) in
      let last = rw (← c.self.view_is) at (last_in_room space c.args.a c.args.b clear) in
      elim c.then-not-is_in_room.branch [
        | then-not-is_in_room-via-then-not-is_in_room w ↦ (let out = w.if-not-is_in_room.true in cc)
        | then-not-is_in_room-via-else-not-is_in_room+then-not-is_in_room-2 w ↦ (
            let within = w.is_in_room-else-not-is_in_room.ensures.room.1 last in let out = w.if-not-is_in_room-2.true in cc)
      ],
)

pub is_clear_of_leaves-requires-clause-leaves : goal.is_clear_of_leaves-requires-clause-leaves
is_clear_of_leaves-requires-clause-leaves g c =
    rw c.as_slice.ensures.value (leaves-among c.self.inside.hall c.self.inside.nodes.items c.zones.result.now c.self.invariant c.zones.ensures)

pub returns-clause-clear : goal.returns-clause-clear
returns-clause-clear g c =
    let space = c.self.inside.hall in
    let a = c.args.a in
    let b = c.args.b in
    let zones = c.zones.result.now in
    let first : InRoom space (at_lattice a) = c.if-not-is_in_room.ensures.room.0 refl in
    let last : InRoom space (at_lattice b) = c.if-not-is_in_room-2.ensures.room.0 refl in
    rw (← c.self.view_is) (
      λ t. clear_of space zones a b c.zones.ensures first last
          (CrossesNone-leaves space c.self.inside.nodes.items zones a b c.self.invariant c.zones.ensures
          (rw c.as_slice.ensures.value at (c.is_clear_of_leaves.ensures.missed t))),
      λ clear. true_unless c.is_clear_of_leaves.result
          (λ no. not_none zones a b (c.is_clear_of_leaves.ensures.crossed no) (CrossesNone-clear space zones a b c.zones.ensures clear)),
    )

pub returns-clause-few : goal.returns-clause-few
returns-clause-few g c =
    rw (← c.self.view_is) (λ boxes are.
    rw (leaves_met-near c.self.inside.hall c.self.inside.nodes.items boxes c.args.a c.args.b c.self.invariant are) at
    (rw c.as_slice.ensures.value at c.is_clear_of_leaves.ensures.few))

pub returns-clause-all : goal.returns-clause-all
returns-clause-all g c =
    rw (← c.self.view_is) (λ t boxes are.
    rw (leaves_met-near c.self.inside.hall c.self.inside.nodes.items boxes c.args.a c.args.b c.self.invariant are) at
    (rw c.as_slice.ensures.value at (c.is_clear_of_leaves.ensures.all t)))

pub is_clear_of_leaves-requires-clause-tree : goal.is_clear_of_leaves-requires-clause-tree
is_clear_of_leaves-requires-clause-tree g c = rw c.as_slice.ensures.value c.self.invariant.tree
