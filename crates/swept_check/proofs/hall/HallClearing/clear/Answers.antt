use Rattle.swept_check.proofs.Words.{◌↔◌, refl, IsTrue, InRoom, at_lattice}
use Rattle.swept_check.proofs.HallLaws.{CrossesNone, CrossesNone-clear, clear_of, first_in_room, last_in_room}
use Rattle.swept_check.proofs.hall.HallClearing.clear.Goals as goal
use Rattle.swept_check.proofs.hall.HallClearing.clear.Goals.{then-not-is_in_room-via-then-not-is_in_room}
use Rattle.swept_check.proofs.hall.HallClearing.clear.Goals.{then-not-is_in_room-via-else-not-is_in_room+then-not-is_in_room-2}

pub returns-then-not-is_in_room : goal.returns-then-not-is_in_room
returns-then-not-is_in_room c = (
  λ t. cc,
  λ clear.
      let space = c.args.self.now in
      let first = c.is_in_room.ensures.room.1 (first_in_room space c.args.a c.args.b clear) in
      let last = last_in_room space c.args.a c.args.b clear in
      elim c.then-not-is_in_room.branch [
        | then-not-is_in_room-via-then-not-is_in_room w ↦ (let out = w.if-not-is_in_room.true in cc)
        | then-not-is_in_room-via-else-not-is_in_room+then-not-is_in_room-2 w ↦ (
            let within = w.is_in_room-else-not-is_in_room.ensures.room.1 last in let out = w.if-not-is_in_room-2.true in cc)
      ],
)

pub returns : goal.returns
returns c =
    let h = c.self.inside in
    let a = c.args.a in
    let b = c.args.b in
    let space = h.space in
    let first : InRoom space (at_lattice a) = rw (← c.self.view_is) at (c.if-not-is_in_room.ensures.room.0 refl) in
    let last : InRoom space (at_lattice b) = rw (← c.self.view_is) at (c.if-not-is_in_room-2.ensures.room.0 refl) in
    let none : IsTrue c.crosses_no_zone.result ↔ CrossesNone h.zones.items a b = rw c.as_slice.ensures.value at c.crosses_no_zone.ensures in
    rw (← c.self.view_is) (
      λ t. clear_of space h.zones.items a b c.self.invariant.zones first last (none.0 t),
      λ clear. none.1 (CrossesNone-clear space h.zones.items a b c.self.invariant.zones clear),
    )
