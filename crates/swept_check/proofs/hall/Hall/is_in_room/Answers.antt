use Rattle.swept_check.proofs.Words.{◌↔◌, arith, ints, IsTrue, InRoom, at_lattice}
use Rattle.swept_check.proofs.RoomLaws.{in_room_of_spans, columns_of_in_room, rows_of_in_room}
use Rattle.swept_check.proofs.hall.Hall.is_in_room.Goals as goal

pub returns : goal.returns
returns c =
    let h = c.self.inside in
    let p = c.args.p in
    let spans = c.self.invariant.spans in
    let right = c.self.invariant.right in
    let top = c.self.invariant.top in
    let space = h.space in
    let room : IsTrue c.contains.result ↔ InRoom space (at_lattice p) = (
      λ t. (let parts = c.contains.ensures.0 t in in_room_of_spans space h.spans p spans parts.0 parts.1),
      λ room. c.contains.ensures.1 (columns_of_in_room space h.spans p spans room, rows_of_in_room space h.spans p spans room),
    ) in
    record {
      room = rw (← c.self.view_is) room;
      bounded = λ t.
          let here = (room.0 t).here in
          record { right = omega (arith, ints); top = omega (arith, ints) };
    }
