-- A segment is clear if its ends are in the room of configurations and it crosses no zone.
use Rattle.swept_check.proofs.Words.{◌<◌, List, [], length, All, arith, All-get_or, All-from_get_or, Point, Vertex, ConfigurationSpace, InRoom, at_lattice}
use Rattle.swept_check.proofs.Words.{on_the_way, Clear, Meets, Clear-first, Clear-last, Crosses, AreZonesOf}
use Rattle.swept_check.proofs.RoomLaws.{InRoom-on_the_way}

-- no zone of the list is crossed
abbrev pub CrossesNone : List (List Vertex) → Point → Point → Type 0
CrossesNone zones a b = All (λ zone. ¬ Crosses zone a b) zones

pub CrossesNone-clear : (space : ConfigurationSpace) (zones : List (List Vertex)) (a b : Point) → AreZonesOf space zones
    → Clear space a b → CrossesNone zones a b
CrossesNone-clear space zones a b h clear =
    All-from_get_or (λ zone. ¬ Crosses zone a b) zones [] (λ i l x.
    let at : i < length space.obstacles = omega arith in
    let here = clear x.s x.d x.positive x.on_segment in
    let q = on_the_way a b x.s x.d x.positive in
    let apart = All-get_or (λ obstacle. ¬ Meets space.clearance space.body q obstacle) space.obstacles i [] at here.meets_none in
    let exact = (h.each i at).exact q in
    apart (exact.1 x.inside))

pub clear_of : (space : ConfigurationSpace) (zones : List (List Vertex)) (a b : Point) → AreZonesOf space zones
    → InRoom space (at_lattice a) → InRoom space (at_lattice b) → CrossesNone zones a b → Clear space a b
clear_of space zones a b h first last none s d p l =
    let q = on_the_way a b s d p in
    record {
      in_room = InRoom-on_the_way space a b s d p l first last;
      meets_none = All-from_get_or (λ obstacle. ¬ Meets space.clearance space.body q obstacle) space.obstacles [] (λ i at meets.
          let exact = (h.each i at).exact q in
          let apart = All-get_or (λ zone. ¬ Crosses zone a b) zones i [] (omega arith) none in
          apart (record { s = s; d = d; positive = p; on_segment = l; inside = exact.0 meets }));
    }

pub first_in_room : (space : ConfigurationSpace) (a b : Point) → Clear space a b → InRoom space (at_lattice a)
first_in_room space a b clear = (Clear-first space a b clear).in_room

pub last_in_room : (space : ConfigurationSpace) (a b : Point) → Clear space a b → InRoom space (at_lattice b)
last_in_room space a b clear = (Clear-last space a b clear).in_room
