-- The ends of a clear segment are within bounds, as they lie in the room.
use Rattle.swept_check.proofs.Words.{arith, ints, Point, Scene, IsBounded, IsBounded-room, Clear, space_of, ConfigurationSpace, InRoom, at_lattice}
use Rattle.swept_check.proofs.HallLaws.{first_in_room, last_in_room}

IsBounded-in_room : (space : ConfigurationSpace) (p : Point) → IsBounded space.room → InRoom space (at_lattice p) → IsBounded p
IsBounded-in_room space p bounded within =
    let right = bounded.right in
    let top = bounded.top in
    record { right = omega (arith, ints); top = omega (arith, ints) }

pub IsBounded-clear : (space : ConfigurationSpace) (a b : Point) → IsBounded space.room → Clear space a b → IsBounded a × IsBounded b
IsBounded-clear space a b bounded clear = (
  IsBounded-in_room space a bounded (first_in_room space a b clear),
  IsBounded-in_room space b bounded (last_in_room space a b clear),
)

pub IsBounded-clear_in_scene : (scene : Scene) (a b : Point) → Clear (space_of scene) a b → IsBounded a × IsBounded b
IsBounded-clear_in_scene scene a b clear = IsBounded-clear (space_of scene) a b (IsBounded-room scene) clear
