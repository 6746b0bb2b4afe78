-- All points that are drawn lie in the room of configurations.
use Rattle.std.proofs.Common.{◌≡◌, ℕ, List}
use Rattle.std.specs.Prelude.{All}
use Rattle.std.specs.List.{range_with_len}
use Rattle.std.proofs.lemmas.List.Elements.{All-map}
use Rattle.plan_model.specs.declared.geometry.Point.{Point}
use Rattle.plan_model.specs.declared.scenes.Scene.{Scene}
use Rattle.plan_model.specs.declared.scenes.Marks.TheVariants.{Drawn}
use Rattle.plan_model.specs.Spaces.ConfigurationSpace.{space_of, InRoom, at_lattice}
use Rattle.plan_model.specs.Scenes.MarkPoints.{BodyFits, drawn_mark, points_of_marks}
use Rattle.plan_model.proofs.DrawnMarks.{drawn_mark-in_room}

pub All-drawn_in_room :
    (scene : Scene) (points : List Point) (n : ℕ) → BodyFits scene.room scene.body → points ≡ points_of_marks scene (Drawn n)
    → All (λ p. InRoom (space_of scene) (at_lattice p)) points
All-drawn_in_room scene points n fits are =
    rw are (All-map (λ p. InRoom (space_of scene) (at_lattice p)) (drawn_mark scene) (range_with_len 0 n) (λ k d l. drawn_mark-in_room scene _ fits))
