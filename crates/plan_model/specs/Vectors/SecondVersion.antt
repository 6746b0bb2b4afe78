-- Texts of version 2, and texts of version 1 that have what only version 2 has.
use Rattle.std.specs.Prelude.{◌≡◌, true, false, List, ℕ, [], ◌∷◌, ◌++◌, codes, replicate}
use Rattle.std.specs.List.{concat}
use Rattle.plan_model.specs.declared.scenes.Scene.{Scene}
use Rattle.plan_model.specs.declared.text_terms.Kind.TheVariants as kinds
use Rattle.plan_model.specs.Texts.SceneGrammar.{supported, whole_format, Refused, Spells}
use Rattle.plan_model.specs.Texts.CanonicalText.{canonical_text}
use Rattle.plan_model.specs.Vectors.Geometry.{at}

-- so many lines of a goal after the version, and then these bytes
abbrev pub goals_and : ℕ → List ℕ → List ℕ
goals_and n bytes = codes "prrt 2\n" ++ (concat (replicate n (codes "goal 1 1 2 2\n")) ++ bytes)

pub record SecondVersionVectors : Type 0 where
  pub no_version : Refused supported (codes "prrt 3\n") 1 kinds.Version
  pub version_in_digits : Refused supported (codes "prrt 02\n") 1 kinds.Version
  pub clearance_of_first : Refused supported (codes "prrt 1\nclearance 1\n") 2 kinds.Key
  pub informed_of_first : Refused whole_format (codes "prrt 1\ninformed 1\n") 2 kinds.Key
  pub informed_words : Refused supported (codes "prrt 2\ninformed x y\n") 2 kinds.Words
  pub informed_too_great : Refused supported (codes "prrt 2\ninformed 2\n") 2 kinds.Range
  pub clearance_twice : Refused supported (codes "prrt 2\nclearance 1\nclearance x y\n") 3 kinds.Repeat
  pub second_goal_of_first : Refused supported (codes "prrt 1\ngoal 1 1 2 2\ngoal 1 1 2 2\n") 3 kinds.Repeat
  pub second_goal_before_words : Refused supported (codes "prrt 1\nroom 9 9\ngoal 1 1 2 2\ngoal x\n") 4 kinds.Repeat
  pub too_many_goals : Refused supported (goals_and 16 (codes "goal 1 1 2 2\n")) 18 kinds.Many
  pub words_before_many : Refused supported (goals_and 16 (codes "goal 1 1 2\n")) 18 kinds.Words
  pub many_before_number : Refused supported (goals_and 16 (codes "goal a b c d\n")) 18 kinds.Many
  pub many_before_range : Refused supported (goals_and 16 (codes "goal 2 2 1 1\n")) 18 kinds.Many
  pub clearance_too_great : Refused supported (codes "prrt 2\nclearance 4097\n") 2 kinds.Range
  pub goal_missing : Refused supported (codes "prrt 2\nroom 9 9\nstart 0 0\nstep 4\n") 5 kinds.Missing

abbrev pub small_text : List ℕ
small_text = codes "prrt 2\nroom 9 9\nstart 0 0\ngoal 1 1 2 2\nstep 4\n"

-- a text of version 2 with what each scene needs, and no more
pub record SecondVersionSpelling : Type 0 where
  pub scene : Scene
  pub spelled : Spells supported small_text scene
  pub version : scene.version ≡ 2
  pub goals : scene.goals ≡ record { low = at 1 1; high = at 2 2 } ∷ []
  pub clearance : scene.clearance ≡ 0
  pub informed : scene.informed ≡ false
  pub canonical : canonical_text scene ≡ codes "prrt 2\nroom 9 9\nbody 0 0\nclearance 0\nstart 0 0\ngoal 1 1 2 2\nstep 4\ngamma 0\nseed 0\nstrips 1\n"

abbrev pub wide_text : List ℕ
wide_text = codes "prrt 2\ngoal 8 8 9 9\ninformed 1\nstep 65536\nclearance 3\nroom 1048575 9\n"
    ++ codes "goal 1 1 2 2\nobstacle 4 4 6 4 5 7\nstart 0 0\nmarks 5\n"

-- a text of version 2 with every field: the goals are in the order of their lines
pub record WideSpelling : Type 0 where
  pub scene : Scene
  pub spelled : Spells whole_format wide_text scene
  pub goals : scene.goals ≡ record { low = at 8 8; high = at 9 9 } ∷ record { low = at 1 1; high = at 2 2 } ∷ []
  pub clearance : scene.clearance ≡ 3
  pub informed : scene.informed ≡ true
  pub canonical : canonical_text scene
      ≡ codes "prrt 2\nroom 1048575 9\nbody 0 0\nobstacle 4 4 6 4 5 7\nclearance 3\nstart 0 0\ngoal 8 8 9 9\ngoal 1 1 2 2\n"
      ++ codes "step 65536\ngamma 0\nseed 0\nstrips 1\ninformed 1\nmarks 5\n"
