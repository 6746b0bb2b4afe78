-- Worked values of marks: points that are drawn, and the strips of marks.
use Rattle.std.specs.Prelude.{◌≡◌, List, [], ◌∷◌, true, false, map, slice_index_or}
use Rattle.plan_model.specs.Terms.{Drawn, Listed, Point, Span, Vertex}
use Rattle.plan_model.specs.declared.scenes.Scene.{Scene}
use Rattle.plan_model.specs.Scenes.MarkPoints.{picked, first_word, second_word, drawn_mark, mark_points, IsInSpan, strip, strip_of_mark, quota_of, is_claimed}
use Rattle.plan_model.specs.Scenes.MarkPoints.{span_within, columns, rows, reach, below_zero, above_zero}
use Rattle.plan_model.specs.Vectors.Geometry.{at, corner, corner_below}

-- ---- Words of SplitMix64, and a mark that they draw.
pub record DrawnVectors : Type 0 where
  pub first : first_word 0 ≡ 0xE220A8397B1DCDAF
  pub second : second_word 0 ≡ 0x6E789E6AA1B965F4
  -- in a room of 100 columns and 100 rows, a point body, one strip and the seed 0
  pub mark : (scene : Scene) → scene.room ≡ at 99 99 → scene.body ≡ corner 0 0 ∷ [] → scene.strips ≡ 1 → scene.seed ≡ 0 → drawn_mark scene 0 ≡ at 88 43
  -- the same state again: seed and mark are added modulo 2 ^ 64
  pub wrapped : (scene : Scene) → scene.room ≡ at 99 99 → scene.body ≡ corner 0 0 ∷ [] → scene.strips ≡ 1
      → scene.seed ≡ 18446744073709551615 → drawn_mark scene 1 ≡ at 88 43
  -- the least and the greatest word pick the first and the last of ten columns; of no column the first is picked
  pub least_word : picked (record { first = 5; count = 10 }) 0 ≡ 5
  pub greatest_word : picked (record { first = 5; count = 10 }) 18446744073709551615 ≡ 14
  pub no_column : picked (record { first = 5; count = 0 }) 18446744073709551615 ≡ 5
  -- marks are drawn by their numbers, from 0 on; listed ones are as they are listed
  pub drawn_marks : (scene : Scene) → scene.plan ≡ Drawn 2 → mark_points scene ≡ drawn_mark scene 0 ∷ drawn_mark scene 1 ∷ []
  pub listed_marks : (scene : Scene) (points : List Point) → scene.plan ≡ Listed points → mark_points scene ≡ points

-- ---- Columns cut into three strips, the quotas of three strips, and the columns in which a body fits.
abbrev pub hundred : Span
hundred = record { first = 0; count = 100 }

abbrev pub kite : List Vertex
kite = corner_below 3 0 ∷ corner 4 0 ∷ corner 0 5 ∷ []

pub record StripVectors : Type 0 where
  pub left : strip hundred 3 0 ≡ record { first = 0; count = 33 }
  pub middle : strip hundred 3 1 ≡ record { first = 33; count = 33 }
  pub right : strip hundred 3 2 ≡ record { first = 66; count = 34 }
  pub next_after_last : strip_of_mark 3 3 ≡ 0
  pub only_strip : strip_of_mark 1 7 ≡ 0
  pub first_quota : quota_of 3 0 7 ≡ 3
  pub second_quota : quota_of 3 1 7 ≡ 2
  pub third_quota : quota_of 3 2 7 ≡ 2
  -- as many columns as strips, and one less: then each strip has all of them
  pub one_column_each : strip (record { first = 7; count = 3 }) 3 2 ≡ record { first = 9; count = 1 }
  pub too_few_columns : strip (record { first = 7; count = 2 }) 3 2 ≡ record { first = 7; count = 2 }
  pub no_mark : quota_of 3 0 0 ≡ 0
  pub before_own_mark : quota_of 3 2 2 ≡ 0
  pub with_own_mark : quota_of 3 2 3 ≡ 1
  -- mark 5 is the second one of the last strip
  pub before_second_mark : quota_of 3 2 5 ≡ 1
  pub with_second_mark : quota_of 3 2 6 ≡ 2
  -- marks 0 and 3 of the first strip are claimed, none of the second, and mark 2 of the third
  pub claimed : map (is_claimed 3 (λ g. slice_index_or (2 ∷ 0 ∷ 1 ∷ []) g 0)) (0 ∷ 1 ∷ 2 ∷ 3 ∷ 4 ∷ 5 ∷ 6 ∷ [])
      ≡ true ∷ false ∷ true ∷ true ∷ false ∷ false ∷ false ∷ []
  -- a point body, a body as wide as the side, and a wider one
  pub all_columns : span_within 10 0 0 ≡ record { first = 0; count = 11 }
  pub last_column : span_within 10 4 6 ≡ record { first = 4; count = 1 }
  pub nowhere : span_within 10 5 6 ≡ record { first = 5; count = 0 }
  -- the coordinates of a span, and those beside it; a span without columns has none
  pub first_of_span : IsInSpan (record { first = 4; count = 2 }) 4
  pub last_of_span : IsInSpan (record { first = 4; count = 2 }) 5
  pub before_span : ¬ IsInSpan (record { first = 4; count = 2 }) 3
  pub after_span : ¬ IsInSpan (record { first = 4; count = 2 }) 6
  pub empty_span : ¬ IsInSpan (record { first = 5; count = 0 }) 5
  -- the columns and the rows of a body that is wider than high, in a room that is higher than wide
  pub columns_of_room : columns (at 10 20) kite ≡ record { first = 3; count = 4 }
  pub rows_of_room : rows (at 10 20) kite ≡ record { first = 0; count = 16 }
  -- a body reaches from its origin, also if all corners are on one side of it
  pub reaches_back : reach (λ v. below_zero v.x) kite ≡ 3
  pub reaches_forth : reach (λ v. above_zero v.x) kite ≡ 4
  pub reaches_none_back : reach (λ v. below_zero v.x) (corner 2 0 ∷ corner 4 0 ∷ corner 3 1 ∷ []) ≡ 0
