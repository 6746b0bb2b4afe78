-- The mark points (the samples) of a scene.
use Rattle.std.specs.Prelude.{◌≡◌, ℕ, ◌+◌, ◌-◌, ◌*◌, ◌/◌, ◌%◌, ◌^◌, ◌==◌, ◌<◌, ◌≤◌, nat_lt, ℤ, pos, negsuc, max, bit_xor, Bool, List, map, if◌then◌else◌}
use Rattle.plan_model.specs.Terms.{Drawn, Listed, Marks, Point, RoomSpans, Span, Vertex, count_by, fold, range_with_len}
use Rattle.plan_model.specs.declared.scenes.Scene.{Scene}

-- SplitMix64 (Steele, Lea and Flood, OOPSLA 2014): the state that follows a state
abbrev pub next_state : ℕ → ℕ
next_state state = (state + 0x9E3779B97F4A7C15) % 2 ^ 64

-- a number xor itself shifted down by k bits, times a factor
abbrev pub mixed : ℕ → ℕ → ℕ → ℕ
mixed k factor z = (bit_xor z (z / 2 ^ k) * factor) % 2 ^ 64

-- the word that a state gives
abbrev pub word_of_state : ℕ → ℕ
word_of_state state = let z = mixed 27 0x94D049BB133111EB (mixed 30 0xBF58476D1CE4E5B9 state) in bit_xor z (z / 2 ^ 31)

-- the first word drawn from a state
abbrev pub first_word : ℕ → ℕ
first_word state = word_of_state (next_state state)

-- the second word drawn from a state
abbrev pub second_word : ℕ → ℕ
second_word state = word_of_state (next_state (next_state state))

-- how far a coordinate lies below 0
abbrev pub below_zero : ℤ → ℕ
below_zero (pos n) = 0
below_zero (negsuc n) = n + 1

-- how far a coordinate lies above 0
abbrev pub above_zero : ℤ → ℕ
above_zero (pos n) = n
above_zero (negsuc n) = 0

-- how far the body reaches in a direction from its origin
abbrev pub reach : (Vertex → ℕ) → List Vertex → ℕ
reach extent body = fold (λ far corner. max far (extent corner)) 0 body

-- the span has the coordinate
pub record IsInSpan (span : Span) (n : ℕ) : Type 0 where
  pub low : span.first ≤ n
  pub high : n < span.first + span.count

-- the coordinates at which a body that reaches so far back and forth fits between 0 and a side
abbrev pub span_within : ℕ → ℕ → ℕ → Span
span_within side back forth = record { first = back; count = (side + 1) - (back + forth) }

-- the columns of the room of configurations
abbrev pub columns : Point → List Vertex → Span
columns room body = span_within room.x (reach (λ v. below_zero v.x) body) (reach (λ v. above_zero v.x) body)

-- the rows of the room of configurations
abbrev pub rows : Point → List Vertex → Span
rows room body = span_within room.y (reach (λ v. below_zero v.y) body) (reach (λ v. above_zero v.y) body)

-- the body fits into the room: there is a column for it, and a row
pub record BodyFits (room : Point) (body : List Vertex) : Type 0 where
  pub some_column : 0 < (columns room body).count
  pub some_row : 0 < (rows room body).count

-- Strip g of the strips that the columns are cut into; if there are fewer columns than strips, all columns.
abbrev pub strip : Span → ℕ → ℕ → Span
strip all strips g = if nat_lt all.count strips then all else record {
  first = all.first + (g * all.count) / strips;
  count = ((g + 1) * all.count) / strips - (g * all.count) / strips;
}

-- the coordinate of a span that the upper half of a word picks
abbrev pub picked : Span → ℕ → ℕ
picked span word = span.first + ((word / 2 ^ 32) * span.count) / 2 ^ 32

-- the strip that mark k belongs to: the strips take turns
abbrev pub strip_of_mark : ℕ → ℕ → ℕ
strip_of_mark strips k = k % strips

-- drawn mark k: a column of its strip by the first word, a row by the second
abbrev pub drawn_mark : Scene → ℕ → Point
drawn_mark scene k =
    let state = (scene.seed + k) % 2 ^ 64 in
    let own_strip = strip (columns scene.room scene.body) scene.strips (strip_of_mark scene.strips k) in
    record { x = picked own_strip (first_word state); y = picked (rows scene.room scene.body) (second_word state) }

-- the points of listed marks, and of marks that are drawn
abbrev pub points_of_marks : Scene → Marks → List Point
points_of_marks scene (Listed points) = points
points_of_marks scene (Drawn n) = map (drawn_mark scene) (range_with_len 0 n)

-- the mark points of a scene, in the order of their numbers
abbrev pub mark_points : Scene → List Point
mark_points scene = points_of_marks scene scene.plan

-- how many marks below the limit belong to strip g
abbrev pub quota_of : ℕ → ℕ → ℕ → ℕ
quota_of strips g limit = count_by (λ k. strip_of_mark strips k == g) (range_with_len 0 limit)

-- the c-th mark of strip g
abbrev pub mark_of : ℕ → ℕ → ℕ → ℕ
mark_of strips g c = c * strips + g

-- Mark k is the c-th of strip g, and c is below the quota of the strip.
pub record IsMarkOf (strips limit k g c : ℕ) : Type 0 where
  pub strip : g < strips
  pub below : c < quota_of strips g limit
  pub number : k ≡ mark_of strips g c

-- mark k is claimed where each strip has a counter of those of its marks that are
abbrev pub is_claimed : ℕ → (ℕ → ℕ) → ℕ → Bool
is_claimed strips counters k = nat_lt (k / strips) (counters (strip_of_mark strips k))

-- ---- The columns and the rows of the room of configurations, side by side.
-- the columns and the rows of the body in the room
pub record AreSpansOf (room : Point) (body : List Vertex) (spans : RoomSpans) : Type 0 where
  pub columns : spans.columns ≡ columns room body
  pub rows : spans.rows ≡ rows room body
