-- The marks that are drawn lie in the columns of their strips and in the rows, so in the room of configurations.
use Rattle.plan_model.proofs.Words.{ℕ, ◌+◌, ◌*◌, ◌/◌, ◌%◌, ◌^◌, ◌<◌, arith, bit_xor, div-le_self, mul-le, xor_lt, mod_below, div_below, pow_pos, Scene}
use Rattle.plan_model.proofs.Words.{space_of, at_lattice, InRoom, IsInSpan, strip, picked, mixed, word_of_state, first_word, second_word, next_state}
use Rattle.plan_model.proofs.Words.{strip_of_mark, drawn_mark, columns, rows, BodyFits, Span}
use Rattle.plan_model.proofs.SpanLaws.{InRoom-from_spans}
use Rattle.plan_model.proofs.StripLaws.{strip-some, strip-within}

-- ---- words

-- a number below 2 ^ 64 stays below it if it is mixed with itself shifted
mixed_below : (z shift : ℕ) → z < 2 ^ 64 → bit_xor z (z / shift) < 2 ^ 64
mixed_below z shift h = xor_lt 64 z (z / shift) h (omega (arith, div-le_self z shift))

pub word_below : (state : ℕ) → word_of_state state < 2 ^ 64
word_below state = mixed_below (mixed 27 0x94D049BB133111EB (mixed 30 0xBF58476D1CE4E5B9 state)) (2 ^ 31) (mod_below _ (2 ^ 64) (pow_pos 64))

-- ---- coordinates

share_below : (word count m : ℕ) → 0 < m → word < m * m → 0 < count → ((word / m) * count) / m < count
share_below word count m some small columns =
    let upper : word / m < m = div_below word m m some small in
    div_below ((word / m) * count) m count some (omega (arith, mul-le (word / m + 1) count m count (omega arith) (omega arith)))

-- the upper half of a word picks a coordinate of the span
pub picked-within : (span : Span) (word : ℕ) → 0 < span.count → word < 2 ^ 64 → IsInSpan span (picked span word)
picked-within span word some small =
    let below : ((word / 2 ^ 32) * span.count) / 2 ^ 32 < span.count = share_below word span.count (2 ^ 32) (pow_pos 32) small some in
    record { low = omega arith; high = omega arith }

-- the column and the row of a drawn mark
pub drawn_mark-column :
    (scene : Scene) (k : ℕ) → BodyFits scene.room scene.body
    → IsInSpan (strip (columns scene.room scene.body) scene.strips (strip_of_mark scene.strips k)) (drawn_mark scene k).x
drawn_mark-column scene k fits =
    let all = columns scene.room scene.body in
    let own : strip_of_mark scene.strips k < scene.strips = mod_below k scene.strips (omega (arith, scene.strips_low)) in
    let state : ℕ = (scene.seed + k) % 2 ^ 64 in
    picked-within (strip all scene.strips (strip_of_mark scene.strips k)) (first_word state)
    (strip-some all scene.strips (strip_of_mark scene.strips k) fits.some_column own)
    (word_below (next_state state))

pub drawn_mark-row : (scene : Scene) (k : ℕ) → BodyFits scene.room scene.body → IsInSpan (rows scene.room scene.body) (drawn_mark scene k).y
drawn_mark-row scene k fits =
    let state : ℕ = (scene.seed + k) % 2 ^ 64 in
    picked-within (rows scene.room scene.body) (second_word state) fits.some_row (word_below (next_state (next_state state)))

-- a drawn mark is in the room of configurations
pub drawn_mark-in_room : (scene : Scene) (k : ℕ) → BodyFits scene.room scene.body → InRoom (space_of scene) (at_lattice (drawn_mark scene k))
drawn_mark-in_room scene k fits =
    let all = columns scene.room scene.body in
    let own : strip_of_mark scene.strips k < scene.strips = mod_below k scene.strips (omega (arith, scene.strips_low)) in
    let column = strip-within all scene.strips (strip_of_mark scene.strips k) (drawn_mark scene k).x own (drawn_mark-column scene k fits) in
    InRoom-from_spans (space_of scene) (drawn_mark scene k) (record { column = column; row = drawn_mark-row scene k fits })
