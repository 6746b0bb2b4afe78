-- The words of the SplitMix64 of `rand_xoshiro` are those of the definition.
use Rattle.std.proofs.Common.{◌≡◌, ℕ, ◌<◌, ◌^◌, List, refl, ap, ◌∙◌}
use Rattle.std.specs.Int.{w64, from_le_bytes, to_le_bytes}
use Rattle.std.proofs.lemmas.Nat.{from_le_bytes-to_le_bytes_8}
use Rattle.rand_core.specs.Stream.{Stream, next_u64}
use Rattle.rand_core.specs.Steps.{stream_of}
use Rattle.rand_xoshiro.specs.SplitMix64.{splitmix_steps}
use Rattle.plan_model.specs.Scenes.MarkPoints.{first_word, second_word}

-- the generator with a state
abbrev pub generator : ℕ → Stream
generator state = stream_of splitmix_steps state

stream-first : (state : ℕ) → (next_u64 (generator state)).0 ≡ first_word state
unfolding next_u64 stream_of
stream-first state = refl

stream-second : (state : ℕ) → (next_u64 (next_u64 (generator state)).1).0 ≡ second_word state
unfolding next_u64 stream_of
stream-second state = refl

-- a seed of eight bytes is the state
pub seed-state : (state g : ℕ) (bytes : List ℕ) → state < 2 ^ 64 → bytes ≡ to_le_bytes w64 state → g ≡ from_le_bytes w64 bytes → g ≡ state
seed-state state g bytes small written read = read ∙ ap (from_le_bytes w64) written ∙ from_le_bytes-to_le_bytes_8 state small

-- the first word that is drawn
pub word-first : (state first : ℕ) (rest : Stream) → (first, rest) ≡ next_u64 (generator state) → first ≡ first_word state
word-first state first rest drawn = ap (λ call. call.0) drawn ∙ stream-first state

-- and the second
pub word-second :
    (state first second : ℕ) (rest end : Stream) → (first, rest) ≡ next_u64 (generator state) → (second, end) ≡ next_u64 rest
    → second ≡ second_word state
word-second state first second rest end drawn again =
    ap (λ call. call.0) again ∙ ap (λ stream. (next_u64 stream).0) (ap (λ call. call.1) drawn) ∙ stream-second state
