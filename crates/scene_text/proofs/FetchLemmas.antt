-- What came from a source.
use Rattle.scene_text.proofs.Words.{◌≡◌, ℕ, ◌+◌, ◌-◌, ◌<◌, ◌≤◌, List, [], ◌++◌, length, take, Option, Result, Ok, Err, Vec, Some, None, IsErrOf, refl, sym, ap}
use Rattle.scene_text.proofs.Words.{arith, length-take, Consumes-trans, Consumes-kept, Consumes, Keeps, MOST_TEXT_BYTES, FetchFault, Fetches, ReadsWithin}
use Rattle.std.proofs.Common.{IsErrAnd, length-append}
use Rattle.scene_text.specs.declared.fetching.FetchFault.TheVariants as faults

pub ReadsWithin-fetched : {Z : Type 0} (before now : Option (List ℕ)) (result : Result (Vec ℕ Z) FetchFault)
    → Fetches before now result → ReadsWithin before now
ReadsWithin-fetched before now result h = (h.came, h.within, h.consumed)

-- a read that failed took nothing
pub Fetches-failed : {Z : Type 0} (before mid now : Option (List ℕ)) (bytes : List ℕ) (result : Result (Vec ℕ Z) FetchFault)
    → Consumes before mid bytes → Keeps mid now → length bytes ≤ MOST_TEXT_BYTES → IsErrAnd result (λ fault. fault ≡ faults.Read)
    → Fetches before now result
Fetches-failed before mid now bytes (Ok all) consumed kept fits failed = absurd failed
Fetches-failed before mid now bytes (Err fault) consumed kept fits failed = record {
  came = bytes;
  consumed = Consumes-kept before mid now bytes consumed kept;
  within = omega arith;
  text = tt;
  too_long = (λ e. absurd cc, λ long. absurd (omega arith));
}

pub IsErrOf-failed : {Z : Type 0} (result : Result (Vec ℕ Z) FetchFault) → IsErrAnd result (λ fault. fault ≡ faults.Read) → IsErrOf result faults.Read
IsErrOf-failed (Ok all) failed = absurd failed
IsErrOf-failed (Err fault) failed = ap Err failed

-- a read of no byte took nothing
nothing_taken : (mid now : Option (List ℕ)) → Consumes mid now [] → Keeps mid now
nothing_taken None now taken = tt
nothing_taken (Some known) None taken = taken
nothing_taken (Some known) (Some left) taken = sym taken

pub Fetches-whole : {Z : Type 0} (before mid now : Option (List ℕ)) (all : Vec ℕ Z) (into : List ℕ) (count : ℕ) → count ≡ 0
    → Consumes before mid all.items → Consumes mid now (take count into) → length all.items ≤ MOST_TEXT_BYTES → Fetches before now (Ok all)
Fetches-whole before mid now all into count none consumed taken fits = record {
  came = all.items;
  consumed = Consumes-kept before mid now all.items consumed (nothing_taken mid now (rw none at taken));
  within = omega arith;
  text = refl;
  too_long = (λ e. absurd cc, λ long. absurd (omega arith));
}

-- one read more after a text: count bytes, of which a text has places for room
module _ (before mid now : Option (List ℕ)) (text into : List ℕ) (count : ℕ)
    (consumed : Consumes before mid text) (read : Consumes mid now (take count into)) (bound : count ≤ length into)
    (fits : length text ≤ MOST_TEXT_BYTES) (places : length into ≤ MOST_TEXT_BYTES - length text + 1) where
  came : List ℕ
  came = text ++ take count into

  length-came : length came ≡ length text + count
  unfolding came
  length-came = omega (arith, length-append text (take count into), length-take count into)

  consumed-came : Consumes before now came
  unfolding came
  consumed-came = Consumes-trans before mid now text (take count into) consumed read

  pub Fetches-too_long : {Z : Type 0} → MOST_TEXT_BYTES - length text < count → Fetches {Z = Z} before now (Err faults.TooLong)
  Fetches-too_long long = record {
    came = came;
    consumed = consumed-came;
    within = omega (arith, length-came);
    text = tt;
    too_long = (λ _. omega (arith, length-came), λ _. refl);
  }

  pub Fetches-memory : {Z : Type 0} (result : Result (Vec ℕ Z) FetchFault) → IsErrAnd result (λ fault. fault ≡ faults.Memory)
      → count ≤ MOST_TEXT_BYTES - length text → Fetches before now result
  Fetches-memory (Ok text) h short = absurd h
  Fetches-memory (Err fault) memory short = record {
    came = came;
    consumed = consumed-came;
    within = omega (arith, length-came);
    text = tt;
    too_long = (λ e. absurd cc, λ long. absurd (omega (arith, length-came)));
  }
