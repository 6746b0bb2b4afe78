-- A poll in turn that gives no `Memory` leaves each session its run.
use Rattle.any_time.proofs.Words.{◌≡◌, ◌<◌, ◌≤◌, inl, inr, ℕ, List, length, Option, Some, None, Ok, IsSome, IsSomeAnd, All, refl, sym, subst, arith, dec_lt}
use Rattle.any_time.proofs.Words.{Ready, Gave, Rests, at, place_of, SessionState, Better}
use Rattle.any_time.proofs.TurnLoop.{place_once}

has : {A : Type 0} (o : Option A) (P : A → Type 0) → IsSomeAnd o P → IsSome o
has None P h = absurd h
has (Some x) P h = refl

through : {A : Type 0} (before after : Option A) (P : A → A → Type 0) → IsSomeAnd before (λ b. IsSomeAnd after (P b)) → IsSome after
through None after P h = absurd h
through (Some b) after P h = has after (P b) h

rests : (s t : SessionState) → IsSome s.run → Rests s t → IsSome t.run
rests s t some h = elim h [
  | inl pending ↦ through s.run t.run _ pending.2
  | inr ended ↦ subst (λ (u : SessionState). IsSome u.run) (sym ended.1) some
]

pub runs_of_gave : (from : ℕ) (xs ys : List SessionState) (number : ℕ) (better : Better) → from ≤ length xs
    → Gave from xs ys number (Ready (Some (Ok better))) → All (λ s. IsSome s.run) xs → All (λ s. IsSome s.run) ys
runs_of_gave from xs ys number better f gave all = λ k d within.
    let w : k < length xs = omega (arith, gave.count) in
    let n = length xs in
    elim (dec_lt (place_of n from k) (place_of n from number)) [
      | yes before ↦ rests (at xs k d) (at ys k d) (all k d w) (gave.rested k d w before)
      | no not_before ↦ elim (dec_lt (place_of n from number) (place_of n from k)) [
        | yes after ↦ subst (λ (u : SessionState). IsSome u.run) (sym (gave.same k d w after)) (all k d w)
        | no not_after ↦
            let same : k ≡ number = place_once n from k number f w gave.within (omega arith) in
            subst (λ (m : ℕ). IsSome (at ys m d).run) (sym same) (through _ _ _ (gave.polled d).2)
      ]
    ]
