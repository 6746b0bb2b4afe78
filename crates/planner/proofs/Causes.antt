-- Why a command that reads a text is refused.
use Rattle.planner.proofs.Words.{◌≡◌, ℕ, ◌<◌, true, false, Some, IsTrue, [], ◌∷◌, length, Vec, refl, sym, ap, subst, arith, and_from, Option, None, IfSome}
use Rattle.planner.proofs.Words.{IfNone, Result, Ok, Err, IsErrAnd, IsErrOf, IfErr, IsAtEnd, MOST_TEXT_BYTES, Scene, ClearAt, space_of, SourceState, counted_up}
use Rattle.planner.proofs.Words.{FetchFault, Fetches, IsAllOf, goal_middle, Command, input_of, plans, reads_text, tests_goal, Input, one_scene, reads_bytes}
use Rattle.planner.proofs.Words.{SpellsInput, IsCaused, HasScene, ReadFailed, CameShort, IsReadWhole, refusal_of_fetch}
use Rattle.scene_text.specs.declared.fetching.FetchFault.TheVariants as fetching
use Rattle.planner.specs.declared.refusals.Refusal.TheVariants as refusals

read≢long : fetching.Read ≡ fetching.TooLong → ⊥
read≢long is = absurd cc

read≢memory : fetching.Read ≡ fetching.Memory → ⊥
read≢memory is = absurd cc

module _ {Z : Type 0} where
  -- what a fetch that succeeds says, as one fact
  pub IsReadWhole-fetched : (before now : SourceState) (text : Vec ℕ Z) → now.has_ended ≡ true → IsAllOf before.bytes_left text.items →
      IsAtEnd now.bytes_left →
      (IsTrue before.counts_failures_alone → ¬ IsErrOf {E = FetchFault} (Ok text) fetching.Read → now.fault_count ≡ before.fault_count) →
      IsReadWhole before now text.items
  IsReadWhole-fetched before now text end all none_left no_fault =
      record { end = end; all = all; none_left = none_left; no_fault = λ alone. no_fault alone (λ read. absurd cc) }

  different : (result : Result (Vec ℕ Z) FetchFault) (a b : FetchFault) → result ≡ Err a → IsErrOf result b → a ≡ b
  different result a b is other = cc

  -- a read that failed came before too many bytes
  short_before_fault : (before now : SourceState) (result : Result (Vec ℕ Z) FetchFault) → result ≡ Err fetching.Read →
      Fetches before.bytes_left now.bytes_left result → CameShort before.bytes_left now.bytes_left
  short_before_fault before now result is fetched =
      let few : ¬ (MOST_TEXT_BYTES < length fetched.came) =
      λ long. read≢long (different result fetching.Read fetching.TooLong is (fetched.too_long.1 long)) in
      (fetched.came, omega arith, fetched.consumed)

  -- a fault of the fetch is a cause of its refusal
  pub fetch-caused : (command : Command) (before now : SourceState) (result : Result (Vec ℕ Z) FetchFault) (fault : FetchFault) →
      result ≡ Err fault → IsTrue (reads_text command) → now.has_ended ≡ false → Fetches before.bytes_left now.bytes_left result →
      (IsErrOf result fetching.Read → ReadFailed before now) →
      (IsTrue before.counts_failures_alone → IsErrOf result fetching.Read → now.fault_count ≡ counted_up before.fault_count) →
      (IsTrue before.counts_failures_alone → ¬ IsErrOf result fetching.Read → now.fault_count ≡ before.fault_count) →
      IsCaused (Some command) before now (refusal_of_fetch fault)
  fetch-caused command before now result fetching.Read is reads no_end fetched rose one none =
      (reads, record { rose = rose is; no_end = no_end; came = short_before_fault before now result is fetched; one_fault = λ alone. one alone is })
  fetch-caused command before now result fetching.TooLong is reads no_end fetched rose one none =
      let other : ¬ IsErrOf result fetching.Read = λ read. read≢long (different result fetching.Read fetching.TooLong read is) in
      (reads, record { came = (fetched.came, fetched.too_long.0 is, fetched.consumed); no_end = no_end; no_fault = λ alone. none alone other })
  fetch-caused command before now result fetching.Memory is reads no_end fetched rose one none =
      let other : ¬ IsErrOf result fetching.Read = λ read. read≢memory (different result fetching.Read fetching.Memory read is) in
      (refl, λ alone. none alone other)

-- a result that can only be one error has what that error has
pub IfErr-only : {T E : Type 0} (r : Result T E) (error : E) (P : E → Type 0) → IsErrAnd r (λ e. e ≡ error) → P error → IfErr r P
IfErr-only (Ok value) error P only h = absurd only
IfErr-only (Err e) error P only h = subst P (sym only) h

-- a start that is not clear is the cause of its refusal
pub StartBlocked-caused : (command : Command) (before now : SourceState) (scene : Scene) → input_of command ≡ one_scene →
    IsTrue (plans command) → HasScene before now scene → ¬ ClearAt (space_of scene) scene.start → IsCaused (Some command) before now refusals.StartBlocked
StartBlocked-caused command before now scene one planned h blocked = (
  and_from (reads_text command) (plans command) (ap reads_bytes one) planned,
  (
    h.bytes,
    h.read,
    record {
      scenes = scene ∷ [];
      spelled = subst (λ (input : Input). SpellsInput input h.bytes (scene ∷ [])) (sym one) h.spelled;
      blocked = λ clear. blocked clear.0;
    },
  ),
)

-- a first goal that is not clear in its middle is the cause of its refusal
pub GoalBlocked-caused : (command : Command) (before now : SourceState) (scene : Scene) → input_of command ≡ one_scene →
    IsTrue (tests_goal command) → HasScene before now scene → ClearAt (space_of scene) scene.start →
    ¬ ClearAt (space_of scene) (goal_middle scene) → IsCaused (Some command) before now refusals.GoalBlocked
GoalBlocked-caused command before now scene one tests h start blocked = (
  tests,
  (
    h.bytes,
    h.read,
    record {
      scenes = scene ∷ [];
      spelled = subst (λ (input : Input). SpellsInput input h.bytes (scene ∷ [])) (sym one) h.spelled;
      starts = (start, tt);
      blocked = λ clear. blocked clear.0;
    },
  ),
)

-- ---- what an answer of a call says, by which one it is
pub given_some : {A : Type 0} (answer : Option A) (x : A) (P : A → Type 0) → answer ≡ Some x → IfSome answer P → P x
given_some {A} answer x P is h = subst (λ (o : Option A). IfSome o P) is h

pub given_none : {A : Type 0} (answer : Option A) (P : Type 0) → answer ≡ None → IfNone answer P → P
given_none {A} answer P is h = subst (λ (o : Option A). IfNone o P) is h
