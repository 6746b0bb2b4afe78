-- Which status the bytes of the source decide, from the answer and its cause.
use Rattle.planner.proofs.Words.{◌≡◌, ℕ, ◌≤◌, ◌<◌, ◌⊎◌, inl, inr, Bool, true, false, IsTrue, MatchBool, Option, Some, None, IfSome, List, [], ◌∷◌, length, refl}
use Rattle.planner.proofs.Words.{sym, ap, subst, ◌∙◌, arith, and_parts, false≢true, MOST_TEXT_BYTES, Scene, Kind, Spells, supported, SourceState}
use Rattle.planner.proofs.Words.{SpellsBatch-not_refused, SpellsBatch-one_batch, Spells-not_refused, Spells-one_scene, ClearAt-middle, CameTooLong, Verdict}
use Rattle.planner.proofs.Words.{Broken, Lawful, Command, Refusal, NO_PATH, GOAL_BLOCKED, TEXT_REFUSED, START_BLOCKED, NO_MEMORY, Done, input_of, plans}
use Rattle.planner.proofs.Words.{reads_text, tests_goal, tests_start, greatest_success, BlocksGoal, BlocksStart, IsCaused, IsSceneOf, IsSuccess, MayReach}
use Rattle.planner.proofs.Words.{MayStart, OfScene, Succeeds, status_of_report, IsDecidedBy, IsDecided, Input, nothing, one_scene, several_scenes}
use Rattle.planner.proofs.Words.{scene_and_report, AreGoalsClear, AreStartsClear, RefusesInput, SpellsInput, IsTextBeforeReport, RefusesFront, RefusesWhole}
use Rattle.planner.proofs.Words.{ReadFailed, IsReadWhole, IsUnread, status_of, status_of_verdict}
use Rattle.planner.specs.declared.commands.Command.TheVariants as commands
use Rattle.planner.specs.declared.refusals.Refusal.TheVariants as refusals
use Rattle.planner.proofs.KnownBytes.{came_count}
use Rattle.planner.proofs.CutTexts.{IsCutAtReport-has_line, IsCutAtReport-one_front}

-- a scene that stands before a line `report` is not refused
not_faulty_front : (bytes : List ℕ) (scene : Scene) (number : ℕ) (kind : Kind) → IsTextBeforeReport scene bytes →
    RefusesFront number kind bytes ⊎ RefusesWhole number kind bytes → ⊥
not_faulty_front bytes scene number kind t (inl f) =
    let same = IsCutAtReport-one_front bytes t.front t.report f.front f.report t.cut f.cut in
    Spells-not_refused supported f.front scene number kind (subst (λ text. Spells supported text scene) same t.spelled) f.refused
not_faulty_front bytes scene number kind t (inr f) = IsCutAtReport-has_line bytes t.front t.report t.cut f.none

-- and it is one
same_front : (bytes : List ℕ) (a b : Scene) → IsTextBeforeReport a bytes → IsTextBeforeReport b bytes → a ≡ b
same_front bytes a b s t =
    let same = IsCutAtReport-one_front bytes t.front t.report s.front s.report t.cut s.cut in
    Spells-one_scene supported s.front a b s.spelled (subst (λ text. Spells supported text b) same t.spelled)

-- an input that spells scenes is not refused
not_faulty : (input : Input) (bytes : List ℕ) (scenes : List Scene) (number : ℕ) (kind : Kind) → SpellsInput input bytes scenes →
    RefusesInput input number kind bytes → ⊥
not_faulty nothing bytes scenes number kind t f = f
not_faulty one_scene bytes (scene ∷ []) number kind t f = Spells-not_refused supported bytes scene number kind t.spelled f.refused
not_faulty one_scene bytes scenes number kind t f = t
not_faulty several_scenes bytes scenes number kind t f = SpellsBatch-not_refused supported bytes scenes number kind t.spelled f.refused
not_faulty scene_and_report bytes (scene ∷ []) number kind t f = not_faulty_front bytes scene number kind t f.refused
not_faulty scene_and_report bytes scenes number kind t f = t

-- and has a permitted length
short_input : (input : Input) (bytes : List ℕ) (scenes : List Scene) → SpellsInput input bytes scenes → length bytes ≤ MOST_TEXT_BYTES
short_input nothing bytes scenes t = omega (arith, ap length t.0)
short_input one_scene bytes (scene ∷ []) t = t.short
short_input one_scene bytes scenes t = absurd t
short_input several_scenes bytes scenes t = t.short
short_input scene_and_report bytes (scene ∷ []) t = t.short
short_input scene_and_report bytes scenes t = absurd t

-- in one way
one_input : (input : Input) (bytes : List ℕ) (scenes others : List Scene) → SpellsInput input bytes scenes → SpellsInput input bytes others →
    scenes ≡ others
one_input nothing bytes scenes others s t = s.1 ∙ sym t.1
one_input one_scene bytes (a ∷ []) (b ∷ []) s t = ap (λ scene. scene ∷ []) (Spells-one_scene supported bytes a b s.spelled t.spelled)
one_input one_scene bytes (a ∷ []) others s t = absurd t
one_input one_scene bytes scenes others s t = absurd s
one_input several_scenes bytes scenes others s t = SpellsBatch-one_batch supported bytes scenes others s.spelled t.spelled
one_input scene_and_report bytes (a ∷ []) (b ∷ []) s t = ap (λ scene. scene ∷ []) (same_front bytes a b s t)
one_input scene_and_report bytes (a ∷ []) others s t = absurd t
one_input scene_and_report bytes scenes others s t = absurd s

module _ (bytes : List ℕ) (command : Command) (status : ℕ) where
  -- what holds of the scenes that the bytes spell holds of whatever scenes they spell
  same_scenes : (P : List Scene → Type 0) (scenes others : List Scene) → SpellsInput (input_of command) bytes scenes →
      SpellsInput (input_of command) bytes others → P scenes → P others
  same_scenes P scenes others s t = subst P (one_input (input_of command) bytes scenes others s t)

  -- the bytes spell scenes at whose starts the command may start, and it succeeds
  by_success : (scenes : List Scene) → SpellsInput (input_of command) bytes scenes → MayStart command scenes → MayReach command scenes
      → status ≤ greatest_success command → IsDecidedBy bytes command status
  by_success scenes t may reach low = record {
    done = λ others s m r. low;
    goal_blocked = λ others s tests starts blocked. absurd (blocked (same_scenes AreGoalsClear scenes others t s (reach tests)));
    blocked = λ others s tests blocked. absurd (blocked (same_scenes AreStartsClear scenes others t s (may tests)));
    refused = λ number kind f. absurd (not_faulty (input_of command) bytes scenes number kind t f);
    long = λ long. let short = short_input (input_of command) bytes scenes t in absurd (omega arith);
  }

  by_fault : (number : ℕ) (kind : Kind) → RefusesInput (input_of command) number kind bytes → status ≡ TEXT_REFUSED → IsDecidedBy bytes command status
  by_fault number kind f e = record {
    done = λ scenes t may reach. absurd (not_faulty (input_of command) bytes scenes number kind t f);
    blocked = λ scenes t tests blocked. absurd (not_faulty (input_of command) bytes scenes number kind t f);
    goal_blocked = λ scenes t tests starts blocked. absurd (not_faulty (input_of command) bytes scenes number kind t f);
    refused = λ other_number other_kind other. e;
    long = λ long. e;
  }

  by_start : BlocksStart command bytes → IsTrue (tests_start command) → status ≡ START_BLOCKED → IsDecidedBy bytes command status
  by_start b tests e = record {
    done = λ scenes t may reach. absurd (b.blocked (same_scenes AreStartsClear scenes b.scenes t b.spelled (may tests)));
    goal_blocked = λ scenes t tests' starts blocked. absurd (b.blocked (same_scenes AreStartsClear scenes b.scenes t b.spelled starts));
    blocked = λ scenes t tests' blocked. e;
    refused = λ number kind f. absurd (not_faulty (input_of command) bytes b.scenes number kind b.spelled f);
    long = λ long. let short = short_input (input_of command) bytes b.scenes b.spelled in absurd (omega arith);
  }

  by_goal : BlocksGoal command bytes → IsTrue (tests_goal command) → status ≡ GOAL_BLOCKED → IsDecidedBy bytes command status
  by_goal b tests e = record {
    done = λ scenes t may reach. absurd (b.blocked (same_scenes AreGoalsClear scenes b.scenes t b.spelled (reach tests)));
    blocked = λ scenes t tests' blocked. absurd (blocked (same_scenes AreStartsClear b.scenes scenes b.spelled t b.starts));
    goal_blocked = λ scenes t tests' starts blocked. e;
    refused = λ number kind f. absurd (not_faulty (input_of command) bytes b.scenes number kind b.spelled f);
    long = λ long. let short = short_input (input_of command) bytes b.scenes b.spelled in absurd (omega arith);
  }

  by_length : MOST_TEXT_BYTES < length bytes → status ≡ TEXT_REFUSED → IsDecidedBy bytes command status
  by_length long e = record {
    done = λ scenes t may reach. let short = short_input (input_of command) bytes scenes t in absurd (omega arith);
    blocked = λ scenes t tests blocked. let short = short_input (input_of command) bytes scenes t in absurd (omega arith);
    goal_blocked = λ scenes t tests starts blocked. let short = short_input (input_of command) bytes scenes t in absurd (omega arith);
    refused = λ number kind f. e;
    long = λ longer. e;
  }

low_report : (found : Bool) → status_of_report found ≤ NO_PATH
low_report true = omega arith
low_report false = omega arith

low_verdict : (verdict : Verdict) → status_of_verdict verdict ≤ NO_PATH
low_verdict Lawful = omega arith
low_verdict (Broken at law) = omega arith

-- a command that succeeds ends with one of its statuses of success
pub Succeeds-low : (command : Command) (bytes : List ℕ) (done : Done) (text : List ℕ) → Succeeds command bytes done text →
    done.status ≤ greatest_success command
Succeeds-low (commands.Twin workers) bytes done text s = rw s.meaning.bridge (low_report _)
Succeeds-low (commands.Batch workers slice) bytes done text s = rw s.meaning.best (low_report _)
Succeeds-low commands.Check bytes done text s = rw s.meaning.status (low_verdict _)
Succeeds-low commands.Show bytes done text s = omega (arith, s.meaning.status)
Succeeds-low commands.Convert bytes done text s = omega (arith, s.meaning.written.status)
Succeeds-low (commands.Gen number) bytes done text s = omega (arith, s.meaning.status)
Succeeds-low command bytes done text s = rw s.meaning.reported.best (low_report _)

greatest_success-low : (command : Command) → greatest_success command ≤ NO_PATH
greatest_success-low commands.Show = omega arith
greatest_success-low command = omega arith

pub IsSuccess-low : (asked : Option Command) (before now : SourceState) (done : Done) (text : List ℕ) → IsSuccess asked before now done text →
    done.status ≤ NO_PATH
IsSuccess-low asked before now done text s =
    omega (arith, Succeeds-low s.command s.bytes done text s.meaning, greatest_success-low s.command)

-- the scene of a command that reads a text is what its bytes spell
spelled : (command : Command) (bytes : List ℕ) (scene : Scene) → IsSceneOf command bytes scene → IsTrue (reads_text command) →
    SpellsInput (input_of command) bytes (scene ∷ [])
spelled (commands.Batch workers slice) bytes scene is reads = absurd is
spelled (commands.Gen number) bytes scene is reads = absurd (false≢true reads)
spelled (commands.Trial number) bytes scene is reads = absurd (false≢true reads)
spelled command bytes scene is reads = is

-- so one that succeeds with something of its scene does so as the bytes decide
by_scene : (bytes : List ℕ) (command : Command) (status : ℕ) (P : Scene → Type 0) (s : OfScene command bytes P) → IsTrue (reads_text command) →
    MayReach command (s.scene ∷ []) → status ≤ greatest_success command → IsDecidedBy bytes command status
by_scene bytes command status P s reads reach low =
    by_success bytes command status (s.scene ∷ []) (spelled command bytes s.scene s.of_command reads)
    (λ tests. (s.start (and_parts (reads_text command) (plans command) tests).1, tt)) reach low

by_meaning : (bytes : List ℕ) (command : Command) (done : Done) (text : List ℕ) → Succeeds command bytes done text →
    IsTrue (reads_text command) → IsDecidedBy bytes command done.status
by_meaning bytes command done text s reads = by command s reads (Succeeds-low command bytes done text s)
  where
    by : (command : Command) → Succeeds command bytes done text → IsTrue (reads_text command) → done.status ≤ greatest_success command →
        IsDecidedBy bytes command done.status
    by (commands.Twin workers) s reads low =
        by_scene bytes (commands.Twin workers) done.status _ s reads (λ tests. (ClearAt-middle workers s.scene s.meaning.both s.meaning.twin, tt)) low
    by (commands.Batch workers slice) s reads low =
        by_success bytes (commands.Batch workers slice) done.status s.scenes s.spelled (λ tests. s.starts) (λ tests. absurd (false≢true tests)) low
    by (commands.Gen number) s reads low = absurd (false≢true reads)
    by (commands.Trial number) s reads low = absurd (false≢true reads)
    by command s reads low = by_scene bytes command done.status _ s reads (λ tests. absurd (false≢true tests)) low

-- known bytes of which more came than a text may have are too many
long_before : (before now : Option (List ℕ)) (bytes : List ℕ) → CameTooLong before now → before ≡ Some bytes → MOST_TEXT_BYTES < length bytes
long_before before now bytes came is = let count = came_count before now bytes came.0 is came.2 in omega (arith, came.1)

module _ (before now : SourceState) (command : Command) (status : ℕ) where
  -- what a command has read decides its status as the bytes of the source do
  by_reading : (reads : Bool) (bytes : List ℕ) → MatchBool reads (IsReadWhole before now bytes) (IsUnread before now) →
      (IsTrue reads → IsDecidedBy bytes command status) → status ≤ greatest_success command →
      MatchBool reads ((known : List ℕ) → before.bytes_left ≡ Some known → IsDecidedBy known command status) (status ≤ greatest_success command)
  by_reading true bytes whole decided low = λ known is. subst (λ (b : List ℕ). IsDecidedBy b command status) (whole.all known is) (decided refl)
  by_reading false bytes unread decided low = low

  of_reader : IsTrue (reads_text command) → ((known : List ℕ) → before.bytes_left ≡ Some known → IsDecidedBy known command status) →
      IsDecided before.bytes_left command status
  of_reader reads decided =
      subst (λ (b : Bool).
      MatchBool b ((known : List ℕ) → before.bytes_left ≡ Some known → IsDecidedBy known command status) (status ≤ greatest_success command))
      (sym reads) decided

  of_whole : IsTrue (reads_text command) → (bytes : List ℕ) → IsReadWhole before now bytes → IsDecidedBy bytes command status →
      IsDecided before.bytes_left command status
  of_whole reads bytes whole decided =
      of_reader reads (λ known is. subst (λ (b : List ℕ). IsDecidedBy b command status) (whole.all known is) decided)

-- the status of a success
pub success_decided : (asked : Option Command) (before now : SourceState) (done : Done) (text : List ℕ) → IsSuccess asked before now done text →
    IfSome asked (λ command. IsDecided before.bytes_left command done.status)
success_decided asked before now done text s =
    let decided = by_meaning s.bytes s.command done text s.meaning in
    let low = Succeeds-low s.command s.bytes done text s.meaning in
    subst (λ (a : Option Command). IfSome a (λ command. IsDecided before.bytes_left command done.status)) (sym s.known)
    (by_reading before now s.command done.status (reads_text s.command) s.bytes s.read decided low)

-- a command that tests the goal of a scene reads it
tests_goal-reads : (command : Command) → IsTrue (tests_goal command) → IsTrue (reads_text command)
tests_goal-reads (commands.Twin workers) tests = refl
tests_goal-reads command tests = absurd (false≢true tests)

-- the status of a refusal, if no read failed
pub refusal_decided : (asked : Option Command) (before now : SourceState) (refusal : Refusal) → IsCaused asked before now refusal →
    ¬ ReadFailed before now → (status_of refusal ≡ NO_MEMORY) ⊎ IfSome asked (λ command. IsDecided before.bytes_left command (status_of refusal))
refusal_decided None before now refusal cause sure = inr tt
refusal_decided (Some command) before now refusals.Words cause sure = absurd cc
refusal_decided (Some command) before now refusals.TooLong cause sure =
    inr (of_reader before now command _ cause.0
    (λ known is. by_length known command _ (long_before before.bytes_left now.bytes_left known cause.1.came is) refl))
refusal_decided (Some command) before now (refusals.Text number kind) cause sure =
    inr (of_whole before now command _ cause.0 cause.1.0 cause.1.1 (by_fault cause.1.0 command _ number kind cause.1.2 refl))
refusal_decided (Some command) before now refusals.StartBlocked cause sure =
    let reads = (and_parts (reads_text command) (plans command) cause.0).0 in
    inr (of_whole before now command _ reads cause.1.0 cause.1.1 (by_start cause.1.0 command _ cause.1.2 cause.0 refl))
refusal_decided (Some command) before now refusals.GoalBlocked cause sure =
    inr (of_whole before now command _ (tests_goal-reads command cause.0) cause.1.0 cause.1.1 (by_goal cause.1.0 command _ cause.1.2 cause.0 refl))
refusal_decided (Some command) before now refusals.ReadFault cause sure = absurd (sure cause.1.rose)
refusal_decided (Some command) before now refusals.Memory cause sure = inl refl
