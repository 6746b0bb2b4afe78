-- What is answered to words, from the success or the refusal that it is.
use Rattle.planner.proofs.Words.{◌≡◌, ℕ, false, IsTrue, List, [], Some, Result, Ok, Err, IsErrAnd, refl, sym, ap, subst, arith, Keeps-refl, Consumes-nil, Scene}
use Rattle.planner.proofs.Words.{ClearAt, space_of, SourceState, ReadsWithin, goal_middle, TwinFault, Answer, Command, Refusal, input_of, reads_text}
use Rattle.planner.proofs.Words.{tests_goal, Answers, HasScene, IsCaused, Succeeds, IsReadWhole, IsUnread, refusal_of_twin, one_scene, reads_bytes}
use Rattle.twin_trees.specs.declared.twin_runs.TwinFault.TheVariants as faults
use Rattle.planner.specs.declared.refusals.Refusal.TheVariants as refusals
use Rattle.planner.proofs.Causes.{GoalBlocked-caused}

-- a command that reads a text, of which so many bytes came
module _ (command : Command) (before now : SourceState) (reads : IsTrue (reads_text command))
    (within : ReadsWithin before.bytes_left now.bytes_left) where
  -- succeeds
  pub Answers-given : (bytes : List ℕ) (answer : Answer) → IsReadWhole before now bytes → Succeeds command bytes answer.done answer.text.items
      → Answers (Some command) before now (Ok answer)
  Answers-given bytes answer whole meaning = record {
    success = record { command = command; known = refl; bytes = bytes; read = rw reads whole; meaning = meaning };
    refusal = tt;
    unread = λ none. absurd (none reads);
    within = within;
  }

  -- is refused
  pub Answers-refused : (result : Result Answer Refusal) (refusal : Refusal) → IsErrAnd result (λ e. e ≡ refusal)
      → IsCaused (Some command) before now refusal → Answers (Some command) before now result
  Answers-refused (Ok answer) refusal only cause = absurd only
  Answers-refused (Err e) refusal only cause = record {
    success = tt;
    refusal = subst (IsCaused (Some command) before now) (sym only) cause;
    unread = λ none. absurd (none reads);
    within = within;
  }

-- a command that reads one scene, and has it
module _ (command : Command) (before now : SourceState) (scene : Scene) (one : input_of command ≡ one_scene)
    (within : ReadsWithin before.bytes_left now.bytes_left) (h : HasScene before now scene) where
  -- succeeds
  pub Answers-success : (answer : Answer) → Succeeds command h.bytes answer.done answer.text.items → Answers (Some command) before now (Ok answer)
  Answers-success answer meaning = Answers-given command before now (ap reads_bytes one) within h.bytes answer h.read meaning

  -- is out of memory
  pub Answers-no_memory : (result : Result Answer Refusal) → IsErrAnd result (λ e. e ≡ refusals.Memory) → Answers (Some command) before now result
  Answers-no_memory result only =
      Answers-refused command before now (ap reads_bytes one) within result refusals.Memory only (refl, h.read.no_fault)

  -- is refused: its goal is not clear in its middle, or it is out of memory
  pub Answers-twin_fault :
      (fault : TwinFault) (result : Result Answer Refusal) → IsTrue (tests_goal command) → ClearAt (space_of scene) scene.start
      → (fault ≡ faults.GoalBlocked → ¬ ClearAt (space_of scene) (goal_middle scene))
      → IsErrAnd result (λ e. e ≡ refusal_of_twin fault) → Answers (Some command) before now result
  Answers-twin_fault faults.Memory result tests start blocked only = Answers-no_memory result only
  Answers-twin_fault faults.GoalBlocked result tests start blocked only =
      Answers-refused command before now (ap reads_bytes one) within result refusals.GoalBlocked only
      (GoalBlocked-caused command before now scene one tests h start (blocked refl))

-- a command that reads nothing succeeds
pub Answers-made :
    (command : Command) (source : SourceState) (answer : Answer) → reads_text command ≡ false → source.has_ended ≡ false
    → Succeeds command [] answer.done answer.text.items → Answers (Some command) source source (Ok answer)
Answers-made command source answer none unended meaning =
    let unread : IsUnread source source = record { kept = Keeps-refl source.bytes_left; no_end = unended; no_fault = refl } in
    record {
      success = record { command = command; known = refl; bytes = []; read = rw none unread; meaning = meaning };
      refusal = tt;
      unread = λ _. unread;
      within = ([], omega arith, Consumes-nil source.bytes_left);
    }
