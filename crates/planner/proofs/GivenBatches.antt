-- What is answered to a command that reads several scenes, and what comes of their sessions.
use Rattle.planner.proofs.Words.{◌≡◌, ℕ, zero, suc, ◌<◌, ◌≤◌, ◌+◌, ◌++◌, IsTrue, List, [], ◌∷◌, length, get_or, below_more, Option, Some, None, IsSome}
use Rattle.planner.proofs.Words.{IsSomeAnd, Result, Ok, Err, IsErrAnd, refl, sym, ap, subst, ◌∙◌, arith, and_from, list_all, get_or_append_left, get_or_push}
use Rattle.planner.proofs.Words.{Point, Scene, Task, IsClosed, setup_of, mark_points, ClearAt, space_of, SourceState, IsSettled, MOST_TEXT_BYTES}
use Rattle.planner.proofs.Words.{state_of_grown, IsOfTextbookRun-whole, IsBatchRefusal, ReadsWithin, SceneRefusal, Grown, HasFinished, has_path, batch_report}
use Rattle.planner.proofs.Words.{IsFresh, SessionState, Better, HaveSessions, IsSessionOf, Answer, Command, Refusal, input_of, plans, reads_text, Done, Answers}
use Rattle.planner.proofs.Words.{HandsOutNothing, HasBatch, IsCaused, IsRunBySlices, ReportsBatch, Succeeds, status_of_report, IsReadWhole, refusal_of_scene}
use Rattle.planner.proofs.Words.{AreStartsClear, Input, RefusesInput, SpellsInput, several_scenes, reads_bytes}
use Rattle.scene_text.specs.declared.refusals.SceneRefusal.TheVariants as reading
use Rattle.planner.proofs.GivenAnswers.{Answers-given, Answers-refused}
use Rattle.planner.specs.declared.refusals.Refusal.TheVariants as refusals

-- a command that reads several scenes, and has them
module _ (command : Command) (before now : SourceState) (scenes : List Scene) (several : input_of command ≡ several_scenes)
    (within : ReadsWithin before.bytes_left now.bytes_left) (h : HasBatch before now scenes) where
  reads : IsTrue (reads_text command)
  reads = ap reads_bytes several

  -- succeeds
  pub Answers-batch : (answer : Answer) → Succeeds command h.bytes answer.done answer.text.items → Answers (Some command) before now (Ok answer)
  Answers-batch answer meaning = Answers-given command before now reads within h.bytes answer h.read meaning

  -- is out of memory
  pub Answers-batch_no_memory : (result : Result Answer Refusal) → IsErrAnd result (λ e. e ≡ refusals.Memory) → Answers (Some command) before now result
  Answers-batch_no_memory result only = Answers-refused command before now reads within result refusals.Memory only (refl, h.read.no_fault)

  -- finds a start that is not clear
  pub Answers-batch_blocked : IsTrue (plans command) → ¬ AreStartsClear scenes → Answers (Some command) before now (Err refusals.StartBlocked)
  Answers-batch_blocked planned blocked =
      Answers-refused command before now reads within (Err refusals.StartBlocked) refusals.StartBlocked refl (
        and_from (reads_text command) (plans command) reads planned,
        (
          h.bytes,
          h.read,
          record {
            scenes = scenes;
            spelled = subst (λ (input : Input). SpellsInput input h.bytes scenes) (sym several) h.spelled;
            blocked = blocked;
          },
        ),
      )

-- a text that is refused as a batch, or too little memory to read it, is the cause of its refusal
pub read_batch-caused : (command : Command) (before now : SourceState) (text : List ℕ) (refusal : SceneRefusal) → input_of command ≡ several_scenes
    → IsReadWhole before now text → length text ≤ MOST_TEXT_BYTES → IsBatchRefusal text refusal
    → IsCaused (Some command) before now (refusal_of_scene refusal)
read_batch-caused command before now text (reading.Fault fault) several whole short refused = (
  ap reads_bytes several,
  (
    text,
    whole,
    subst (λ (input : Input). RefusesInput input fault.line fault.kind text) (sym several) (record { short = short; refused = refused }),
  ),
)
read_batch-caused command before now text reading.Memory several whole short refused = (refl, whole.no_fault)

-- ---- the starts, by their numbers
pub clear_by_number : (scenes : List Scene) → ((i : ℕ) (d : Scene) → i < length scenes → ClearAt (space_of (get_or scenes i d)) (get_or scenes i d).start)
    → AreStartsClear scenes
clear_by_number [] h = tt
clear_by_number (scene ∷ scenes) h = (h 0 scene (omega arith), clear_by_number scenes (λ i d within. h (suc i) d (omega (arith, within))))

pub clear_at_number : (scenes : List Scene) (i : ℕ) (d : Scene) → AreStartsClear scenes → i < length scenes
    → ClearAt (space_of (get_or scenes i d)) (get_or scenes i d).start
clear_at_number [] i d clear within = absurd (omega (arith, within))
clear_at_number (scene ∷ scenes) zero d clear within = clear.0
clear_at_number (scene ∷ scenes) (suc i) d clear within = clear_at_number scenes i d clear.1 (omega (arith, within))

-- ---- sessions that are made one after another
pub one_session_more : (workers slice : ℕ) (scenes : List Scene) (xs : List SessionState) (y : SessionState) (n : ℕ) → length xs ≡ n
    → HaveSessions workers slice scenes xs n → ((scene : Scene) → IsSessionOf workers slice (get_or scenes n scene) y)
    → HaveSessions workers slice scenes (xs ++ y ∷ []) (n + 1)
one_session_more workers slice scenes xs y n long below here = λ i scene s within.
    below_more (λ k. IsSessionOf workers slice (get_or scenes k scene) (get_or (xs ++ y ∷ []) k s)) n
    (λ k low. let short : k < length xs = omega (arith, low, long) in rw (get_or_append_left xs (y ∷ []) s k short) (below k scene s low))
    (rw (get_or_push xs y s n long) (here scene)) i within

pub IsSessionOf-fresh : (workers slice : ℕ) (scene : Scene) (task : Task) (s : SessionState) → IsFresh task workers slice s
    → ClearAt (space_of scene) scene.start → task.scene ≡ scene → IsSessionOf workers slice scene s
IsSessionOf-fresh workers slice scene task s fresh clear of_scene = record { start = clear; task = task; of_scene = of_scene; fresh = fresh }

no_session : SessionState
no_session = record { run = None; workers = 0; slice = 0; last = None }

pub starts_of_sessions : (workers slice : ℕ) (scenes : List Scene) (sessions : List SessionState) → HaveSessions workers slice scenes sessions (length scenes)
    → AreStartsClear scenes
starts_of_sessions workers slice scenes sessions made = clear_by_number scenes (λ i d within. (made i d no_session within).start)

has_run : (run : Option Grown) (P : Grown → Type 0) → IsSomeAnd run P → IsSome run
has_run None P h = absurd h
has_run (Some run) P h = refl

pub all_have_runs : (workers slice : ℕ) (scenes : List Scene) (sessions : List SessionState) → length sessions ≡ length scenes
    → HaveSessions workers slice scenes sessions (length scenes) → (k : ℕ) (d : SessionState) → k < length sessions → IsSome (get_or sessions k d).run
all_have_runs workers slice [] sessions count made k d within = absurd (omega (arith, within, count))
all_have_runs workers slice (scene ∷ scenes) sessions count made k d within =
    has_run (get_or sessions k d).run _ (made k scene d (omega (arith, within, count))).fresh.run

-- what comes of one of them
pub IsRunBySlices-finished : (workers slice : ℕ) (scene : Scene) (task : Task) (items : List Better) (run : Grown) → task.scene ≡ scene
    → HasFinished task workers slice items run → IsRunBySlices workers slice scene run items
IsRunBySlices-finished workers slice scene task items run of_scene h =
    let end = h.ended in
    let scene_is : run.task.scene ≡ scene = ap (λ (t : Task). t.scene) end.of_task ∙ of_scene in
    let marks_are : task.marks ≡ mark_points scene = task.of_scene ∙ ap mark_points of_scene in
    let all_marks : run.limit ≡ length (mark_points scene) = end.all_marks ∙ ap length marks_are in
    record {
      whole = record {
        scene_is = scene_is;
        all_marks = all_marks;
        closed = subst (λ (marks : List Point). IsClosed (setup_of scene) marks (length marks) (state_of_grown run)) marks_are
            (subst (λ (s : Scene). IsClosed (setup_of s) task.marks (length task.marks) (state_of_grown run)) of_scene end.closed);
        settled = end.settled;
        by_workers = end.by_workers;
        textbook = λ one. IsOfTextbookRun-whole scene run scene_is all_marks (end.textbook one);
      };
      better = h.better;
    }

-- of each session that had handled nothing what it has come to
abbrev HaveFinished : List SessionState → List (List Better) → List Grown → Type 0
HaveFinished sessions better runs =
    (task : Task) (workers slice i : ℕ) (s : SessionState) (run : Grown) → i < length sessions → IsFresh task workers slice (get_or sessions i s)
    → HasFinished task workers slice (get_or better i []) (get_or runs i run)

module _ (workers slice : ℕ) (scenes : List Scene) (sessions : List SessionState) (runs : List Grown) (better : List (List Better))
    (count : length sessions ≡ length scenes) (made : HaveSessions workers slice scenes sessions (length scenes))
    (finished : HaveFinished sessions better runs) where
  come_of : (i : ℕ) (scene : Scene) (run : Grown) → i < length scenes
      → IsRunBySlices workers slice (get_or scenes i scene) (get_or runs i run) (get_or better i [])
  come_of i scene run within =
      let s = made i scene no_session within in
      IsRunBySlices-finished workers slice _ s.task _ _ s.of_scene
      (finished s.task workers slice i no_session run (omega (arith, within, count)) s.fresh)

  pub ReportsBatch-finished : (done : Done) (text : List ℕ) → length runs ≡ length sessions → length better ≡ length sessions → done.batch ≡ runs
      → done.better ≡ better → done.status ≡ status_of_report (list_all has_path runs) → text ≡ batch_report 0 better runs
      → HandsOutNothing (record done { batch = []; better = [] }) → ReportsBatch workers slice scenes done text
  ReportsBatch-finished done text many wide batch_is better_is status text_is alone = record {
    runs = ap length batch_is ∙ (many ∙ count);
    lists = ap length better_is ∙ (wide ∙ count);
    each = λ i scene run within.
        subst (λ (rs : List Grown). IsRunBySlices workers slice (get_or scenes i scene) (get_or rs i run) (get_or done.better i [])) (sym batch_is)
        (subst (λ (ys : List (List Better)). IsRunBySlices workers slice (get_or scenes i scene) (get_or runs i run) (get_or ys i [])) (sym better_is)
        (come_of i scene run within));
    best = status ∙ ap (λ (rs : List Grown). status_of_report (list_all has_path rs)) (sym batch_is);
    written = text_is ∙ (ap (λ (ys : List (List Better)). batch_report 0 ys runs) (sym better_is)
        ∙ ap (λ (rs : List Grown). batch_report 0 done.better rs) (sym batch_is));
    alone = alone;
  }

pub settled_runs : (workers slice : ℕ) (scenes : List Scene) (sessions : List SessionState) (runs : List Grown) (better : List (List Better))
    → length sessions ≡ length scenes → HaveSessions workers slice scenes sessions (length scenes) → HaveFinished sessions better runs
    → length runs ≡ length sessions → (k : ℕ) (d : Grown) → k < length runs → IsSettled (state_of_grown (get_or runs k d))
settled_runs workers slice [] sessions runs better count made finished many k d within = absurd (omega (arith, within, count, many))
settled_runs workers slice (scene ∷ scenes) sessions runs better count made finished many k d within =
    (come_of workers slice (scene ∷ scenes) sessions runs better count made finished k scene d (omega (arith, within, count, many))).whole.settled
