-- The runs after each slice, from poll to poll: the best path of each cost what the last item by then does. So all items of a session.
use Rattle.any_time.proofs.Words.{◌≡◌, ◌<◌, ◌≤◌, ◌*◌, ℕ, List, [], ◌∷◌, Option, Some, None, Ok, Err, IsSomeAnd, MatchOption, inl, inr, true, false, refl, sym}
use Rattle.any_time.proofs.Words.{ap, subst, ◌∙◌, arith, length, All, nat_le, option_map, nat_tests, All-cons, All-head, All-nil, All-tail, All-weaker, FoldsTo}
use Rattle.any_time.proofs.Words.{Ready, Pending, IsClosed, setup_of, Record, Task, state_of_grown, Grown, Shows, best_sum, Answers, EndsWith, GrowBySlices}
use Rattle.any_time.proofs.Words.{IsRunOf, ItemsFall, MissesNoFall, betters_among, last_cost, last_of, up_to, Handles, IsBetter, IsNew, Moves, Polls}
use Rattle.any_time.proofs.Words.{SessionState, Better, Last}
use Rattle.any_time.proofs.FallingItems.{GoesOn-last, Reaches, Tied, first_better, gave, goes, no_best, pending, reaches_on, run_of}
use Rattle.any_time.proofs.KnownOptions.{between, if_there, some_is, there}

-- ---- the items up to so many marks

pub up_to-past : (marks : ℕ) (item : Better) (items : List Better) → marks < item.marks → up_to marks (item ∷ items) ≡ up_to marks items
up_to-past marks item items less = let no : nat_le item.marks marks ≡ false = grind (arith, nat_tests) in rw no refl

pub up_to-within : (marks : ℕ) (item : Better) (items : List Better) → item.marks ≤ marks → up_to marks (item ∷ items) ≡ item ∷ up_to marks items
up_to-within marks item items low = let yes : nat_le item.marks marks ≡ true = grind (arith, nat_tests) in rw yes refl

up_to-none : (marks : ℕ) (items : List Better) → All (λ item. marks < item.marks) items → up_to marks items ≡ []
up_to-none marks [] later = refl
up_to-none marks (item ∷ items) later =
    let P : Better → Type 0 = λ x. marks < x.marks in
    up_to-past marks item items (All-head P item items later) ∙ up_to-none marks items (All-tail P item items later)

-- ---- from poll to poll

-- a run that is no better than the last item costs as much
costs_as : (task : Task) (workers slice : ℕ) (run : Grown) (last : Option Last) → Tied task workers slice (Some run) last
    → ¬ IsBetter (best_sum run) last → best_sum run ≡ last_cost last []
costs_as task workers slice run None tied worse = no_best _ worse
costs_as task workers slice run (Some last) tied worse = tied.1.cost

module _ (task : Task) (workers slice : ℕ) (t : SessionState) (end : Grown) (is_end : t.run ≡ Some end)
    (worse : ¬ IsBetter (best_sum end) t.last) where
  -- the runs after this one, and what each cost, if these items came after this last one
  record Follows (last : Option Last) (run : Grown) (items : List Better) : Type 0 where
    pub runs : List Grown
    pub grow : GrowBySlices workers slice run runs end
    pub each : All (λ after. best_sum after ≡ last_cost last (up_to after.limit items)) (run ∷ runs)
    pub high : All (λ after. run.limit ≤ after.limit) (run ∷ runs)
    pub later : All (λ item. run.limit ≤ item.marks) items

  -- a slice before these runs, of which no item came
  Follows-slice : (last : Option Last) (before after : Grown) (items : List Better) → Tied task workers slice (Some before) last
      → ¬ IsBetter (best_sum before) last → Handles workers slice before after → Follows last after items → Follows last before items
  Follows-slice last before after items tied same handles h =
      let more = handles.some in
      let past = All-weaker (λ item. after.limit ≤ item.marks) (λ item. before.limit < item.marks) (λ item low. omega (arith, low, more)) items h.later in
      let own = costs_as task workers slice before last tied same ∙ ap (last_cost last) (sym (up_to-none before.limit items past)) in
      let higher = All-weaker (λ r. after.limit ≤ r.limit) (λ r. before.limit ≤ r.limit) (λ r low. omega (arith, low, more)) (after ∷ h.runs) h.high in
      record {
        runs = after ∷ h.runs;
        grow = (handles, h.grow);
        each = All-cons (λ r. best_sum r ≡ last_cost last (up_to r.limit items)) before (after ∷ h.runs) own h.each;
        high = All-cons (λ r. before.limit ≤ r.limit) before (after ∷ h.runs) (omega arith) higher;
        later = All-weaker (λ item. before.limit < item.marks) (λ item. before.limit ≤ item.marks) (λ item less. omega (arith, less)) items past;
      }

  -- an item that the first of these runs gave
  Follows-item : (last : Option Last) (run : Grown) (item : Better) (items : List Better) → item.marks ≡ run.limit
      → Follows (Some (last_of item)) run items → Follows last run (item ∷ items)
  Follows-item last run item items marks h = record {
    runs = h.runs;
    grow = h.grow;
    each = λ k d within.
        let low = h.high k d within in
        h.each k d within ∙ ap (last_cost last) (sym (up_to-within _ item items (omega (arith, low, marks))));
    high = h.high;
    later = All-cons (λ x. run.limit ≤ x.marks) item items (omega (arith, marks)) h.later;
  }

  by_orders : (s : SessionState) (before after : Grown) → s.workers ≡ workers → s.slice ≡ slice → Handles s.workers s.slice before after
      → Handles workers slice before after
  by_orders s before after ew es h = subst (λ w. Handles w slice before after) ew (subst (λ m. Handles s.workers m before after) es h)

  follows : (s : SessionState) (answers : Answers) (run : Grown) → s.workers ≡ workers → s.slice ≡ slice → s.run ≡ Some run
      → Tied task workers slice s.run s.last → FoldsTo Polls s answers t → Follows s.last run (betters_among answers)
  follows s [] run ew es here tied polled =
      let same : run ≡ end = some_is run end (sym here ∙ ap (λ (u : SessionState). u.run) polled ∙ is_end) in
      let still : ¬ IsBetter (best_sum run) s.last = λ better.
      worse (subst (IsBetter (best_sum end)) (ap (λ (u : SessionState). u.last) polled) (subst (λ (r : Grown). IsBetter (best_sum r) s.last) same better)) in
      let own = costs_as task workers slice run s.last (subst (λ (o : Option Grown). Tied task workers slice o s.last) here tied) still in
      record {
        runs = [];
        grow = same;
        each = All-cons (λ r. best_sum r ≡ last_cost s.last []) run [] own (All-nil (λ r. best_sum r ≡ last_cost s.last []));
        high = All-cons (λ r. run.limit ≤ r.limit) run [] (omega arith) (All-nil (λ r. run.limit ≤ r.limit));
        later = All-nil (λ item. run.limit ≤ item.marks);
      }
  follows s (Pending ∷ answers) run ew es here tied polled =
      let u = polled.0 in
      let b = between (λ b a. (¬ IsBetter (best_sum b) s.last) × Handles s.workers s.slice b a × (¬ IsBetter (best_sum a) s.last))
      s.run u.run run here polled.1.2 in
      let next = pending task workers slice s s.run u.run u.last ew es polled.1.1 tied polled.1.2 in
      let rest = follows u answers b.value (polled.1.0.workers ∙ ew) (polled.1.0.slice ∙ es) b.is next polled.2 in
      Follows-slice s.last run b.value (betters_among answers) (subst (λ (o : Option Grown). Tied task workers slice o s.last) here tied)
      b.has.0 (by_orders s run b.value ew es b.has.1) (subst (λ (l : Option Last). Follows l b.value (betters_among answers)) polled.1.1 rest)
  follows s (Ready None ∷ answers) run ew es here tied polled =
      let same = polled.1.1 in
      subst (λ (u : SessionState). Follows u.last run (betters_among answers)) same
      (follows polled.0 answers run (ap (λ (u : SessionState). u.workers) same ∙ ew) (ap (λ (u : SessionState). u.slice) same ∙ es)
      (ap (λ (u : SessionState). u.run) same ∙ here) (subst (λ (u : SessionState). Tied task workers slice u.run u.last) (sym same) tied) polled.2)
  follows s (Ready (Some (Ok item)) ∷ answers) run ew es here tied polled =
      let u = polled.0 in
      let b = between (λ b a. Moves s b a × IsBetter (best_sum a) s.last × Shows a item) s.run u.run run here polled.1.2 in
      let next = (gave task workers slice s item s.run u.run t.run u.last ew es polled.1.1 tied polled.1.2 (reaches_on u t answers polled.2)).1 in
      let rest = follows u answers b.value (polled.1.0.workers ∙ ew) (polled.1.0.slice ∙ es) b.is next polled.2 in
      let given = Follows-item s.last b.value item (betters_among answers) b.has.2.marks
      (subst (λ (l : Option Last). Follows l b.value (betters_among answers)) polled.1.1 rest) in
      elim (first_better (best_sum run) s.last) [
        | inl better ↦ subst (λ (r : Grown). Follows s.last r (item ∷ betters_among answers)) (b.has.0.now better) given
        | inr none ↦ Follows-slice s.last run b.value (item ∷ betters_among answers)
            (subst (λ (o : Option Grown). Tied task workers slice o s.last) here tied) none (by_orders s run b.value ew es (b.has.0.later none)) given
      ]
  follows s (Ready (Some (Err e)) ∷ answers) run ew es here tied polled =
      absurd (subst (λ (o : Option Grown). Reaches o (Some end)) polled.1.2
      (subst (λ (o : Option Grown). Reaches polled.0.run o) is_end (reaches_on polled.0 t answers polled.2)))

-- ---- from the start to the end

ends : (task : Task) (workers slice : ℕ) (run : Grown) → IsRunOf task workers slice run → run.limit ≡ length run.task.marks → EndsWith task workers run
ends task workers slice run h whole =
    let all = whole ∙ ap (λ (t : Task). length t.marks) h.of_task in
    let closed = subst (λ n. IsClosed (setup_of run.task.scene) run.task.marks n (state_of_grown run)) all run.hold_run.closed in
    record {
      of_task = h.of_task;
      all_marks = all;
      closed = subst (λ (t : Task). IsClosed (setup_of t.scene) t.marks (length task.marks) (state_of_grown run)) h.of_task closed;
      settled = h.settled;
      by_workers = h.by_workers;
      textbook = h.textbook;
    }

no_record : (run : Grown) (k : ℕ) (entry : Record) → (state_of_grown run).record_of k ≡ Some entry → run.limit ≡ 0 → ⊥
no_record run k entry is zero = let none = run.hold_run.closed.records.none_else k (omega (arith, zero)) in cc

fresh : (task : Task) (workers slice : ℕ) (run : Option Grown) (last : Option Last) → last ≡ None → IsSomeAnd run (IsNew task)
    → Tied task workers slice run last
fresh task workers slice None last e h = tt
fresh task workers slice (Some run) last e h =
    subst (λ (l : Option Last). Tied task workers slice (Some run) l) (sym e)
    (let none : 0 * slice ≡ 0 = omega arith in (
      record {
        of_task = h.0;
        settled = h.2;
        slices = (omega (arith, h.1), inl (0, h.1 ∙ sym none));
        by_workers = λ k entry is. absurd (no_record run k entry is h.1);
        textbook = λ one. h.3;
      },
      inr h.1,
    ))

pub items_fall_on : ItemsFall
items_fall_on task workers slice s t answers new polled =
    let tied = fresh task workers slice s.run s.last new.nothing new.run in
    let all = GoesOn-last task workers slice s.last None (betters_among answers) t new.nothing
    (goes task workers slice s t answers new.workers_are new.slice_is tied polled) in
    let first = there (IsNew task) s.run new.run in (
      record { falls = all.falls; found = all.found; lead = all.lead; first = all.first refl },
      λ over. if_there (λ run. EndsWith task workers run × MissesNoFall task workers slice (betters_among answers) run) t.run (λ run is.
          let own = subst (λ (o : Option Grown). Tied task workers slice o t.last) is all.tied in
          let done = subst (λ (o : Option Grown). MatchOption o (Unit {0}) (λ r. (r.limit ≡ length r.task.marks) × ¬ IsBetter (best_sum r) t.last)) is over in
          let rest = subst (λ (l : Option Last). Follows task workers slice t run is done.1 l first.value (betters_among answers)) new.nothing
          (follows task workers slice t run is done.1 s answers first.value new.workers_are new.slice_is first.is tied polled) in (
            ends task workers slice run (run_of task workers slice run t.last own) done.0,
            record {
              first = first.value;
              new = first.has;
              runs = rest.runs;
              grow = rest.grow;
              each = rest.each;
              last = costs_as task workers slice run t.last own done.1 ∙ ap (option_map (λ (l : Last). l.cost)) all.last_is;
            },
          )),
    )
