-- A session by one worker gives the items of the textbook's runs, and leaves none out.
use Rattle.any_time.proofs.Words.{◌≡◌, ◌<◌, ◌≤◌, ℕ, List, [], ◌∷◌, Option, Some, None, ◌⊎◌, inl, inr, refl, sym, ap, subst, ◌∙◌, arith, get_or, length, min}
use Rattle.any_time.proofs.Words.{◌+◌, ◌*◌, All, Contains, cases_lt, All-cons, All-contains, All-head, All-nil, All-tail, All-weaker, Contains-get_or}
use Rattle.any_time.proofs.Words.{Contains-after, Contains-first, Task, IsOfTextbook, Grown, Shows, best_sum, AreSlices, EndsWith, Fall, GrowBySlices, HasGiven}
use Rattle.any_time.proofs.Words.{IsFound, MissesNoFall, betters_among, last_cost, last_of, up_to, AreTextbookItems, GivesTextbookItems, IsTextbookItem}
use Rattle.any_time.proofs.Words.{IsTextbookPath, Better, Last}
use Rattle.any_time.proofs.EachSlice.{items_fall_on, up_to-past, up_to-within}
use Rattle.any_time.proofs.FallingItems.{best_shown}
use Rattle.any_time.proofs.FirstPaths.{AreSlices-next, below_next}
use Rattle.any_time.proofs.KnownOptions.{held, none_is, some_is, there_some}
use Rattle.any_time.proofs.SamePaths.{IsTextbookPath-shown, Shows-alone, Shows-textbook}

-- ---- items that fall

-- costs less, after more marks
abbrev IsBelow : Last → Better → Type 0
IsBelow last y = (y.cost < last.cost) × (last.marks < y.marks)

-- an item is below each before it
after_all : (last : Last) (items : List Better) → Fall (Some last) items → All (IsBelow last) items
after_all last [] fall = All-nil (IsBelow last)
after_all last (x ∷ xs) fall =
    All-cons (IsBelow last) x xs fall.0
    (All-weaker (IsBelow (last_of x)) (IsBelow last) (λ y below. (omega (arith, fall.0.0, below.0), omega (arith, fall.0.1, below.1))) xs
    (after_all (last_of x) xs fall.1))

-- costs less if it came after more marks
abbrev IsCheaperLater : Better → Better → Type 0
IsCheaperLater x y = x.marks < y.marks → y.cost < x.cost

apart : (last : Option Last) (items : List Better) → Fall last items → All (λ x. All (IsCheaperLater x) items) items
apart last [] fall = All-nil (λ x. All (IsCheaperLater x) [])
apart last (z ∷ zs) fall =
    let past = after_all (last_of z) zs fall.1 in
    All-cons (λ x. All (IsCheaperLater x) (z ∷ zs)) z zs
    (All-cons (IsCheaperLater z) z zs (λ less. absurd (omega (arith, less)))
    (All-weaker (IsBelow (last_of z)) (IsCheaperLater z) (λ y below less. below.0) zs past))
    (λ k d within. All-cons (IsCheaperLater (get_or zs k d)) z zs (λ less. absurd (let high = past k d within in omega (arith, less, high.1)))
    (apart (Some (last_of z)) zs fall.1 k d within))

-- what the last of the items up to so many marks cost is what one of them cost, if there is one
last_up_to : (marks cost : ℕ) (last : Option Last) (items : List Better) → last_cost last (up_to marks items) ≡ Some cost
    → (last_cost last [] ≡ Some cost) ⊎ ((y : Better) × Contains items y × (y.marks ≤ marks) × (y.cost ≡ cost))
last_up_to marks cost last [] is = inl is
last_up_to marks cost last (x ∷ xs) is =
    elim (cases_lt marks x.marks) [
      | inl less ↦ elim (last_up_to marks cost last xs (ap (last_cost last) (sym (up_to-past marks x xs less)) ∙ is)) [
        | inl none ↦ inl none
        | inr (y, at, low, costs) ↦ inr (y, Contains-after x xs y at, low, costs)
      ]
      | inr within ↦ elim (last_up_to marks cost (Some (last_of x)) xs (ap (last_cost last) (sym (up_to-within marks x xs within)) ∙ is)) [
        | inl own ↦ inr (x, Contains-first x xs, within, some_is x.cost cost own)
        | inr (y, at, low, costs) ↦ inr (y, Contains-after x xs y at, low, costs)
      ]
    ]

-- ---- one worker

module _ (task : Task) (slice : ℕ) (items : List Better) (end : Grown) (given : HasGiven task 1 slice items (Some end))
    (none_missed : MissesNoFall task 1 slice items end) (whole : end.limit ≡ length task.marks) where
  -- the textbook's run over so many marks, and what its best path costs
  record RunAfter (marks : ℕ) : Type 0 where
    pub run : Grown
    pub of_task : run.task ≡ task
    pub limit : marks ≡ run.limit
    pub textbook : IsOfTextbook run
    pub cost : best_sum run ≡ last_cost None (up_to marks items)

  abbrev CostsSo : Grown → Type 0
  CostsSo run = best_sum run ≡ last_cost None (up_to run.limit items)

  this_run : (run : Grown) (marks : ℕ) → run.task ≡ task → IsOfTextbook run → CostsSo run → marks ≡ run.limit → RunAfter marks
  this_run run marks of_task textbook cost is =
      record { run = run; of_task = of_task; limit = is; textbook = textbook; cost = cost ∙ ap (λ m. last_cost None (up_to m items)) (sym is) }

  run_after : (run : Grown) (runs : List Grown) → run.task ≡ task → AreSlices slice (length task.marks) run.limit → IsOfTextbook run
      → GrowBySlices 1 slice run runs end → All CostsSo (run ∷ runs)
      → (marks : ℕ) → AreSlices slice (length task.marks) marks → run.limit ≤ marks → RunAfter marks
  run_after run [] of_task at textbook grow each marks is low =
      let top : run.limit ≡ length task.marks = ap (λ (r : Grown). r.limit) grow ∙ whole in
      this_run run marks of_task textbook (All-head CostsSo run [] each) (omega (arith, top, low, is.0))
  run_after run (next ∷ runs) of_task at textbook grow each marks is low =
      let handles = grow.0 in
      let limit = handles.limit ∙ ap (λ (t : Task). min (run.limit + slice) (length t.marks)) of_task in
      elim (cases_lt marks next.limit) [
        | inl less ↦ (
            let most = below_next slice (length task.marks) run.limit next.limit at handles.some limit marks is less in
            this_run run marks of_task textbook (All-head CostsSo run (next ∷ runs) each) (omega (arith, low, most)))
        | inr high ↦
            run_after next runs (handles.task ∙ of_task) (AreSlices-next slice (length task.marks) run.limit next.limit at handles.some limit)
            (handles.textbook refl textbook) grow.1 (All-tail CostsSo run (next ∷ runs) each) marks is high
      ]

  after : (marks : ℕ) → AreSlices slice (length task.marks) marks → RunAfter marks
  after marks is =
      let new = none_missed.new in
      let start : 0 * slice ≡ 0 = omega arith in
      run_after none_missed.first none_missed.runs new.0 (omega (arith, new.1), inl (0, new.1 ∙ sym start)) new.3 none_missed.grow none_missed.each
      marks is (omega (arith, new.1))

  shown_by : (run : Grown) → run.task ≡ task → IsOfTextbook run → (x : Better) → IsTextbookPath task x → x.marks ≡ run.limit → Shows run x
  shown_by run of_task textbook x path marks = Shows-textbook run textbook x (subst (λ (t : Task). IsTextbookPath t x) (sym of_task) path) marks

  -- an item that came by then cost as much as the best path over so many marks
  last_by : (x : Better) → AreSlices slice (length task.marks) x.marks → IsTextbookPath task x
      → (y : Better) × Contains items y × (y.marks ≤ x.marks) × (y.cost ≡ x.cost)
  last_by x is path =
      let r = after x.marks is in
      let cost = sym r.cost ∙ best_shown r.run x (shown_by r.run r.of_task r.textbook x path r.limit) in
      elim (last_up_to x.marks x.cost None items cost) [ inl none ↦ absurd (none_is x.cost none) | inr one ↦ one ]

  found_at : (item : Better) → Contains items item → IsFound task 1 slice (Some end) item
  found_at item at = All-contains (IsFound task 1 slice (Some end)) items item given.found at

  is_item : (item : Better) → Contains items item → IsTextbookItem task slice item
  is_item item at =
      let found = found_at item at in
      record {
        slices = subst (AreSlices slice (length task.marks)) (sym found.shown.marks) found.run_is.slices;
        best = subst (λ (t : Task). IsTextbookPath t item) found.run_is.of_task (IsTextbookPath-shown found.run (found.run_is.textbook refl) item found.shown);
        cheaper = λ x is less path.
            let y = last_by x is path in
            let falls = All-contains (λ z. All (IsCheaperLater z) items) items y.0 (apart None items given.falls) y.1 in
            let below = All-contains (IsCheaperLater y.0) items item falls at (omega (arith, y.2, less)) in
            omega (arith, below, y.3);
      }

  is_given : (x : Better) → IsTextbookItem task slice x → Contains items x
  is_given x is =
      let y = last_by x is.slices is.best in
      let found = found_at y.0 y.1 in
      elim (cases_lt y.0.marks x.marks) [
        | inl less ↦ (let own = is_item y.0 y.1 in absurd (let dear = is.cheaper y.0 own.slices less own.best in omega (arith, dear, y.3)))
        | inr not ↦
            let marks : x.marks ≡ found.run.limit = omega (arith, y.2, not, found.shown.marks) in
            let shown = shown_by found.run found.run_is.of_task (found.run_is.textbook refl) x is.best marks in
            subst (Contains items) (Shows-alone found.run y.0 x found.shown shown) y.1
      ]

  pub AreTextbookItems-given : AreTextbookItems task slice items
  AreTextbookItems-given = record { each = λ k d within. is_item _ (Contains-get_or items k d within); all = is_given }

pub gives_textbook_items : GivesTextbookItems
gives_textbook_items task slice s t answers new polled over is_there =
    let law = items_fall_on task 1 slice s t answers new polled in
    let run = there_some t.run is_there in
    let end = held (λ (r : Grown). EndsWith task 1 r × MissesNoFall task 1 slice (betters_among answers) r) t.run run.0 run.1 (law.1 over) in
    AreTextbookItems-given task slice (betters_among answers) run.0
    (subst (λ (o : Option Grown). HasGiven task 1 slice (betters_among answers) o) run.1 law.0) end.1 end.0.all_marks
