-- The items of a session fall, from poll to poll, and stay paths of its run.
use Rattle.any_time.proofs.Words.{◌≡◌, ◌<◌, ◌≤◌, ℕ, List, [], ◌∷◌, Option, Some, None, Ok, Err, IfSome, IsSomeAnd, ◌⊎◌, inl, inr, refl, sym, ap, subst, ◌∙◌}
use Rattle.any_time.proofs.Words.{arith, length, min, ◌+◌, All, option_map, cases_lt, All-cons, All-nil, FoldsTo, Ready, Pending, Poll, Result}
use Rattle.any_time.proofs.Words.{IsGoalNode-grows, GrowsInto-refl, GrowsInto-trans, IsGoalNode, goals_of, GrowsInto, sum_in, Memory, Record, Scene, Task}
use Rattle.any_time.proofs.Words.{state_of_grown, Grown, Shows, best_sum, Answers, AreSlices, Fall, HaveGoalNode, IfFirst, IsFirstPath, IsFound, IsRunOf}
use Rattle.any_time.proofs.Words.{betters_among, last_among, last_of, LeadsIntoGoal, Handles, IsBetter, Moves, Polls, SessionState, Better, Last}
use Rattle.any_time.proofs.BestNodes.{AreNumberedTo-grown, IsGoalNode-best, IsPresent-best}
use Rattle.any_time.proofs.FirstPaths.{AreSlices-next, below_next, none_below, some_entry}
use Rattle.any_time.proofs.FoundPaths.{LeadsIntoGoal-grows, LeadsIntoGoal-shown}
use Rattle.any_time.proofs.SunkSums.{Sinks, Sinks-grows}

-- ---- the run and the last item

-- the last item's cost is the best sum of the run, which has handled at least its marks
pub record IsKept (run : Grown) (last : Last) : Type 0 where
  pub cost : best_sum run ≡ Some last.cost
  pub marks : last.marks ≤ run.limit

-- before the first item the run has no path, or has handled nothing
abbrev pub IsYet : Grown → Type 0
IsYet run = (best_sum run ≡ None) ⊎ (run.limit ≡ 0)

abbrev pub Tied : Task → ℕ → ℕ → Option Grown → Option Last → Type 0
Tied task workers slice None last = Unit {0}
Tied task workers slice (Some run) None = IsRunOf task workers slice run × IsYet run
Tied task workers slice (Some run) (Some last) = IsRunOf task workers slice run × IsKept run last

pub run_of : (task : Task) (workers slice : ℕ) (run : Grown) (last : Option Last) → Tied task workers slice (Some run) last → IsRunOf task workers slice run
run_of task workers slice run None h = h.0
run_of task workers slice run (Some last) h = h.0

-- a mark that was handled has the record that it had
kept_record : (before after : Grown) → GrowsInto (state_of_grown before) (state_of_grown after) → (k : ℕ) (entry : Record)
    → (state_of_grown after).record_of k ≡ Some entry → k < before.limit → (state_of_grown before).record_of k ≡ Some entry
kept_record before after grows k entry is low =
    let old = some_entry _ (before.hold_run.closed.records.recorded k low) in
    let kept = grows.records k old.0 old.1 in
    old.1 ∙ sym kept ∙ is

-- the next marks
IsRunOf-handles : (task : Task) (workers slice : ℕ) (before after : Grown) → IsRunOf task workers slice before
    → Handles workers slice before after → IsRunOf task workers slice after
IsRunOf-handles task workers slice before after h handles =
    let all = ap (λ (t : Task). length t.marks) h.of_task in
    record {
      of_task = handles.task ∙ h.of_task;
      settled = handles.settled;
      slices =
          AreSlices-next slice (length task.marks) before.limit after.limit h.slices handles.some
          (subst (λ n. after.limit ≡ min (before.limit + slice) n) all handles.limit);
      by_workers = λ k entry is.
          elim (cases_lt k before.limit) [
            | inl low ↦ h.by_workers k entry (kept_record before after handles.grows k entry is low)
            | inr high ↦ handles.by_workers k entry is high
          ];
      textbook = λ one. handles.textbook one (h.textbook one);
    }

-- a best sum that sinks and is no better is the same
same_best : (old new : Option ℕ) (last : Last) → old ≡ Some last.cost → Sinks old new → ¬ IsBetter new (Some last) → new ≡ Some last.cost
same_best None new last e s n = cc
same_best (Some x) None last e s n = absurd s
same_best (Some x) (Some y) last e s n =
    let c : x ≡ last.cost = cc in
    let d : y ≡ last.cost = omega arith in ap Some d

pub no_best : (best : Option ℕ) → ¬ IsBetter best None → best ≡ None
no_best None h = refl
no_best (Some cost) h = absurd (h tt)

some_best : (best : Option ℕ) → IsBetter best None → best ≡ None → ⊥
some_best None h e = h
some_best (Some cost) h e = cc

sinks : (task : Task) (workers slice : ℕ) (before after : Grown) → IsRunOf task workers slice before → Handles workers slice before after
    → Sinks (best_sum before) (best_sum after)
sinks task workers slice before after h handles = Sinks-grows before after handles.task handles.grows h.settled handles.settled

goes_on : (task : Task) (workers slice : ℕ) (before after : Grown) (last : Option Last) → Tied task workers slice (Some before) last
    → Handles workers slice before after → ¬ IsBetter (best_sum after) last → Tied task workers slice (Some after) last
goes_on task workers slice before after None h handles worse =
    (IsRunOf-handles task workers slice before after h.0 handles, inl (no_best _ worse))
goes_on task workers slice before after (Some last) h handles worse = (
  IsRunOf-handles task workers slice before after h.0 handles,
  record {
    cost = same_best _ _ last h.1.cost (sinks task workers slice before after h.0 handles) worse;
    marks = omega (arith, h.1.marks, handles.some);
  },
)

-- ---- runs that grow

-- the later run, if it is there, has come of the earlier one
abbrev pub Reaches : Option Grown → Option Grown → Type 0
Reaches before None = Unit {0}
Reaches None (Some after) = ⊥
Reaches (Some before) (Some after) = (after.task ≡ before.task) × GrowsInto (state_of_grown before) (state_of_grown after)

Reaches-refl : (run : Option Grown) → Reaches run run
Reaches-refl None = tt
Reaches-refl (Some run) = (refl, GrowsInto-refl (state_of_grown run))

Reaches-trans : (one mid other : Option Grown) → Reaches one mid → Reaches mid other → Reaches one other
Reaches-trans one mid None f g = tt
Reaches-trans one None (Some other) f g = absurd g
Reaches-trans None (Some mid) (Some other) f g = absurd f
Reaches-trans (Some one) (Some mid) (Some other) f g =
    (g.0 ∙ f.0, GrowsInto-trans (state_of_grown one) (state_of_grown mid) (state_of_grown other) f.1 g.1)

Reaches-gone : (before after : Option Grown) → after ≡ None → Reaches before after
Reaches-gone before after e = subst (Reaches before) (sym e) tt

reaches_pending : (s : SessionState) (before after : Option Grown)
    → IsSomeAnd before (λ b. IsSomeAnd after (λ a. ¬ IsBetter (best_sum b) s.last × Handles s.workers s.slice b a × ¬ IsBetter (best_sum a) s.last))
    → Reaches before after
reaches_pending s None after h = absurd h
reaches_pending s (Some b) None h = absurd h
reaches_pending s (Some b) (Some a) h = (h.1.task, h.1.grows)

pub first_better : (best : Option ℕ) (last : Option Last) → IsBetter best last ⊎ (¬ IsBetter best last)
first_better None last = inr (λ h. h)
first_better (Some cost) None = inl tt
first_better (Some cost) (Some last) = elim (cases_lt cost last.cost) [ inl less ↦ inl less | inr not ↦ inr (λ h. omega (arith, h, not)) ]

reaches_moves : (s : SessionState) (b a : Grown) → Moves s b a → Reaches (Some b) (Some a)
reaches_moves s b a moves =
    elim (first_better (best_sum b) s.last) [
      | inl better ↦ subst (λ (r : Grown). Reaches (Some b) (Some r)) (sym (moves.now better)) (Reaches-refl (Some b))
      | inr worse ↦ ((moves.later worse).task, (moves.later worse).grows)
    ]

reaches_given : (s : SessionState) (item : Better) (before after : Option Grown)
    → IsSomeAnd before (λ b. IsSomeAnd after (λ a. Moves s b a × IsBetter (best_sum a) s.last × Shows a item)) → Reaches before after
reaches_given s item None after h = absurd h
reaches_given s item (Some b) None h = absurd h
reaches_given s item (Some b) (Some a) h = reaches_moves s b a h.0

reaches_once : (s u : SessionState) (answer : Poll (Option (Result Better Memory))) → Polls s answer u → Reaches s.run u.run
reaches_once s u Pending h = reaches_pending s s.run u.run h.2
reaches_once s u (Ready None) h = subst (λ (v : SessionState). Reaches s.run v.run) (sym h.1) (Reaches-refl s.run)
reaches_once s u (Ready (Some (Ok item))) h = reaches_given s item s.run u.run h.2
reaches_once s u (Ready (Some (Err e))) h = Reaches-gone s.run u.run h.2

pub reaches_on : (s t : SessionState) (answers : Answers) → FoldsTo Polls s answers t → Reaches s.run t.run
reaches_on s t [] h = subst (λ (u : SessionState). Reaches s.run u.run) h (Reaches-refl s.run)
reaches_on s t (answer ∷ answers) h = Reaches-trans s.run h.0.run t.run (reaches_once s h.0 answer h.1) (reaches_on h.0 t answers h.2)

-- ---- one item

pub cheaper : (best : Option ℕ) (cost : ℕ) (last : Option Last) → best ≡ Some cost → IsBetter best last → IfSome last (λ l. cost < l.cost)
cheaper best cost None e better = tt
cheaper None cost (Some last) e better = absurd better
cheaper (Some x) cost (Some last) e better = let c : x ≡ cost = cc in omega arith

pub best_shown : (run : Grown) (item : Better) → Shows run item → best_sum run ≡ Some item.cost
best_shown run item shown = ap (option_map (sum_in (state_of_grown run))) shown.best ∙ ap Some (sym shown.cost)

-- a run is no better than the item that it gave
not_better : (best : Option ℕ) (last : Last) → best ≡ Some last.cost → ¬ IsBetter best (Some last)
not_better None last e h = h
not_better (Some cost) last e h = let c : cost ≡ last.cost = cc in omega arith

-- the run of an item is of the task, and came later than the last item
moved : (task : Task) (workers slice : ℕ) (before after : Grown) (last : Option Last) → Tied task workers slice (Some before) last
    → (IsBetter (best_sum before) last → after ≡ before) → (¬ IsBetter (best_sum before) last → Handles workers slice before after)
    → IsRunOf task workers slice after × IfSome last (λ l. l.marks < after.limit)
moved task workers slice before after None tied now later =
    elim (first_better (best_sum before) None) [
      | inl better ↦ (subst (IsRunOf task workers slice) (sym (now better)) tied.0, tt)
      | inr worse ↦ (IsRunOf-handles task workers slice before after tied.0 (later worse), tt)
    ]
moved task workers slice before after (Some last) tied now later =
    let handles = later (not_better _ last tied.1.cost) in
    (IsRunOf-handles task workers slice before after tied.0 handles, omega (arith, tied.1.marks, handles.some))

both : (last : Option Last) (better : Better) (limit : ℕ) → better.marks ≡ limit → IfSome last (λ l. better.cost < l.cost)
    → IfSome last (λ l. l.marks < limit) → IfSome last (λ l. (better.cost < l.cost) × (l.marks < better.marks))
both None better limit e c m = tt
both (Some last) better limit e c m = (c, omega (arith, e, m))

-- before the first item's run no node lay in a goal
earlier : (task : Task) (workers slice : ℕ) (before after last : Grown) (item : Better) → Tied task workers slice (Some before) None
    → (IsBetter (best_sum before) None → after ≡ before) → (¬ IsBetter (best_sum before) None → Handles workers slice before after)
    → Shows after item → Reaches (Some after) (Some last)
    → (marks : ℕ) → AreSlices slice (length last.task.marks) marks → marks < item.marks → ¬ HaveGoalNode last marks
earlier task workers slice before after last item tied now later shown reaches marks whole less =
    elim (first_better (best_sum before) None) [
      | inl better ↦ elim tied.1 [
        | inl none ↦ absurd (some_best _ better none)
        | inr zero ↦ absurd (let e = ap (λ (r : Grown). r.limit) (now better) in omega (arith, e, zero, shown.marks, less))
      ]
      | inr worse ↦
          let handles = later worse in
          let same : last.task ≡ before.task = reaches.0 ∙ handles.task in
          let at = subst (λ m. AreSlices slice m before.limit) (sym (ap (λ (t : Task). length t.marks) tied.0.of_task)) tied.0.slices in
          let near = below_next slice (length before.task.marks) before.limit after.limit at handles.some handles.limit marks
          (subst (λ m. AreSlices slice m marks) (ap (λ (t : Task). length t.marks) same) whole) (omega (arith, less, shown.marks)) in
          let grows = GrowsInto-trans (state_of_grown before) (state_of_grown after) (state_of_grown last) handles.grows reaches.1 in
          none_below before last grows same (no_best _ worse) marks near
    ]

-- What an item is to the last run: it is found, is a path of that run, and if it is the first it came with the first goal node.
pub record IsGiven (task : Task) (workers slice : ℕ) (last : Option Last) (end : Option Grown) (item : Better) : Type 0 where
  pub falls : IfSome last (λ l. (item.cost < l.cost) × (l.marks < item.marks))
  pub found : IsFound task workers slice end item
  pub leads : IfSome end (λ run. LeadsIntoGoal run item)
  pub first : last ≡ None → IfSome end (λ run. IsFirstPath slice run item)

found_goal : (after last : Grown) (item : Better) → Shows after item → Reaches (Some after) (Some last)
    → HaveGoalNode last item.marks
found_goal after last item shown reaches =
    let goal = IsGoalNode-best after shown.node shown.best in
    let low = AreNumberedTo-grown after shown.node (IsPresent-best after shown.node shown.best) in
    let own = subst (λ (s : Scene). IsGoalNode (goals_of s) (state_of_grown after).points shown.node) (sym (ap (λ (t : Task). t.scene) reaches.0)) goal in
    let stays = IsGoalNode-grows (goals_of last.task.scene) (state_of_grown after) (state_of_grown last) reaches.1 shown.node own in
    (shown.node, omega (arith, low, shown.marks), stays)

if_first : (task : Task) (workers slice : ℕ) (before after : Grown) (item : Better) (last : Option Last) (end : Option Grown)
    → Tied task workers slice (Some before) last
    → (IsBetter (best_sum before) last → after ≡ before) → (¬ IsBetter (best_sum before) last → Handles workers slice before after)
    → Shows after item → Reaches (Some after) end → last ≡ None → IfSome end (λ run. IsFirstPath slice run item)
if_first task workers slice before after item last None tied now later shown reaches none = tt
if_first task workers slice before after item None (Some end) tied now later shown reaches none = record {
  found = found_goal after end item shown reaches;
  none_earlier = earlier task workers slice before after end item tied now later shown reaches;
}
if_first task workers slice before after item (Some last) (Some end) tied now later shown reaches none = cc

grown_into : (after : Grown) (end : Option Grown) → Reaches (Some after) end → IfSome end (λ run. GrowsInto (state_of_grown after) (state_of_grown run))
grown_into after None h = tt
grown_into after (Some end) h = h.1

leads_in : (after : Grown) (item : Better) (end : Option Grown) → Shows after item → Reaches (Some after) end → IfSome end (λ run. LeadsIntoGoal run item)
leads_in after item None shown h = tt
leads_in after item (Some end) shown h = LeadsIntoGoal-grows after end item h.0 h.1 (LeadsIntoGoal-shown after item shown)

pub gave : (task : Task) (workers slice : ℕ) (s : SessionState) (item : Better) (before after end : Option Grown) (last : Option Last)
    → s.workers ≡ workers → s.slice ≡ slice → last ≡ Some (last_of item) → Tied task workers slice before s.last
    → IsSomeAnd before (λ b. IsSomeAnd after (λ a. Moves s b a × IsBetter (best_sum a) s.last × Shows a item)) → Reaches after end
    → IsGiven task workers slice s.last end item × Tied task workers slice after last
gave task workers slice s item None after end last ew es e tied p reaches = absurd p
gave task workers slice s item (Some b) None end last ew es e tied p reaches = absurd p
gave task workers slice s item (Some b) (Some a) end last ew es e tied p reaches =
    let later : ¬ IsBetter (best_sum b) s.last → Handles workers slice b a =
    λ worse. subst (λ w. Handles w slice b a) ew (subst (λ m. Handles s.workers m b a) es (p.0.later worse)) in
    let m = moved task workers slice b a s.last tied p.0.now later in
    let best = best_shown a item p.2 in
    let kept : IsKept a (last_of item) = record { cost = best; marks = omega (arith, p.2.marks) } in (
      record {
        falls = both s.last item a.limit p.2.marks (cheaper _ _ s.last best p.1) m.1;
        found = record { run = a; run_is = m.0; shown = p.2; grows = grown_into a end reaches };
        leads = leads_in a item end p.2 reaches;
        first = if_first task workers slice b a item s.last end tied p.0.now later p.2 reaches;
      },
      subst (λ (l : Option Last). Tied task workers slice (Some a) l) (sym e) (m.0, kept),
    )

pub pending : (task : Task) (workers slice : ℕ) (s : SessionState) (before after : Option Grown) (last : Option Last)
    → s.workers ≡ workers → s.slice ≡ slice → last ≡ s.last → Tied task workers slice before s.last
    → IsSomeAnd before (λ b. IsSomeAnd after (λ a. ¬ IsBetter (best_sum b) s.last × Handles s.workers s.slice b a × ¬ IsBetter (best_sum a) s.last))
    → Tied task workers slice after last
pending task workers slice s None after last ew es e tied p = absurd p
pending task workers slice s (Some b) None last ew es e tied p = absurd p
pending task workers slice s (Some b) (Some a) last ew es e tied p =
    let handles = subst (λ w. Handles w slice b a) ew (subst (λ m. Handles s.workers m b a) es p.1) in
    subst (λ (l : Option Last). Tied task workers slice (Some a) l) (sym e) (goes_on task workers slice b a s.last tied handles p.2)

-- ---- all items

-- From poll to poll, after an item or before the first. The items so far are none, or `first` is not asked of those that come.
pub record GoesOn (task : Task) (workers slice : ℕ) (last : Option Last) (items : List Better) (end : SessionState) : Type 0 where
  pub falls : Fall last items
  pub found : All (IsFound task workers slice end.run) items
  pub lead : IfSome end.run (λ run. All (LeadsIntoGoal run) items)
  pub first : last ≡ None → IfSome end.run (λ run. IfFirst items (IsFirstPath slice run))
  pub last_is : end.last ≡ last_among last items
  pub tied : Tied task workers slice end.run end.last

all_none : (run : Option Grown) → IfSome run (λ r. All (LeadsIntoGoal r) [])
all_none None = tt
all_none (Some run) = All-nil (LeadsIntoGoal run)

first_none : (slice : ℕ) (run : Option Grown) → IfSome run (λ r. IfFirst [] (IsFirstPath slice r))
first_none slice None = tt
first_none slice (Some run) = tt

one_more : (run : Option Grown) (item : Better) (items : List Better) → IfSome run (λ r. LeadsIntoGoal r item)
    → IfSome run (λ r. All (LeadsIntoGoal r) items) → IfSome run (λ r. All (LeadsIntoGoal r) (item ∷ items))
one_more None item items h k = tt
one_more (Some run) item items h k = All-cons (LeadsIntoGoal run) item items h k

pub GoesOn-last : (task : Task) (workers slice : ℕ) (last other : Option Last) (items : List Better) (end : SessionState) → last ≡ other
    → GoesOn task workers slice last items end → GoesOn task workers slice other items end
GoesOn-last task workers slice last other items end e h = subst (λ (l : Option Last). GoesOn task workers slice l items end) e h

pub goes : (task : Task) (workers slice : ℕ) (s t : SessionState) (answers : Answers) → s.workers ≡ workers → s.slice ≡ slice
    → Tied task workers slice s.run s.last → FoldsTo Polls s answers t → GoesOn task workers slice s.last (betters_among answers) t
goes task workers slice s t [] ew es tied h = record {
  falls = tt;
  found = All-nil (IsFound task workers slice t.run);
  lead = all_none t.run;
  first = λ none. first_none slice t.run;
  last_is = sym (ap (λ (u : SessionState). u.last) h);
  tied = subst (λ (u : SessionState). Tied task workers slice u.run u.last) h tied;
}
goes task workers slice s t (Pending ∷ answers) ew es tied h =
    let next = pending task workers slice s s.run h.0.run h.0.last ew es h.1.1 tied h.1.2 in
    GoesOn-last task workers slice h.0.last s.last (betters_among answers) t h.1.1
    (goes task workers slice h.0 t answers (h.1.0.workers ∙ ew) (h.1.0.slice ∙ es) next h.2)
goes task workers slice s t (Ready None ∷ answers) ew es tied h =
    let same = h.1.1 in
    let next = subst (λ (u : SessionState). Tied task workers slice u.run u.last) (sym same) tied in
    GoesOn-last task workers slice h.0.last s.last (betters_among answers) t (ap (λ (u : SessionState). u.last) same)
    (goes task workers slice h.0 t answers (ap (λ (u : SessionState). u.workers) same ∙ ew) (ap (λ (u : SessionState). u.slice) same ∙ es) next h.2)
goes task workers slice s t (Ready (Some (Ok item)) ∷ answers) ew es tied h =
    let step = gave task workers slice s item s.run h.0.run t.run h.0.last ew es h.1.1 tied h.1.2 (reaches_on h.0 t answers h.2) in
    let given = step.0 in
    let rest = GoesOn-last task workers slice h.0.last (Some (last_of item)) (betters_among answers) t h.1.1
    (goes task workers slice h.0 t answers (h.1.0.workers ∙ ew) (h.1.0.slice ∙ es) step.1 h.2) in
    record {
      falls = (given.falls, rest.falls);
      found = All-cons (IsFound task workers slice t.run) item (betters_among answers) given.found rest.found;
      lead = one_more t.run item (betters_among answers) given.leads rest.lead;
      first = given.first;
      last_is = rest.last_is;
      tied = rest.tied;
    }
goes task workers slice s t (Ready (Some (Err e)) ∷ answers) ew es tied h =
    let next = subst (λ (r : Option Grown). Tied task workers slice r h.0.last) (sym h.1.2) tt in
    GoesOn-last task workers slice h.0.last s.last (betters_among answers) t h.1.1
    (goes task workers slice h.0 t answers (h.1.0.workers ∙ ew) (h.1.0.slice ∙ es) next h.2)
