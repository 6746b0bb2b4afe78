-- One poll more before a session's items, and what all of them are.
use Rattle.any_time.proofs.Words.{◌≡◌, ◌++◌, ℕ, List, [], ◌∷◌, Option, Some, None, Ok, Err, MatchOption, ap, refl, sym, subst, ◌∙◌, length, append-nil}
use Rattle.any_time.proofs.Words.{append_assoc, Ready, Pending, Memory, Task, Grown, best_sum, Gathers, EndsWith, HasGiven, MissesNoFall, betters_among}
use Rattle.any_time.proofs.Words.{IsBetter, IsFresh, IsOver, Polls, SessionState, AreBetterPaths, Better, Last}
use Rattle.any_time.proofs.EachSlice.{items_fall_on}
use Rattle.any_time.proofs.KnownOptions.{held}
use Rattle.any_time.proofs.TextbookSlices.{AreTextbookItems-given}

pub after_pending : (s u t : SessionState) (xs ys : List Better) → Polls s Pending u → Gathers u xs t ys → Gathers s xs t ys
after_pending s u t xs ys p h = (Pending ∷ h.0, (u, p, h.1), h.2, h.3)

pub after_item : (s u t : SessionState) (item : Better) (xs ys : List Better) → Polls s (Ready (Some (Ok item))) u
    → Gathers u (xs ++ item ∷ []) t ys → Gathers s xs t ys
after_item s u t item xs ys p h = (Ready (Some (Ok item)) ∷ h.0, (u, p, h.1), h.2, rw append_assoc at h.3)

pub at_end : (s t : SessionState) (xs : List Better) → Polls s (Ready None) t → Gathers s xs t xs
at_end s t xs p = (Ready None ∷ [], (t, p, refl), subst IsOver (sym p.1) p.0, sym (append-nil xs))

gone : (last : Option Last) (run : Option Grown) → run ≡ None
    → MatchOption run (Unit {0}) (λ r. (r.limit ≡ length r.task.marks) × ¬ IsBetter (best_sum r) last)
gone last None e = tt
gone last (Some run) e = cc

pub at_memory : (s t : SessionState) (e : Memory) (xs : List Better) → Polls s (Ready (Some (Err e))) t → Gathers s xs t xs
at_memory s t e xs p = (Ready (Some (Err e)) ∷ [], (t, p, refl), gone t.last t.run p.2, sym (append-nil xs))

-- all that a fresh session gives until its end, at which it has its run
module _ (task : Task) (workers slice : ℕ) (s t : SessionState) (xs ys : List Better) (run : Grown) (none : xs ≡ [])
    (fresh : IsFresh task workers slice s) (gathers : Gathers s xs t ys) (there : t.run ≡ Some run) where
  law : HasGiven task workers slice ys (Some run) × (EndsWith task workers run × MissesNoFall task workers slice ys run)
  law =
      let all = items_fall_on task workers slice s t gathers.0 fresh gathers.1 in
      let own = held (λ (r : Grown). EndsWith task workers r × MissesNoFall task workers slice (betters_among gathers.0) r) t.run run there
      (all.1 gathers.2) in
      subst (λ (zs : List Better). HasGiven task workers slice zs (Some run) × (EndsWith task workers run × MissesNoFall task workers slice zs run))
      (sym (gathers.3 ∙ ap (λ (zs : List Better). zs ++ betters_among gathers.0) none))
      (subst (λ (r : Option Grown). HasGiven task workers slice (betters_among gathers.0) r) there all.0, own)

  pub EndsWith-gathered : EndsWith task workers run
  EndsWith-gathered = law.1.0

  -- what they are by that run
  pub AreBetterPaths-gathered : AreBetterPaths workers slice run ys
  AreBetterPaths-gathered =
      let of_task = sym law.1.0.of_task in
      let given = subst (λ (t : Task). HasGiven t workers slice ys (Some run)) of_task law.0 in
      let all = subst (λ (t : Task). MissesNoFall t workers slice ys run) of_task law.1.1 in
      record {
        given = given;
        all = all;
        textbook = λ one.
            AreTextbookItems-given run.task slice ys run (subst (λ w. HasGiven run.task w slice ys (Some run)) one given)
            (subst (λ w. MissesNoFall run.task w slice ys run) one all) (law.1.0.all_marks ∙ ap (λ (t : Task). length t.marks) of_task);
      }
