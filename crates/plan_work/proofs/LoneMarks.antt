-- One worker alone goes from mark to mark, each the least that is not claimed, and handles each as the textbook does.
use Rattle.plan_work.proofs.Words.{◌≡◌, ℕ, suc, ◌+◌, ◌*◌, ◌/◌, ◌%◌, ◌<◌, ◌≤◌, true, sym, ap, ◌∙◌, subst, inl, inr, arith, ◌≢◌}
use Rattle.plan_work.proofs.Words.{cases_eq, cases_lt, le-ltb, lt-ltb, is_claimed, strip_of_mark, Record, IsMarkOf-own}
use Rattle.plan_work.proofs.Words.{is_claimed-now, is_claimed-other, ltb-next, ChangesOnly, IsCounter, Counter, FirstOf, PointOf}
use Rattle.plan_work.proofs.Words.{RecordOf, TreeOf, AllFull, IsClaimed, IsLeastOpen, KeepsHand}
use Rattle.plan_work.proofs.Words.{RaisesCounter, SeesAsBefore, GoesOn, PassState, SharedState, IsLater, mark_of, sees}
use Rattle.plan_work.proofs.Words.{counters, SharedRun, View, HandlesMark, HasClaimed, HasHandled, SeesTextbook, WorksAlone}
use Rattle.plan_work.proofs.AloneMarks.{SeesTextbook-kept, WorksAlone-still}

-- while only counters are seen anew, the same tree and the same records are seen
SeesTextbook-counted :
    (before after : View) (k : ℕ) → IsLater before after → ChangesOnly IsCounter (sees before) (sees after) → SeesTextbook before k → SeesTextbook after k
SeesTextbook-counted before after k later others =
    SeesTextbook-kept before after k later (λ n. others (PointOf n) (λ no. no)) (λ n. others (TreeOf n) (λ no. no))
    (λ j. others (RecordOf j) (λ no. no)) (λ j. others (FirstOf (suc j)) (λ no. no))

-- ---- the least mark

-- the least mark that is not claimed is the one after those that were handled
pub least-is : (view : View) (k m : ℕ) → HasClaimed view m → IsLeastOpen view k → k ≡ m
least-is view k m claimed least =
    elim (cases_lt k m) [
      | inl less ↦ (let no = sym (claimed k ∙ lt-ltb k m less) ∙ least.here in cc)
      | inr more ↦ elim (cases_lt m k) [
        | inl past ↦ (let no = sym (claimed m ∙ le-ltb m m (omega arith)) ∙ least.before m past in cc)
        | inr same ↦ omega (arith, more, same)
      ]
    ]

-- With its claim the first marks are claimed, and it.
module _
    (before after : View) (limit k : ℕ) (strips : 0 < before.run.strips) (run : after.run ≡ before.run) (claims : IsClaimed before after limit k)
    (raises : RaisesCounter before after k) where
  abbrev own : ℕ
  own = strip_of_mark before.run.strips k

  number : sees before (Counter own) * before.run.strips + own ≡ k
  number =
      let c : ℕ = sees before (Counter (strip_of_mark before.run.strips k)) in
      let next : (c + 1) * before.run.strips + strip_of_mark before.run.strips k ≡ k + before.run.strips =
      ap (λ n. n * before.run.strips + strip_of_mark before.run.strips k) (sym raises.here)
      ∙ subst (λ (r : SharedRun). mark_of r (strip_of_mark r.strips k) (sees after (Counter (strip_of_mark r.strips k))) ≡ k + r.strips) run claims.next in
      omega (arith, next)

  within : own < before.run.strips
  within = omega (arith, strips)

  pub HasClaimed-claims : HasClaimed before k → HasClaimed after (suc k)
  HasClaimed-claims claimed j =
      ap (λ (r : SharedRun). is_claimed r.strips (counters (sees after)) j) run
      ∙ elim (cases_eq j k) [
        | inl e ↦ (
            ap (is_claimed before.run.strips (counters (sees after))) (e ∙ sym number)
            ∙ is_claimed-now before.run.strips strips (counters (sees before)) (counters (sees after)) own within up others
            ∙ sym (lt-ltb j (suc k) (omega (arith, e))))
        | inr apart ↦ (
            is_claimed-other before.run.strips strips (counters (sees before)) (counters (sees after)) own within up others j (λ e. apart (e ∙ number))
            ∙ claimed j ∙ sym (ltb-next j k apart))
      ]
    where
      up : sees after (Counter own) ≡ suc (sees before (Counter own))
      up = omega (arith, raises.here)

      others : (h : ℕ) → h ≢ own → sees after (Counter h) ≡ sees before (Counter h)
      others h apart = raises.others (Counter h) (λ e. apart cc)

-- ---- one mark more, and none

pub HasHandled-mark :
    (shared : SharedState) (now claimed after : PassState) (limit k m : ℕ) (entry : Record) → HasHandled now.view m
    → GoesOn now.view claimed.view → ChangesOnly IsCounter (sees now.view) (sees claimed.view) → IsClaimed now.view claimed.view limit k
    → RaisesCounter now.view claimed.view k → IsLeastOpen now.view k → HandlesMark shared claimed after k entry
    → (WorksAlone claimed.view k → SeesTextbook claimed.view k → WorksAlone after.view (suc k) × SeesTextbook after.view (suc k))
    → HasHandled after.view (suc k)
HasHandled-mark shared now claimed after limit k m entry handled goes_on others claims raises least handles extended =
    let here : HasHandled now.view k = subst (HasHandled now.view) (sym (least-is now.view k m handled.claimed least)) handled in
    let run = goes_on.later.run in
    let both = extended (WorksAlone-still now.view claimed.view k run claims.crew here.alone)
    (SeesTextbook-counted now.view claimed.view k goes_on.later others here.textbook) in
    let was = HasClaimed-claims now.view claimed.view limit k goes_on.was_lawful.run.strips.0 run claims raises here.claimed in
    record {
      alone = both.0;
      textbook = both.1;
      claimed = λ j.
          ap (λ (r : SharedRun). is_claimed r.strips (counters (sees after.view)) j) handles.goes_on.later.run
          ∙ ap (λ f. is_claimed claimed.view.run.strips f j) (λ t g. handles.counters g t)
          ∙ was j;
    }

-- Where none is left below the limit, those that were handled are all below it.
pub HasHandled-all :
    (now after : View) (limit m : ℕ) → HasHandled now m → m ≤ limit → GoesOn now after → ChangesOnly IsCounter (sees now) (sees after)
    → SeesAsBefore now after → KeepsHand now after → AllFull after limit → HasHandled after limit
HasHandled-all now after limit m handled low goes_on others as_before kept full =
    elim (cases_lt m limit) [
      | inr past ↦ subst (HasHandled after) (omega (arith, low, past)) still
      | inl less ↦ (
          let strips : 0 < after.run.strips = goes_on.lawful.run.strips.0 in
          let mark = IsMarkOf-own after.run.strips limit m strips less in
          let taken : is_claimed after.run.strips (counters (sees after)) m ≡ true =
          lt-ltb (m / after.run.strips) (sees after (Counter (m % after.run.strips)))
          (omega (arith, mark.below, full (m % after.run.strips) mark.strip)) in
          let no = sym taken ∙ still.claimed m ∙ le-ltb m m (omega arith) in
          cc)
    ]
  where
    still : HasHandled after m
    still =
        let run = goes_on.later.run in
        record {
          alone = WorksAlone-still now after m run kept.crew handled.alone;
          textbook = SeesTextbook-counted now after m goes_on.later others handled.textbook;
          claimed = λ j.
              ap (λ (r : SharedRun). is_claimed r.strips (counters (sees after)) j) run
              ∙ ap (λ f. is_claimed now.run.strips f j) (λ t g. as_before (Counter g) t)
              ∙ handled.claimed j;
        }
