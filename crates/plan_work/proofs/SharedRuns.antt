-- A shared run that several workers have gone on with: what the passes have seen, once one has taken over all.
use Rattle.plan_work.proofs.Words.{◌≡◌, ℕ, zero, suc, ◌<◌, ◌≤◌, List, length, inl, inr, refl, sym, ap, ◌∙◌, subst, arith, [], ◌∷◌, All, slice_index_or}
use Rattle.plan_work.proofs.Words.{quota_of, quotas-add_up, AreBehind-trans, sum-le, AreBehind, MayBecome, kind_of, Words, Best, Counter}
use Rattle.plan_work.proofs.Words.{state_of_grown, words_of_grown, GrowsInto, TreeState, AllFull, HasNoneLeft, MayClaim}
use Rattle.plan_work.proofs.Words.{PassState, SharedState, StartsAs, without_best, run_of, sees, share, StandsAsSeen, GrowsInto-seen, Grown, HasHandled}
use Rattle.plan_work.proofs.Words.{IsOfTextbook, HasDone, HasTakenOver, shares_of}
use lib.ListN.{get_elem?}
use mathlib.Core.Option.{some}
use Rattle.plan_work.proofs.LoneRuns.{HasHandled-started}

-- passes with a share of 1 each have as many shares as they are
shares-ones : (passes : List PassState) → All (λ pass. share pass.view ≡ 1) passes → shares_of passes ≡ length passes
shares-ones [] each = refl
shares-ones (pass ∷ passes) each =
    let rest = shares-ones passes (λ k d low. each (suc k) d (omega (arith, low))) in
    omega (arith, rest, each 0 pass (omega arith))

-- an index below the length has the element that is read there
there : (passes : List PassState) (i : ℕ) (d : PassState) → i < length passes → get_elem? passes i ≡ some (slice_index_or passes i d)
there [] i d low = absurd (omega (arith, low))
there (x ∷ passes) zero d low = refl
there (x ∷ passes) (suc i) d low = there passes i d (omega (arith, low))

-- of the best word it is not said what becomes of it
behind_same : (words other later : Words) → without_best words ≡ without_best other → AreBehind words later → AreBehind other later
behind_same words other later same behind Best = tt
behind_same words other later same behind name = subst (λ w. MayBecome (kind_of name) (w name) (later name)) same (behind name)

-- a list of one has its first element alone
pub one_of : (passes : List PassState) (d : PassState) → length passes ≡ 1 → passes ≡ slice_index_or passes 0 d ∷ []
one_of [] d one = absurd (omega (arith, one))
one_of (x ∷ []) d one = refl
one_of (x ∷ y ∷ passes) d one = absurd (omega (arith, one))

-- Limits are in the order of their quotas.
limits-by_quotas : (strips limit most : ℕ) → 0 < strips → ((g : ℕ) → g < strips → quota_of strips g limit ≤ quota_of strips g most) → limit ≤ most
limits-by_quotas strips limit most positive less =
    omega (
      arith,
      quotas-add_up strips limit positive,
      quotas-add_up strips most positive,
      sum-le (λ g. quota_of strips g limit) (λ g. quota_of strips g most) strips less,
    )

module _
    (shared : SharedState) (grown : Grown) (before after : List PassState) (limit : ℕ)
    (starts : (w : ℕ) (pass : PassState) → get_elem? before w ≡ some pass → StartsAs shared grown w pass) (count : length after ≡ length before)
    (done : (k : ℕ) (d : PassState) → k < length before → HasDone shared limit (slice_index_or before k d) (slice_index_or after k d))
    (low : grown.limit ≤ limit) where
  started : (k : ℕ) (d : PassState) → k < length before → StartsAs shared grown k (slice_index_or before k d)
  started k d below = starts k (slice_index_or before k d) (there before k d below)

  ones : All (λ pass. share pass.view ≡ 1) after
  ones k d below =
      let here : k < length before = omega (arith, below, count) in
      (done k d here).worked.same_share ∙ ap length (started k d here).crew

  pub all_may_claim : All (MayClaim shared) after
  all_may_claim k d below = (done k d (omega (arith, below, count))).worked.may_claim

  within : All (λ pass. pass.view.most ≤ limit) after
  within k d below =
      let here : k < length before = omega (arith, below, count) in
      elim (done k d here).worked.most [
        | inl same ↦ omega (arith, (started k d here).most, same, low)
        | inr same ↦ omega (arith, same)
      ]

  -- One worker alone has handled all marks below the limit as the textbook does.
  pub HasHandled-alone :
      (d : PassState) → length before ≡ 1 → shared.workers ≡ 1 → shared.task ≡ grown.task → IsOfTextbook grown
      → HasHandled (slice_index_or after 0 d).view limit
  HasHandled-alone d alone one task textbook =
      let here : 0 < length before = omega (arith, alone) in
      let does = done 0 d here in
      does.textbook one grown.limit low
      (HasHandled-started shared grown (slice_index_or before 0 d) (started 0 d here) does.goes_on.was_lawful task one textbook)

  module _ (pass : PassState) (takes : HasTakenOver shared after pass) (some_pass : 0 < length before) where
    first : PassState
    first = slice_index_or after 0 pass

    done_first : HasDone shared limit (slice_index_or before 0 pass) first
    unfolding first
    done_first = done 0 pass some_pass

    seen_first : AreBehind (sees first.view) (sees pass.view)
    unfolding first
    seen_first = takes.seen 0 pass (omega (arith, some_pass, count))

    pub whole_share : share pass.view ≡ length before
    whole_share = takes.all_shares ∙ shares-ones after ones ∙ count

    full : AllFull pass.view limit
    full g strip =
        let run = takes.may_claim.belongs.run ∙ sym done_first.worked.may_claim.belongs.run in
        let here = subst (λ r. g < r.strips) run strip in
        let quota = ap (λ r. quota_of r.strips g limit) run in
        omega (arith, done_first.none_left g here, seen_first (Counter g), quota)

    pub none_left : HasNoneLeft pass.view
    none_left = record { limit = limit; most = takes.most limit within; full = full }

    -- the pass has seen at least the words of the opening run
    pub opening_seen : AreBehind (words_of_grown grown) (sees pass.view)
    opening_seen =
        AreBehind-trans (words_of_grown grown) (sees first.view) (sees pass.view)
        (behind_same _ (words_of_grown grown) (sees first.view) (started 0 pass some_pass).seen done_first.goes_on.later.seen) seen_first

    -- its greatest limit is this one
    pub limit_reached : (state : TreeState) → StandsAsSeen pass.view state → pass.view.most ≡ limit
    limit_reached state stands =
        let more =
        limits-by_quotas pass.view.run.strips limit pass.view.most some_strip
        (λ g strip. omega (arith, full g strip, stands.counters g strip)) in
        omega (arith, takes.most limit within, more)
      where
        some_strip : 0 < pass.view.run.strips
        some_strip =
            subst (λ r. 0 < r.strips) (done_first.worked.may_claim.belongs.run ∙ sym takes.may_claim.belongs.run)
            (omega (arith, done_first.goes_on.lawful.run.strips.0))

    -- and the run has grown from the opening one
    pub GrowsInto-all : (state : TreeState) → StandsAsSeen pass.view state → shared.task ≡ grown.task → GrowsInto (state_of_grown grown) state
    GrowsInto-all state stands task =
        GrowsInto-seen grown pass.view state shared.workers shared.opening
        (takes.may_claim.belongs.run ∙ ap (λ t. run_of t shared.workers shared.opening) task) opening_seen stands
