-- What the pass of the only worker has come to once it has worked.
use Rattle.plan_work.proofs.Words.{◌≡◌, ℕ, zero, suc, ◌<◌, ◌≤◌, List, refl, subst, arith, [], ◌∷◌, slice_index_or, GrowsInto, TreeState, state_of_grown}
use Rattle.plan_work.proofs.Words.{AllFull, GoesOn, HasNoneLeft, PassState, SharedState, StartsAs, share, StandsAsSeen, Grown, HandlesRest, HasHandled}
use Rattle.plan_work.proofs.Words.{IsOfTextbook, HasDone, HasTakenOver, HasWorked}
use lib.ListN.{get_elem?}
use mathlib.Core.Option.{some}
use Rattle.plan_work.proofs.SharedRuns.{GrowsInto-all, HasHandled-alone, limit_reached, none_left, whole_share}
use Rattle.plan_work.proofs.TakenOver.{HasTakenOver-alone}

-- it has the share of all workers, leaves no mark, and its run has grown from the opening one, as the textbook does
pub record HasWorkedAlone (shared : SharedState) (grown : Grown) (limit : ℕ) (after : PassState) : Type 0 where
  pub whole : share after.view ≡ 1
  pub none_left : HasNoneLeft after.view
  pub reached : (state : TreeState) → StandsAsSeen after.view state → after.view.most ≡ limit
  pub grows : (state : TreeState) → StandsAsSeen after.view state → GrowsInto (state_of_grown grown) state
  pub textbook : IsOfTextbook grown → HasHandled after.view limit

pub HasWorkedAlone-worked :
    (shared : SharedState) (grown : Grown) (passes : List PassState) (pass after : PassState) (limit : ℕ)
    → ((w : ℕ) (p : PassState) → get_elem? passes w ≡ some p → StartsAs shared grown w p) → passes ≡ pass ∷ [] → grown.limit ≤ limit
    → shared.workers ≡ 1 → shared.task ≡ grown.task → GoesOn pass.view after.view → HasWorked shared pass after limit → AllFull after.view limit
    → (shared.workers ≡ 1 → HandlesRest pass.view after.view limit) → HasWorkedAlone shared grown limit after
HasWorkedAlone-worked shared grown passes pass after limit all_start only low one task goes_on worked full handles = record {
  whole = whole_share shared grown (pass ∷ []) (after ∷ []) limit starts refl done low after takes (omega arith);
  none_left = none_left shared grown (pass ∷ []) (after ∷ []) limit starts refl done low after takes (omega arith);
  reached = limit_reached shared grown (pass ∷ []) (after ∷ []) limit starts refl done low after takes (omega arith);
  grows = λ state stands.
      GrowsInto-all shared grown (pass ∷ []) (after ∷ []) limit starts refl done low after takes (omega arith) state stands task;
  textbook = HasHandled-alone shared grown (pass ∷ []) (after ∷ []) limit starts refl done low after refl one task;
}
  where
    starts : (w : ℕ) (p : PassState) → get_elem? (pass ∷ []) w ≡ some p → StartsAs shared grown w p
    starts = subst (λ l. (w : ℕ) (p : PassState) → get_elem? l w ≡ some p → StartsAs shared grown w p) only all_start

    done : (k : ℕ) (d : PassState) → k < 1 → HasDone shared limit (slice_index_or (pass ∷ []) k d) (slice_index_or (after ∷ []) k d)
    done zero d below = record { goes_on = goes_on; worked = worked; none_left = full; textbook = handles }
    done (suc k) d below = absurd (omega (arith, below))

    takes : HasTakenOver shared (after ∷ []) after
    takes = HasTakenOver-alone shared after worked.may_claim
