-- What each end of a mark that is not skipped says of the nearest node, and of the point to which it steered.
use Rattle.plan_work.proofs.Words.{◌≡◌, ◌≢◌, ℕ, suc, refl, sym, ap, ◌∙◌, subst, mark_at, IsFree, steered, Point, Outcome, Blocked, Skipped, Record, Reached}
use Rattle.plan_work.proofs.Words.{ending_as, ending_of, reached-unskipped, point_of-stands, tree_seen, View, EndsAsSeen, HasSteered, ReachesAsSeen}
use Rattle.plan_work.proofs.Words.{WasNotSkipped, WasSteered, steered_point}
use Rattle.grown_runs.proofs.Common.{Placed, Same}

-- a mark that was steered to p, and came to this there
pub WasSteered-to :
    (before after : View) (k m : ℕ) (from p : Point) (reached : Reached) → HasSteered before after k m from p
    → ReachesAsSeen before after k m reached p → WasSteered before after k m reached
WasSteered-to before after k m from p reached steers ended =
    let at = sym (point_of-stands (tree_seen after).points m from steers.stands) in
    let is : p ≡ steered_point after k m = steers.point_is ∙ ap (λ q. steered q (mark_at after.run.marks k) after.run.step) at in
    record {
      from = from;
      steered = subst (HasSteered before after k m from) is steers;
      outcome = subst (ReachesAsSeen before after k m reached) is ended;
    }

module _ (before after : View) (k : ℕ) (entry : Record) where
  -- a mark that was not skipped has a nearest node, which steered
  pub WasSteered-unskipped : entry.outcome ≢ Skipped → EndsAsSeen before after k entry (ending_of entry)
      → (reached : Reached) × WasNotSkipped before after k × WasSteered before after k entry.nearest reached
  WasSteered-unskipped other ended =
      let to = reached-unskipped entry entry.outcome other in
      let own = subst (EndsAsSeen before after k entry) to.1 ended in
      (to.0, own.0, own.1)

  -- where no node is seen at the point, the mark was blocked
  pub Blocked-free : (outcome : Outcome) → outcome ≢ Skipped → EndsAsSeen before after k entry (ending_as entry outcome)
      → IsFree (tree_seen after).points (steered_point after k entry.nearest) → outcome ≡ Blocked
  Blocked-free Placed other ended free = absurd (free (suc k) ended.1.outcome.stands)
  Blocked-free (Same j) other ended free = absurd (free j ended.1.outcome)
  Blocked-free Blocked other ended free = refl
  Blocked-free Skipped other ended free = absurd (other refl)
