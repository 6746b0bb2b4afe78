-- A node in hand that was placed, whose near nodes may be rewired then.
use Rattle.plan_work.proofs.Words.{◌≡◌, ℕ, suc, arith, refl, sym, subst, IfSome, IsSome, IsPlaced, if_hand, HasBeenPlaced, placed_hand, pair_in_hand, SeesPoint}
use Rattle.plan_work.proofs.Words.{sees, FirstOf, Hand, Counted, View, HasPlaced, SeesPair}
use Rattle.plan_work.proofs.SkippedMarks.{has_count-placed}

pub IsSome-placed : (view : View) (hand : Hand) → IsPlaced view hand → IsSome view.hand
IsSome-placed view hand placed = subst IsSome (sym placed.counted) refl

pub HasPlaced-placed : (view : View) (k : ℕ) (hand : Hand) → IsPlaced view hand → hand.mark ≡ k → IfSome view.hand (λ now. HasPlaced view k now)
HasPlaced-placed view k hand placed mark =
    let counted : Hand = record hand { stage = Counted } in
    if_hand (λ now. HasPlaced view k now) view.hand counted placed.counted (record {
      mark = mark;
      counted = refl;
      stands = subst (λ m. SeesPoint view (suc m) hand.point) mark placed.stands;
      first = subst (λ m. sees view (FirstOf (suc m)) ≡ pair_in_hand counted) mark placed.first;
      pair = subst (λ m. SeesPair view (suc m)) mark (omega (arith, placed.pair));
    })

-- so may they once it was posted, if it lies in a goal by which marks are skipped
pub HasPlaced-come : (view : View) (k : ℕ) (hand : Hand) → HasBeenPlaced view hand → hand.mark ≡ k → IfSome view.hand (λ now. HasPlaced view k now)
HasPlaced-come view k hand placed mark =
    let now : Hand = placed_hand view hand in
    if_hand (λ now. HasPlaced view k now) view.hand now placed.counted (record {
      mark = mark;
      counted = has_count-placed view.run.goals hand.point;
      stands = subst (λ m. SeesPoint view (suc m) hand.point) mark placed.stands;
      first = subst (λ m. sees view (FirstOf (suc m)) ≡ pair_in_hand now) mark placed.first;
      pair = subst (λ m. SeesPair view (suc m)) mark (omega (arith, placed.pair));
    })
