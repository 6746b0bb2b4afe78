-- What a pass has found at a moment, at a later one.
use Rattle.plan_work.proofs.Words.{◌≡◌, ℕ, sym, ap, ◌∙◌, subst, arith, IsNearestSeen, SweepsWithin, SweepsWithin-begun, SweepsWithin-later, mark_at}
use Rattle.plan_work.proofs.Words.{squared_distance, IsNotAbove, distance_to, IsPresent, point_of, steered, Point, IsPresent-stands, StandsAt-present}
use Rattle.plan_work.proofs.Words.{point_of-stands, GoesOn, HasSteered, SeesPoint, sight_in, tree_seen, IsLaterMoment-later, KeepsSight-lawful, View}
use Rattle.plan_work.proofs.Words.{stands_later}

module _ (mid after : View) (goes_on : GoesOn mid after) where
  -- a node seen with its point is seen there still
  pub present_still : (n : ℕ) → IsPresent (tree_seen mid).points n → IsPresent (tree_seen after).points n
  present_still n h =
      let points = (tree_seen mid).points in
      IsPresent-stands (tree_seen after).points n (point_of points n) (stands_later mid after goes_on n (point_of points n) (StandsAt-present points n h))

  pub point_still : (n : ℕ) → IsPresent (tree_seen mid).points n → point_of (tree_seen after).points n ≡ point_of (tree_seen mid).points n
  point_still n h =
      let points = (tree_seen mid).points in
      point_of-stands (tree_seen after).points n (point_of points n) (stands_later mid after goes_on n (point_of points n) (StandsAt-present points n h))

  pub distance_still : (mark : Point) (n : ℕ) → IsPresent (tree_seen mid).points n
      → distance_to mark (tree_seen after).points n ≡ distance_to mark (tree_seen mid).points n
  distance_still mark n h = ap (λ a. squared_distance a mark) (point_still n h)

  -- a nearer node is nearer still
  pub IsNotAbove-still : (mark : Point) (m n : ℕ) → IsPresent (tree_seen mid).points m → IsPresent (tree_seen mid).points n
      → IsNotAbove (distance_to mark (tree_seen mid).points) m n → IsNotAbove (distance_to mark (tree_seen after).points) m n
  IsNotAbove-still mark m n own other h =
      let near = distance_still mark m own in
      let far = distance_still mark n other in
      record { least = omega (arith, near, far, h.least); first = λ e. h.first (omega (arith, near, far, e)) }

  -- what was swept is swept still
  pub SweepsWithin-still : (before : View) (p : Point) (bound : ℕ)
      → SweepsWithin (sight_in before) (sight_in mid) p bound → SweepsWithin (sight_in before) (sight_in after) p bound
  SweepsWithin-still before p bound swept =
      SweepsWithin-later (sight_in before) (sight_in mid) (sight_in after) p bound (IsLaterMoment-later mid after goes_on.later)
      (KeepsSight-lawful mid goes_on.was_lawful) swept

-- Node m was not above any other node, by a search that this step came after, and steers to p.
HasSteered-since :
    (before mid after : View) → GoesOn before mid → GoesOn mid after → (k m : ℕ) (from p : Point) → IsPresent (tree_seen mid).points m
    → ((n : ℕ) → IsPresent (tree_seen before).points n → IsNotAbove (distance_to (mark_at mid.run.marks k) (tree_seen mid).points) m n)
    → SweepsWithin (sight_in before) (sight_in mid) (mark_at mid.run.marks k) (distance_to (mark_at mid.run.marks k) (tree_seen mid).points m)
    → SeesPoint after m from → p ≡ steered from (mark_at after.run.marks k) after.run.step → HasSteered before after k m from p
HasSteered-since before mid after one other k m from p here not_above swept stands is =
    let mark = mark_at mid.run.marks k in
    let same_mark : mark_at after.run.marks k ≡ mark = ap (λ r. mark_at r.marks k) other.later.run in
    record {
      stands = stands;
      point_is = is;
      not_above = λ n there.
          subst (λ q. IsNotAbove (distance_to q (tree_seen after).points) m n) (sym same_mark)
          (IsNotAbove-still mid after other mark m n here (present_still before mid one n there) (not_above n there));
      swept =
          subst (λ q. SweepsWithin (sight_in before) (sight_in after) q (distance_to q (tree_seen after).points m)) (sym same_mark)
          (subst (SweepsWithin (sight_in before) (sight_in after) mark) (sym (distance_still mid after other mark m here))
          (SweepsWithin-still mid after other before mark (distance_to mark (tree_seen mid).points m) swept));
    }

-- Node m steered to p; it has, still.
pub HasSteered-still :
    (before mid after : View) → GoesOn before mid → GoesOn mid after → (k m : ℕ) (from p : Point) → HasSteered before mid k m from p
    → HasSteered before after k m from p
HasSteered-still before mid after one other k m from p h =
    HasSteered-since before mid after one other k m from p (IsPresent-stands (tree_seen mid).points m from h.stands) h.not_above h.swept
    (stands_later mid after other m from h.stands) (h.point_is ∙ ap (λ r. steered from (mark_at r.marks k) r.step) (sym other.later.run))

-- so it has for a call that began earlier
pub HasSteered-begun : (first before after : View) → GoesOn first before → (k m : ℕ) (from p : Point) → HasSteered before after k m from p
    → HasSteered first after k m from p
HasSteered-begun first before after one k m from p h = record {
  stands = h.stands;
  point_is = h.point_is;
  not_above = λ n there. h.not_above n (present_still first before one n there);
  swept =
      SweepsWithin-begun (sight_in first) (sight_in before) (sight_in after) (mark_at after.run.marks k)
      (distance_to (mark_at after.run.marks k) (tree_seen after).points m) (IsLaterMoment-later first before one.later) h.swept;
}

-- Node m is the nearest one, found by a search that this step came after: it steered to p.
pub HasSteered-found :
    (before mid after : View) → GoesOn before mid → GoesOn mid after → (k m : ℕ) (from p : Point)
    → IsNearestSeen (sight_in before) (sight_in mid) (mark_at mid.run.marks k) m → SeesPoint after m from
    → p ≡ steered from (mark_at after.run.marks k) after.run.step → HasSteered before after k m from p
HasSteered-found before mid after one other k m from p found =
    HasSteered-since before mid after one other k m from p found.nearest.member found.not_above found.swept
