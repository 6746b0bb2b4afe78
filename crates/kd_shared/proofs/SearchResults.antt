-- What a search has found at a later moment, and for a call that began before the search did.
use Rattle.kd_shared.proofs.Words.{ℕ, ◌*◌, ◌≤◌, List, arith, subst, Contains, Point, squared_distance, point_at, StandsAt, EndsSince, IsLaterMoment, KeepsSight}
use Rattle.kd_shared.proofs.Words.{Sight, IsSwept-later, AreNearSeen, SweepsWithin}
use Rattle.kd_shared.proofs.SortedNear.{is_within-close, near-within}

-- ---- swept points

-- what was swept stays swept,
pub SweepsWithin-later : (before mid after : Sight) (p : Point) (bound : ℕ) → IsLaterMoment mid after → KeepsSight mid
    → SweepsWithin before mid p bound → SweepsWithin before after p bound
SweepsWithin-later before mid after p bound later keeps h q close = IsSwept-later mid after later keeps before.steps q (h q close)

-- also for a call that began before the search did,
pub SweepsWithin-begun : (first before after : Sight) (p : Point) (bound : ℕ) → IsLaterMoment first before
    → SweepsWithin before after p bound → SweepsWithin first after p bound
SweepsWithin-begun first before after p bound later h q close free =
    let ends : EndsSince after before.steps q = h q close free in
    record {
      depth = ends.depth;
      node = ends.node;
      point = ends.point;
      on_way = ends.on_way;
      stands = ends.stands;
      other = ends.other;
      empty = omega (arith, later.steps, ends.empty);
    }

-- and within a lesser bound
pub SweepsWithin-less : (before after : Sight) (p : Point) (bound less : ℕ) → less ≤ bound → SweepsWithin before after p bound
    → SweepsWithin before after p less
SweepsWithin-less before after p bound less low h q close = h q (omega (arith, low, close))

-- ---- near nodes

module _ (before after : Sight) (p : Point) (r : ℕ) (found : List ℕ) (h : AreNearSeen before after p r found) where
  -- each of them is seen, and near
  pub AreNearSeen-only : (n : ℕ) → Contains found n → (q : Point) × StandsAt after.seen.points n q × (squared_distance q p ≤ r * r)
  AreNearSeen-only n k =
      is_within-close p r (point_at after.seen.points n) (near-within after.seen.points p r n (subst (λ ns. Contains ns n) h.all k))
