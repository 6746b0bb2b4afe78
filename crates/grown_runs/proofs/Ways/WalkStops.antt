-- A walk along the way of a point goes on from stop to stop, or ends at one.
use Rattle.grown_runs.proofs.Words.{◌≡◌, ℕ, suc, ◌+◌, Bool, false, not, Some, None, arith, refl, sym, ap, ◌∙◌, subst, inl, inr, ◌≢◌, Point, StandsAt, IsSeen}
use Rattle.grown_runs.proofs.Words.{SeenTree, EndsBelow, FillsPlaces, goes_right, IsOnWay, begins, goes_on, FillsPlaces-trans, IsOnWay-fills, is_by_rows}
use Rattle.grown_runs.proofs.Words.{side_of, StopsAt, Stop}
use Rattle.grown_runs.proofs.Ways.SplitSides.{goes_right-by, is_by_rows-next}

-- every way begins at the root
pub StopsAt-root : (tree : SeenTree) (p here : Point) → StandsAt tree.points 0 here
    → StopsAt tree p (record { depth = 0; node = 0; by_rows = false; here = here })
StopsAt-root tree p here stands = record { on_way = begins; seen = inl refl; stands = stands; by_rows_is = refl }

-- a seen node stays seen
pub IsSeen-fills : (before after : SeenTree) → FillsPlaces before.child after.child before.points after.points → (n : ℕ) → IsSeen before n → IsSeen after n
IsSeen-fills before after fills n (inl start) = inl start
IsSeen-fills before after fills n (inr (a, side, link)) = inr (a, side, fills.children a n side link)

module _ (tree : SeenTree) (p : Point) (stop : Stop) (h : StopsAt tree p stop) where
  -- the side is that at its depth
  pub side_is : side_of stop p ≡ goes_right stop.depth stop.here p
  side_is = ap (λ by_rows. side_of (record stop { by_rows = by_rows }) p) h.by_rows_is ∙ sym (goes_right-by stop.depth stop.here p)

  module _ (apart : stop.here ≢ p) where
    -- It goes on to a child on that side,
    pub IsOnWay-next : (child : ℕ) → tree.child stop.node (side_of stop p) ≡ Some child → IsOnWay tree.child tree.points p (suc stop.depth) child
    IsOnWay-next child link =
        goes_on stop.depth stop.node child stop.here h.on_way h.stands apart (ap (tree.child stop.node) (sym side_is) ∙ link)

    pub StopsAt-next : (child : ℕ) (there : Point) → tree.child stop.node (side_of stop p) ≡ Some child → StandsAt tree.points child there
        → StopsAt tree p (record { depth = stop.depth + 1; node = child; by_rows = not stop.by_rows; here = there })
    StopsAt-next child there link stands = record {
      on_way = subst (λ depth. IsOnWay tree.child tree.points p depth child) (omega arith) (IsOnWay-next child link);
      seen = inr (stop.node, side_of stop p, link);
      stands = stands;
      by_rows_is = ap not h.by_rows_is ∙ sym (is_by_rows-next stop.depth) ∙ ap is_by_rows (omega arith);
    }

    -- or ends if there is none.
    pub EndsBelow-stop : tree.child stop.node (side_of stop p) ≡ None → EndsBelow tree.child tree.points p stop.depth stop.node stop.here
    EndsBelow-stop none = record {
      on_way = h.on_way;
      stands = h.stands;
      other = apart;
      empty = ap (tree.child stop.node) (sym side_is) ∙ none;
    }

module _ (before : SeenTree) (p : Point) (stop : Stop) (h : StopsAt before p stop) where
  -- It stops there too when more is seen,
  pub StopsAt-fills : (after : SeenTree) → FillsPlaces before.child after.child before.points after.points → StopsAt after p stop
  StopsAt-fills after fills = record {
    on_way = IsOnWay-fills before.child after.child before.points after.points fills p stop.depth stop.node h.on_way;
    seen = IsSeen-fills before after fills stop.node h.seen;
    stands = fills.nodes stop.node stop.here h.stands;
    by_rows_is = h.by_rows_is;
  }

  -- and goes on to a child that is looked at then, and its point after it.
  pub StopsAt-below : stop.here ≢ p → (right : Bool) → right ≡ side_of stop p → (mid after : SeenTree)
      → FillsPlaces before.child mid.child before.points mid.points → (child : ℕ) → mid.child stop.node right ≡ Some child
      → FillsPlaces mid.child after.child mid.points after.points → (there : Point) → StandsAt after.points child there
      → (next : Stop) → next ≡ record { depth = stop.depth + 1; node = child; by_rows = not stop.by_rows; here = there } → StopsAt after p next
  StopsAt-below apart right own mid after found child link looked there stands next is =
      let fills = FillsPlaces-trans before.child mid.child after.child before.points mid.points after.points found looked in
      subst (StopsAt after p) (sym is) (StopsAt-next after p stop (StopsAt-fills after fills) apart child there
      (looked.children stop.node child (side_of stop p) (ap (mid.child stop.node) (sym own) ∙ link)) stands)
