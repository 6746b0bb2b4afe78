-- Ways of points above the start and to its right: to the place at its right, and on to the left of the node there.
use Rattle.shared_tree_tests.proofs.Words.{◌≡◌, ◌≢◌, ℕ, ◌<◌, ◌≤◌, true, false, Option, Some, None, sym, ap, ◌∙◌, subst, arith, IfSome, not, le-ltb, lt-ltb}
use Rattle.shared_tree_tests.proofs.Words.{goes_right, begins, goes_on, Point, LeadsTo, SeesPoint, tree_seen, Hand, View}

-- what is so of a point is so of the one in hand, if that is the point
pub of_hand : (o : Option Hand) (p : Point) (has : Point → Type 0) → IfSome o (λ hand. p ≡ hand.point) → has p → IfSome o (λ hand. has hand.point)
of_hand None p has is own = tt
of_hand (Some hand) p has is own = subst has is own

-- of two points at different heights neither is the other
apart : (a b : Point) → a.y < b.y → a ≢ b
apart a b above e = let same = ap (λ p. p.y) e in omega (arith, above, same)

to_right : (start p : Point) → start.x ≤ p.x → goes_right 0 start p ≡ true
to_right start p right = ap not (le-ltb p.x start.x right)

pub LeadsTo-start : (view : View) (start p : Point) → SeesPoint view 0 start → start.x ≤ p.x → start.y < p.y → LeadsTo view p 0 true
LeadsTo-start view start p seen right above = record {
  depth = 0;
  at = start;
  on_way = begins;
  stands = seen;
  apart = apart start p above;
  side_is = to_right start p right;
}

pub LeadsTo-below :
    (view : View) (start met_at p : Point) (met : ℕ) → SeesPoint view 0 start → SeesPoint view met met_at → (tree_seen view).child 0 true ≡ Some met
    → start.x ≤ p.x → start.y < p.y → p.y < met_at.y → LeadsTo view p met false
LeadsTo-below view start met_at p met seen there child right above below = record {
  depth = 1;
  at = met_at;
  on_way = goes_on 0 0 met start begins seen (apart start p above) (ap ((tree_seen view).child 0) (to_right start p right) ∙ child);
  stands = there;
  apart = λ e. apart p met_at below (sym e);
  side_is = ap not (lt-ltb p.y met_at.y below);
}
