-- What a worker has seen of a kd-tree of five nodes, and which points a call has swept.
use Rattle.plan_model_tests.proofs.Words.{◌≡◌, ℕ, zero, suc, ◌<◌, ◌≤◌, Bool, true, false, None, Some, arith, refl, sym, ap, ◌∙◌, subst, inl, inr, ◌≢◌, ◌/◌, ◌%◌}
use Rattle.plan_model_tests.proofs.Words.{◌==◌, IsSome, is_some, unwrap_or, HasSeenAtLeast, Point, point_at, StandsAt, goes_right, IsOnWay, begins}
use Rattle.plan_model_tests.proofs.Words.{goes_on, IsSeen, HasSeenWay, KeepsSight, IsLaterMoment, IsSwept, at, at_entry, at_return, four_children}
use Rattle.plan_model_tests.proofs.Words.{found_at_return, StandsAt-unique, over_seen_points, way_start, way_ends}
use Rattle.plan_model.specs.Vectors.SeenTrees.{three_points}
use Rattle.plan_model_tests.proofs.ComputedRuns.{is_free}
use Rattle.plan_model_tests.proofs.Decisions.{implied, is_at_most, is_true, refuted, shown}
use Rattle.plan_model_tests.proofs.OrderDecisions.{of_nodes}
use Rattle.plan_model_tests.proofs.SightDecisions.{IsSmall, by-side, counted, each_number, each_side, has_seen_at_least, is_later, is_seen, no_records, past_5}

-- ---- ways
other_row : (p q : Point) → p.y ≢ q.y → p ≢ q
other_row p q apart e = apart (ap (λ (r : Point). r.y) e)

-- the ways of points to the right of node 0
to_node_1 : (q : Point) → at 5 5 ≢ q → four_children 0 (goes_right 0 (at 5 5) q) ≡ Some 1 → IsOnWay four_children three_points q 1 1
to_node_1 q other link = goes_on 0 0 1 (at 5 5) begins refl other link

-- a node whose point is seen has its way
has_way : (n depth : ℕ) (q : Point) → IsOnWay four_children three_points q depth n → StandsAt three_points n q → HasSeenWay at_return.seen n
has_way n depth q way stands = record {
  point = q;
  own = λ p h. StandsAt-unique three_points n p q h stands;
  depth = depth;
  on_way = over_seen_points at_return.seen q depth n way;
}

way_1 : HasSeenWay at_return.seen 1
way_1 = has_way 1 1 (at 5 3) (to_node_1 (at 5 3) (other_row (at 5 5) (at 5 3) (λ e. omega (arith, e))) refl) refl

way_2 : HasSeenWay at_return.seen 2
way_2 =
    let above = to_node_1 (at 9 2) (other_row (at 5 5) (at 9 2) (λ e. omega (arith, e))) refl in
    has_way 2 2 (at 9 2) (goes_on 1 1 2 (at 5 3) above refl (other_row (at 5 3) (at 9 2) (λ e. omega (arith, e))) refl) refl

-- node 3 is on the way of a point above node 1
way_3 : HasSeenWay at_return.seen 3
way_3 =
    let above = to_node_1 (at 9 8) (other_row (at 5 5) (at 9 8) (λ e. omega (arith, e))) refl in
    record {
      point = at 9 8;
      own = λ p h. cc;
      depth = 2;
      on_way =
          over_seen_points at_return.seen (at 9 8) 2 3
          (goes_on 1 1 3 (at 5 3) above refl (other_row (at 5 3) (at 9 8) (λ e. omega (arith, e))) refl);
    }

way_of_child : (n a : ℕ) (side : Bool) → four_children a side ≡ Some n → HasSeenWay at_return.seen n
way_of_child n zero false link = cc
way_of_child n zero true link = subst (HasSeenWay at_return.seen) (ap (λ o. unwrap_or o 0) link) way_1
way_of_child n (suc zero) false link = subst (HasSeenWay at_return.seen) (ap (λ o. unwrap_or o 0) link) way_2
way_of_child n (suc zero) true link = subst (HasSeenWay at_return.seen) (ap (λ o. unwrap_or o 0) link) way_3
way_of_child n (suc (suc a)) false link = cc
way_of_child n (suc (suc a)) true link = cc

ways : (n : ℕ) → IsSeen at_return.seen n → HasSeenWay at_return.seen n
ways n (inl start) = subst (HasSeenWay at_return.seen) (sym start) (has_way 0 0 (at 5 5) begins refl)
ways n (inr (a, side, link)) = way_of_child n a side link

-- the place of a child by its number
record IsPlaceOf (n a : ℕ) (side : Bool) : Type 0 where
  above : a ≡ n / 2
  right : side ≡ (n % 2 == 1)
  few : (0 < n) × (n ≤ 3)

same_place : (n m a : ℕ) (side : Bool) → Some m ≡ Some n → IsPlaceOf m a side → IsPlaceOf n a side
same_place n m a side link = subst (λ k. IsPlaceOf k a side) (ap (λ o. unwrap_or o 0) link)

place_is : (n a : ℕ) (side : Bool) → four_children a side ≡ Some n → IsPlaceOf n a side
place_is n zero false link = cc
place_is n zero true link = same_place n 1 0 true link (record { above = refl; right = refl; few = (omega arith, omega arith) })
place_is n (suc zero) false link = same_place n 2 1 false link (record { above = refl; right = refl; few = (omega arith, omega arith) })
place_is n (suc zero) true link = same_place n 3 1 true link (record { above = refl; right = refl; few = (omega arith, omega arith) })
place_is n (suc (suc a)) false link = cc
place_is n (suc (suc a)) true link = cc

-- ---- what is seen at the end
pub small_return : IsSmall at_return.seen
small_return = record { child = λ n side. refl; pairs = λ n. refl }

-- step 8 is the last that found a place empty
found_by_8 : (n : ℕ) (side : Bool) → found_at_return n side ≤ 8
found_by_8 =
    shown
    (each_number (λ n. (side : Bool) → found_at_return n side ≤ 8) (λ n. by-side (λ side. found_at_return (past_5 n) side ≤ 8) (omega arith, omega arith))
    (λ n. each_side (λ side. found_at_return n side ≤ 8) (λ side. is_at_most (found_at_return n side) 8))) refl

trees_seen : (n : ℕ) → IsSome (at_return.seen.parent_and_cost n) → IsSeen at_return.seen n
trees_seen =
    shown
    (each_number (λ n. IsSome (at_return.seen.parent_and_cost n) → IsSeen at_return.seen n) (λ n h. cc)
    (λ n. implied (is_true (is_some (at_return.seen.parent_and_cost n))) (is_seen at_return.seen small_return n))) refl

children_seen : (a n : ℕ) (side : Bool) → four_children a side ≡ Some n → IsSeen at_return.seen a
children_seen zero n side link = inl refl
children_seen (suc zero) n side link = inr (0, true, refl)
children_seen (suc (suc a)) n false link = cc
children_seen (suc (suc a)) n true link = cc

pub KeepsSight-return : KeepsSight at_return
KeepsSight-return = record {
  rooted = record {
    start = refl;
    children = children_seen;
    points = shown (of_nodes _ three_points (is_seen at_return.seen small_return)) refl;
    pairs = trees_seen;
  };
  ways = record {
    ways = ways;
    once = λ n a b left right one other.
        let here = place_is n a left one in
        let there = place_is n b right other in
        (here.above ∙ sym there.above, here.right ∙ sym there.right);
    root = λ a side link. omega (arith, (place_is 0 a side link).few.0);
  };
  steps = λ n side. omega (arith, found_by_8 n side);
}

pub not_seen_4 : ¬ IsSeen at_return.seen 4
not_seen_4 = refuted (is_seen at_return.seen small_return 4) refl

-- ---- later
pub small_entry : IsSmall at_entry.seen
small_entry = record { child = λ n side. refl; pairs = λ n. refl }

pub seen_at_return : HasSeenAtLeast at_entry.seen at_return.seen
seen_at_return = shown (has_seen_at_least at_entry.seen at_return.seen small_entry (no_records (λ k. None)) (counted 2 2)) refl

pub IsLaterMoment-return : IsLaterMoment at_entry at_return
IsLaterMoment-return = shown (is_later at_entry at_return (λ n side. inl refl) (yes seen_at_return)) refl

-- ---- swept
pub swept_beside_node_1 : IsSwept at_return 6 (at 9 9)
swept_beside_node_1 free = record {
  depth = 1;
  node = 1;
  point = at 5 3;
  on_way = to_node_1 (at 9 9) (other_row (at 5 5) (at 9 9) (λ e. omega (arith, e))) refl;
  stands = refl;
  other = other_row (at 5 3) (at 9 9) (λ e. omega (arith, e));
  empty = omega arith;
}

pub swept_beside_node_0 : IsSwept at_return 2 (at 4 3)
swept_beside_node_0 free = record {
  depth = 0;
  node = 0;
  point = at 5 5;
  on_way = begins;
  stands = refl;
  other = other_row (at 5 5) (at 4 3) (λ e. omega (arith, e));
  empty = omega arith;
}

-- the way of a point to the left of node 0 ends there, at what step 3 found
ends_left : (depth n : ℕ) (p : Point) → IsOnWay four_children three_points (at 4 3) depth n → StandsAt three_points n p
    → ¬ (6 < found_at_return n (goes_right depth p (at 4 3)))
ends_left zero n p way stands since =
    let start = way_start four_children three_points (at 4 3) n way in
    let point = StandsAt-unique three_points 0 p (at 5 5) (ap (point_at three_points) (sym start) ∙ stands) refl in
    let found : found_at_return n (goes_right 0 p (at 4 3)) ≡ 3 =
    ap (λ a. found_at_return a (goes_right 0 p (at 4 3))) start ∙ ap (λ r. found_at_return 0 (goes_right 0 r (at 4 3))) point in
    omega (arith, since, found)
ends_left (suc depth) n p way stands since =
    way_ends four_children three_points (at 4 3) 0 0 (at 5 5)
    (record { on_way = begins; stands = refl; other = other_row (at 5 5) (at 4 3) (λ e. omega (arith, e)); empty = refl })
    (suc depth) n (omega arith) way

pub found_before_6 : ¬ IsSwept at_return 6 (at 4 3)
found_before_6 swept =
    let ends = swept (shown (is_free three_points (at 4 3)) refl) in
    ends_left ends.depth ends.node ends.point ends.on_way ends.stands ends.empty

pub none_after_8 : ¬ IsSwept at_return 8 (at 9 9)
none_after_8 swept =
    let ends = swept (shown (is_free three_points (at 9 9)) refl) in
    omega (arith, ends.empty, found_by_8 ends.node (goes_right ends.depth ends.point (at 9 9)))
