-- A node is linked at the end of the way of its point: each node still is where its way leads, and all ways go on as before.
use Rattle.plan_model.proofs.Words.{◌≡◌, ℕ, zero, suc, Bool, true, false, List, Option, Some, None, refl, sym, ap, ◌∙◌, subst, inl, inr, ◌≢◌, ◌⊎◌, is_some}
use Rattle.plan_model.proofs.Words.{cases_eq, Point, point_at, point_of, StandsAt, IsPresent, goes_right, Children, IsOnWay, EndsBelow, FollowWays, LinksAt}
use Rattle.plan_model.proofs.Words.{AddsPoint, FillsPlaces}
use Rattle.plan_model.specs.Seen.SeenTrees.IsOnWay.{begins, goes_on}
use Rattle.plan_model.proofs.NewNodes.{IsPresent-stands, StandsAt-present, new_or_old}
use Rattle.plan_model.proofs.WayLaws.{way_start, last_step, same_child, not_empty, way_goes_on, IsOnWay-began}

-- ---- ways in a tree that grows

-- If children and nodes stay, each way goes on as before.
pub IsOnWay-fills :
    (child after : Children) (points later : List (Option Point)) → FillsPlaces child after points later
    → (q : Point) (depth n : ℕ) → IsOnWay child points q depth n → IsOnWay after later q depth n
IsOnWay-fills child after points later fills q zero n way =
    subst (IsOnWay after later q 0) (sym (way_start child points q n way)) begins
IsOnWay-fills child after points later fills q (suc depth) n way =
    let step = last_step child points q depth n way in
    goes_on depth step.node n step.point (IsOnWay-fills child after points later fills q depth step.node step.on_way)
    (fills.nodes step.node step.point step.stands) step.other (fills.children step.node n (goes_right depth step.point q) step.link)

-- The way of q that ended below a node still does, or goes on to what became its child.
pub EndsBelow-fills :
    (child after : Children) (points later : List (Option Point)) → FillsPlaces child after points later
    → (q : Point) (depth n : ℕ) (p : Point) → EndsBelow child points q depth n p
    → EndsBelow after later q depth n p ⊎ ((m : ℕ) × (after n (goes_right depth p q) ≡ Some m) × IsOnWay after later q (suc depth) m)
EndsBelow-fills child after points later fills q depth n p ends =
    way_goes_on after later q depth n p (IsOnWay-fills child after points later fills q depth n ends.on_way) (fills.nodes n p ends.stands) ends.other

-- If all children and all nodes are the same, each node is where its way leads, as before.
pub FollowWays-same :
    (child after : Children) (points later : List (Option Point)) → ((n : ℕ) (side : Bool) → after n side ≡ child n side)
    → ((n : ℕ) → point_at later n ≡ point_at points n) → FollowWays child points → FollowWays after later
FollowWays-same child after points later same still follow =
    let fills : FillsPlaces child after points later =
    record { children = λ n m side h. same n side ∙ h; nodes = λ n p h. still n ∙ h } in
    record {
      on_way = λ n q h.
          let way = follow.on_way n q (sym (still n) ∙ h) in
          (way.0, IsOnWay-fills child after points later fills q way.0 n way.1);
      once = λ n a b left right one other. follow.once n a b left right (sym (same a left) ∙ one) (sym (same b right) ∙ other);
      root = λ a side h. follow.root a side (sym (same a side) ∙ h);
      present = λ a n side h. ap is_some (still n) ∙ follow.present a n side (sym (same a side) ∙ h);
      empty = λ n side absent. same n side ∙ follow.empty n side (λ h. absent (ap is_some (still n) ∙ h));
    }

-- nothing fills by itself
pub FillsPlaces-refl : (child : Children) (points : List (Option Point)) → FillsPlaces child child points points
FillsPlaces-refl child points = record { children = λ n m side h. h; nodes = λ n p h. h }

-- what stays until one moment and from there on stays all the while
pub FillsPlaces-trans :
    (child mid after : Children) (points then later : List (Option Point)) → FillsPlaces child mid points then → FillsPlaces mid after then later
    → FillsPlaces child after points later
FillsPlaces-trans child mid after points then later one two = record {
  children = λ n m side h. two.children n m side (one.children n m side h);
  nodes = λ n p h. two.nodes n p (one.nodes n p h);
}

-- ---- one node more

-- A number that had no node has one at q now, if it stands there and the others are as they were.
pub AddsPoint-stands :
    (points later : List (Option Point)) (m : ℕ) (q : Point) → ¬ IsPresent points m → StandsAt later m q
    → ((i : ℕ) → i ≢ m → point_at later i ≡ point_at points i) → AddsPoint points later m q
AddsPoint-stands points later m q absent here elsewhere = record { absent = absent; stands = λ k r. (old_or_new k r, is_there k r) }
  where
    old_or_new : (k : ℕ) (r : Point) → StandsAt later k r → StandsAt points k r ⊎ ((k ≡ m) × (r ≡ q))
    old_or_new k r h = elim (new_or_old points later m q here elsewhere k r h) [ inl new ↦ inr new | inr old ↦ inl old ]

    is_there : (k : ℕ) (r : Point) → StandsAt points k r ⊎ ((k ≡ m) × (r ≡ q)) → StandsAt later k r
    is_there k r (inl old) =
        elsewhere k (λ e. absent (subst (IsPresent points) e (IsPresent-stands points k r old))) ∙ old
    is_there k r (inr new) = ap (point_at later) new.0 ∙ here ∙ ap Some (sym new.1)

-- ---- one link more

same_side : (a b : Bool) → (a ≡ b) ⊎ (a ≢ b)
same_side false false = inl refl
same_side true true = inl refl
same_side false true = inr (λ e. cc)
same_side true false = inr (λ e. cc)

-- a place is the one that is filled, or stays as it is
pub new_or_old_place :
    (child after : Children) (n : ℕ) (side : Bool) (m : ℕ) → LinksAt child after n side m
    → (a : ℕ) (b : Bool) → ((a ≡ n) × (b ≡ side)) ⊎ (after a b ≡ child a b)
new_or_old_place child after n side m links a b =
    elim (cases_eq a n) [
      | inl e ↦ elim (same_side b side) [ inl f ↦ inl (e, f) | inr apart ↦ inr (links.elsewhere a b (λ both. apart both.1)) ]
      | inr apart ↦ inr (links.elsewhere a b (λ both. apart both.0))
    ]

-- a child in the longer tree is the new one, or was a child
pub new_or_old_child :
    (child after : Children) (n : ℕ) (side : Bool) (m : ℕ) → LinksAt child after n side m
    → (a k : ℕ) (b : Bool) → after a b ≡ Some k → ((a ≡ n) × (b ≡ side) × (k ≡ m)) ⊎ (child a b ≡ Some k)
new_or_old_child child after n side m links a k b h =
    elim (new_or_old_place child after n side m links a b) [
      | inl new ↦ (
          let place : after a b ≡ after n side = ap (λ c. after c b) new.0 ∙ ap (after n) new.1 in
          inl (new.0, new.1, same_child after n k m side (sym place ∙ h) links.linked))
      | inr same ↦ inr (sym same ∙ h)
    ]

-- a link and a node fill empty places only
pub FillsPlaces-links :
    (child after : Children) (points later : List (Option Point)) (q : Point) (n : ℕ) (side : Bool) (m : ℕ)
    → LinksAt child after n side m → AddsPoint points later m q → FillsPlaces child after points later
FillsPlaces-links child after points later q n side m links adds = record {
  children = λ a k b h.
      elim (new_or_old_place child after n side m links a b) [
        | inl new ↦ (
            let place : child a b ≡ child n side = ap (λ c. child c b) new.0 ∙ ap (child n) new.1 in
            absurd (not_empty child n k side links.was_empty (sym place ∙ h)))
        | inr same ↦ same ∙ h
      ];
  nodes = λ k r h. (adds.stands k r).1 (inl h);
}

-- The way of the new node's point leads to it.
pub IsOnWay-linked :
    (child after : Children) (points later : List (Option Point)) (q : Point) (depth n m : ℕ) (p : Point) → EndsBelow child points q depth n p
    → AddsPoint points later m q → LinksAt child after n (goes_right depth p q) m → IsOnWay after later q (suc depth) m
IsOnWay-linked child after points later q depth n m p ends adds links =
    let fills = FillsPlaces-links child after points later q n (goes_right depth p q) m links adds in
    goes_on depth n m p (IsOnWay-fills child after points later fills q depth n ends.on_way) (fills.nodes n p ends.stands) ends.other links.linked

module _
    (child after : Children) (points later : List (Option Point)) (q : Point) (depth n m : ℕ) (p : Point) (follow : FollowWays child points)
    (ends : EndsBelow child points q depth n p) (adds : AddsPoint points later m q) (links : LinksAt child after n (goes_right depth p q) m) where
  fills : FillsPlaces child after points later
  fills = FillsPlaces-links child after points later q n (goes_right depth p q) m links adds

  still_present : (k : ℕ) → IsPresent points k → IsPresent later k
  still_present k h = IsPresent-stands later k (point_of points k) (fills.nodes k (point_of points k) (StandsAt-present points k h))

  linked : IsOnWay after later q (suc depth) m
  linked = IsOnWay-linked child after points later q depth n m p ends adds links

  -- the new node was nobody's child
  no_child : (a : ℕ) (b : Bool) → child a b ≢ Some m
  no_child a b h = adds.absent (follow.present a m b h)

  -- Each node still is where its way leads.
  pub FollowWays-links : FollowWays after later
  FollowWays-links = record { on_way = on_way; once = once; root = root; present = present; empty = empty }
    where
      on_way : (k : ℕ) (r : Point) → StandsAt later k r → (level : ℕ) × IsOnWay after later r level k
      on_way k r h =
          elim ((adds.stands k r).0 h) [
            | inl old ↦ (
                let way = follow.on_way k r old in
                (way.0, IsOnWay-fills child after points later fills r way.0 k way.1))
            | inr new ↦ (
              suc depth,
              subst (λ s. IsOnWay after later s (suc depth) k) (sym new.1) (subst (IsOnWay after later q (suc depth)) (sym new.0) linked),
            )
          ]

      once : (k a b : ℕ) (left right : Bool) → after a left ≡ Some k → after b right ≡ Some k → (a ≡ b) × (left ≡ right)
      once k a b left right one other =
          elim (new_or_old_child child after n (goes_right depth p q) m links a k left one) [
            | inl new ↦ elim (new_or_old_child child after n (goes_right depth p q) m links b k right other) [
              | inl also ↦ (new.0 ∙ sym also.0, new.1 ∙ sym also.1)
              | inr old ↦ absurd (no_child b right (old ∙ ap Some new.2))
            ]
            | inr old ↦ elim (new_or_old_child child after n (goes_right depth p q) m links b k right other) [
              | inl new ↦ absurd (no_child a left (old ∙ ap Some new.2))
              | inr also ↦ follow.once k a b left right old also
            ]
          ]

      root : (a : ℕ) (side : Bool) → after a side ≢ Some 0
      root a side h =
          elim (new_or_old_child child after n (goes_right depth p q) m links a 0 side h) [
            | inl new ↦ (
                let start = IsOnWay-began child points q depth n ends.on_way (IsPresent-stands points n p ends.stands) in
                adds.absent (subst (IsPresent points) new.2 start))
            | inr old ↦ follow.root a side old
          ]

      present : (a k : ℕ) (side : Bool) → after a side ≡ Some k → IsPresent later k
      present a k side h =
          elim (new_or_old_child child after n (goes_right depth p q) m links a k side h) [
            | inl new ↦ IsPresent-stands later k q ((adds.stands k q).1 (inr (new.2, refl)))
            | inr old ↦ still_present k (follow.present a k side old)
          ]

      empty : (k : ℕ) (side : Bool) → ¬ IsPresent later k → after k side ≡ None
      empty k side absent =
          elim (new_or_old_place child after n (goes_right depth p q) m links k side) [
            | inl new ↦ absurd (absent (still_present k (subst (IsPresent points) (sym new.0) (IsPresent-stands points n p ends.stands))))
            | inr same ↦ same ∙ follow.empty k side (λ h. absent (still_present k h))
          ]

-- ---- node 0 alone

-- In a tree of node 0 alone, without children, each node is where its way leads.
pub FollowWays-start :
    (child : Children) (points : List (Option Point)) → ((n : ℕ) (side : Bool) → child n side ≡ None)
    → ((n : ℕ) (p : Point) → StandsAt points n p → n ≡ 0) → FollowWays child points
FollowWays-start child points none alone = record {
  on_way = λ n q h. (0, subst (IsOnWay child points q 0) (sym (alone n q h)) begins);
  once = λ n a b left right one other. absurd (not_empty child a n left (none a left) one);
  root = λ a side h. not_empty child a 0 side (none a side) h;
  present = λ a n side h. absurd (not_empty child a n side (none a side) h);
  empty = λ n side absent. none n side;
}
