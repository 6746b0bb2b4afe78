-- A way through a kd-tree is one way: it has one node at each depth, stops at a node at its point, and has one end.
use Rattle.plan_model.proofs.Words.{◌≡◌, ℕ, zero, suc, ◌<◌, Bool, List, Option, Some, None, arith, refl, sym, ap, ◌∙◌, subst, inl, inr, ◌≢◌, ◌⊎◌, unwrap_or}
use Rattle.plan_model.proofs.Words.{cases_order, cases_eq, Point, point_at, StandsAt, IsPresent, IsFree, AreDistinct, goes_right, Children, IsOnWay, EndsBelow}
use Rattle.plan_model.proofs.Words.{FollowWays}
use Rattle.plan_model.specs.Seen.SeenTrees.IsOnWay.{begins, goes_on}
use Rattle.plan_model.proofs.NewNodes.{IsPresent-stands, StandsAt-unique}

-- the last step of a way that comes to node m after this depth
pub record StepsTo (child : Children) (points : List (Option Point)) (q : Point) (depth m : ℕ) : Type 0 where
  pub node : ℕ
  pub point : Point
  pub on_way : IsOnWay child points q depth node
  pub stands : StandsAt points node point
  pub other : point ≢ q
  pub link : child node (goes_right depth point q) ≡ Some m

-- a way begins at node 0
pub way_start : (child : Children) (points : List (Option Point)) (q : Point) (n : ℕ) → IsOnWay child points q 0 n → n ≡ 0
way_start child points q n begins = refl

-- and goes on by steps
pub last_step : (child : Children) (points : List (Option Point)) (q : Point) (depth m : ℕ) → IsOnWay child points q (suc depth) m
    → StepsTo child points q depth m
last_step child points q depth m (goes_on d n k p way stands other link) =
    record { node = n; point = p; on_way = way; stands = stands; other = other; link = link }

-- a place has one child at most
pub same_child : (child : Children) (n m k : ℕ) (side : Bool) → child n side ≡ Some m → child n side ≡ Some k → m ≡ k
same_child child n m k side one other = ap (λ o. unwrap_or o 0) (sym one ∙ other)

-- a place with a child is not empty
pub not_empty : (child : Children) (n m : ℕ) (side : Bool) → child n side ≡ None → child n side ≡ Some m → ⊥
not_empty child n m side none some = let e = sym none ∙ some in cc

module _ (child : Children) (points : List (Option Point)) (q : Point) where
  -- a step from a node goes to its child on the side of q
  step_link : (depth n k : ℕ) (p : Point) (step : StepsTo child points q depth k) → step.node ≡ n → StandsAt points n p
      → child n (goes_right depth p q) ≡ Some k
  step_link depth n k p step same stands =
      let point : step.point ≡ p = StandsAt-unique points n step.point p (ap (point_at points) (sym same) ∙ step.stands) stands in
      sym (ap (λ a. child a (goes_right depth step.point q)) same ∙ ap (λ r. child n (goes_right depth r q)) point) ∙ step.link

  -- Two nodes on the way of q at the same depth are the same.
  pub IsOnWay-unique : (depth n m : ℕ) → IsOnWay child points q depth n → IsOnWay child points q depth m → n ≡ m
  IsOnWay-unique zero n m one other = way_start child points q n one ∙ sym (way_start child points q m other)
  IsOnWay-unique (suc depth) n m one other =
      let a = last_step child points q depth n one in
      let b = last_step child points q depth m other in
      let same = IsOnWay-unique depth a.node b.node a.on_way b.on_way in
      same_child child b.node n m (goes_right depth b.point q) (step_link depth b.node n b.point a same b.stands) b.link

  -- a way that comes to a depth took a step at each lesser one
  pub earlier_step : (later m : ℕ) → IsOnWay child points q later m → (depth : ℕ) → depth < later → (k : ℕ) × StepsTo child points q depth k
  earlier_step zero m way depth below = absurd (omega (arith, below))
  earlier_step (suc later) m way depth below =
      let step = last_step child points q later m way in
      elim (cases_eq depth later) [
        | inl e ↦ subst (λ d. (k : ℕ) × StepsTo child points q d k) (sym e) (m, step)
        | inr apart ↦ earlier_step later step.node step.on_way depth (omega (arith, below, apart))
      ]

  -- The way stops at a node at q.
  pub way_stops : (depth n : ℕ) → IsOnWay child points q depth n → StandsAt points n q → (later m : ℕ) → depth < later
      → ¬ IsOnWay child points q later m
  way_stops depth n here stands later m below way =
      let found = earlier_step later m way depth below in
      let step = found.1 in
      let same : step.node ≡ n = IsOnWay-unique depth step.node n step.on_way here in
      step.other (StandsAt-unique points n step.point q (ap (point_at points) (sym same) ∙ step.stands) stands)

  -- and at its end
  pub way_ends : (depth n : ℕ) (p : Point) → EndsBelow child points q depth n p → (later m : ℕ) → depth < later → ¬ IsOnWay child points q later m
  way_ends depth n p ends later m below way =
      let found = earlier_step later m way depth below in
      let step = found.1 in
      let same : step.node ≡ n = IsOnWay-unique depth step.node n step.on_way ends.on_way in
      not_empty child n found.0 (goes_right depth p q) ends.empty (step_link depth n found.0 p step same ends.stands)

  -- A way has one end.
  pub EndsBelow-unique : (depth n other m : ℕ) (p r : Point) → EndsBelow child points q depth n p → EndsBelow child points q other m r
      → (depth ≡ other) × (n ≡ m) × (p ≡ r)
  EndsBelow-unique depth n other m p r one two =
      let level : depth ≡ other =
      elim (cases_order depth other) [
        | inl e ↦ e
        | inr (inl before) ↦ absurd (way_ends depth n p one other m before two.on_way)
        | inr (inr after) ↦ absurd (way_ends other m r two depth n (omega (arith, after)) one.on_way)
      ] in
      let node : n ≡ m = IsOnWay-unique other n m (subst (λ d. IsOnWay child points q d n) level one.on_way) two.on_way in
      (level, node, StandsAt-unique points m p r (ap (point_at points) (sym node) ∙ one.stands) two.stands)

  -- From a node that does not stand at q the way goes on to the child on the side of q, or it ends below.
  pub way_goes_on : (depth n : ℕ) (p : Point) → IsOnWay child points q depth n → StandsAt points n p → p ≢ q
      → EndsBelow child points q depth n p ⊎ ((m : ℕ) × (child n (goes_right depth p q) ≡ Some m) × IsOnWay child points q (suc depth) m)
  way_goes_on depth n p way stands other = by_child (child n (goes_right depth p q)) refl
    where
      by_child : (o : Option ℕ) → child n (goes_right depth p q) ≡ o
          → EndsBelow child points q depth n p ⊎ ((m : ℕ) × (child n (goes_right depth p q) ≡ Some m) × IsOnWay child points q (suc depth) m)
      by_child None e = inl (record { on_way = way; stands = stands; other = other; empty = e })
      by_child (Some m) e = inr (m, e, goes_on depth n m p way stands other e)

  -- A way that comes to a present node began at one.
  pub IsOnWay-began : (depth n : ℕ) → IsOnWay child points q depth n → IsPresent points n → IsPresent points 0
  IsOnWay-began zero n way h = subst (IsPresent points) (way_start child points q n way) h
  IsOnWay-began (suc depth) n way h =
      let step = last_step child points q depth n way in
      IsOnWay-began depth step.node step.on_way (IsPresent-stands points step.node step.point step.stands)

module _ (child : Children) (points : List (Option Point)) (follow : FollowWays child points) where
  -- A node is on ways at one depth only.
  pub IsOnWay-depth : (q r : Point) (depth other n : ℕ) → IsOnWay child points q depth n → IsOnWay child points r other n → depth ≡ other
  IsOnWay-depth q r zero zero n one two = refl
  IsOnWay-depth q r zero (suc other) n one two =
      let step = last_step child points r other n two in
      absurd (follow.root step.node (goes_right other step.point r) (step.link ∙ ap Some (way_start child points q n one)))
  IsOnWay-depth q r (suc depth) zero n one two =
      let step = last_step child points q depth n one in
      absurd (follow.root step.node (goes_right depth step.point q) (step.link ∙ ap Some (way_start child points r n two)))
  IsOnWay-depth q r (suc depth) (suc other) n one two =
      let a = last_step child points q depth n one in
      let b = last_step child points r other n two in
      let same = follow.once n a.node b.node (goes_right depth a.point q) (goes_right other b.point r) a.link b.link in
      ap suc (IsOnWay-depth q r depth other b.node (subst (IsOnWay child points q depth) same.0 a.on_way) b.on_way)

  -- On a way all nodes are present.
  pub IsOnWay-present : (q : Point) (depth n : ℕ) → IsPresent points 0 → IsOnWay child points q depth n → IsPresent points n
  IsOnWay-present q zero n start way = subst (IsPresent points) (sym (way_start child points q n way)) start
  IsOnWay-present q (suc depth) n start way =
      let step = last_step child points q depth n way in
      follow.present step.node n (goes_right depth step.point q) step.link

  -- If the way of q ends below a node, no node stands at q.
  pub EndsBelow-free : (q : Point) (depth n : ℕ) (p : Point) → EndsBelow child points q depth n p → IsFree points q
  EndsBelow-free q depth n p ends j h =
      let found = follow.on_way j q h in
      elim (cases_order depth found.0) [
        | inl e ↦ (
            let same : n ≡ j = IsOnWay-unique child points q found.0 n j (subst (λ d. IsOnWay child points q d n) e ends.on_way) found.1 in
            ends.other (StandsAt-unique points j p q (ap (point_at points) (sym same) ∙ ends.stands) h))
        | inr (inl before) ↦ way_ends child points q depth n p ends found.0 j before found.1
        | inr (inr after) ↦ way_stops child points q found.0 j found.1 h depth n (omega (arith, after)) ends.on_way
      ]

  -- No two nodes stand at the same point.
  pub AreDistinct-ways : AreDistinct points
  AreDistinct-ways i j q one other =
      let a = follow.on_way i q one in
      let b = follow.on_way j q other in
      elim (cases_order a.0 b.0) [
        | inl e ↦ IsOnWay-unique child points q b.0 i j (subst (λ d. IsOnWay child points q d i) e a.1) b.1
        | inr (inl before) ↦ absurd (way_stops child points q a.0 i a.1 one b.0 j before b.1)
        | inr (inr after) ↦ absurd (way_stops child points q b.0 j b.1 other a.0 i (omega (arith, after)) a.1)
      ]
