-- What was seen of a tree, and more of it: seen nodes stay seen, and ways over what is seen are ways.
use Rattle.plan_model.proofs.Words.{◌≡◌, ℕ, zero, suc, ◌<◌, Bool, Some, arith, refl, sym, ap, ◌∙◌, subst, inl, inr, ◌≢◌, ◌⊎◌, cases_order, Point, point_at}
use Rattle.plan_model.proofs.Words.{StandsAt, goes_right, IsOnWay, SeenTree, IsSeen, IsOnSeenWay, HasSeenAtLeast}
use Rattle.plan_model.specs.Seen.SeenTrees.IsOnSeenWay.{begins, goes_on}
use Rattle.plan_model.proofs.NewNodes.{StandsAt-unique}
use Rattle.plan_model.proofs.WayLaws.{way_start, last_step, same_child, earlier_step}
use Rattle.plan_model.proofs.WayLinks.{FillsPlaces-refl, FillsPlaces-trans}

-- ---- as much, and more

-- one has seen at least what one has seen
pub HasSeenAtLeast-refl : (seen : SeenTree) → HasSeenAtLeast seen seen
HasSeenAtLeast-refl seen = record {
  places = FillsPlaces-refl seen.child seen.points;
  pairs = λ n pair h. (pair, h, inl refl);
  records = λ k entry h. h;
  counters = λ strip. omega arith;
  count = omega arith;
}

-- a cost that stays or falls, and does so again, does so in all
no_higher : (one mid other : ℕ × ℕ) → (mid ≡ one) ⊎ (mid.1 < one.1) → (other ≡ mid) ⊎ (other.1 < mid.1) → (other ≡ one) ⊎ (other.1 < one.1)
no_higher one mid other (inl a) (inl b) = inl (b ∙ a)
no_higher one mid other (inl a) (inr b) = inr (omega (arith, ap (λ (t : ℕ × ℕ). t.1) a, b))
no_higher one mid other (inr a) (inl b) = inr (omega (arith, a, ap (λ (t : ℕ × ℕ). t.1) b))
no_higher one mid other (inr a) (inr b) = inr (omega (arith, a, b))

-- who has seen at least what another has, has seen what that one had seen
pub HasSeenAtLeast-trans : (one mid other : SeenTree) → HasSeenAtLeast one mid → HasSeenAtLeast mid other → HasSeenAtLeast one other
HasSeenAtLeast-trans one mid other first second = record {
  places = FillsPlaces-trans one.child mid.child other.child one.points mid.points other.points first.places second.places;
  pairs = λ n pair h.
      let now = first.pairs n pair h in
      let late = second.pairs n now.0 now.1 in
      (late.0, late.1, no_higher pair now.0 late.0 now.2 late.2);
  records = λ k entry h. second.records k entry (first.records k entry h);
  counters = λ strip. omega (arith, first.counters strip, second.counters strip);
  count = omega (arith, first.count, second.count);
}

-- A seen node stays seen.
pub IsSeen-more : (before after : SeenTree) → HasSeenAtLeast before after → (n : ℕ) → IsSeen before n → IsSeen after n
IsSeen-more before after more n (inl start) = inl start
IsSeen-more before after more n (inr (a, side, link)) = inr (a, side, more.places.children a n side link)

-- ---- ways over seen children

-- the last step of such a way
pub record SeesStep (seen : SeenTree) (q : Point) (depth m : ℕ) : Type 0 where
  pub node : ℕ
  pub side : Bool
  pub on_way : IsOnSeenWay seen q depth node
  pub turns : (p : Point) → StandsAt seen.points node p → (p ≢ q) × (goes_right depth p q ≡ side)
  pub link : seen.child node side ≡ Some m

seen_start : (seen : SeenTree) (q : Point) (n : ℕ) → IsOnSeenWay seen q 0 n → n ≡ 0
seen_start seen q n begins = refl

pub seen_step : (seen : SeenTree) (q : Point) (depth m : ℕ) → IsOnSeenWay seen q (suc depth) m → SeesStep seen q depth m
seen_step seen q depth m (goes_on d n k side way turns link) =
    record { node = n; side = side; on_way = way; turns = turns; link = link }

module _ (seen : SeenTree) (q : Point) where
  -- a way whose points are seen is such a way
  pub over_seen_points : (depth n : ℕ) → IsOnWay seen.child seen.points q depth n → IsOnSeenWay seen q depth n
  over_seen_points zero n way = subst (IsOnSeenWay seen q 0) (sym (way_start seen.child seen.points q n way)) begins
  over_seen_points (suc depth) n way =
      let step = last_step seen.child seen.points q depth n way in
      let turns : (p : Point) → StandsAt seen.points step.node p → (p ≢ q) × (goes_right depth p q ≡ goes_right depth step.point q) =
      λ p h.
      let same = StandsAt-unique seen.points step.node p step.point h step.stands in
      ((λ e. step.other (sym same ∙ e)), ap (λ r. goes_right depth r q) same) in
      goes_on depth step.node n (goes_right depth step.point q) (over_seen_points depth step.node step.on_way) turns step.link

  -- while the points on a way are seen, it is the way
  pub same_way : (depth n m : ℕ) → IsOnWay seen.child seen.points q depth n → IsOnSeenWay seen q depth m → m ≡ n
  same_way zero n m way over = seen_start seen q m over ∙ sym (way_start seen.child seen.points q n way)
  same_way (suc depth) n m way over =
      let own = last_step seen.child seen.points q depth n way in
      let step = seen_step seen q depth m over in
      let same : step.node ≡ own.node = same_way depth own.node step.node own.on_way step.on_way in
      let turn = step.turns own.point (ap (point_at seen.points) same ∙ own.stands) in
      let place : seen.child step.node step.side ≡ seen.child own.node (goes_right depth own.point q) =
      ap (λ a. seen.child a step.side) same ∙ ap (seen.child own.node) (sym turn.1) in
      same_child seen.child own.node m n (goes_right depth own.point q) (sym place ∙ step.link) own.link

  -- a node at q on such a way is further down than where the way of q comes to
  pub further_down : (depth n later m : ℕ) (p : Point) → IsOnSeenWay seen q depth n → StandsAt seen.points n q
      → IsOnWay seen.child seen.points q later m → StandsAt seen.points m p → p ≢ q → later < depth
  further_down depth n later m p over stands way at_m other =
      elim (cases_order later depth) [
        | inl same ↦ (
            let node : n ≡ m = same_way later m n way (subst (λ d. IsOnSeenWay seen q d n) (sym same) over) in
            absurd (other (StandsAt-unique seen.points m p q at_m (ap (point_at seen.points) (sym node) ∙ stands))))
        | inr (inl below) ↦ below
        | inr (inr past) ↦ (
            let found = earlier_step seen.child seen.points q later m way depth past in
            let node : n ≡ found.1.node = same_way depth found.1.node n found.1.on_way over in
            let own : StandsAt seen.points found.1.node q = ap (point_at seen.points) (sym node) ∙ stands in
            absurd (found.1.other (StandsAt-unique seen.points found.1.node found.1.point q found.1.stands own)))
      ]
