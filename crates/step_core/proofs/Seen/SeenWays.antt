-- Ways over what is seen: they go on as more is seen, none is longer than nodes are seen, and one that ends at no child has no node at its end.
use Rattle.step_core.proofs.Words.{◌≡◌, ◌<◌, ◌≤◌, [], ◌∷◌, ◌∙◌, ◌⊎◌, ℕ, zero, suc, List, length, Option, Some, None, arith, refl, sym, ap, subst, inl, inr}
use Rattle.step_core.proofs.Words.{Contains, Point, IsFree, FollowSeenWays, IsSeen, IsLaterMoment, KeepsSight, Sight, EndsBelow, goes_right, IsOnWay}
use Rattle.step_core.proofs.Words.{HasSeenAtLeast-refl, IsFree-ends, last_step, way_start, IsOnWay-fills}
use Rattle.grown_runs.proofs.Common.{begins}
use Rattle.step_core.proofs.Seen.DistinctNumbers.{AreDifferent, AreDifferent-few, Contains-cases}

-- ---- ways at later moments

pub IsOnWay-later : (before after : Sight) → IsLaterMoment before after → (q : Point) (depth n : ℕ)
    → IsOnWay before.seen.child before.seen.points q depth n → IsOnWay after.seen.child after.seen.points q depth n
IsOnWay-later before after later q depth n way =
    IsOnWay-fills before.seen.child after.seen.child before.seen.points after.seen.points later.seen.places q depth n way

-- ---- how long a way is

module _ (now : Sight) (ways : FollowSeenWays now.seen) where
  -- a node is on ways at one depth only
  pub IsOnWay-one_depth : (q r : Point) (depth other n : ℕ) → IsOnWay now.seen.child now.seen.points q depth n
      → IsOnWay now.seen.child now.seen.points r other n → depth ≡ other
  IsOnWay-one_depth q r zero zero n one two = refl
  IsOnWay-one_depth q r zero (suc other) n one two =
      let step = last_step now.seen.child now.seen.points r other n two in
      absurd (ways.root step.node (goes_right other step.point r) (step.link ∙ ap Some (way_start now.seen.child now.seen.points q n one)))
  IsOnWay-one_depth q r (suc depth) zero n one two =
      let step = last_step now.seen.child now.seen.points q depth n one in
      absurd (ways.root step.node (goes_right depth step.point q) (step.link ∙ ap Some (way_start now.seen.child now.seen.points r n two)))
  IsOnWay-one_depth q r (suc depth) (suc other) n one two =
      let a = last_step now.seen.child now.seen.points q depth n one in
      let b = last_step now.seen.child now.seen.points r other n two in
      let same = ways.once n a.node b.node (goes_right depth a.point q) (goes_right other b.point r) a.link b.link in
      ap suc (IsOnWay-one_depth q r depth other b.node (subst (IsOnWay now.seen.child now.seen.points q depth) same.0 a.on_way) b.on_way)

-- the nodes of a way down to this depth
record PassedNodes (now : Sight) (q : Point) (depth : ℕ) : Type 0 where
  nodes : List ℕ
  long : length nodes ≡ suc depth
  different : AreDifferent nodes
  passed : (n : ℕ) → Contains nodes n → (level : ℕ) × (level ≤ depth) × IsOnWay now.seen.child now.seen.points q level n

passed_nodes : (now : Sight) (ways : FollowSeenWays now.seen) (q : Point) (depth n : ℕ) → IsOnWay now.seen.child now.seen.points q depth n
    → PassedNodes now q depth
passed_nodes now ways q zero n way = record {
  nodes = 0 ∷ [];
  long = refl;
  different = ((λ k. omega (arith, k.1)), tt);
  passed = λ m k. elim (Contains-cases 0 m [] k) [
    | inl is ↦ (0, omega arith, subst (IsOnWay now.seen.child now.seen.points q 0) is begins)
    | inr none ↦ absurd (omega (arith, none.1))
  ];
}
passed_nodes now ways q (suc depth) n way =
    let step = last_step now.seen.child now.seen.points q depth n way in
    let old = passed_nodes now ways q depth step.node step.on_way in
    record {
      nodes = n ∷ old.nodes;
      long = omega (arith, old.long);
      different = (
        (λ k.
            let there = old.passed n k in
            let same = IsOnWay-one_depth now ways q q there.0 (suc depth) n there.2 way in
            omega (arith, same, there.1)),
        old.different,
      );
      passed = λ m k. elim (Contains-cases n m old.nodes k) [
        | inl is ↦ (suc depth, omega arith, subst (IsOnWay now.seen.child now.seen.points q (suc depth)) is way)
        | inr above ↦ (let there = old.passed m above in (there.0, omega (arith, there.1), there.2))
      ];
    }

-- all nodes of a way are seen
pub IsSeen-on_way : (now : Sight) (q : Point) (depth n : ℕ) → IsOnWay now.seen.child now.seen.points q depth n → IsSeen now.seen n
IsSeen-on_way now q zero n way = inl (way_start now.seen.child now.seen.points q n way)
IsSeen-on_way now q (suc depth) n way =
    let step = last_step now.seen.child now.seen.points q depth n way in
    inr (step.node, goes_right depth step.point q, step.link)

-- If no node that is seen has a number above this, no way goes deeper.
pub depth_within : (now : Sight) (marks : ℕ) → KeepsSight now → ((n : ℕ) → IsSeen now.seen n → n ≤ marks)
    → (q : Point) (depth n : ℕ) → IsOnWay now.seen.child now.seen.points q depth n → depth ≤ marks
depth_within now marks keeps within q depth n way =
    let on_it = passed_nodes now keeps.ways q depth n way in
    let few = AreDifferent-few on_it.nodes marks on_it.different (λ m k. let there = on_it.passed m k in within m (IsSeen-on_way now q there.0 m there.2)) in
    omega (arith, few, on_it.long)

-- ---- ways that end over what is seen

module _ (sight : Sight) (keeps : KeepsSight sight) where
  -- The tree that is seen, as if no step had looked yet, and one step had then looked at each place.
  abbrev unlooked : Sight
  unlooked = record { seen = sight.seen; steps = 0; found_empty = λ n side. 0 }

  abbrev look_at : Option ℕ → ℕ
  look_at None = 1
  look_at (Some child) = 0

  abbrev looked : Sight
  looked = record { seen = sight.seen; steps = 1; found_empty = λ n side. look_at (sight.seen.child n side) }

  finds_or_not : (o : Option ℕ) → (look_at o ≡ 0) ⊎ ((0 < look_at o) × (o ≡ None))
  finds_or_not None = inr (omega arith, refl)
  finds_or_not (Some child) = inl refl

  looks_once : (o : Option ℕ) → look_at o ≤ 1
  looks_once None = omega arith
  looks_once (Some child) = omega arith

  looked_later : IsLaterMoment unlooked looked
  looked_later = record {
    seen = HasSeenAtLeast-refl sight.seen;
    steps = omega arith;
    empty = λ n side. finds_or_not (sight.seen.child n side);
  }

  -- If the way of q ends at a place where no child is seen, no node is seen at q.
  pub IsFree-here : (q : Point) (depth n : ℕ) (at : Point) → EndsBelow sight.seen.child sight.seen.points q depth n at → IsFree sight.seen.points q
  IsFree-here q depth n at ends =
      IsFree-ends unlooked looked looked_later (record { rooted = keeps.rooted; ways = keeps.ways; steps = λ m side. omega arith })
      (record { rooted = keeps.rooted; ways = keeps.ways; steps = λ m side. looks_once (sight.seen.child m side) })
      q (record {
        depth = depth;
        node = n;
        point = at;
        on_way = ends.on_way;
        stands = ends.stands;
        other = ends.other;
        empty = subst (λ o. 0 < look_at o) (sym ends.empty) (omega arith);
      })
