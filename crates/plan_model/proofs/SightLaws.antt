-- Later moments of one worker: what a call has swept stays swept, and a way that ends misses no node.
use Rattle.plan_model.proofs.Words.{◌≡◌, ℕ, zero, suc, ◌<◌, Bool, Option, Some, None, arith, refl, sym, ap, ◌∙◌, subst, inl, inr, cases_eq, Point, point_at}
use Rattle.plan_model.proofs.Words.{IsFree, goes_right, IsSeen, IsOnSeenWay, Sight, KeepsSight, KeepsOrFindsEmpty, IsLaterMoment, EndsSince, IsSwept}
use Rattle.plan_model.proofs.NewNodes.{IsPresent-stands}
use Rattle.plan_model.proofs.SeenTreeLaws.{HasSeenAtLeast-refl, HasSeenAtLeast-trans, IsSeen-more, seen_step, same_way, further_down}
use Rattle.plan_model.proofs.WayLaws.{not_empty}
use Rattle.plan_model.proofs.WayLinks.{IsOnWay-fills}

-- ---- one moment, and several

-- each moment is a later one of itself
pub IsLaterMoment-refl : (sight : Sight) → IsLaterMoment sight sight
IsLaterMoment-refl sight = record { seen = HasSeenAtLeast-refl sight.seen; steps = omega arith; empty = λ n side. inl refl }

-- what is empty later was so before
none_before : (o p : Option ℕ) → ((m : ℕ) → o ≡ Some m → p ≡ Some m) → p ≡ None → o ≡ None
none_before None p stays none = refl
none_before (Some m) p stays none = let some = stays m refl in cc

module _ (one mid other : Sight) (first : IsLaterMoment one mid) (second : IsLaterMoment mid other) where
  empty_later : (n : ℕ) (side : Bool) → KeepsOrFindsEmpty one mid n side → KeepsOrFindsEmpty mid other n side → KeepsOrFindsEmpty one other n side
  empty_later n side (inl a) (inl b) = inl (b ∙ a)
  empty_later n side (inr a) (inl b) = inr (omega (arith, a.0, b), a.1)
  empty_later n side a (inr b) =
      inr (
        omega (arith, first.steps, b.0),
        none_before (one.seen.child n side) (mid.seen.child n side) (λ m h. first.seen.places.children n m side h) b.1,
      )

  -- a later moment of a later one is a later one
  pub IsLaterMoment-trans : IsLaterMoment one other
  IsLaterMoment-trans = record {
    seen = HasSeenAtLeast-trans one.seen mid.seen other.seen first.seen second.seen;
    steps = omega (arith, first.steps, second.steps);
    empty = λ n side. empty_later n side (first.empty n side) (second.empty n side);
  }

-- ---- a moment and a later one

module _ (before after : Sight) (later : IsLaterMoment before after) (keeps : KeepsSight before) where
  -- the last step that found a place empty is no earlier one
  no_earlier : (n : ℕ) (side : Bool) (steps : ℕ) → steps < before.found_empty n side → KeepsOrFindsEmpty before after n side
      → steps < after.found_empty n side
  no_earlier n side steps h (inl same) = omega (arith, h, same)
  no_earlier n side steps h (inr since) = omega (arith, h, keeps.steps n side, since.0)

  pub EndsSince-later : (steps : ℕ) (q : Point) → EndsSince before steps q → EndsSince after steps q
  EndsSince-later steps q ends =
      let side : Bool = goes_right ends.depth ends.point q in
      record {
        depth = ends.depth;
        node = ends.node;
        point = ends.point;
        on_way =
            IsOnWay-fills before.seen.child after.seen.child before.seen.points after.seen.points later.seen.places q ends.depth ends.node
            ends.on_way;
        stands = later.seen.places.nodes ends.node ends.point ends.stands;
        other = ends.other;
        empty = no_earlier ends.node side steps ends.empty (later.empty ends.node side);
      }

  -- What was swept stays swept.
  pub IsSwept-later : (steps : ℕ) (q : Point) → IsSwept before steps q → IsSwept after steps q
  IsSwept-later steps q swept free = EndsSince-later steps q (swept (λ j stands. free j (later.seen.places.nodes j q stands)))

-- ---- ways that end

module _
    (before after : Sight) (later : IsLaterMoment before after) (sight : KeepsSight before) (keeps : KeepsSight after) (q : Point)
    (ends : EndsSince after before.steps q) where
  abbrev side : Bool
  side = goes_right ends.depth ends.point q

  -- no child was seen before where the way ends
  was_empty : KeepsOrFindsEmpty before after ends.node side → before.seen.child ends.node side ≡ None
  was_empty (inl same) = absurd (omega (arith, same, sight.steps ends.node side, ends.empty))
  was_empty (inr since) = since.1

  -- a child that was seen before has its place since then
  link_before : (n m : ℕ) (right : Bool) → IsSeen before.seen m → after.seen.child n right ≡ Some m → before.seen.child n right ≡ Some m
  link_before n m right (inl start) link = absurd (keeps.ways.root n right (link ∙ ap Some start))
  link_before n m right (inr (a, left, was)) link =
      let same = keeps.ways.once m a n left right (later.seen.places.children a m left was) link in
      ap (before.seen.child n) (sym same.1) ∙ ap (λ b. before.seen.child b left) (sym same.0) ∙ was

  -- no node that was seen before is further down
  none_below : (depth m : ℕ) → IsOnSeenWay after.seen q depth m → IsSeen before.seen m → ¬ (ends.depth < depth)
  none_below zero m over seen below = omega (arith, below)
  none_below (suc depth) m over seen below =
      let step = seen_step after.seen q depth m over in
      let link = link_before step.node m step.side seen step.link in
      elim (cases_eq ends.depth depth) [
        | inl e ↦ (
            let node : step.node ≡ ends.node =
            same_way after.seen q ends.depth ends.node step.node ends.on_way (subst (λ d. IsOnSeenWay after.seen q d step.node) (sym e) step.on_way) in
            let turn = step.turns ends.point (ap (point_at after.seen.points) node ∙ ends.stands) in
            let turned : side ≡ step.side = ap (λ d. goes_right d ends.point q) e ∙ turn.1 in
            let place : before.seen.child ends.node side ≡ before.seen.child step.node step.side =
            ap (before.seen.child ends.node) turned ∙ ap (λ a. before.seen.child a step.side) (sym node) in
            not_empty before.seen.child ends.node m side (was_empty (later.empty ends.node side)) (place ∙ link))
        | inr apart ↦
            none_below depth step.node step.on_way (sight.rooted.children step.node m step.side link) (omega (arith, below, apart))
      ]

  -- If the way of q ends by a step since then, no node was seen at q then.
  pub IsFree-ends : IsFree before.seen.points q
  IsFree-ends j stands =
      let seen = sight.rooted.points j (IsPresent-stands before.seen.points j q stands) in
      let still = later.seen.places.nodes j q stands in
      let way = keeps.ways.ways j (IsSeen-more before.seen after.seen later.seen j seen) in
      let over : IsOnSeenWay after.seen q way.depth j = subst (λ r. IsOnSeenWay after.seen r way.depth j) (sym (way.own q still)) way.on_way in
      none_below way.depth j over seen
      (further_down after.seen q way.depth j ends.depth ends.node ends.point over still ends.on_way ends.stands ends.other)
