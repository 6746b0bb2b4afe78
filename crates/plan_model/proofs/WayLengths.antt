-- The nodes of a way through a kd-tree are different, so it is no longer than nodes are present, and it comes to an end.
use Rattle.plan_model.proofs.Words.{◌≡◌, ℕ, zero, suc, ◌+◌, ◌<◌, ◌≤◌, List, set, Option, Some, None, arith, sym, ap, ◌∙◌, subst, inl, inr, ◌⊎◌, is_some}
use Rattle.plan_model.proofs.Words.{get_or-set_same, get_or-set_other, Point, point_at, point_of, StandsAt, IsPresent, IsFree, node_count, Children, IsOnWay}
use Rattle.plan_model.proofs.Words.{EndsBelow, FollowWays}
use Rattle.plan_model.specs.Seen.SeenTrees.IsOnWay.{begins}
use Rattle.plan_model.proofs.NewNodes.{StandsAt-present}
use Rattle.plan_model.proofs.NodeCounts.{node_count-one_more}
use Rattle.plan_model.proofs.SamePoints.{same_or_other}
use Rattle.plan_model.proofs.DistinctPoints.{IsPresent-below}
use Rattle.plan_model.proofs.WayLaws.{last_step, way_goes_on, IsOnWay-depth, IsOnWay-present}

-- ---- points without one node

absent_after : (points : List (Option Point)) (n : ℕ) → IsPresent points n → ¬ IsPresent (set points n None) n
absent_after points n h left =
    let none = ap is_some (get_or-set_same points n None None (IsPresent-below points n h)) in
    cc

count_without : (points : List (Option Point)) (n : ℕ) → IsPresent points n → node_count points ≡ suc (node_count (set points n None))
count_without points n h =
    node_count-one_more (set points n None) points n (absent_after points n h) h (λ i apart. sym (get_or-set_other points n i None None apart))

-- the nodes that are left if those of a way up to this depth are taken out
record LeavesOut (child : Children) (points : List (Option Point)) (q : Point) (depth : ℕ) : Type 0 where
  fewer : List (Option Point)
  count : node_count points ≡ node_count fewer + suc depth
  others : (i : ℕ) → ((e : ℕ) → e ≤ depth → ¬ IsOnWay child points q e i) → point_at fewer i ≡ point_at points i

-- ---- ways

module _ (child : Children) (points : List (Option Point)) (follow : FollowWays child points) (start : IsPresent points 0) (q : Point) where
  leave_out : (depth n : ℕ) → IsOnWay child points q depth n → LeavesOut child points q depth
  leave_out zero n way = record {
    fewer = set points 0 None;
    count = omega (arith, count_without points 0 start);
    others = λ i apart.
        get_or-set_other points 0 i None None (λ e. apart 0 (omega arith) (subst (IsOnWay child points q 0) (sym e) begins));
  }
  leave_out (suc depth) n way =
      let step = last_step child points q depth n way in
      let old = leave_out depth step.node step.on_way in
      let new : (e : ℕ) → e ≤ depth → ¬ IsOnWay child points q e n =
      λ e below other. (let same = IsOnWay-depth child points follow q q e (suc depth) n other way in omega (arith, same, below)) in
      let here : IsPresent old.fewer n = ap is_some (old.others n new) ∙ IsOnWay-present child points follow q (suc depth) n start way in
      record {
        fewer = set old.fewer n None;
        count = omega (arith, old.count, count_without old.fewer n here);
        others = λ i apart.
            get_or-set_other old.fewer n i None None (λ e. apart (suc depth) (omega arith) (subst (IsOnWay child points q (suc depth)) (sym e) way))
            ∙ old.others i (λ e below. apart e (omega (arith, below)));
      }

  -- A way has at most as many nodes as are present.
  pub depth_below : (depth n : ℕ) → IsOnWay child points q depth n → depth < node_count points
  depth_below depth n way = let out = leave_out depth n way in omega (arith, out.count)

  -- The way of q comes to a node at q, or it ends below one.
  pub way_comes_to : ((depth : ℕ) × (n : ℕ) × IsOnWay child points q depth n × StandsAt points n q)
      ⊎ ((depth : ℕ) × (n : ℕ) × (p : Point) × EndsBelow child points q depth n p)
  way_comes_to = walk (node_count points) 0 0 begins (omega arith)
    where
      walk : (left depth n : ℕ) → IsOnWay child points q depth n → node_count points ≤ depth + left
          → ((depth : ℕ) × (n : ℕ) × IsOnWay child points q depth n × StandsAt points n q)
          ⊎ ((depth : ℕ) × (n : ℕ) × (p : Point) × EndsBelow child points q depth n p)
      walk zero depth n way enough = absurd (omega (arith, enough, depth_below depth n way))
      walk (suc left) depth n way enough =
          let p : Point = point_of points n in
          let stands = StandsAt-present points n (IsOnWay-present child points follow q depth n start way) in
          elim (same_or_other p q) [
            | inl e ↦ inl (depth, n, way, stands ∙ ap Some e)
            | inr other ↦ elim (way_goes_on child points q depth n p way stands other) [
              | inl ends ↦ inr (depth, n, p, ends)
              | inr next ↦ walk left (suc depth) next.0 next.2 (omega (arith, enough))
            ]
          ]

  -- If no node stands at q, its way comes to an end.
  pub way_comes_to_end : IsFree points q → (depth : ℕ) × (n : ℕ) × (p : Point) × EndsBelow child points q depth n p
  way_comes_to_end free =
      elim way_comes_to [
        | inl found ↦ absurd (free found.1 found.3)
        | inr ends ↦ ends
      ]
