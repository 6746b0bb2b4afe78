-- What a worker takes over from another: it has seen at least what both had, and it is a later moment of itself.
use Rattle.plan_model.proofs.Words.{◌≡◌, ℕ, ◌<◌, Bool, true, false, Option, Some, None, arith, refl, sym, ap, ◌∙◌, subst, inl, inr, ◌⊎◌, nat_lt, cond, is_some}
use Rattle.plan_model.proofs.Words.{option_or, cases_lt, ltb-true, ltb-false, Point, point_at, point_of, StandsAt, FollowWays, SeenTree, IsSeen, IsRooted}
use Rattle.plan_model.proofs.Words.{HasSeenAtLeast, SharedTree, IsTrueOf, Sight, KeepsSight, IsLaterMoment, cheaper_of, HaveSeenTogether, TakesOver}
use Rattle.plan_model.proofs.Words.{AgreeOnParents, same_Some}
use Rattle.plan_model.proofs.NewNodes.{IsPresent-stands, StandsAt-present, StandsAt-unique}
use Rattle.plan_model.proofs.SeenTreeLaws.{IsSeen-more}
use Rattle.plan_model.proofs.TrueSights.{FollowSeenWays-true}
use Rattle.plan_model.proofs.WayLaws.{same_child}
use Rattle.plan_model.proofs.ChainLaws.{some_value}

-- ---- of two the first that is there

-- the first stays
or_first : {A : Type 0} (one other : Option A) (x : A) → one ≡ Some x → option_or one other ≡ Some x
or_first None other x h = cc
or_first (Some y) other x h = h

-- the second stays, if the first is the same or is not there
or_second : {A : Type 0} (one other : Option A) (x : A) → ((y : A) → one ≡ Some y → y ≡ x) → other ≡ Some x → option_or one other ≡ Some x
or_second None other x same h = h
or_second (Some y) other x same h = ap Some (same y refl)

-- what is there was in the first or in the second
or_either : {A : Type 0} (one other : Option A) (x : A) → option_or one other ≡ Some x → (one ≡ Some x) ⊎ (other ≡ Some x)
or_either None other x h = inr h
or_either (Some y) other x h = inl h

-- ---- of two parents with costs the cheaper

-- a pair that stays, or gives way to a lower cost
abbrev KeepsPair : Option (ℕ × ℕ) → ℕ × ℕ → Type 0
KeepsPair both pair = (now : ℕ × ℕ) × (both ≡ Some now) × ((now ≡ pair) ⊎ (now.1 < pair.1))

cheaper_first : (one other : Option (ℕ × ℕ)) (pair : ℕ × ℕ) → one ≡ Some pair → KeepsPair (cheaper_of one other) pair
cheaper_first None other pair h = cc
cheaper_first (Some own) None pair h = (pair, h, inl refl)
cheaper_first (Some own) (Some also) pair h = subst (KeepsPair (cheaper_of (Some own) (Some also))) (same_Some own pair h) (pick (nat_lt also.1 own.1) refl)
  where
    pick : (less : Bool) → nat_lt also.1 own.1 ≡ less → KeepsPair (cond less (Some also) (Some own)) own
    pick true e = (also, refl, inr (ltb-true also.1 own.1 e))
    pick false e = (own, refl, inl refl)

cheaper_second : (one other : Option (ℕ × ℕ)) (pair : ℕ × ℕ) → ((own : ℕ × ℕ) → one ≡ Some own → own.1 ≡ pair.1 → own ≡ pair)
    → other ≡ Some pair → KeepsPair (cheaper_of one other) pair
cheaper_second None other pair agree h = (pair, h, inl refl)
cheaper_second (Some own) None pair agree h = cc
cheaper_second (Some own) (Some also) pair agree h =
    let same = same_Some also pair h in
    subst (KeepsPair (cheaper_of (Some own) (Some also))) same
    (pick (nat_lt also.1 own.1) refl (λ e. agree own refl (e ∙ ap (λ (t : ℕ × ℕ). t.1) same) ∙ sym same))
  where
    pick : (less : Bool) → nat_lt also.1 own.1 ≡ less → (own.1 ≡ also.1 → own ≡ also) → KeepsPair (cond less (Some also) (Some own)) also
    pick true e one_parent = (also, refl, inl refl)
    pick false e one_parent =
        elim (cases_lt own.1 also.1) [
          | inl below ↦ (own, refl, inr below)
          | inr above ↦ (own, refl, inl (one_parent (omega (arith, above, ltb-false also.1 own.1 e))))
        ]

-- what is there was in the first or in the second
pub cheaper_either : (one other : Option (ℕ × ℕ)) (pair : ℕ × ℕ) → cheaper_of one other ≡ Some pair → (one ≡ Some pair) ⊎ (other ≡ Some pair)
cheaper_either None other pair h = inr h
cheaper_either (Some own) None pair h = inl h
cheaper_either (Some own) (Some also) pair h = pick (nat_lt also.1 own.1) h
  where
    pick : (less : Bool) → cond less (Some also) (Some own) ≡ Some pair → (Some own ≡ Some pair) ⊎ (Some also ≡ Some pair)
    pick true e = inr e
    pick false e = inl e

-- ---- what two have seen

module _ (one other both : SeenTree) (together : HaveSeenTogether one other both) where
  -- What two have seen is at least what the first has.
  pub HasSeenAtLeast-first : HasSeenAtLeast one both
  HasSeenAtLeast-first = record {
    places = record {
      children = λ n m side h. together.children n side ∙ or_first (one.child n side) (other.child n side) m h;
      nodes = λ n p h. together.points n ∙ or_first (point_at one.points n) (point_at other.points n) p h;
    };
    pairs = λ n pair h.
        subst (λ o. KeepsPair o pair) (sym (together.pairs n)) (cheaper_first (one.parent_and_cost n) (other.parent_and_cost n) pair h);
    records = λ k entry h. together.records k ∙ or_first (one.record_of k) (other.record_of k) entry h;
    counters = λ strip. omega (arith, together.counters strip);
    count = omega (arith, together.count);
  }

  -- two that saw a node at one cost below one parent have, of what they saw together, what a third saw too
  pub AgreeOnParents-together : (third : SeenTree) → AgreeOnParents one third → AgreeOnParents other third → AgreeOnParents both third
  AgreeOnParents-together third first second n pair also h there same =
      elim (cheaper_either (one.parent_and_cost n) (other.parent_and_cost n) pair (sym (together.pairs n) ∙ h)) [
        | inl here ↦ first n pair also here there same
        | inr here ↦ second n pair also here there same
      ]

  module _ (tree : SharedTree) (first : IsTrueOf one tree) (second : IsTrueOf other tree) where
    children_second : (n m : ℕ) (side : Bool) → other.child n side ≡ Some m → both.child n side ≡ Some m
    children_second n m side h =
        together.children n side
        ∙ or_second (one.child n side) (other.child n side) m
        (λ k e. same_child tree.child n k m side (first.places.children n k side e) (second.places.children n m side h)) h

    points_second : (n : ℕ) (p : Point) → StandsAt other.points n p → StandsAt both.points n p
    points_second n p h =
        together.points n
        ∙ or_second (point_at one.points n) (point_at other.points n) p
        (λ r e. StandsAt-unique tree.state.points n r p (first.places.nodes n r e) (second.places.nodes n p h)) h

    -- If both are true of one tree, and agree on parents, it is at least what the second has seen,
    pub HasSeenAtLeast-second : AgreeOnParents one other → HasSeenAtLeast other both
    HasSeenAtLeast-second agree = record {
      places = record { children = children_second; nodes = points_second };
      pairs = λ n pair h.
          subst (λ o. KeepsPair o pair) (sym (together.pairs n))
          (cheaper_second (one.parent_and_cost n) (other.parent_and_cost n) pair (λ own e. agree n own pair e h) h);
      records = λ k entry h.
          together.records k
          ∙ or_second (one.record_of k) (other.record_of k) entry
          (λ own e. same_Some own entry (sym (first.records k own e) ∙ second.records k entry h)) h;
      counters = λ strip. omega (arith, together.counters strip);
      count = omega (arith, together.count);
    }

    -- and it is true of the tree.
    pub IsTrueOf-together : IsTrueOf both tree
    IsTrueOf-together = record {
      places = record {
        children = λ n m side h.
            elim (or_either (one.child n side) (other.child n side) m (sym (together.children n side) ∙ h)) [
              | inl own ↦ first.places.children n m side own
              | inr also ↦ second.places.children n m side also
            ];
        nodes = λ n p h.
            elim (or_either (point_at one.points n) (point_at other.points n) p (sym (together.points n) ∙ h)) [
              | inl own ↦ first.places.nodes n p own
              | inr also ↦ second.places.nodes n p also
            ];
      };
      pairs = λ n pair h.
          elim (cheaper_either (one.parent_and_cost n) (other.parent_and_cost n) pair (sym (together.pairs n) ∙ h)) [
            | inl own ↦ first.pairs n pair own
            | inr also ↦ second.pairs n pair also
          ];
      records = λ k entry h.
          elim (or_either (one.record_of k) (other.record_of k) entry (sym (together.records k) ∙ h)) [
            | inl own ↦ first.records k entry own
            | inr also ↦ second.records k entry also
          ];
      counters = λ strip. omega (arith, together.counters strip, first.counters strip, second.counters strip);
      count = omega (arith, together.count, first.count, second.count);
    }

    seen_first : (n : ℕ) → IsSeen one n → IsSeen both n
    seen_first = IsSeen-more one both HasSeenAtLeast-first

    seen_second : (n : ℕ) → IsSeen other n → IsSeen both n
    seen_second n (inl start) = inl start
    seen_second n (inr (a, side, link)) = inr (a, side, children_second a n side link)

    -- What each saw from node 0 on, both see so.
    pub IsRooted-together : IsRooted one → IsRooted other → IsRooted both
    IsRooted-together own also = record {
      start = IsPresent-stands both.points 0 (point_of one.points 0)
          (HasSeenAtLeast-first.places.nodes 0 (point_of one.points 0) (StandsAt-present one.points 0 own.start));
      children = λ a n side h.
          elim (or_either (one.child a side) (other.child a side) n (sym (together.children a side) ∙ h)) [
            | inl e ↦ seen_first a (own.children a n side e)
            | inr e ↦ seen_second a (also.children a n side e)
          ];
      points = λ n h.
          let p : Point = point_of both.points n in
          elim (or_either (point_at one.points n) (point_at other.points n) p (sym (together.points n) ∙ StandsAt-present both.points n h)) [
            | inl e ↦ seen_first n (own.points n (ap is_some e))
            | inr e ↦ seen_second n (also.points n (ap is_some e))
          ];
      pairs = λ n h.
          let pair = some_value (both.parent_and_cost n) h in
          elim (cheaper_either (one.parent_and_cost n) (other.parent_and_cost n) pair.0 (sym (together.pairs n) ∙ pair.1)) [
            | inl e ↦ seen_first n (own.pairs n (ap is_some e))
            | inr e ↦ seen_second n (also.pairs n (ap is_some e))
          ];
    }

-- ---- a worker takes over what another has seen

module _ (before : Sight) (other : SeenTree) (after : Sight) (takes : TakesOver before other after) where
  -- It is a later moment of the same worker,
  pub IsLaterMoment-takes : IsLaterMoment before after
  IsLaterMoment-takes = record {
    seen = HasSeenAtLeast-first before.seen other after.seen takes.seen;
    steps = omega (arith, takes.steps);
    empty = λ n side. inl (takes.found_empty n side);
  }

  -- and keeps what a sight keeps.
  pub KeepsSight-takes : (tree : SharedTree) → IsTrueOf before.seen tree → IsTrueOf other tree → FollowWays tree.child tree.state.points
      → KeepsSight before → IsRooted other → KeepsSight after
  KeepsSight-takes tree first second follow keeps also =
      let rooted = IsRooted-together before.seen other after.seen takes.seen tree first second keeps.rooted also in
      let whole : IsTrueOf after.seen tree = IsTrueOf-together before.seen other after.seen takes.seen tree first second in
      record {
        rooted = rooted;
        ways = FollowSeenWays-true after.seen tree whole rooted follow;
        steps = λ n side. omega (arith, takes.steps, takes.found_empty n side, keeps.steps n side);
      }
