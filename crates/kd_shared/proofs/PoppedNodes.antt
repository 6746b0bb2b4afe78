-- Nodes are popped off the stack of a walk until one has a child on its far side.
use Rattle.kd_shared.proofs.Words.{◌≡◌, ℕ, ◌≤◌, List, [], ◌∷◌, ◌++◌, Some, None, inl, inr, arith, sym, ap, ◌∙◌, subst, Contains, append_assoc}
use Rattle.kd_shared.proofs.Words.{Contains-append_left, Contains-push, Point, IsLaterMoment, KeepsSight, Sight, IsLaterMoment-trans, Spot, Contains-cases}
use Rattle.kd_shared.proofs.Words.{far_side, IsFinished, LoadsFar, PopsFar, KeepsPoints}

-- The far sides of those that were popped so far are finished, and no point was seen anew.
pub record IsPopping (before now : Sight) (target : Point) (bound : ℕ) (stack rest : List Spot) : Type 0 where
  pub later : IsLaterMoment before now
  pub keeps : KeepsSight now
  pub points : KeepsPoints before now
  pub popped : List Spot
  pub split : stack ≡ rest ++ popped
  pub finished : (spot : Spot) → Contains popped spot → IsFinished before now target bound spot

-- what is finished stays so, also for who began before
pub IsFinished-later : (before mid after : Sight) (target : Point) (bound : ℕ) (spot : Spot) → before.steps ≤ mid.steps → IsLaterMoment mid after
    → IsFinished before mid target bound spot → IsFinished before after target bound spot
IsFinished-later before mid after target bound spot past later (inr too_far) = inr too_far
IsFinished-later before mid after target bound spot past later (inl empty) =
    elim (later.empty spot.node (far_side spot target)) [
      | inl same ↦ inl (omega (arith, empty, same))
      | inr (since, none) ↦ inl (omega (arith, past, since))
    ]

pub IsFinished-begun : (before mid after : Sight) (target : Point) (bound : ℕ) (spot : Spot) → before.steps ≤ mid.steps
    → IsFinished mid after target bound spot → IsFinished before after target bound spot
IsFinished-begun before mid after target bound spot past (inr too_far) = inr too_far
IsFinished-begun before mid after target bound spot past (inl empty) = inl (omega (arith, past, empty))

module _ (before now : Sight) (target : Point) (bound : ℕ) (stack all : List Spot) (h : IsPopping before now target bound stack all) where
  module _ (above : Spot) (rest : List Spot) (last : all ≡ rest ++ above ∷ []) (after : Sight) where
    split_there : stack ≡ rest ++ above ∷ h.popped
    split_there = h.split ∙ ap (λ xs. xs ++ h.popped) last ∙ append_assoc rest (above ∷ []) h.popped

    -- the one that is popped was on the stack
    pub popped_in : Contains stack above
    popped_in = subst (λ xs. Contains xs above) (sym h.split) (Contains-append_left all h.popped above
        (subst (λ xs. Contains xs above) (sym last) (Contains-push rest above)))

    -- its far side is finished, too,
    pub IsPopping-more : LoadsFar now after target bound above None → IsPopping before after target bound stack rest
    IsPopping-more load = record {
      later = IsLaterMoment-trans before now after h.later load.later;
      keeps = load.keeps;
      points = λ n. load.finds.1 n ∙ h.points n;
      popped = above ∷ h.popped;
      split = split_there;
      finished = λ spot k. elim (Contains-cases above spot h.popped k) [
        | inl is ↦ subst (IsFinished before after target bound) is (IsFinished-begun before now after target bound above h.later.steps load.finds.0)
        | inr old ↦ IsFinished-later before now after target bound spot h.later.steps load.later (h.finished spot old)
      ];
    }

    -- or has a child
    pub IsPopping-finds : (child : Spot) → LoadsFar now after target bound above (Some child) → PopsFar before after target bound stack rest (Some child)
    IsPopping-finds child load = record {
      later = IsLaterMoment-trans before now after h.later load.later;
      keeps = load.keeps;
      popped = h.popped;
      finished = λ spot k. IsFinished-later before now after target bound spot h.later.steps load.later (h.finished spot k);
      found = (
        above,
        split_there,
        record {
          link = load.finds.link;
          by_rows = load.finds.by_rows;
          stands = load.finds.stands;
          others = λ n apart. load.finds.others n apart ∙ h.points n;
        },
      );
    }
