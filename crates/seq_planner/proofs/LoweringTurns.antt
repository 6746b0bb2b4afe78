-- One turn of lowering a branch: a node is lowered, and its children are to be lowered next.
use Rattle.seq_planner.proofs.Words.{◌≡◌, ℕ, suc, ◌+◌, ◌<◌, ◌≤◌, List, Option, arith, sym, ap, ◌∙◌, subst, ◌⊎◌, inl, inr, ◌≢◌, ◌==◌, cases_Bool, cases_eq}
use Rattle.seq_planner.proofs.Words.{cases_lt, Twig, IsPresent, points_of, parent_of, CostsFall, hangs_below}
use Rattle.seq_planner.proofs.Children.{IsChild, IsChild-hangs_below, hangs_below-present, IsChild-costs}
use Rattle.seq_planner.proofs.LoweredBranches.{one_if, equal_one, other_none, HasFallen, IsDue, IsUnderway}

-- Node m, which was to be lowered, is lowered, and its children are to be lowered next.
pub record IsTurn (tree : List (Option Twig)) (fall : ℕ) (now later times after : ℕ → ℕ) (m : ℕ) : Type 0 where
  pub pending : 0 < times m
  pub lowered : later m + fall ≡ now m
  pub others : (n : ℕ) → n ≢ m → later n ≡ now n
  pub counted : (n : ℕ) → after n + one_if (m == n) ≡ times n + one_if (hangs_below tree m n)

module _ (tree : List (Option Twig)) (node fall : ℕ) (costs : ℕ → ℕ) (some : 0 < fall) (falling : CostsFall costs tree) where
  module _ (now later times after : ℕ → ℕ) (m : ℕ) (before : IsUnderway tree node fall costs now times) (turn : IsTurn tree fall now later times after m) where
    -- the node of this turn has not been lowered
    kept : now m ≡ costs m
    kept = (before.pending m turn.pending).0

    own : HasFallen fall costs later m
    own = omega (arith, turn.lowered, kept)

    stays_fallen : (n : ℕ) → HasFallen fall costs now n → HasFallen fall costs later n
    stays_fallen n h =
        elim (cases_eq n m) [
          | inl e ↦ absurd (omega (arith, h, ap now e, ap costs e, kept, some))
          | inr apart ↦ omega (arith, h, turn.others n apart)
        ]

    fell_before : (n : ℕ) → n ≢ m → HasFallen fall costs later n → HasFallen fall costs now n
    fell_before n apart h = omega (arith, h, turn.others n apart)

    stays_due : (n : ℕ) → IsDue tree node fall costs now n → IsDue tree node fall costs later n
    stays_due n due = record {
      child = due.child;
      present = due.present;
      above = elim due.above [ inl e ↦ inl e | inr h ↦ inr (stays_fallen (parent_of tree n) h) ];
      cost = due.cost;
    }

    -- nor has any of its children, and none of them was to be lowered
    child_not_due : (c : ℕ) → IsChild tree m c → ¬ IsDue tree node fall costs now c
    child_not_due c is due =
        elim due.above [
          | inl e ↦ absurd (omega (arith, (before.pending m turn.pending).1.cost, IsChild-costs costs tree m c falling is, ap costs e))
          | inr h ↦ absurd (omega (arith, h, ap now is.parent, ap costs is.parent, kept, some))
        ]

    child_apart : (c : ℕ) → IsChild tree m c → c ≢ m
    child_apart c is e = omega (arith, IsChild-costs costs tree m c falling is, ap costs e)

    child_kept : (c : ℕ) → IsChild tree m c → now c ≡ costs c
    child_kept c is = elim (before.each c) [ inl h ↦ h | inr h ↦ absurd (child_not_due c is (before.lowered c h)) ]

    child_new : (c : ℕ) → IsChild tree m c → times c ≡ 0
    child_new c is =
        elim (cases_lt 0 (times c)) [ inl h ↦ absurd (child_not_due c is (before.pending c h).1) | inr h ↦ omega arith ]

    child_due : (c : ℕ) → IsChild tree m c → IsDue tree node fall costs later c
    child_due c is = record {
      child = is.child;
      present = is.present;
      above = inr (omega (arith, own, ap later is.parent, ap costs is.parent));
      cost = omega (arith, (before.pending m turn.pending).1.cost, IsChild-costs costs tree m c falling is);
    }

    -- what is to be lowered next: each child of the node, the node itself no more, and what was to be lowered before
    next : (n : ℕ) → (IsChild tree m n × (after n ≡ 1)) ⊎ (((n ≡ m) × (after n ≡ 0)) ⊎ ((n ≢ m) × (after n ≡ times n)))
    next n =
        elim (cases_Bool (hangs_below tree m n)) [
          | inl is_child ↦ (
              let is = IsChild-hangs_below tree m n is_child in
              inl (is, omega (arith, turn.counted n, ap one_if is_child, other_none m n (child_apart n is), child_new n is)))
          | inr not_child ↦ (
              let none : one_if (hangs_below tree m n) ≡ 0 = ap one_if not_child in
              elim (cases_eq n m) [
                | inl e ↦ inr (inl (e, omega (arith, turn.counted n, none, equal_one m n e, before.once n)))
                | inr apart ↦ inr (inr (apart, omega (arith, turn.counted n, none, other_none m n apart)))
              ])
        ]

    child_next : (n : ℕ) → IsChild tree m (suc n) → 0 < after (suc n)
    child_next n is =
        omega (
          arith,
          turn.counted (suc n),
          ap one_if (hangs_below-present tree m n is.present is.parent),
          other_none m (suc n) (child_apart (suc n) is),
        )

    -- what was to be lowered is lowered now, or is still to be
    waits : (n : ℕ) → 0 < times n → HasFallen fall costs later n ⊎ (0 < after n)
    waits n h =
        elim (cases_eq n m) [
          | inl e ↦ inl (omega (arith, own, ap later e, ap costs e))
          | inr apart ↦ inr (omega (arith, h, turn.counted n, other_none m n apart))
        ]

    each_later : (n : ℕ) → (later n ≡ costs n) ⊎ HasFallen fall costs later n
    each_later n =
        elim (cases_eq n m) [
          | inl e ↦ inr (omega (arith, own, ap later e, ap costs e))
          | inr apart ↦ (elim (before.each n) [ inl h ↦ inl (turn.others n apart ∙ h) | inr h ↦ inr (stays_fallen n h) ])
        ]

    lowered_later : (n : ℕ) → HasFallen fall costs later n → IsDue tree node fall costs later n
    lowered_later n h =
        elim (cases_eq n m) [
          | inl e ↦ subst (IsDue tree node fall costs later) (sym e) (stays_due m (before.pending m turn.pending).1)
          | inr apart ↦ stays_due n (before.lowered n (fell_before n apart h))
        ]

    pending_after : (n : ℕ) → 0 < after n → (later n ≡ costs n) × IsDue tree node fall costs later n
    pending_after n h =
        elim (next n) [
          | inl child ↦ (turn.others n (child_apart n child.0) ∙ child_kept n child.0, child_due n child.0)
          | inr (inl done) ↦ absurd (omega (arith, h, done.1))
          | inr (inr other) ↦ (
              let was = before.pending n (omega (arith, h, other.1)) in
              (turn.others n other.0 ∙ was.0, stays_due n was.1))
        ]

    children_later :
        (n : ℕ) → IsPresent (points_of tree) (suc n) → HasFallen fall costs later (parent_of tree (suc n))
        → HasFallen fall costs later (suc n) ⊎ (0 < after (suc n))
    children_later n here h =
        elim (cases_eq (parent_of tree (suc n)) m) [
          | inl e ↦ inr (child_next n (record { child = omega arith; present = here; parent = e }))
          | inr apart ↦ (
              elim (before.children n here (fell_before (parent_of tree (suc n)) apart h)) [
                | inl f ↦ inl (stays_fallen (suc n) f)
                | inr w ↦ waits (suc n) w
              ])
        ]

    once_after : (n : ℕ) → after n ≤ 1
    once_after n =
        elim (next n) [
          | inl child ↦ omega (arith, child.1)
          | inr (inl done) ↦ omega (arith, done.1)
          | inr (inr other) ↦ omega (arith, other.1, before.once n)
        ]

    -- so the branch is underway after the turn too
    pub IsUnderway-turn : IsUnderway tree node fall costs later after
    IsUnderway-turn = record {
      each = each_later;
      lowered = lowered_later;
      pending = pending_after;
      children = children_later;
      top = elim before.top [ inl f ↦ inl (stays_fallen node f) | inr w ↦ waits node w ];
      once = once_after;
    }
