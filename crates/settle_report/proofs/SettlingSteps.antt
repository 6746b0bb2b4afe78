-- A node is settled through its parent, and marked: costs alone change, and each marked node stays at its sum.
use Rattle.settle_report.proofs.Words.{◌≡◌, ℕ, zero, suc, ◌<◌, ◌≤◌, Bool, true, false, List, length, replicate, set, arith, refl, sym, ◌∙◌, subst, inl, inr}
use Rattle.settle_report.proofs.Words.{IsTrue, slice_index_or, cases_eq, cases_lt, get_or-set_at, get_or-replicate, get_or-set_other, get_or_past}
use Rattle.settle_report.proofs.Words.{length-replicate, length-set, IsPresent, StandsAt, KeepsOrder, Setup, sum_by, TreeState, ChangesCosts, GrowsInto}
use Rattle.settle_report.proofs.Words.{first_cost_of, recorded_or, sum_in, sum_in-parent, sum_in-start, CostsInstead, CostsByParent, MarksSettled}

-- ---- costs alone change

-- sums go by points and parents
pub sum_in-changed : (before after : TreeState) → ChangesCosts before after → (n : ℕ) → sum_in after n ≡ sum_in before n
sum_in-changed before after change n = λ t. sum_by (change.points t) (λ m. change.parents m t) n

-- one cost changes
pub ChangesCosts-one : (before after : TreeState) (n cost : ℕ) → CostsInstead before after n cost → ChangesCosts before after
ChangesCosts-one before after n cost instead = record {
  points = instead.points;
  parents = instead.parents;
  written_costs = instead.written_costs;
  records = instead.records;
}

-- and then others do
pub ChangesCosts-trans : (before now after : TreeState) → ChangesCosts before now → ChangesCosts now after → ChangesCosts before after
ChangesCosts-trans before now after first then = record {
  points = then.points ∙ first.points;
  parents = λ n. then.parents n ∙ first.parents n;
  written_costs = λ n. then.written_costs n ∙ first.written_costs n;
  records = λ k. then.records k ∙ first.records k;
}

-- a tree of which costs alone change grows if none rises
pub GrowsInto-cheaper :
    (before after : TreeState) → ChangesCosts before after → ((n : ℕ) → IsPresent before.points n → after.cost n ≤ before.cost n) → GrowsInto before after
GrowsInto-cheaper before after change none_rises = record {
  nodes = λ n p h. subst (λ points. StandsAt points n p) (sym change.points) h;
  first_costs = λ n h. first_costs n;
  trees = λ n h.
      elim (cases_lt (after.cost n) (before.cost n)) [
        | inl less ↦ inr less
        | inr no_less ↦ inl (omega (arith, no_less, none_rises n h), change.parents n)
      ];
  records = λ k entry h. change.records k ∙ h;
}
  where
    first_costs : (n : ℕ) → first_cost_of after n ≡ first_cost_of before n
    first_costs zero = refl
    first_costs (suc k) = λ t. recorded_or (change.written_costs (suc k) t) (change.records k t)

-- ---- one more mark

-- it is there, and the others stay
pub marks-set_here : (marks : List Bool) (n : ℕ) → n < length marks → IsTrue (slice_index_or (set marks n true) n false)
marks-set_here marks n within = get_or-set_at marks n n true false refl within

pub marks-set_kept : (marks : List Bool) (n m : ℕ) → n < length marks → IsTrue (slice_index_or marks m false)
    → IsTrue (slice_index_or (set marks n true) m false)
marks-set_kept marks n m within marked =
    elim (cases_eq m n) [
      | inl same ↦ get_or-set_at marks n m true false same within
      | inr apart ↦ get_or-set_other marks n m true false apart ∙ marked
    ]

-- a node without a mark is not the start
pub unmarked-other : (state : TreeState) (limit : ℕ) (marks : List Bool) → MarksSettled state limit marks
    → (n : ℕ) → slice_index_or marks n false ≡ false → 0 < n
unmarked-other state limit marks settled zero none = let start = settled.start in cc
unmarked-other state limit marks settled (suc n) none = omega arith

-- a list without a mark has none anywhere
unmarked : (count n : ℕ) → slice_index_or (replicate count false) n false ≡ false
unmarked count n =
    elim (cases_lt n count) [
      | inl below ↦ get_or-replicate count n false false below
      | inr past ↦ get_or_past (replicate count false) n false (omega (arith, past, length-replicate count false))
    ]

-- the start is the first to have one
pub MarksSettled-start : (setup : Setup) (state : TreeState) → KeepsOrder setup state → (limit : ℕ)
    → MarksSettled state limit (set (replicate (suc limit) false) 0 true)
MarksSettled-start setup state law limit =
    let none : List Bool = replicate (suc limit) false in
    let count : length (replicate (suc limit) false) ≡ suc limit = length-replicate (suc limit) false in
    record {
      each = length-set none 0 true ∙ count;
      start = marks-set_here none 0 (omega (arith, count));
      kept = λ n marked.
          elim (cases_eq n 0) [
            | inl first ↦ subst (λ i. state.cost i ≡ sum_in state i) (sym first) (law.start_cost ∙ sym (sum_in-start setup state law))
            | inr other ↦ (
                let is = sym marked ∙ get_or-set_other none 0 n true false other ∙ unmarked (suc limit) n in
                cc)
          ];
    }

module _
    (setup : Setup) (before after : TreeState) (law : KeepsOrder setup before) (limit : ℕ) (marks : List Bool)
    (settled : MarksSettled before limit marks) where
  pub MarksSettled-more :
      (n : ℕ) → IsPresent before.points n → 0 < n → n < length marks → IsTrue (slice_index_or marks (before.parent n) false)
      → CostsByParent before after n → MarksSettled after limit (set marks n true)
  MarksSettled-more zero here other within hangs lowered = absurd (omega (arith, other))
  MarksSettled-more (suc n) here other within hangs lowered =
      let change = ChangesCosts-one before after (suc n) _ lowered in
      record {
        each = length-set marks (suc n) true ∙ settled.each;
        start = marks-set_kept marks (suc n) 0 within settled.start;
        kept = λ m marked.
            elim (cases_eq m (suc n)) [
              | inl same ↦ subst (λ i. after.cost i ≡ sum_in after i) (sym same) (omega (
                arith,
                lowered.here,
                settled.kept (before.parent (suc n)) hangs,
                sum_in-parent setup before law n here,
                sum_in-changed before after change (suc n),
              ))
              | inr apart ↦ (
                  lowered.elsewhere m apart
                  ∙ settled.kept m (sym (get_or-set_other marks (suc n) m true false apart) ∙ marked)
                  ∙ sym (sum_in-changed before after change m))
            ];
      }
