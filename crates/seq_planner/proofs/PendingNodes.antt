-- The nodes that are still to be lowered, as a list that is taken from and added to at its end.
use Rattle.seq_planner.proofs.Words.{◌≡◌, ℕ, ◌+◌, ◌<◌, ◌≤◌, List, [], ◌∷◌, ◌++◌, length, get_or, set, Option, arith, refl, ap, ◌∙◌, ◌==◌, sum, get_or-set_same}
use Rattle.seq_planner.proofs.Words.{get_or-set_other, count_by-le-length, sum_by_push, sum_by-set, Twig, IsPresent, points_of, present_below, times}
use Rattle.seq_planner.proofs.Words.{hangs_below}
use Rattle.seq_planner.proofs.LoweredBranches.{one_if, equal_one, IsUnderway}
use Rattle.seq_planner.proofs.LoweringTurns.{IsTurn}

-- what the last element adds
pub times-last : (pending : List ℕ) (m n : ℕ) → times (pending ++ m ∷ []) n ≡ times pending n + one_if (m == n)
times-last pending m n = sum_by_push (λ k. one_if (k == n)) pending m

-- it is in the list
pub times-taken : (before middle : List ℕ) (m : ℕ) → before ≡ middle ++ m ∷ [] → 0 < times before m
times-taken before middle m taken = omega (arith, ap (λ ns. times ns m) taken, times-last middle m m, equal_one m m refl)

-- an empty list has no number
pub times-none : (pending : List ℕ) (n : ℕ) → length pending ≡ 0 → times pending n ≡ 0
times-none pending n none = omega (arith, count_by-le-length (λ k. k == n) pending, none)

-- The last node of the list is present, and its cost can be lowered.
pub record IsNext (tree : List (Option Twig)) (fall : ℕ) (costs : List ℕ) (m : ℕ) : Type 0 where
  pub present : IsPresent (points_of tree) m
  pub within : m < length costs
  pub enough : fall ≤ get_or costs m 0

-- a node that is to be lowered is so
pub IsNext-last :
    {tree : List (Option Twig)} {node fall : ℕ} {entry : ℕ → ℕ} (costs before middle : List ℕ) (m : ℕ) → length costs ≡ length tree → fall ≤ entry node
    → IsUnderway tree node fall entry (λ n. get_or costs n 0) (times before) → before ≡ middle ++ m ∷ [] → IsNext tree fall costs m
IsNext-last {tree} costs before middle m each enough underway taken =
    let was = underway.pending m (times-taken before middle m taken) in
    record {
      present = was.1.present;
      within = omega (arith, present_below tree m was.1.present, each);
      enough = omega (arith, was.0, was.1.cost, enough);
    }

-- the last node is lowered, and its children are added
pub IsTurn-lists :
    (tree : List (Option Twig)) (fall : ℕ) (costs before middle after : List ℕ) (m cost : ℕ) → m < length costs → cost + fall ≡ get_or costs m 0
    → before ≡ middle ++ m ∷ [] → ((n : ℕ) → times after n ≡ times middle n + one_if (hangs_below tree m n))
    → IsTurn tree fall (λ n. get_or costs n 0) (λ n. get_or (set costs m cost) n 0) (times before) (times after) m
IsTurn-lists tree fall costs before middle after m cost inside lowered taken added = record {
  pending = times-taken before middle m taken;
  lowered = omega (arith, get_or-set_same costs m cost 0 inside, lowered);
  others = λ n apart. get_or-set_other costs m n cost 0 apart;
  counted = λ n. omega (arith, was n, added n);
}
  where
    was : (n : ℕ) → times before n ≡ times middle n + one_if (m == n)
    was n = ap (λ ns. times ns n) taken ∙ times-last middle m n

-- and the costs add up to less
pub sum-lowered : (costs : List ℕ) (m cost fall : ℕ) → m < length costs → 0 < fall → cost + fall ≡ get_or costs m 0 → sum (set costs m cost) < sum costs
sum-lowered costs m cost fall inside some lowered = omega (arith, sum_by-set (λ n. n) costs m cost 0 inside, lowered, some)
