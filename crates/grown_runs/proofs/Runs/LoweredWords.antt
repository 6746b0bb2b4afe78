-- The words of a run in which one kept cost is lowered: one tree word changes, and what the others say stays.
use Rattle.grown_runs.proofs.Words.{◌≡◌, ℕ, zero, suc, ◌<◌, ◌≤◌, ◌^◌, Bool, true, arith, refl, sym, ap, ◌∙◌, subst, inl, inr, ◌≢◌, cases_eq, Task, point_at}
use Rattle.grown_runs.proofs.Words.{node_count, setup_of, recorded_or, first_cost_of, IsClosed-lowered, StandsStill, LowersNode, LowersCosts-lowers}
use Rattle.grown_runs.proofs.Words.{FollowWays-same, Word, Words, WritesWord, Count, Counter, PointOf, ChildOf, TreeOf, FirstOf, RecordOf, Sizes, parent_in}
use Rattle.grown_runs.proofs.Words.{cost_in, tree_word, has_node, points_of_words, state_of_words, child_of_word, children_of_words, IsPointWord, IsTreeWord}
use Rattle.grown_runs.proofs.Words.{IsWritten, sizes_of, HoldRun, MayCost, CostsInstead}
use Rattle.grown_runs.proofs.Table.KeptWords.{KeepsNodes, has_node-kept, record_at-kept, points-kept, point_at-kept, present-kept}
use Rattle.grown_runs.proofs.Table.PackedWords.{parent_in-tree_word, cost_in-tree_word}

-- ---- one tree word changes

-- every word but the tree word of node i is as it was
abbrev pub ChangesTreeWord : Words → Words → ℕ → Type 0
ChangesTreeWord before after i = (name : Word) → name ≢ TreeOf i → after name ≡ before name

-- so the nodes and the records are
pub KeepsNodes-tree : (before after : Words) (i : ℕ) → ChangesTreeWord before after i → KeepsNodes before after
KeepsNodes-tree before after i change = record {
  points = λ n. change (PointOf n) (λ e. cc);
  firsts = λ n. change (FirstOf n) (λ e. cc);
  records = λ k. change (RecordOf k) (λ e. cc);
}

module _ (sizes : Sizes) (before after : Words) (i : ℕ) (change : ChangesTreeWord before after i) where
  keeps : KeepsNodes before after
  keeps = KeepsNodes-tree before after i change

  tree_word-kept : (n : ℕ) → n ≢ i → after (TreeOf n) ≡ before (TreeOf n)
  tree_word-kept n apart = change (TreeOf n) (λ e. apart (cc))

  -- the children stay
  pub children-kept : (n : ℕ) (side : Bool) → children_of_words after n side ≡ children_of_words before n side
  children-kept n side = ap child_of_word (change (ChildOf n side) (λ e. cc))

  stands_still : StandsStill (state_of_words sizes before) (state_of_words sizes after)
  stands_still = record {
    points = point_at-kept before after keeps sizes;
    first_costs = λ n h. first_costs n;
    records = λ k entry h. record_at-kept before after keeps k ∙ h;
  }
    where
      first_costs : (n : ℕ) → first_cost_of (state_of_words sizes after) n ≡ first_cost_of (state_of_words sizes before) n
      first_costs zero = refl
      first_costs (suc k) = λ t. recorded_or (cost_in (keeps.firsts (suc k) t)) (record_at-kept before after keeps k t)

-- ---- to a lower cost

-- a packed word is written as it is packed
pub IsTreeWord-packed : (parent cost : ℕ) → parent < 2 ^ 18 → cost < 2 ^ 44 → IsTreeWord (tree_word parent cost)
IsTreeWord-packed parent cost small low =
    λ t. tree_word (sym (parent_in-tree_word parent cost small) t) (sym (cost_in-tree_word parent cost small low) t)

-- The tree word of node i gets this cost, with the parent that it had.
pub record ExchangesCost (before after : Words) (i cost : ℕ) : Type 0 where
  pub writes : WritesWord (TreeOf i) (tree_word (parent_in (before (TreeOf i))) cost) before after
  pub low : cost < 2 ^ 44

module _ (sizes : Sizes) (before after : Words) (i cost : ℕ) (exchange : ExchangesCost before after i cost) where
  parent : ℕ
  parent = parent_in (before (TreeOf i))

  small : parent_in (before (TreeOf i)) < 2 ^ 18
  small = omega arith

  pub parent-exchanged : (n : ℕ) → parent_in (after (TreeOf n)) ≡ parent_in (before (TreeOf n))
  parent-exchanged n =
      elim (cases_eq n i) [
        | inl e ↦ (
            ap (λ m. parent_in (after (TreeOf m))) e ∙ ap parent_in exchange.writes.here
            ∙ parent_in-tree_word (parent_in (before (TreeOf i))) cost small
            ∙ ap (λ m. parent_in (before (TreeOf m))) (sym e))
        | inr apart ↦ ap parent_in (tree_word-kept sizes before after i exchange.writes.others n apart)
      ]

  pub cost-exchanged : cost_in (after (TreeOf i)) ≡ cost
  cost-exchanged = ap cost_in exchange.writes.here ∙ cost_in-tree_word (parent_in (before (TreeOf i))) cost small exchange.low

  pub cost-others : (n : ℕ) → n ≢ i → cost_in (after (TreeOf n)) ≡ cost_in (before (TreeOf n))
  cost-others n apart = ap cost_in (tree_word-kept sizes before after i exchange.writes.others n apart)

  kept : KeepsNodes before after
  kept = KeepsNodes-tree before after i exchange.writes.others

  -- all else is as it was
  pub CostsInstead-exchanged : CostsInstead (state_of_words sizes before) (state_of_words sizes after) i cost
  CostsInstead-exchanged = record {
    here = cost-exchanged;
    elsewhere = cost-others;
    points = points-kept before after kept sizes;
    parents = parent-exchanged;
    written_costs = λ n. ap cost_in (kept.firsts n);
    records = record_at-kept before after kept;
  }

  written-exchanged : (n : ℕ) → IsWritten before n → IsWritten after n
  written-exchanged n written = record {
    point = subst IsPointWord (sym (kept.points n)) written.point;
    tree =
        elim (cases_eq n i) [
          | inl e ↦ (
              subst (λ m. IsTreeWord (after (TreeOf m))) (sym e)
              (subst IsTreeWord (sym exchange.writes.here) (IsTreeWord-packed (parent_in (before (TreeOf i))) cost small exchange.low)))
          | inr apart ↦ subst IsTreeWord (sym (tree_word-kept sizes before after i exchange.writes.others n apart)) written.tree
        ];
    first = subst IsTreeWord (sym (kept.firsts n)) written.first;
  }

-- ---- in a closed run

module _
    (task : Task) (limit : ℕ) (before after : Words) (i cost : ℕ) (exchange : ExchangesCost before after i cost)
    (not_above : cost ≤ cost_in (before (TreeOf i))) (above : MayCost (state_of_words (sizes_of task) before) i cost) where
  abbrev sizes : Sizes
  sizes = sizes_of task

  lowers : LowersNode (state_of_words sizes before) (state_of_words sizes after) i
  lowers = record {
    still = stands_still sizes before after i exchange.writes.others;
    others = record {
      parents = λ n apart h. parent-exchanged sizes before after i cost exchange n;
      costs = λ n apart h. cost-others sizes before after i cost exchange n apart;
    };
    kept = parent-exchanged sizes before after i cost exchange i;
    not_dearer = omega (arith, cost-exchanged sizes before after i cost exchange, not_above);
    above = omega (arith, cost-exchanged sizes before after i cost exchange, above);
  }

  still : KeepsNodes before after
  still = KeepsNodes-tree before after i exchange.writes.others

  points : points_of_words sizes after ≡ points_of_words sizes before
  points = points-kept before after still sizes

  -- A closed run with a lowered cost is one.
  pub HoldRun-lowered : has_node before i ≡ true → HoldRun task limit before → HoldRun task limit after
  HoldRun-lowered here held = record {
    closed =
        IsClosed-lowered (setup_of task.scene) task.marks limit (state_of_words sizes before) (state_of_words sizes after)
        (record_at-kept before after still) held.closed
        (LowersCosts-lowers (setup_of task.scene) (state_of_words sizes before) (state_of_words sizes after) i held.closed.order lowers);
    ways =
        FollowWays-same (children_of_words before) (children_of_words after) (points_of_words sizes before) (points_of_words sizes after)
        (children-kept sizes before after i exchange.writes.others) (λ n. ap (λ list. point_at list n) points) held.ways;
    counted = exchange.writes.others Count (λ e. cc) ∙ held.counted ∙ ap node_count (sym points);
    claimed = λ g below. exchange.writes.others (Counter g) (λ e. cc) ∙ held.claimed g below;
    written = λ n h. written-exchanged sizes before after i cost exchange n (held.written n (present-kept before after still sizes n h));
    recorded = λ k entry h. still.records k ∙ held.recorded k entry (sym (record_at-kept before after still k) ∙ h);
    unrecorded = λ k past. still.records k ∙ held.unrecorded k past;
    start_first = still.firsts 0 ∙ held.start_first;
    blank = λ n none.
        let was = sym (has_node-kept before after still n) ∙ none in
        let apart : n ≢ i = λ e. let gone = sym was ∙ ap (has_node before) e ∙ here in cc in
        record {
          point = still.points n ∙ (held.blank n was).point;
          tree = tree_word-kept sizes before after i exchange.writes.others n apart ∙ (held.blank n was).tree;
          first = still.firsts n ∙ (held.blank n was).first;
        };
  }
