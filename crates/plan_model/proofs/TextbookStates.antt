-- The state of a tree and the records of its marks, as in a textbook run: its costs, the start alone, and one number more.
use Rattle.plan_model.proofs.Words.{◌≡◌, ℕ, zero, suc, ◌≤◌, eqb, cond, List, [], ◌∷◌, ◌++◌, length, Some, None, arith, refl, sym, ap, ◌∙◌, subst, ◌≢◌}
use Rattle.plan_model.proofs.Words.{slice_get, cond-true, cond-false, ne_eqb, le-ltb, slice_get_past, Point, Record, Twig, ClearAt, StandsAt, IsPresent}
use Rattle.plan_model.proofs.Words.{point_of, IsFree, node_count, parent_of, points_of, parent_or_zero, sum_of, CostsFall, AreTight, recorded_or, first_cost_of}
use Rattle.plan_model.proofs.Words.{state_of, IsAllowedEdge, most_cost_of, KeepsOrder, IsClosed, Nodes, Setup, start_alone, cost_through, once_if}
use Rattle.std.proofs.lemmas.Bool.{eq-eqb}
use Rattle.plan_model.proofs.ChainLaws.{sums-tight, AreTight-sums}
use Rattle.plan_model.proofs.DistinctPoints.{AreDistinct-start}
use Rattle.plan_model.proofs.KeptCosts.{AddsPriced, CostsFall-adds, AreTight-adds}
use Rattle.plan_model.proofs.NewNodes.{
  StandsAt-present,
  point_at-same,
  not_present,
  present_below,
  Adds,
  Adds-push,
  IsPresent-stands,
  IsPresent-kept,
  parent_of-kept,
  StandsAt-new,
  parent_of-new,
}
use Rattle.plan_model.proofs.TreeChanges.{node_at-past, node_at-absent, HaveSameNodes-absent, sum-same}
use Rattle.plan_model.proofs.OrderLaws.{cost-within_more}
use Rattle.plan_model.proofs.LoweredCosts.{AddsRecord}
use Rattle.plan_model.proofs.OrderedTrees.{FallAlong-ordered}
use Rattle.plan_model.proofs.AddedNodes.{AddsNode}
use Rattle.plan_model.proofs.NextRecords.{RecordsMark, still_recorded}
use Rattle.plan_model.proofs.PlacedNodes.{ArePlacedMarks-from}

-- ---- the start alone

no_other : (start : Point) (n : ℕ) → ¬ IsPresent (points_of (start_alone start)) (suc n)
no_other start n h = not_present (start_alone start) (suc n) (node_at-past (start_alone start) (suc n) (omega arith)) h

-- the start alone keeps the order law if it is clear
pub KeepsOrder-start : (setup : Setup) → ClearAt setup.space setup.start → KeepsOrder setup (state_of (start_alone setup.start) [])
KeepsOrder-start setup clear = record {
  distinct = AreDistinct-start setup.start;
  start_stands = refl;
  start_clear = clear;
  start_parent = refl;
  start_cost = refl;
  hangs = λ n h. absurd (no_other setup.start n h);
  bounded = bounded;
}
  where
    bounded :
        (n : ℕ) → IsPresent (points_of (start_alone setup.start)) n
        → sum_of (start_alone setup.start) n ≤ most_cost_of setup (node_count (points_of (start_alone setup.start)))
    bounded zero h = let free : sum_of (start_alone setup.start) 0 ≡ 0 = refl in omega (arith, free)
    bounded (suc n) h = absurd (no_other setup.start n h)

-- The start alone is a closed run of no marks, if it is clear.
pub IsClosed-start :
    (setup : Setup) (marks : List Point) → ClearAt setup.space setup.start → IsClosed setup marks 0 (state_of (start_alone setup.start) [])
IsClosed-start setup marks clear = record {
  order = KeepsOrder-start setup clear;
  within = omega arith;
  records = record { recorded = λ k below. absurd (omega arith); none_else = λ k above. refl };
  workers = λ k entry h. cc;
  turns = record { each = λ worker turn. sym (ap once_if (le-ltb turn 0 (omega arith))) };
  lawful = λ k entry h. cc;
  placed = ArePlacedMarks-from (state_of (start_alone setup.start) []) (λ k. ((λ h. absurd (no_other setup.start k h)), (λ h. let e = h.1 in cc)));
}

-- ---- costs

-- the sums of a tree that keeps the order law fall along parents
pub CostsFall-ordered :
    (setup : Setup) (tree : Nodes) (records : List Record) → KeepsOrder setup (state_of tree records) → CostsFall (sum_of tree) tree
CostsFall-ordered setup tree records order =
    FallAlong-ordered setup (state_of tree records) order

-- and each is the parent's and the edge
pub AreTight-ordered :
    (setup : Setup) (tree : Nodes) (records : List Record) → KeepsOrder setup (state_of tree records) → AreTight (sum_of tree) tree
AreTight-ordered setup tree records order =
    AreTight-sums (sum_of tree) (points_of tree) (parent_of tree) (CostsFall-ordered setup tree records order)

-- ---- one record more

slice_get-push_new : (records : List Record) (entry : Record) → slice_get (records ++ entry ∷ []) (length records) ≡ Some entry
slice_get-push_new [] entry = refl
slice_get-push_new (own ∷ records) entry = slice_get-push_new records entry

slice_get-push_other :
    (records : List Record) (entry : Record) (j : ℕ) → j ≢ length records → slice_get (records ++ entry ∷ []) j ≡ slice_get records j
slice_get-push_other [] entry zero apart = absurd (apart refl)
slice_get-push_other [] entry (suc j) apart = refl
slice_get-push_other (own ∷ records) entry zero apart = refl
slice_get-push_other (own ∷ records) entry (suc j) apart = slice_get-push_other records entry j (λ e. apart (ap suc e))

-- The records are those of the marks up to mark k, which is recorded next.
pub record RecordsNext (tree : Nodes) (records : List Record) (k : ℕ) : Type 0 where
  pub nodes : length tree ≡ suc k
  pub marks : length records ≡ k

module _ (tree : Nodes) (records : List Record) (k : ℕ) (entry : Record) (next : RecordsNext tree records k) where
  -- the next mark is recorded
  pub RecordsMark-push : RecordsMark (slice_get records) (slice_get (records ++ entry ∷ [])) k entry
  RecordsMark-push = record {
    absent = slice_get_past records k (omega (arith, next.marks));
    recorded = ap (slice_get (records ++ entry ∷ [])) (sym next.marks) ∙ slice_get-push_new records entry;
    others = λ j apart. slice_get-push_other records entry j (λ e. apart (e ∙ next.marks));
  }

  pub node-absent : ¬ IsPresent (points_of tree) (suc k)
  node-absent h = omega (arith, present_below tree (suc k) h, next.nodes)

  -- a mark without a node adds its record alone
  pub AddsRecord-unplaced :
      (after : Nodes) → after ≡ tree ++ None ∷ [] → AddsRecord (state_of tree records) (state_of after (records ++ entry ∷ [])) k entry
  AddsRecord-unplaced after e =
      subst (λ t. AddsRecord (state_of tree records) (state_of t (records ++ entry ∷ [])) k entry) (sym e) (record {
        points = λ n. point_at-same (tree ++ None ∷ []) tree n (node_at-absent tree n);
        parents = λ n h. ap parent_or_zero (node_at-absent tree n);
        costs = λ n h. sum-same (tree ++ None ∷ []) tree n (HaveSameNodes-absent tree);
        written_costs = λ n h. refl;
        absent = RecordsMark-push.absent;
        recorded = RecordsMark-push.recorded;
        records = RecordsMark-push.others;
        written = λ h. absurd (node-absent h);
      })

-- ---- one node more

-- Mark k is placed at p under node f, by a record with that first parent and its cost.
pub record PlacesNode (setup : Setup) (tree : Nodes) (k f : ℕ) (p : Point) (entry : Record) : Type 0 where
  pub free : IsFree (points_of tree) p
  pub parent : IsPresent (points_of tree) f
  pub edge : IsAllowedEdge setup (point_of (points_of tree) f) p
  pub cost : entry.first_cost ≡ cost_through tree p f

module _
    (setup : Setup) (tree : Nodes) (records : List Record) (k f : ℕ) (p : Point) (entry : Record)
    (next : RecordsNext tree records k) (order : KeepsOrder setup (state_of tree records)) (places : PlacesNode setup tree k f p entry) where
  abbrev node : Twig
  node = record { point = p; parent = f }

  abbrev longer : Nodes
  longer = tree ++ Some (record { point = p; parent = f }) ∷ []

  adds : Adds tree (suc k) node longer
  adds = subst (λ n. Adds tree n node (tree ++ Some node ∷ [])) next.nodes (Adds-push tree node)

  -- the sums of the longer tree
  later : ℕ → ℕ
  later n = cond (eqb n (suc k)) (cost_through tree p f) (sum_of tree n)

  present_apart : (n : ℕ) → IsPresent (points_of tree) n → n ≢ suc k
  present_apart n h e = node-absent tree records k entry next (subst (IsPresent (points_of tree)) e h)

  later_kept : (n : ℕ) → IsPresent (points_of tree) n → later n ≡ sum_of tree n
  unfolding later
  later_kept n h = cond-false (eqb n (suc k)) (cost_through tree p f) (sum_of tree n) (ne_eqb n (suc k) (present_apart n h))

  later_new : later (suc k) ≡ cost_through tree p f
  unfolding later
  later_new = cond-true (eqb (suc k) (suc k)) (cost_through tree p f) (sum_of tree (suc k)) (eq-eqb (suc k) (suc k) refl)

  adds_priced : AddsPriced (sum_of tree) later tree longer (suc k) node
  adds_priced = record {
    adds = adds;
    keeps = later_kept;
    priced = record {
      parent = places.parent;
      apart = λ e. places.free f (StandsAt-present (points_of tree) f places.parent ∙ ap Some e);
      cost = later_new;
    };
  }

  -- the sums are these
  sum_later : (n : ℕ) → IsPresent (points_of longer) n → sum_of longer n ≡ later n
  sum_later n h =
      let falls = CostsFall-ordered setup tree records order in
      let tight = AreTight-ordered setup tree records order in
      sums-tight later (points_of longer) (parent_of longer) (CostsFall-adds (sum_of tree) later tree longer (suc k) node adds_priced falls tight)
      (AreTight-adds (sum_of tree) later tree longer (suc k) node adds_priced falls tight) n h

  -- the new node stands at p, and costs what its parent costs and the edge
  pub StandsAt-placed : StandsAt (points_of longer) (suc k) p
  StandsAt-placed = StandsAt-new tree (suc k) node longer adds

  pub sum-placed : sum_of longer (suc k) ≡ cost_through tree p f
  sum-placed = sum_later (suc k) (IsPresent-stands (points_of longer) (suc k) p StandsAt-placed) ∙ later_new

  recorded_next : RecordsMark (slice_get records) (slice_get (records ++ entry ∷ [])) k entry
  recorded_next = RecordsMark-push tree records k entry next

  kept_first_costs :
      (n : ℕ) → IsPresent (points_of tree) n → first_cost_of (state_of longer (records ++ entry ∷ [])) n ≡ first_cost_of (state_of tree records) n
  kept_first_costs zero h = refl
  kept_first_costs (suc j) h = ap (recorded_or 0) (recorded_next.others j (λ e. present_apart (suc j) h (ap suc e)))

  -- The new node is added with its record.
  pub AddsNode-placed : AddsNode setup (state_of tree records) (state_of longer (records ++ entry ∷ [])) (suc k) f p
  AddsNode-placed = record {
    kept = record {
      parents = parent_of-kept tree (suc k) node longer adds;
      costs = λ n h. sum_later n (IsPresent-kept tree (suc k) node longer adds n h) ∙ later_kept n h;
      first_costs = kept_first_costs;
      records = still_recorded (slice_get records) (slice_get (records ++ entry ∷ [])) k entry recorded_next;
    };
    elsewhere = λ n apart. point_at-same longer tree n (adds.elsewhere n apart);
    absent = node-absent tree records k entry next;
    stands = StandsAt-placed;
    free = places.free;
    parent = parent_of-new tree (suc k) node longer adds;
    hangs = record {
      present = places.parent;
      other = present_apart f places.parent;
      edge = places.edge;
      above = omega (arith, sum-placed);
    };
    within = omega (arith, sum-placed, cost-within_more setup (state_of tree records) order f p places.parent places.edge);
    first_cost = ap (recorded_or 0) recorded_next.recorded ∙ places.cost ∙ sym sum-placed;
  }
