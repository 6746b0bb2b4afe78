-- The part of the law of worlds on the order law of the linked nodes, after each kind of step.
use Rattle.step_core.proofs.Words.{◌≡◌, ◌≢◌, ◌<◌, ◌≤◌, ◌^◌, ◌∙◌, ℕ, suc, true, refl, sym, ap, subst, inl, inr, arith, cases_eq, IsBounded, Hangs, most_cost_of}
use Rattle.step_core.proofs.Words.{IsPresent, node_count, point_at, point_of, GrowsInto, TreeState, first_cost_of, Point, AddsNode, KeepsFirstCosts-adds}
use Rattle.step_core.proofs.Words.{KeepsOrder-adds, KeepsFirstCosts-lowered, KeepsOrder-lowered, LowersCosts, LowersCosts-rewires, StandsStill, EndsBelow-free}
use Rattle.step_core.proofs.Words.{IsPointWord, IsTreeWord, IsWritten, children_of_words, is_linked, WritesWord, ChildOf, FirstOf, PointOf, TreeOf, Sizes}
use Rattle.step_core.proofs.Words.{cost_in, parent_in, point_word, tree_word, IsTreeWord-packed, IsPointWord-packed, cost_in-tree_word, parent_in-tree_word}
use Rattle.step_core.proofs.Words.{linked_points, run_sizes, setup_in, LinkedTree, ClaimedMarks, Trees, state_in}
use Rattle.step_core.proofs.Parts.LinkedStates.{GrowsInto-behind, first_cost-linked, linked-present}
use Rattle.step_core.proofs.Seen.Looks.{same_name}
use Rattle.step_core.proofs.Parts.WorldLinks.{KeepsLinks, absent-new, is_linked-kept, is_linked-new, is_linked-others, linked_points-kept, point_at-others}
use Rattle.step_core.proofs.Parts.WorldLinks.{stands-new, LinksNode}
use Rattle.step_core.proofs.Parts.Shifts.{IsShift, Shift, later_views}

module _ {s : Shift} (is : IsShift s) (numbers : ClaimedMarks s.now.run s.after (later_views s)) (links : LinkedTree s.now.run s.after (later_views s)) where
  abbrev sizes : Sizes
  sizes = run_sizes s.now.run

  abbrev was : TreeState
  was = state_in s.now.run s.now.words

  abbrev now : TreeState
  now = state_in s.now.run s.after

  -- The tree grows, by what may become of its words.
  pub GrowsInto-step : GrowsInto was now
  GrowsInto-step =
      GrowsInto-behind s.now.run s.now.words s.after s.now.views (later_views s) is.moment.world.numbers is.moment.world.links numbers links
      is.moment.world.trees is.go

  here : (n : ℕ) → IsPresent was.points n → is_linked sizes s.now.words n ≡ true
  here = linked-present sizes s.now.words

  -- ---- a step that leaves the words of linked nodes

  module _ (keeps : KeepsLinks sizes s.now.words s.after)
      (trees : (n : ℕ) → is_linked sizes s.now.words n ≡ true → s.after (TreeOf n) ≡ s.now.words (TreeOf n))
      (firsts : (n : ℕ) → is_linked sizes s.now.words n ≡ true → s.after (FirstOf n) ≡ s.now.words (FirstOf n)) where
    still : StandsStill was now
    still = record {
      points = λ n. ap (λ l. point_at l n) (linked_points-kept sizes s.now.words s.after keeps);
      first_costs = GrowsInto-step.first_costs;
      records = GrowsInto-step.records;
    }

    same_costs : LowersCosts (setup_in s.now.run) was now
    same_costs = record {
      still = still;
      start = ap parent_in (trees 0 refl);
      none_rises = λ n h. omega (arith, ap cost_in (trees n (here n h)));
      nodes = λ n h. inl record {
        parent = ap parent_in (trees (suc n) (here (suc n) h));
        falls =
            omega (
              arith,
              ap cost_in (trees (suc n) (here (suc n) h)),
              ap cost_in (trees (was.parent (suc n)) (here (was.parent (suc n)) (is.moment.world.trees.order.hangs n h).present)),
            );
      };
    }

    pub Trees-kept : Trees s.now.run s.after
    Trees-kept = record {
      order = KeepsOrder-lowered (setup_in s.now.run) was now same_costs is.moment.world.trees.order;
      first_costs = KeepsFirstCosts-lowered (setup_in s.now.run) was now same_costs is.moment.world.trees.first_costs;
      written = λ n linked.
          let linked_before = sym (is_linked-kept sizes s.now.words s.after keeps n) ∙ linked in
          let words = is.moment.world.trees.written n linked_before in
          record {
            point = subst IsPointWord (sym (keeps.points n linked_before)) words.point;
            tree = subst IsTreeWord (sym (trees n linked_before)) words.tree;
            first = subst IsTreeWord (sym (firsts n linked_before)) words.first;
          };
      start_first = firsts 0 refl ∙ is.moment.world.trees.start_first;
    }

  -- ---- a cost that is lowered

  module _ (n parent cost : ℕ) (writes : WritesWord (TreeOf n) (tree_word parent cost) s.now.words s.after) (linked : is_linked sizes s.now.words n ≡ true)
      (parent_fits : parent < 2 ^ 18) (cost_fits : cost < 2 ^ 44) (present : IsPresent was.points n)
      (hangs : Hangs (setup_in s.now.run) was n (point_of was.points n) parent cost) (cheaper : cost < cost_in (s.now.words (TreeOf n))) where
    keeps_links : KeepsLinks sizes s.now.words s.after
    keeps_links = record { children = λ m side. writes.others (ChildOf m side) (λ e. cc); points = λ m h. writes.others (PointOf m) (λ e. cc) }

    new_cost : now.cost n ≡ cost
    new_cost = ap cost_in writes.here ∙ cost_in-tree_word parent cost parent_fits cost_fits

    lowered : LowersCosts (setup_in s.now.run) was now
    lowered = LowersCosts-rewires (setup_in s.now.run) was now n parent is.moment.world.trees.order record {
      still = record {
        points = λ m. ap (λ l. point_at l m) (linked_points-kept sizes s.now.words s.after keeps_links);
        first_costs = GrowsInto-step.first_costs;
        records = GrowsInto-step.records;
      };
      others = record {
        parents = λ m apart h. ap parent_in (writes.others (TreeOf m) (λ e. apart cc));
        costs = λ m apart h. ap cost_in (writes.others (TreeOf m) (λ e. apart cc));
      };
      present = present;
      exchanged = ap parent_in writes.here ∙ parent_in-tree_word parent cost parent_fits;
      hangs = subst (Hangs (setup_in s.now.run) was n (point_of was.points n) parent) (sym new_cost) hangs;
      cheaper = omega (arith, new_cost, cheaper);
    }

    pub Trees-lowered : Trees s.now.run s.after
    Trees-lowered = record {
      order = KeepsOrder-lowered (setup_in s.now.run) was now lowered is.moment.world.trees.order;
      first_costs = KeepsFirstCosts-lowered (setup_in s.now.run) was now lowered is.moment.world.trees.first_costs;
      written = λ m linked_after.
          let words = is.moment.world.trees.written m (sym (is_linked-kept sizes s.now.words s.after keeps_links m) ∙ linked_after) in
          record {
            point = subst IsPointWord (sym (writes.others (PointOf m) (λ e. cc))) words.point;
            tree = tree_written m words.tree;
            first = subst IsTreeWord (sym (writes.others (FirstOf m) (λ e. cc))) words.first;
          };
      start_first = writes.others (FirstOf 0) (λ e. cc) ∙ is.moment.world.trees.start_first;
    }
      where
        tree_written : (m : ℕ) → IsTreeWord (s.now.words (TreeOf m)) → IsTreeWord (s.after (TreeOf m))
        tree_written m old =
            elim (same_name (TreeOf m) (TreeOf n)) [
              | inl e ↦ subst IsTreeWord (sym (ap s.after e ∙ writes.here)) (IsTreeWord-packed parent cost parent_fits cost_fits)
              | inr apart ↦ subst IsTreeWord (sym (writes.others (TreeOf m) apart)) old
            ]

  -- ---- a node that is linked

  module _ {p : Point} {k : ℕ} (puts : LinksNode sizes s.now.words s.after p k) (bounded : IsBounded p) (point : s.now.words (PointOf (suc k)) ≡ point_word p)
      (parent cost : ℕ) (parent_fits : parent < 2 ^ 18) (cost_fits : cost < 2 ^ 44) (tree : s.now.words (TreeOf (suc k)) ≡ tree_word parent cost)
      (first : s.now.words (FirstOf (suc k)) ≡ tree_word parent cost) (hangs : Hangs (setup_in s.now.run) was (suc k) p parent cost)
      (within : cost ≤ most_cost_of (setup_in s.now.run) (suc (node_count was.points))) where
    tree_then : now.cost (suc k) ≡ cost
    tree_then = ap cost_in (puts.writes.others (TreeOf (suc k)) (λ e. cc) ∙ tree) ∙ cost_in-tree_word parent cost parent_fits cost_fits

    start_first_then : s.after (FirstOf 0) ≡ tree_word 0 0
    start_first_then = puts.writes.others (FirstOf 0) (λ e. cc) ∙ is.moment.world.trees.start_first

    first_cost-new : first_cost_of now (suc k) ≡ cost
    first_cost-new =
        first_cost-linked s.now.run s.after (later_views s) numbers links start_first_then (suc k) (is_linked-new puts)
        ∙ ap cost_in (puts.writes.others (FirstOf (suc k)) (λ e. cc) ∙ first) ∙ cost_in-tree_word parent cost parent_fits cost_fits

    adds : AddsNode (setup_in s.now.run) was now (suc k) parent p
    adds = record {
      kept = record {
        parents = λ m h. ap parent_in (puts.writes.others (TreeOf m) (λ e. cc));
        costs = λ m h. ap cost_in (puts.writes.others (TreeOf m) (λ e. cc));
        first_costs = GrowsInto-step.first_costs;
        records = GrowsInto-step.records;
      };
      elsewhere = point_at-others puts;
      absent = absent-new puts;
      stands = stands-new puts;
      free = EndsBelow-free (children_of_words s.now.words) (linked_points sizes s.now.words) puts.ways p puts.depth puts.n puts.above puts.ends;
      parent = ap parent_in (puts.writes.others (TreeOf (suc k)) (λ e. cc) ∙ tree) ∙ parent_in-tree_word parent cost parent_fits;
      hangs = subst (Hangs (setup_in s.now.run) was (suc k) p parent) (sym tree_then) hangs;
      within = omega (arith, tree_then, within);
      first_cost = first_cost-new ∙ sym tree_then;
    }

    pub Trees-linked : Trees s.now.run s.after
    Trees-linked = record {
      order = KeepsOrder-adds (setup_in s.now.run) was now (suc k) parent p adds is.moment.world.trees.order;
      first_costs = KeepsFirstCosts-adds (setup_in s.now.run) was now (suc k) parent p adds is.moment.world.trees.first_costs;
      written = λ m linked_after.
          let old : m ≢ suc k → IsWritten s.after m =
          λ apart.
          let words = is.moment.world.trees.written m (sym (is_linked-others puts m apart) ∙ linked_after) in
          record {
            point = subst IsPointWord (sym (puts.writes.others (PointOf m) (λ e. cc))) words.point;
            tree = subst IsTreeWord (sym (puts.writes.others (TreeOf m) (λ e. cc))) words.tree;
            first = subst IsTreeWord (sym (puts.writes.others (FirstOf m) (λ e. cc))) words.first;
          } in
          elim (cases_eq m (suc k)) [
            | inl e ↦ subst (IsWritten s.after) (sym e) new_written
            | inr apart ↦ old apart
          ];
      start_first = start_first_then;
    }
      where
        new_written : IsWritten s.after (suc k)
        new_written = record {
          point = subst IsPointWord (sym (puts.writes.others (PointOf (suc k)) (λ e. cc) ∙ point)) (IsPointWord-packed p bounded);
          tree = subst IsTreeWord (sym (puts.writes.others (TreeOf (suc k)) (λ e. cc) ∙ tree)) (IsTreeWord-packed parent cost parent_fits cost_fits);
          first = subst IsTreeWord (sym (puts.writes.others (FirstOf (suc k)) (λ e. cc) ∙ first)) (IsTreeWord-packed parent cost parent_fits cost_fits);
        }
