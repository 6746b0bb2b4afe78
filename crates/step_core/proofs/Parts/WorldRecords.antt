-- The parts of the law of worlds on records, and on the parents and the costs that views have seen, after each kind of step.
use Rattle.step_core.proofs.Words.{◌≡◌, ◌≢◌, ◌<◌, ◌≤◌, ◌∙◌, ◌⊎◌, ℕ, zero, suc, Bool, true, false, length, Option, Some, None, refl, sym, ap, subst, inl, inr}
use Rattle.step_core.proofs.Words.{arith, le_refl, is_some, nat_lt, cases_eq, mark_at, IsPresent, IsEarlier, IsLawfulRecord, GrowsInto, TreeState, turns_of}
use Rattle.step_core.proofs.Words.{Record, Task, HaveSameEarlier, is_earlier-same, is_earlier-same_records, RecordsMark, new_or_recorded, IsLawfulRecord-grows}
use Rattle.step_core.proofs.Words.{turn-below, HoldRun, record_at, Words, state_by-closed, run_of, setup_in, Records, state_in, is_linked, run_sizes, ◌^◌, cond}
use Rattle.step_core.proofs.Words.{option_map, point_at, AreSeenLawfully, SeenTree, seen_whole, Setup, FollowWays, Point, AreSeenLawfully-either}
use Rattle.step_core.proofs.Words.{AreSeenLawfully-grows, AreSeenLawfully-whole, children_of_words, TreeOf, cost_in, parent_in, tree_of_word, linked_points}
use Rattle.step_core.proofs.Words.{shared_tree_of_words, SeesNode, SeesTree, sees, tree_seen, SeenPairs, Trees, SharedRun, View, LinkedTree}
use Rattle.step_core.proofs.Parts.LinkedStates.{present-linked, placed-linked}
use Rattle.step_core.proofs.Parts.WorldParts.{KeepsRecords, is_recorded-kept, SeesOn}
use Rattle.step_core.proofs.Parts.Shifts.{IsShift, Shift, each-later, later_views}
use Rattle.step_core.proofs.Parts.MarksInHand.{recorded-below, no_record}
use Rattle.step_core.proofs.OneView.LawfulSights.{IsPresent-seen}
use Rattle.step_core.proofs.Seen.Looks.{IsFair}
use Rattle.step_core.proofs.OneView.SeenViews.{earlier-placed}

module _ {s : Shift} (is : IsShift s) (grows : GrowsInto (state_in s.now.run s.now.words) (state_in s.now.run s.after)) where
  abbrev was : TreeState
  was = state_in s.now.run s.now.words

  abbrev now : TreeState
  now = state_in s.now.run s.after

  -- the nodes that a worker had placed earlier are present
  earlier_linked : (entry : Record) (n : ℕ) → IsEarlier was entry n → IsPresent was.points n
  earlier_linked entry n h = present-linked s.now.run s.now.words s.now.views is.moment.world.links is.moment.world.trees n (linked n h)
    where
      linked : (n : ℕ) → IsEarlier was entry n → is_linked (run_sizes s.now.run) s.now.words n ≡ true
      linked zero h = refl
      linked (suc k) h = placed-linked s.now.run s.now.words s.now.views is.moment.world.numbers is.moment.world.links k
          (earlier-placed entry (record_at s.now.words k) h)

  -- ---- a step that leaves the records

  module _ (kept : KeepsRecords s.now.words s.after) where
    same_record : (k : ℕ) → record_at s.after k ≡ record_at s.now.words k
    same_record k = by_record (record_at s.now.words k) refl
      where
        by_record : (o : Option Record) → record_at s.now.words k ≡ o → record_at s.after k ≡ record_at s.now.words k
        by_record None e = no_record (record_at s.after k) (is_recorded-kept s.now.words s.after kept k ∙ ap is_some e) ∙ sym e
        by_record (Some entry) e = grows.records k entry e ∙ sym e

    same_earlier : (entry : Record) → HaveSameEarlier was now entry
    same_earlier entry = record {
      same = is_earlier-same_records was now entry same_record;
      present = earlier_linked entry;
    }

    pub Records-kept : Records s.now.run s.after
    Records-kept = record {
      lawful = λ k entry e. IsLawfulRecord-grows (setup_in s.now.run) was now grows entry (same_earlier entry) k (mark_at s.now.run.marks k)
          (is.moment.world.records.lawful k entry (sym (same_record k) ∙ e));
      workers = λ k entry e. is.moment.world.records.workers k entry (sym (same_record k) ∙ e);
      own_workers = λ k entry e. is.moment.world.records.own_workers k entry (sym (same_record k) ∙ e);
    }

  -- ---- a record of the mark in hand

  module _ (k : ℕ) (entry : Record) (change : RecordsMark (record_at s.now.words) (record_at s.after) k entry)
      (worker : entry.worker < s.now.run.workers) (turn : entry.turn ≡ turns_of (record_at s.now.words) (length s.now.run.marks) entry.worker)
      (lawful : IsLawfulRecord (setup_in s.now.run) was k (mark_at s.now.run.marks k) entry) where
    -- it is no earlier one of another
    later : (j : ℕ) (own : Record) → record_at s.now.words j ≡ Some own → (entry.worker ≢ own.worker) ⊎ (own.turn ≤ entry.turn)
    later j own e =
        elim (cases_eq entry.worker own.worker) [
          | inr apart ↦ inl apart
          | inl same ↦ inr (omega (
            arith,
            turn-below (record_at s.now.words) (length s.now.run.marks) is.moment.world.turns.workers j own (recorded-below is.moment.world j own e) e,
            turn,
            ap (turns_of (record_at s.now.words) (length s.now.run.marks)) same,
          ))
        ]

    earlier_with : (own : Record) → ((entry.worker ≢ own.worker) ⊎ (own.turn ≤ entry.turn)) → HaveSameEarlier was now own
    earlier_with own later_than = record {
      same = is_earlier-same was now k entry own change later_than;
      present = earlier_linked own;
    }

    pub Records-recorded : Records s.now.run s.after
    Records-recorded = record {
      lawful = λ j own e.
          elim (new_or_recorded (record_at s.now.words) (record_at s.after) k entry change j own e) [
            | inl new ↦
                subst (λ r. IsLawfulRecord (setup_in s.now.run) now j (mark_at s.now.run.marks j) r) (sym new.1)
                (subst (λ i. IsLawfulRecord (setup_in s.now.run) now i (mark_at s.now.run.marks i) entry) (sym new.0)
                (IsLawfulRecord-grows (setup_in s.now.run) was now grows entry (earlier_with entry (inr (le_refl entry.turn))) k
                (mark_at s.now.run.marks k) lawful))
            | inr old ↦
                IsLawfulRecord-grows (setup_in s.now.run) was now grows own (earlier_with own (later j own old)) j (mark_at s.now.run.marks j)
                (is.moment.world.records.lawful j own old)
          ];
      workers = λ j own e.
          elim (new_or_recorded (record_at s.now.words) (record_at s.after) k entry change j own e) [
            | inl new ↦ omega (arith, ap (λ r. r.worker) new.1, worker, is.moment.world.run_is.workers.1)
            | inr old ↦ is.moment.world.records.workers j own old
          ];
      own_workers = λ j own e past.
          elim (new_or_recorded (record_at s.now.words) (record_at s.after) k entry change j own e) [
            | inl new ↦ omega (arith, ap (λ r. r.worker) new.1, worker)
            | inr old ↦ is.moment.world.records.own_workers j own old past
          ];
    }

-- ---- the start

-- the records of a closed run
pub Records-held : (task : Task) (limit workers : ℕ) (words : Words) → HoldRun task limit words → Records (run_of task workers limit) words
Records-held task limit workers words held = record {
  lawful = λ k entry e.
      subst (λ state. IsLawfulRecord (setup_in (run_of task workers limit)) state k (mark_at task.marks k) entry)
      (sym (state_by-closed task limit words held)) (held.closed.lawful k entry e);
  workers = held.closed.workers;
  own_workers = λ k entry e past. let none = sym (held.closed.records.none_else k past) ∙ e in cc;
}

-- ---- parents and costs that views have seen

-- the parent and the cost in a word
abbrev pair_in : ℕ → ℕ × ℕ
pair_in word = (parent_in word, cost_in word)

-- a word that holds a pair holds that in its parts
pair_of_word : (word : ℕ) (pair : ℕ × ℕ) → tree_of_word word ≡ Some pair → tree_of_word word ≡ Some (pair_in word)
pair_of_word word pair e = by_test (nat_lt word (2 ^ 63)) e
  where
    by_test : (b : Bool) → cond b None (Some (pair_in word)) ≡ Some pair → cond b None (Some (pair_in word)) ≡ Some (pair_in word)
    by_test true h = cc
    by_test false h = refl

module _ (run : SharedRun) (words : Words) (trees : Trees run words) where
  -- who sees the whole tree sees the parent and the cost of each node
  whole_pair : (n : ℕ) → IsPresent (linked_points (run_sizes run) words) n
      → (seen_whole (shared_tree_of_words (run_sizes run) words)).parent_and_cost n ≡ Some (pair_in (words (TreeOf n)))
  whole_pair n h = by_point (point_at (linked_points (run_sizes run) words) n) h
    where
      by_point : (o : Option Point) → is_some o ≡ true → option_map (λ (p : Point). pair_in (words (TreeOf n))) o ≡ Some (pair_in (words (TreeOf n)))
      by_point None some_point = cc
      by_point (Some p) some_point = refl

  -- that is lawful
  whole : AreSeenLawfully (setup_in run) (seen_whole (shared_tree_of_words (run_sizes run) words)) (state_in run words)
  whole = AreSeenLawfully-whole (setup_in run) (shared_tree_of_words (run_sizes run) words) trees.order trees.first_costs

  -- A view whose seen pairs are lawful ones, or those now, sees lawful pairs.
  pub AreSeenLawfully-fair :
      (old : SeenTree) (seen : Words) (then : View) → ((n : ℕ) → old.parent_and_cost n ≡ tree_of_word (seen (TreeOf n)))
      → AreSeenLawfully (setup_in run) old (state_in run words) → IsFair seen words (sees then) → SeesTree then
      → ((n : ℕ) → SeesNode then n → IsPresent (linked_points (run_sizes run) words) n) → AreSeenLawfully (setup_in run) (tree_seen then) (state_in run words)
  AreSeenLawfully-fair old seen then says lawful fair tree present =
      AreSeenLawfully-either (setup_in run) old (seen_whole (shared_tree_of_words (run_sizes run) words)) (tree_seen then) (state_in run words) (λ n pair e.
      elim (fair n) [
        | inl was ↦ inl (says n ∙ ap tree_of_word (sym was) ∙ e)
        | inr is ↦ inr (whole_pair n (present n (tree.rooted.pairs n (ap is_some e)))
            ∙ sym (pair_of_word (words (TreeOf n)) pair (ap tree_of_word (sym is) ∙ e)) ∙ ap tree_of_word (sym is) ∙ e)
      ])
      lawful whole

  -- so is one that sees all words as they are
  pub AreSeenLawfully-all :
      (then : View) → ((n : ℕ) → sees then (TreeOf n) ≡ words (TreeOf n)) → SeesTree then
      → ((n : ℕ) → SeesNode then n → IsPresent (linked_points (run_sizes run) words) n) → AreSeenLawfully (setup_in run) (tree_seen then) (state_in run words)
  AreSeenLawfully-all then all tree present =
      AreSeenLawfully-either (setup_in run) (seen_whole (shared_tree_of_words (run_sizes run) words))
      (seen_whole (shared_tree_of_words (run_sizes run) words)) (tree_seen then) (state_in run words) (λ n pair e.
      inr (whole_pair n (present n (tree.rooted.pairs n (ap is_some e))) ∙ sym (pair_of_word (words (TreeOf n)) pair (ap tree_of_word (sym (all n)) ∙ e))
      ∙ ap tree_of_word (sym (all n)) ∙ e))
      whole whole

-- it is of the pairs alone
pub AreSeenLawfully-same :
    (setup : Setup) (one other : SeenTree) (state : TreeState) → ((n : ℕ) → other.parent_and_cost n ≡ one.parent_and_cost n)
    → AreSeenLawfully setup one state → AreSeenLawfully setup other state
AreSeenLawfully-same setup one other state same lawful = AreSeenLawfully-either setup one one other state (λ n pair e. inl (sym (same n) ∙ e)) lawful lawful

-- Of all views: one sees lawful pairs after a step of its own, if each pair that it sees is one that it saw, or the one now.
pub SeenPairs-step :
    {s : Shift} → IsShift s → SeesOn s → GrowsInto (state_in s.now.run s.now.words) (state_in s.now.run s.after) → Trees s.now.run s.after
    → LinkedTree s.now.run s.after (later_views s) → SeesTree s.then → SeenPairs s.now.run s.after (later_views s)
SeenPairs-step {s} is on grows trees links tree =
    each-later is (λ u. u.run ≡ s.now.run → AreSeenLawfully (setup_in s.now.run) (tree_seen u) (state_in s.now.run s.after))
    (λ i u apart e of. stays u (is.moment.world.seen_pairs i u e of))
    (λ of. AreSeenLawfully-fair s.now.run s.after trees (tree_seen s.now.view) (sees s.now.view) s.then (λ n. refl)
    (stays s.now.view (is.moment.world.seen_pairs s.now.id s.now.view is.moment.at is.moment.own)) on.fair tree
    (λ n h. subst (λ r. IsPresent (linked_points (run_sizes r) s.after) n) of (IsPresent-seen s.then s.after on.behind tree
    (subst (λ r. FollowWays (children_of_words s.after) (linked_points (run_sizes r) s.after)) (sym of) links.ways) n h)))
  where
    stays : (u : View) → AreSeenLawfully (setup_in s.now.run) (tree_seen u) (state_in s.now.run s.now.words)
        → AreSeenLawfully (setup_in s.now.run) (tree_seen u) (state_in s.now.run s.after)
    stays u = AreSeenLawfully-grows (setup_in s.now.run) (tree_seen u) (state_in s.now.run s.now.words) (state_in s.now.run s.after) grows
