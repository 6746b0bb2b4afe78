-- The parts of the law of worlds on the best word, after each kind of step.
use Rattle.step_core.proofs.Words.{◌≡◌, ◌≤◌, ◌∙◌, ◌⊎◌, ◌≢◌, ℕ, zero, suc, true, List, Option, Some, None, refl, sym, ap, subst, inl, inr, arith, le_trans}
use Rattle.step_core.proofs.Words.{IsTrue, same_Some, IsGoalNode, is_goal_point, IsPresent, point_at, point_of, GrowsInto, IsPresent-goal, StandsAt-present}
use Rattle.step_core.proofs.Words.{IsGoalNode-before, IsGoalNode-grows, cost-grows, has_node, is_linked, AreBehind, Words, Best, FirstOf, RecordOf}
use Rattle.step_core.proofs.Words.{best_node_in, best_word, cost_in, IsAtMostPlaced, SeesGoal, seen_first_cost, linked_points, new_hand, SeesTree, run_sizes}
use Rattle.step_core.proofs.Words.{sees, tree_seen, BestWord, ClaimedMarks, IsBestWord, LinkedTree, SeenBests, SeesBest, state_in, Hand, SharedRun, Posted}
use Rattle.step_core.proofs.Words.{View}
use Rattle.step_core.proofs.Parts.LinkedStates.{present-linked, placed-linked}
use Rattle.step_core.proofs.Seen.SeenWords.{same_once, has_node-kept}
use Rattle.step_core.proofs.OneView.SeenViews.{SeesPoint-later}
use Rattle.step_core.proofs.Parts.Shifts.{IsShift, Shift, each-later, later_views, same_run}
use Rattle.step_core.proofs.Parts.WorldParts.{KeepsRecords}

-- ---- words that go on

module _ (run : SharedRun) (before after : Words) (grows : GrowsInto (state_in run before) (state_in run after)) where
  -- a goal node stays one, and its cost does not rise
  pub IsBestWord-grows : (word : ℕ) → IsBestWord run before word → IsBestWord run after word
  IsBestWord-grows word is some_pair =
      let was = is some_pair in
      let n : ℕ = best_node_in word in
      let here = IsPresent-goal run.goals (point_at (linked_points (run_sizes run) before) n) was.0 in (
        IsGoalNode-grows run.goals (state_in run before) (state_in run after) grows n was.0,
        le_trans (cost-grows (state_in run before) (state_in run after) grows n here) was.1,
        was.2,
      )

  -- a node that was present was a goal node before
  pub goal-before : (n : ℕ) → IsPresent (linked_points (run_sizes run) before) n → IsGoalNode run.goals (linked_points (run_sizes run) after) n
      → IsGoalNode run.goals (linked_points (run_sizes run) before) n
  goal-before n here goal = IsGoalNode-before run.goals (state_in run before) (state_in run after) grows n here goal

  -- what a view knew of the best word it knows still, if that has not risen
  pub SeesBest-goes_on : after Best ≤ before Best → (view : View) → SeesBest run before view → SeesBest run after view
  SeesBest-goes_on falls view saw = record {
    pair = IsBestWord-grows view.best saw.pair;
    falls = le_trans falls saw.falls;
    placed = saw.placed;
    taken_pair = λ hand word held has. IsBestWord-grows word (saw.taken_pair hand word held has);
    taken = saw.taken;
    posted = saw.posted;
  }

-- of all views, where one view is another now
pub SeenBests-step :
    {s : Shift} → IsShift s → GrowsInto (state_in s.now.run s.now.words) (state_in s.now.run s.after) → SeesBest s.now.run s.after s.then
    → SeenBests s.now.run s.after (later_views s)
SeenBests-step {s} is grows own =
    each-later is (λ u. u.run ≡ s.now.run → SeesBest s.now.run s.after u)
    (λ i u apart e of. SeesBest-goes_on s.now.run s.now.words s.after grows is.best u (is.moment.world.bests i u e of)) (λ of. own)

-- a node that is recorded as placed is linked
pub node-linked :
    (run : SharedRun) (words : Words) (views : List View) → ClaimedMarks run words views → LinkedTree run words views → (n : ℕ) → has_node words n ≡ true
    → is_linked (run_sizes run) words n ≡ true
node-linked run words views numbers links zero h = refl
node-linked run words views numbers links (suc k) h = placed-linked run words views numbers links k h

module _ {s : Shift} (is : IsShift s) (grows : GrowsInto (state_in s.now.run s.now.words) (state_in s.now.run s.after)) where
  -- The best word is as it must be if it has not risen and is a pair, and each new node is no less.
  pub BestWord-step :
      IsBestWord s.now.run s.after (s.after Best)
      → ((n : ℕ) → has_node s.after n ≡ true → IsGoalNode s.now.run.goals (linked_points (run_sizes s.now.run) s.after) n
      → (has_node s.now.words n ≡ true) ⊎ (s.after Best ≤ best_word (cost_in (s.after (FirstOf n))) n)) → BestWord s.now.run s.after
  BestWord-step pair nodes = record {
    pair = pair;
    placed = λ n node goal.
        elim (nodes n node goal) [
          | inr is_new ↦ is_new
          | inl was ↦ (
              let linked = node-linked s.now.run s.now.words s.now.views is.moment.world.numbers is.moment.world.links n was in
              let here = present-linked s.now.run s.now.words s.now.views is.moment.world.links is.moment.world.trees n linked in
              let old = is.moment.world.best.placed n was (goal-before s.now.run s.now.words s.after grows n here goal) in
              le_trans is.best (subst (λ w. s.now.words Best ≤ best_word (cost_in w) n) (same_first n linked) old))
        ];
  }
    where
      -- what a node was placed at stays
      same_first : (n : ℕ) → is_linked (run_sizes s.now.run) s.now.words n ≡ true → s.now.words (FirstOf n) ≡ s.after (FirstOf n)
      same_first n linked = same_once (is.go (FirstOf n)) (omega (arith, (is.moment.world.trees.written n linked).first))

  -- so it is if it stays, and no mark is recorded
  pub BestWord-kept : s.after Best ≡ s.now.words Best → KeepsRecords s.now.words s.after → BestWord s.now.run s.after
  BestWord-kept same records =
      BestWord-step (subst (IsBestWord s.now.run s.after) (sym same)
      (IsBestWord-grows s.now.run s.now.words s.after grows (s.now.words Best) is.moment.world.best.pair))
      (λ n node goal. inl (sym (has_node-kept s.now.words s.after records n) ∙ node))

-- ---- a step of a view

-- The best that is in hand now was in hand before, and if the hand has posted its node, it had.
pub record FollowsHand (was next : Option Hand) : Type 0 where
  pub taken : (hand : Hand) (word : ℕ) → next ≡ Some hand → hand.best ≡ Some word → (old : Hand) × (was ≡ Some old) × (old.best ≡ Some word)
  pub posted : (hand : Hand) → next ≡ Some hand → hand.stage ≡ Posted
      → (old : Hand) × (was ≡ Some old) × (old.stage ≡ Posted) × (hand.cost ≡ old.cost) × (hand.mark ≡ old.mark)

pub FollowsHand-refl : (hand : Option Hand) → FollowsHand hand hand
FollowsHand-refl hand = record { taken = λ h word e has. (h, e, has); posted = λ h e far. (h, e, far, refl, refl) }

pub FollowsHand-none : (was : Option Hand) → FollowsHand was None
FollowsHand-none was = record { taken = λ h word e has. cc; posted = λ h e far. cc }

-- a mark that was just claimed has none
pub FollowsHand-new : (was : Option Hand) (k : ℕ) → FollowsHand was (Some (new_hand k))
FollowsHand-new was k = record {
  taken = λ h word e has. let no = ap (λ o. o.best) (same_Some (new_hand k) h e) ∙ has in cc;
  posted = λ h e far. let no = ap (λ o. o.stage) (same_Some (new_hand k) h e) ∙ far in cc;
}

-- the same hand at another stage, which is not that
pub FollowsHand-stage : (was : Option Hand) (hand next : Hand) → was ≡ Some hand → next.best ≡ hand.best → next.stage ≢ Posted → FollowsHand was (Some next)
FollowsHand-stage was hand next held best apart = record {
  taken = λ h word e has. (hand, held, sym best ∙ ap (λ o. o.best) (same_Some next h e) ∙ has);
  posted = λ h e far. absurd (apart (ap (λ o. o.stage) (same_Some next h e) ∙ far));
}

module _ (view then : View) (run : then.run ≡ view.run) (go : AreBehind (sees view) (sees then)) (tree : SeesTree view) where
  -- a recorded node is seen where it was seen
  node-seen : (n : ℕ) → has_node (sees view) n ≡ true → IsPresent (tree_seen view).points n
  node-seen zero h = tree.rooted.start
  node-seen (suc k) h = tree.placed k h

  same_at : (n : ℕ) → has_node (sees view) n ≡ true → point_at (tree_seen then).points n ≡ point_at (tree_seen view).points n
  same_at n h =
      let here = StandsAt-present (tree_seen view).points n (node-seen n h) in
      SeesPoint-later view then run go n (point_of (tree_seen view).points n) here ∙ sym here

  pub goal-seen_before : (n : ℕ) → has_node (sees view) n ≡ true → SeesGoal then n → SeesGoal view n
  goal-seen_before n h goal =
      subst (λ o. IsTrue (is_goal_point view.run.goals o)) (same_at n h)
      (subst (λ r. IsTrue (is_goal_point r.goals (point_at (tree_seen then).points n))) run goal)

  pub same_first_cost : (n : ℕ) → has_node (sees view) n ≡ true → seen_first_cost then n ≡ seen_first_cost view n
  same_first_cost zero h = refl
  same_first_cost (suc k) h = ap cost_in (sym (same_once (go (FirstOf (suc k))) (omega (arith, tree.placed_first k h))))

  pub IsAtMostPlaced-later : ((k : ℕ) → sees then (RecordOf k) ≡ sees view (RecordOf k)) → (word : ℕ) → IsAtMostPlaced view word → IsAtMostPlaced then word
  IsAtMostPlaced-later records word least n node goal =
      let was = sym (has_node-kept (sees view) (sees then) records n) ∙ node in
      subst (λ c. word ≤ best_word c n) (sym (same_first_cost n was)) (least n was (goal-seen_before n was goal))

  -- A view that keeps the best word and its hand knows as much of them.
  pub SeesBest-kept :
      (shared : SharedRun) (words : Words) → then.best ≡ view.best → FollowsHand view.hand then.hand
      → ((k : ℕ) → sees then (RecordOf k) ≡ sees view (RecordOf k)) → SeesBest shared words view → SeesBest shared words then
  SeesBest-kept shared words best follows records saw = record {
    pair = subst (IsBestWord shared words) (sym best) saw.pair;
    falls = omega (arith, best, saw.falls);
    placed = IsAtMostPlaced-later records then.best (subst (IsAtMostPlaced view) (sym best) saw.placed);
    taken_pair = λ hand word held has.
        let was = follows.taken hand word held has in
        saw.taken_pair was.0 word was.1 was.2;
    taken = λ hand word held has.
        let was = follows.taken hand word held has in
        let least = saw.taken was.0 word was.1 was.2 in
        (omega (arith, best, least.0), IsAtMostPlaced-later records word least.1);
    posted = λ hand held far.
        let was = follows.posted hand held far in
        let low = saw.posted was.0 was.1 was.2 in
        omega (arith, best, low, was.3, was.4);
  }

-- ---- a step that leaves the best word, and the best in hand

pub record KeepsBest (before after : Words) (view then : View) : Type 0 where
  pub word : after Best ≡ before Best
  pub seen : then.best ≡ view.best
  pub hand : FollowsHand view.hand then.hand

pub SeenBests-kept :
    {s : Shift} → IsShift s → GrowsInto (state_in s.now.run s.now.words) (state_in s.now.run s.after) → AreBehind (sees s.now.view) (sees s.then)
    → ((k : ℕ) → sees s.then (RecordOf k) ≡ sees s.now.view (RecordOf k)) → KeepsBest s.now.words s.after s.now.view s.then
    → SeenBests s.now.run s.after (later_views s)
SeenBests-kept {s} is grows more records keeps =
    SeenBests-step is grows (SeesBest-kept s.now.view s.then (same_run is) more (is.moment.world.sights s.now.id s.now.view is.moment.at is.moment.own)
    s.now.run s.after keeps.seen keeps.hand records (SeesBest-goes_on s.now.run s.now.words s.after grows is.best s.now.view
    (is.moment.world.bests s.now.id s.now.view is.moment.at is.moment.own)))
