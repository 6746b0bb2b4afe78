-- One worker alone begins with what a run of the textbook has come to, and ends with such a run.
use Rattle.plan_work.proofs.Words.{◌≡◌, ℕ, ◌+◌, ◌<◌, ◌≤◌, ◌^◌, true, cond, ltb, List, [], ◌∷◌, length, take, Option, Some, None, refl, sym, ap, ◌∙◌, subst, inl}
use Rattle.plan_work.proofs.Words.{inr, arith, IsTrue, is_some, cases_Bool, cases_lt, le-ltb, lt-ltb, get_or_past, length-map-range_with_len, is_claimed}
use Rattle.plan_work.proofs.Words.{IsGoalNode, is_goal_point, IsPresent, point_at, IsTextbookRun, setup_of, skipping_goals, start_alone, AreSameRuns}
use Rattle.plan_work.proofs.Words.{state_of, points_of, Point, Task, AreSameRuns-trans, is_claimed-below, is_claimed-past, state_of_grown, words_of_grown}
use Rattle.plan_work.proofs.Words.{HoldRun, has_node, is_linked, points_of_words, record_at, sizes_of, seen_point, seen_tree_of_words, Words, PointOf, TreeOf}
use Rattle.plan_work.proofs.Words.{Sizes, best_word, cost_in, parent_in, point_of_word, node_point-here, point_at-past, point_at-words, is_linked-child}
use Rattle.plan_work.proofs.Words.{is_linked-start, HasPostedGoals, PassState, SharedState, StartsAs, run_in, IsLawfulView, linked_points, state_of_links}
use Rattle.plan_work.proofs.Words.{member_of, run_of, run_sizes, sees, setup_in, tree_seen, counters, linked-present, point_at-linked, point_at-seen}
use Rattle.plan_work.proofs.Words.{seen-within, linked-within, Grown, Member, SharedRun, View, point_at-absent, HasHandled, IsOfTextbook, SeesTextbook}
use lib.Seq.{length-take-le}
use Rattle.plan_work.proofs.TextbookTurns.{turns-textbook}

-- ---- the start

-- no number past the last mark's is seen
pub point_at-seen_past : (sizes : Sizes) (seen : Words) (n : ℕ) → sizes.marks < n → point_at (seen_tree_of_words sizes seen).points n ≡ None
point_at-seen_past sizes seen n past =
    get_or_past (seen_tree_of_words sizes seen).points n None
    (omega (arith, past, length-map-range_with_len (seen_point seen) 0 (sizes.marks + 1)))

-- the words of a closed run show its nodes where they stand, and no others
point_at-held :
    (task : Task) (limit : ℕ) (words : Words) → HoldRun task limit words → (n : ℕ)
    → point_at (seen_tree_of_words (sizes_of task) words).points n ≡ point_at (points_of_words (sizes_of task) words) n
point_at-held task limit words held n =
    elim (cases_lt (sizes_of task).marks n) [
      | inl past ↦ point_at-seen_past (sizes_of task) words n past ∙ sym (point_at-past (sizes_of task) words n past)
      | inr within ↦ elim (cases_Bool (has_node words n)) [
        | inl node ↦
            point_at-seen (sizes_of task) words n within ∙ sym (node_point-here words n node) ∙ sym (point_at-words (sizes_of task) words n within)
        | inr gone ↦
            point_at-seen (sizes_of task) words n within ∙ ap point_of_word (held.blank n gone).point
            ∙ sym (point_at-absent (sizes_of task) words n gone)
      ]
    ]

-- the first marks are claimed by its counters, and no others
claimed-held :
    (task : Task) (limit : ℕ) (words : Words) → HoldRun task limit words → 0 < task.scene.strips → (j : ℕ)
    → is_claimed task.scene.strips (counters words) j ≡ ltb j limit
claimed-held task limit words held some j =
    elim (cases_lt j limit) [
      | inl low ↦ is_claimed-below task.scene.strips some (counters words) limit held.claimed j low ∙ sym (lt-ltb j limit low)
      | inr past ↦ is_claimed-past task.scene.strips some (counters words) limit held.claimed j past ∙ sym (le-ltb j limit past)
    ]

-- worker 0 alone, with its next turn
abbrev first_alone : ℕ → List Member
first_alone n = record { worker = 0; turn = n } ∷ []

-- What the only worker has seen at first is the run of the textbook that it goes on with.
pub HasHandled-started :
    (shared : SharedState) (grown : Grown) (pass : PassState) → StartsAs shared grown 0 pass → IsLawfulView pass.view → shared.task ≡ grown.task
    → shared.workers ≡ 1 → IsOfTextbook grown → HasHandled pass.view grown.limit
HasHandled-started shared grown pass starts lawful task workers textbook = record {
  alone = record {
    whole = ap length starts.crew ∙ sym (ap (λ (r : SharedRun). r.workers) starts.belongs.run ∙ workers);
    crew = starts.crew ∙ ap first_alone turn;
  };
  textbook = record {
    tree = textbook.nodes;
    records = textbook.records;
    run =
        subst (λ (r : SharedRun). IsTextbookRun (setup_in r) (take grown.limit r.marks) textbook.nodes textbook.records) (sym run) textbook.run;
    nodes = record {
      points = points;
      written = λ n here.
          let tree = (held.written n (ap is_some (textbook.same.points n) ∙ here)).tree in
          subst (λ (w : Words). 2 ^ 63 ≤ w (TreeOf n)) (sym starts.seen) (omega (arith, tree));
      parents = λ n here. ap (λ (w : Words). parent_in (w (TreeOf n))) starts.seen ∙ textbook.same.parents n here;
      costs = λ n here. ap (λ (w : Words). cost_in (w (TreeOf n))) starts.seen ∙ textbook.same.costs n here;
    };
    recorded = λ j. ap (λ (w : Words). record_at w j) starts.seen ∙ textbook.same.records j;
    best = posted;
  };
  claimed = λ j.
      ap (λ (r : SharedRun). is_claimed r.strips (counters (sees pass.view)) j) run
      ∙ ap (λ (w : Words). is_claimed grown.task.scene.strips (counters w) j) starts.seen
      ∙ claimed-held grown.task grown.limit words held strips j;
}
  where
    words : Words
    words = words_of_grown grown

    held : HoldRun grown.task grown.limit (words_of_grown grown)
    held = grown.hold_run

    run : pass.view.run ≡ run_of grown.task shared.workers shared.opening
    run = starts.belongs.run ∙ ap (λ (t : Task). run_of t shared.workers shared.opening) task

    strips : 0 < grown.task.scene.strips
    strips = subst (λ (r : SharedRun). 0 < r.strips) run lawful.run.strips.0

    within : grown.limit ≤ length grown.task.marks
    within = held.closed.within

    many : length (take grown.limit grown.task.marks) ≡ grown.limit
    many = length-take-le grown.limit grown.task.marks within

    turn : (member_of (run_in shared) (words_of_grown grown) 0).turn ≡ grown.limit
    turn =
        ap (λ (t : Task). (member_of (run_of t shared.workers shared.opening) (words_of_grown grown) 0).turn) task
        ∙ turns-textbook (setup_of grown.task.scene) 0 (start_alone grown.task.scene.start) (take grown.limit grown.task.marks) textbook.records
        textbook.nodes (record_at (words_of_grown grown)) (length grown.task.marks) textbook.run textbook.same.records (omega (arith, many, within))
        ∙ many

    points : (n : ℕ) → point_at (tree_seen pass.view).points n ≡ point_at (points_of textbook.nodes) n
    points n =
        ap (λ (r : SharedRun). point_at (seen_tree_of_words (run_sizes r) (sees pass.view)).points n) run
        ∙ ap (λ (w : Words). point_at (seen_tree_of_words (sizes_of grown.task) w).points n) starts.seen
        ∙ point_at-held grown.task grown.limit words held n ∙ textbook.same.points n

    -- the best word is the least pair of the run's goal nodes
    posted : HasPostedGoals pass.view
    posted n goal written =
        let same = points n ∙ sym (textbook.same.points n) in
        let goals : pass.view.run.goals ≡ skipping_goals grown.task.scene = ap (λ (r : SharedRun). r.goals) run in
        let own : IsGoalNode (skipping_goals grown.task.scene) (state_of_grown grown).points n =
        subst (λ g. IsTrue (is_goal_point g (point_at (state_of_grown grown).points n))) goals
        (subst (λ o. IsTrue (is_goal_point pass.view.run.goals o)) same goal) in
        omega (
          arith,
          starts.best.least n own,
          ap (λ (w : Words). best_word (cost_in (w (TreeOf n))) n) starts.seen,
        )

-- ---- the end

-- a node is linked where it is seen
module _ (view : View) (lawful : IsLawfulView view) where
  abbrev sizes : Sizes
  sizes = run_sizes view.run

  linked-seen : (n : ℕ) → IsPresent (tree_seen view).points n → is_linked sizes (sees view) n ≡ true
  linked-seen n here = elim (lawful.tree.rooted.points n here) [
    | inl start ↦ ap (is_linked sizes (sees view)) start ∙ is_linked-start sizes (sees view)
    | inr (a, side, link) ↦ is_linked-child sizes (sees view) a n side (lawful.within a (lawful.tree.rooted.children a n side link)) link
  ]

  point_at-seen_linked : (n : ℕ) → point_at (linked_points sizes (sees view)) n ≡ point_at (tree_seen view).points n
  point_at-seen_linked n = by_seen (point_at (tree_seen view).points n) refl (point_at (linked_points sizes (sees view)) n) refl
    where
      by_seen : (seen : Option Point) → point_at (tree_seen view).points n ≡ seen
          → (linked : Option Point) → point_at (linked_points sizes (sees view)) n ≡ linked → linked ≡ seen
      by_seen (Some p) e linked f =
          let here : IsPresent (tree_seen view).points n = ap is_some e in
          let within = seen-within sizes (sees view) n here in
          let word = sym (point_at-seen sizes (sees view) n within) ∙ e in
          sym f ∙ point_at-linked sizes (sees view) n within
          ∙ ap (λ b. cond b (point_of_word (sees view (PointOf n))) None) (linked-seen n here) ∙ word
      by_seen None e None f = refl
      by_seen None e (Some p) f =
          let within = linked-within sizes (sees view) n (ap is_some f) in
          let linked = linked-present sizes (sees view) n (ap is_some f) in
          let word = sym (ap (λ b. cond b (point_of_word (sees view (PointOf n))) None) linked)
          ∙ sym (point_at-linked sizes (sees view) n within) ∙ f in
          let no = sym word ∙ sym (point_at-seen sizes (sees view) n within) ∙ e in
          cc

  -- The tree that is seen with its records is that of the textbook run.
  AreSameRuns-textbook : (k : ℕ) (seen : SeesTextbook view k) → AreSameRuns (state_of seen.tree seen.records) (state_of_links sizes (sees view))
  AreSameRuns-textbook k seen = record {
    points = λ n. point_at-seen_linked n ∙ seen.nodes.points n;
    parents = seen.nodes.parents;
    costs = seen.nodes.costs;
    records = seen.recorded;
  }

-- So a run with just what was seen is one of the textbook.
pub IsOfTextbook-seen :
    (task : Task) (workers opening : ℕ) (view : View) (grown : Grown) → IsLawfulView view → view.run ≡ run_of task workers opening
    → grown.task ≡ task → SeesTextbook view grown.limit
    → AreSameRuns (state_of_links (run_sizes view.run) (sees view)) (state_of_grown grown) → IsOfTextbook grown
IsOfTextbook-seen task workers opening view grown lawful run same_task seen same = record {
  nodes = seen.tree;
  records = seen.records;
  run =
      subst (λ (t : Task). IsTextbookRun (setup_of t.scene) (take grown.limit t.marks) seen.tree seen.records) (sym same_task)
      (subst (λ (r : SharedRun). IsTextbookRun (setup_in r) (take grown.limit r.marks) seen.tree seen.records) run seen.run);
  same =
      AreSameRuns-trans (state_of seen.tree seen.records) (state_of_links (run_sizes view.run) (sees view)) (state_of_grown grown)
      (AreSameRuns-textbook view lawful grown.limit seen) same;
}
