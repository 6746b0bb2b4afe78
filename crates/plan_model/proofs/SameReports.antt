-- Trees that are the same have the same best node and the same reports at one limit, if one of them keeps the order law.
use Rattle.plan_model.proofs.Words.{◌≡◌, ℕ, suc, List, ◌++◌, true, false, Bool, Option, Some, None, refl, sym, ap, ◌∙◌, subst, arith, IsTrue, is_some}
use Rattle.plan_model.proofs.Words.{unwrap_or, map, reverse, range_with_len, flat_map, Point, Goal, Scene, is_goal_point, best_node, goals_of, ClearAt}
use Rattle.plan_model.proofs.Words.{IsFirstLeast, first_least, KeepsOrder, point_at, point_of, IsPresent, path_line, head_line, point_lines, best_path, path_to}
use Rattle.plan_model.proofs.Words.{counts_line, node_line_if_present, node_lines, mark_line_if_recorded, mark_lines, short_report, report_text, summary}
use Rattle.plan_model.proofs.Words.{IsOfTextbookRun, Setup, TreeState, AreSameRuns, chain_in, sum_in, state_of}
use Rattle.std.specs.Prelude.{filter}
use Rattle.plan_model.proofs.BestNodeLaws.{IsPresent-goal}
use Rattle.plan_model.proofs.LeastPairLaws.{IsBelowPassing, first_least-some, first_least-none, first_least-from_least, first_least-from_none}
use Rattle.plan_model.proofs.NodeCounts.{node_count-same}
use Rattle.plan_model.proofs.SameTrees.{AreSameRuns-sym, AreSameRuns-trans, chain_in-same, sum_in-same}
use Rattle.plan_model.proofs.TextbookRuns.{IsClosed-textbook}
use Rattle.plan_model.proofs.UniqueRuns.{IsTextbookRun-one_tree, IsTextbookRun-one_records}

-- keys that agree among some numbers have the same least pair there
IsFirstLeast-keys : (one other : ℕ → ℕ) (among : ℕ → Type 0) (m : ℕ) → ((i : ℕ) → among i → other i ≡ one i)
    → IsFirstLeast one among m → IsFirstLeast other among m
IsFirstLeast-keys one other among m same least = record {
  member = least.member;
  not_above = λ i own. record {
    least = omega (arith, same m least.member, same i own, (least.not_above i own).least);
    first = λ e.
        let kept : one i ≡ one m = sym (same i own) ∙ e ∙ same m least.member in
        (least.not_above i own).first kept;
  };
}

-- so the first least of the numbers that pass a test is the same
first_least-keys : (one other : ℕ → ℕ) (test : ℕ → Bool) (n : ℕ) → ((i : ℕ) → IsTrue (test i) → other i ≡ one i)
    → first_least other (filter test (range_with_len 0 n)) ≡ first_least one (filter test (range_with_len 0 n))
first_least-keys one other test n same = by_result (first_least one (filter test (range_with_len 0 n))) refl
  where
    by_result : (o : Option ℕ) → first_least one (filter test (range_with_len 0 n)) ≡ o
        → first_least other (filter test (range_with_len 0 n)) ≡ o
    by_result (Some m) e =
        first_least-from_least other test n m
        (IsFirstLeast-keys one other (IsBelowPassing test n) m (λ i own. same i own.1) (first_least-some one test n m e))
    by_result None e = first_least-from_none other test n (first_least-none one test n e)

module _ (setup : Setup) (one other : TreeState) (order : KeepsOrder setup one) (same : AreSameRuns one other) where
  points-same : point_of other.points ≡ point_of one.points
  points-same = λ t n. unwrap_or (same.points n t) (record { x = 0; y = 0 })

  path_to-same : (n : ℕ) → IsPresent one.points n → path_to other n ≡ path_to one n
  path_to-same n h =
      ap (λ ns. map (point_of other.points) (reverse ns)) (chain_in-same setup one other order same n h)
      ∙ ap (λ (at : ℕ → Point). map at (reverse (chain_in one n))) points-same

  module _ (goals : List Goal) (limit : ℕ) where
    -- a node that lies in the goal is present
    goal_present : (n : ℕ) → IsTrue (is_goal_point goals (point_at one.points n)) → IsPresent one.points n
    goal_present n h = IsPresent-goal goals (point_at one.points n) h

    -- the best node is the same
    pub best_node-same : best_node goals limit other ≡ best_node goals limit one
    best_node-same =
        ap (λ (test : ℕ → Bool). first_least (sum_in other) (filter test (range_with_len 0 (suc limit))))
        (λ t n. is_goal_point goals (same.points n t))
        ∙ first_least-keys (sum_in one) (sum_in other) (λ n. is_goal_point goals (point_at one.points n)) (suc limit)
        (λ n h. sum_in-same setup one other order same n (goal_present n h))

    best_present : (n : ℕ) → best_node goals limit one ≡ Some n → IsPresent one.points n
    best_present n e =
        goal_present n (first_least-some (sum_in one) (λ i. is_goal_point goals (point_at one.points i)) (suc limit) n e).member.1

    head_line-same : (o : Option ℕ) → best_node goals limit one ≡ o → head_line other o ≡ head_line one o
    head_line-same None e = refl
    head_line-same (Some n) e =
        ap (λ path. path_line path (sum_in other n)) (path_to-same n (best_present n e))
        ∙ ap (path_line (path_to one n)) (sum_in-same setup one other order same n (best_present n e))

    best_path-same : (o : Option ℕ) → best_node goals limit one ≡ o → best_path other o ≡ best_path one o
    best_path-same None e = refl
    best_path-same (Some n) e = path_to-same n (best_present n e)

  -- the lines of nodes and marks are the same
  module _ (limit : ℕ) where
    node_line-same : (n : ℕ) (o : Option Point) → point_at one.points n ≡ o → node_line_if_present other n o ≡ node_line_if_present one n o
    node_line-same n None e = refl
    node_line-same n (Some p) e =
        let parent : other.parent n ≡ one.parent n = same.parents n (ap is_some e) in
        let sum : sum_in other n ≡ sum_in one n = sum_in-same setup one other order same n (ap is_some e) in
        rw (parent, sum) refl

    node_lines-same : node_lines limit other ≡ node_lines limit one
    node_lines-same =
        let line_of : (n : ℕ) → node_line_if_present other n (point_at other.points n) ≡ node_line_if_present one n (point_at one.points n) =
        λ n. ap (node_line_if_present other n) (same.points n) ∙ node_line-same n (point_at one.points n) refl in
        λ t. flat_map (λ n. line_of n t) (range_with_len 0 (suc limit))

    mark_lines-same : mark_lines limit other ≡ mark_lines limit one
    mark_lines-same = λ t. flat_map (λ k. mark_line_if_recorded k (same.records k t)) (range_with_len 0 limit)

  -- ---- the reports of a scene

  module _ (scene : Scene) (limit : ℕ) where
    abbrev goals : List Goal
    goals = goals_of scene

    counts_line-same : counts_line scene limit other ≡ counts_line scene limit one
    counts_line-same =
        let records : counts_line scene limit other ≡ counts_line scene limit (record other { record_of = one.record_of }) =
        λ t. counts_line scene limit (record other { record_of = λ k. same.records k t }) in
        records ∙ rw (node_count-same one.points other.points same.points) refl

    -- the short report is the same
    pub short_report-same : short_report scene limit other ≡ short_report scene limit one
    short_report-same =
        let best : Option ℕ = best_node goals limit one in
        ap (λ o. (head_line other o ++ point_lines (best_path other o)) ++ counts_line scene limit other) (best_node-same goals limit)
        ∙ ap (λ head. (head ++ point_lines (best_path other best)) ++ counts_line scene limit other) (head_line-same goals limit best refl)
        ∙ ap (λ path. (head_line one best ++ point_lines path) ++ counts_line scene limit other) (best_path-same goals limit best refl)
        ∙ ap (λ counts. (head_line one best ++ point_lines (best_path one best)) ++ counts) counts_line-same

    -- and the summary
    pub summary-same : summary scene limit other ≡ summary scene limit one
    summary-same =
        let best : Option ℕ = best_node goals limit one in
        ap (λ o. head_line other o ++ counts_line scene limit other) (best_node-same goals limit)
        ∙ ap (λ head. head ++ counts_line scene limit other) (head_line-same goals limit best refl)
        ∙ ap (λ counts. head_line one best ++ counts) counts_line-same

    -- and the report, short or full
    pub report_text-same : (full : Bool) → report_text full scene limit other ≡ report_text full scene limit one
    report_text-same false = short_report-same
    report_text-same true =
        ap (λ text. (text ++ node_lines limit other) ++ mark_lines limit other) short_report-same
        ∙ ap (λ nodes. (short_report scene limit one ++ nodes) ++ mark_lines limit other) (node_lines-same limit)
        ∙ ap (λ marks. (short_report scene limit one ++ node_lines limit one) ++ marks) (mark_lines-same limit)

-- ---- scenes with the same goals, of which both are informed or neither

module _
    (one other : Scene) (limit : ℕ) (state : TreeState) (h : goals_of other ≡ goals_of one) (informed : other.informed ≡ one.informed) where
  counts_line-same_goals : counts_line other limit state ≡ counts_line one limit state
  counts_line-same_goals = rw informed refl

  -- They have the same short report of a tree,
  pub short_report-same_goals : short_report other limit state ≡ short_report one limit state
  short_report-same_goals =
      ap (λ goals. (head_line state (best_node goals limit state) ++ point_lines (best_path state (best_node goals limit state)))
      ++ counts_line other limit state) h
      ∙ ap (λ counts. (head_line state (best_node (goals_of one) limit state) ++ point_lines (best_path state (best_node (goals_of one) limit state)))
      ++ counts) counts_line-same_goals

  -- the same report, short or full,
  pub report_text-same_goals : (full : Bool) → report_text full other limit state ≡ report_text full one limit state
  report_text-same_goals false = short_report-same_goals
  report_text-same_goals true = ap (λ text. (text ++ node_lines limit state) ++ mark_lines limit state) short_report-same_goals

  -- and the same summary.
  pub summary-same_goals : summary other limit state ≡ summary one limit state
  summary-same_goals =
      ap (λ goals. head_line state (best_node goals limit state) ++ counts_line other limit state) h
      ∙ ap (λ counts. head_line state (best_node (goals_of one) limit state) ++ counts) counts_line-same_goals

-- ---- the textbook run

module _
    (setup : Setup) (marks : List Point) (one other : TreeState) (clear : ClearAt setup.space setup.start)
    (of_one : IsOfTextbookRun setup marks one) (of_other : IsOfTextbookRun setup marks other) where
  run : TreeState
  run = state_of of_one.nodes of_one.records

  other_same : AreSameRuns run other
  unfolding run
  other_same =
      let nodes = IsTextbookRun-one_tree setup marks of_one.nodes of_other.nodes of_one.records of_other.records of_one.run of_other.run in
      let records = IsTextbookRun-one_records setup marks of_one.nodes of_other.nodes of_one.records of_other.records of_one.run of_other.run in
      let state : state_of of_one.nodes of_one.records ≡ state_of of_other.nodes of_other.records = λ t. state_of (nodes t) (records t) in
      subst (λ s. AreSameRuns s other) (sym state) of_other.same

  order : KeepsOrder setup run
  unfolding run
  order = (IsClosed-textbook setup marks of_one.nodes of_one.records clear of_one.run).order

  -- two trees of the textbook run are the same
  pub AreSameRuns-textbook : AreSameRuns one other
  unfolding run
  AreSameRuns-textbook = AreSameRuns-trans one run other (AreSameRuns-sym run one of_one.same) other_same

  -- and have the same report
  pub report_text-textbook : (scene : Scene) (limit : ℕ) (full : Bool) → report_text full scene limit other ≡ report_text full scene limit one
  unfolding run
  report_text-textbook scene limit full =
      report_text-same setup run other order other_same scene limit full
      ∙ sym (report_text-same setup run one order of_one.same scene limit full)

  -- and the same summary
  pub summary-textbook : (scene : Scene) (limit : ℕ) → summary scene limit other ≡ summary scene limit one
  unfolding run
  summary-textbook scene limit =
      summary-same setup run other order other_same scene limit ∙ sym (summary-same setup run one order of_one.same scene limit)
