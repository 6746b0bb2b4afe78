-- The best path of a textbook run is the one item that shows it.
use Rattle.any_time.proofs.Words.{◌≡◌, ℕ, Some, sym, ap, subst, ◌∙◌, map, reverse, take, unwrap_or, AreSameRuns-textbook, best_node-same, chain_in-same}
use Rattle.any_time.proofs.Words.{sum_in-same, path_to, KeepsOrder, IsOfTextbookRun, Setup, setup_of, best_node, goals_of, IsPresent, point_of, AreSameRuns}
use Rattle.any_time.proofs.Words.{TreeState, chain_in, sum_in, Point, state_of_grown, IsOfTextbook, Grown, Shows, best_of, IsTextbookPath, Better}
use Rattle.any_time.proofs.BestNodes.{IsPresent-best}
use Rattle.any_time.proofs.KnownOptions.{some_is}

module _ (setup : Setup) (one other : TreeState) (order : KeepsOrder setup one) (same : AreSameRuns one other) where
  points_alike : point_of other.points ≡ point_of one.points
  points_alike = λ t n. unwrap_or (same.points n t) (record { x = 0; y = 0 })

  -- trees that are the same have the same path to a node
  path_to-alike : (n : ℕ) → IsPresent one.points n → path_to other n ≡ path_to one n
  path_to-alike n h =
      ap (λ ns. map (point_of other.points) (reverse ns)) (chain_in-same setup one other order same n h)
      ∙ ap (λ (at : ℕ → Point). map at (reverse (chain_in one n))) points_alike

-- a run shows one item
pub Shows-alone : (run : Grown) (one other : Better) → Shows run one → Shows run other → one ≡ other
Shows-alone run one other f g =
    let node : f.node ≡ g.node = some_is f.node g.node (sym f.best ∙ g.best) in
    let path : one.path ≡ other.path = f.path ∙ ap (path_to (state_of_grown run)) node ∙ sym g.path in
    let cost : one.cost ≡ other.cost = f.cost ∙ ap (sum_in (state_of_grown run)) node ∙ sym g.cost in
    let marks : one.marks ≡ other.marks = f.marks ∙ sym g.marks in
    λ t. record { path = path t; cost = cost t; marks = marks t }

module _ (run : Grown) (textbook : IsOfTextbook run) (item : Better) where
  -- what a textbook run shows is its best path
  pub IsTextbookPath-shown : Shows run item → IsTextbookPath run.task item
  IsTextbookPath-shown shown = record {
    state = state_of_grown run;
    run =
        subst (λ n. IsOfTextbookRun (setup_of run.task.scene) (take n run.task.marks) (state_of_grown run)) (sym shown.marks) textbook;
    node = shown.node;
    best = ap (λ n. best_node (goals_of run.task.scene) n (state_of_grown run)) shown.marks ∙ shown.best;
    path = shown.path;
    cost = shown.cost;
  }

  -- and its best path is what it shows
  pub Shows-textbook : IsTextbookPath run.task item → item.marks ≡ run.limit → Shows run item
  Shows-textbook path marks =
      let setup = setup_of run.task.scene in
      let goals = goals_of run.task.scene in
      let own = state_of_grown run in
      let order = run.hold_run.closed.order in
      let of_item = subst (λ n. IsOfTextbookRun setup (take n run.task.marks) path.state) marks path.run in
      let same = AreSameRuns-textbook setup (take run.limit run.task.marks) own path.state order.start_clear textbook of_item in
      let best : best_of run ≡ Some path.node =
      sym (best_node-same setup own path.state order same goals run.limit) ∙ sym (ap (λ n. best_node goals n path.state) marks) ∙ path.best in
      let present = IsPresent-best run path.node best in
      record {
        node = path.node;
        best = best;
        path = path.path ∙ path_to-alike setup own path.state order same path.node present;
        cost = path.cost ∙ sum_in-same setup own path.state order same path.node present;
        marks = marks;
      }
