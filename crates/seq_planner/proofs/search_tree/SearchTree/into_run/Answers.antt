use Rattle.seq_planner.proofs.Words.{List, Option, length, sym, ap, ◌∙◌, subst, IfOk-weaker, Record, Knot, IsClosed, setup_of, start_alone, TreeState}
use Rattle.seq_planner.proofs.Words.{AreSameRuns, HandlesAll-length, IsSettled-of_textbook, state_of_grown, state_of_lists, with_costs}
use Rattle.seq_planner.proofs.KeptNodes.{IsClosed-with_costs, IsOfTextbookRun-with_costs}
use Rattle.seq_planner.proofs.search_tree.SearchTree.into_run.Goals as goal

pub pack-requires : goal.pack-requires
pack-requires c =
    let tree = c.args.self in
    let task = c.args.task in
    let P : List (Option Knot) → List Record → Type 0 =
    λ knots records. IsClosed (setup_of task.scene) task.marks (length records) (state_of_lists knots records) in
    let closed : P (with_costs tree.nodes tree.costs.items) tree.records.items =
    IsClosed-with_costs tree.nodes tree.costs.items tree.placed tree.records.items c.requires.sound (setup_of task.scene) task.marks
    c.requires.run c.requires.start in
    subst (λ knots. P knots c.from_vec.result) (sym (c.from_vec-knots.ensures ∙ c.in_ok-knots.ensures))
    (subst (λ records. P (with_costs tree.nodes tree.costs.items) records) (sym c.from_vec.ensures) closed)

-- as many marks are handled as the task has
pub returns-clause-limit : goal.returns-clause-limit
returns-clause-limit c =
    let tree = c.args.self in
    let task = c.args.task in
    let handled =
    ap length c.from_vec.ensures
    ∙ HandlesAll-length (setup_of task.scene) 0 (start_alone task.scene.start) task.marks tree.records.items tree.nodes c.requires.run in
    IfOk-weaker c.pack-2.result _ _ (λ grown limit. limit ∙ handled) c.pack-2.ensures.limit

pub returns-clause-run : goal.returns-clause-run
returns-clause-run c =
    let tree = c.args.self in
    let task = c.args.task in
    let S : List (Option Knot) → List Record → TreeState → Type 0 = λ knots records state. AreSameRuns (state_of_lists knots records) state in
    IfOk-weaker c.pack-2.result _ _
    (λ grown same.
    IsOfTextbookRun-with_costs tree.nodes tree.costs.items tree.placed tree.records.items c.requires.sound (setup_of task.scene)
    task.marks c.requires.run (state_of_grown grown)
    (subst (λ records. S (with_costs tree.nodes tree.costs.items) records (state_of_grown grown)) c.from_vec.ensures
    (subst (λ knots. S knots c.from_vec.result (state_of_grown grown)) (c.from_vec-knots.ensures ∙ c.in_ok-knots.ensures) same)))
    c.pack-2.ensures.state

pub returns-clause-settled : goal.returns-clause-settled
returns-clause-settled c =
    let task = c.args.task in
    IfOk-weaker c.pack-2.result _ _
    (λ grown run. IsSettled-of_textbook (setup_of task.scene) task.marks (state_of_grown grown) c.requires.start run)
    (returns-clause-run c)
