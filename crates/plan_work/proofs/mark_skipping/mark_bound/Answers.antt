use Rattle.plan_work.proofs.Words.{List, length, sym, ap, ◌∙◌, subst, arith, All, IsBounded, IsBoundedBox, mark_at, Goal, Point, Task, All-goals_bounded}
use Rattle.plan_work.proofs.Words.{IsBounded-scene_start, goals-some}
use Rattle.plan_model.specs.Trees.BestNode.{bound_of}
use Rattle.plan_work.proofs.mark_skipping.mark_bound.Goals as goal

pub bounds-as_slice-k : goal.bounds-as_slice-k
bounds-as_slice-k c =
    omega (arith, c.requires.low, ap (λ (l : List Point). length l) c.as_slice.ensures, ap (λ (t : Task). length t.marks) c.task-task.ensures)

pub bound-requires-clause-start : goal.bound-requires-clause-start
bound-requires-clause-start c = subst (λ (t : Task). IsBounded t.scene.start) (sym c.task-task.ensures) (IsBounded-scene_start c.args.shared.now.task.scene)

pub bound-requires-clause-point : goal.bound-requires-clause-point
bound-requires-clause-point c =
    subst IsBounded (sym (ap (λ (ms : List Point). mark_at ms c.args.k) (c.as_slice.ensures ∙ ap (λ (t : Task). t.marks) c.task-task.ensures)))
    c.requires.bounded

pub bound-requires-clause-goals : goal.bound-requires-clause-goals
bound-requires-clause-goals c =
    subst (All IsBoundedBox) (sym (c.as_slice-2.ensures ∙ ap (λ (t : Task). t.scene.goals) c.task-task.ensures))
    (All-goals_bounded c.args.shared.now.task.scene)

pub bound-requires-clause-some : goal.bound-requires-clause-some
bound-requires-clause-some c =
    omega (
      arith,
      goals-some c.args.shared.now.task.scene,
      ap (λ (l : List Goal). length l) (c.as_slice-2.ensures ∙ ap (λ (t : Task). t.scene.goals) c.task-task.ensures),
    )

pub returns : goal.returns
returns c =
    let mark = ap (λ (ms : List Point). mark_at ms c.args.k) (c.as_slice.ensures ∙ ap (λ (t : Task). t.marks) c.task-task.ensures) in
    let goals = c.as_slice-2.ensures ∙ ap (λ (t : Task). t.scene.goals) c.task-task.ensures in
    c.bound.ensures.value ∙ ap (λ (t : Task). bound_of t.scene.start c.as_slice-2.result.now (mark_at c.as_slice.result.now c.args.k)) c.task-task.ensures
    ∙ ap (λ (l : List Goal). bound_of c.args.shared.now.task.scene.start l (mark_at c.as_slice.result.now c.args.k)) goals
    ∙ ap (bound_of c.args.shared.now.task.scene.start c.args.shared.now.task.scene.goals) mark
