use Rattle.report_judge.proofs.Words.{◌≡◌, Bool, true, cond, [], Some, None, arith, sym, ap, ◌∙◌, slice_index_or, le-leb, leb-true, true≢false, Scene}
use Rattle.report_judge.proofs.Words.{mark_bound, setup_of, skipping_goals, is_goal_point, lies_in_goals, point_at, kept_cost_of, run_of}
use Rattle.plan_model.proofs.SceneBounds.{All-goals_bounded}
use Rattle.plan_model.specs.Trees.BestNode.{bound_of}
use Rattle.report_judge.proofs.Laws.ListedNodes.{goal-listed, goal-none, informed_by_goal}
use Rattle.report_judge.proofs.marks.lawful_marks.is_skipped_lawfully.Goals as goal

-- the goals of an informed scene are those by which marks are skipped
informed_goals : (scene : Scene) → scene.informed ≡ true → skipping_goals scene ≡ scene.goals
informed_goals scene informed = ap (λ (b : Bool). cond b scene.goals []) informed

pub bound-requires-clause-goals : goal.bound-requires-clause-goals
bound-requires-clause-goals c = rw c.as_slice-then-lies_in_goals.ensures (All-goals_bounded c.args.scene.now)

pub returns-in_default : goal.returns-in_default
returns-in_default c = (
  λ h. cc,
  λ law.
      let judged = c.args.judged.now in
      sym (goal-none judged.knots.now judged.records.now c.args.entry.nearest (skipping_goals c.args.scene.now) (sym c.knot_at.ensures ∙ c.in_default.is))
      ∙ law.goal,
)

pub returns-else-lies_in_goals : goal.returns-else-lies_in_goals
returns-else-lies_in_goals c = (
  λ h. absurd (true≢false (sym h ∙ c.if-lies_in_goals.false)),
  λ law.
      let scene = c.args.scene.now in
      let run = run_of c.args.judged.now in
      let goals = informed_goals scene c.if-not-scene.false in
      let inside : lies_in_goals scene.goals c.in-Some.goal.point ≡ true =
      goal-listed c.args.judged.now.knots.now c.args.judged.now.records.now c.args.entry.nearest scene.goals c.in-Some.goal (sym c.in-Some.ensures)
      ∙ ap (λ gs. is_goal_point gs (point_at run.points c.args.entry.nearest)) (sym goals) ∙ law.goal in
      c.lies_in_goals.ensures ∙ ap (λ gs. lies_in_goals gs c.in-Some.goal.point) c.as_slice.ensures ∙ inside,
)

pub returns-then-lies_in_goals : goal.returns-then-lies_in_goals
returns-then-lies_in_goals c =
    let scene = c.args.scene.now in
    let goals = informed_goals scene c.if-not-scene.false in
    let bound : c.bound.result ≡ mark_bound (setup_of scene) c.args.point =
    c.bound.ensures.value ∙ ap (λ gs. bound_of scene.start gs c.args.point) (c.as_slice-then-lies_in_goals.ensures ∙ sym goals) in
    let at : slice_index_or c.args.judged.now.knots.now c.args.entry.nearest None ≡ Some c.in-Some.goal = sym c.in-Some.ensures in (
      λ h.
          let run = run_of c.args.judged.now in
          let inside : lies_in_goals scene.goals c.in-Some.goal.point ≡ true =
          ap (λ gs. lies_in_goals gs c.in-Some.goal.point) (sym c.as_slice.ensures) ∙ sym c.lies_in_goals.ensures ∙ c.if-lies_in_goals.true in
          record {
            goal =
                ap (λ gs. is_goal_point gs (point_at run.points c.args.entry.nearest)) goals
                ∙ sym (goal-listed c.args.judged.now.knots.now c.args.judged.now.records.now c.args.entry.nearest scene.goals c.in-Some.goal at) ∙ inside;
            within = omega (arith, leb-true c.in-Some.goal.cost c.bound.result h, bound, ap kept_cost_of at);
          },
      λ law. le-leb c.in-Some.goal.cost c.bound.result (omega (arith, bound, ap kept_cost_of at, law.within)),
    )

pub returns-then-not-scene : goal.returns-then-not-scene
returns-then-not-scene c = (
  λ h. cc,
  λ law. sym c.if-not-scene.true ∙ informed_by_goal c.args.scene.now.informed c.args.scene.now.goals _ law.goal,
)
