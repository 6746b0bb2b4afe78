use Rattle.plan_work.proofs.Words.{◌≡◌, true, length, refl, sym, ap, ◌∙◌, subst, arith, IsBounded, mark_at, Task, GoesOn-refl, HasLoadedBest, SharedRun}
use Rattle.plan_work.proofs.HeldMarks.{mark_low}
use Rattle.plan_work.proofs.SkippingMarks.{IsUnskipped-above, IsUnskipped-none, IsUnskipped-plain, KeepsRecords-loaded, KeepsRecords-refl}
use Rattle.plan_work.proofs.SkippingMarks.{FindsGoalNode-found, MayBeSkipped-loaded, MayExtend-loaded, informed_here}
use Rattle.plan_work.proofs.mark_skipping.skipper.Goals as goal
use Rattle.plan_work.proofs.mark_skipping.skipper.Goals.{After-best}

pub best-requires-clause-informed : goal.best-requires-clause-informed
best-requires-clause-informed c =
    informed_here c.args.shared.now c.args.pass.now.view c.requires.belongs.run
    (ap (λ (t : Task). t.scene.informed) (sym c.task.ensures) ∙ c.if-not-task.false)

pub mark_bound-requires-clause-low : goal.mark_bound-requires-clause-low
mark_bound-requires-clause-low c =
    omega (
      arith,
      mark_low c.args.pass.now.view c.args.k c.requires.belongs.lawful c.requires.hand c.requires.mark,
      ap (λ (r : SharedRun). length r.marks) c.requires.belongs.run,
    )

pub mark_bound-requires-clause-bounded : goal.mark_bound-requires-clause-bounded
mark_bound-requires-clause-bounded c =
    subst (λ (r : SharedRun). IsBounded (mark_at r.marks c.args.k)) c.requires.belongs.run (c.requires.belongs.lawful.run.points c.args.k)

-- ---- not informed

pub returns-then-not-task-clause-loaded : goal.returns-then-not-task-clause-loaded
returns-then-not-task-clause-loaded c =
    let plain = ap (λ (t : Task). t.scene.informed) (sym c.task.ensures) ∙ c.if-not-task.true in
    record {
      keeps =
          KeepsRecords-refl c.args.shared.now c.args.pass.now c.requires.belongs (GoesOn-refl c.args.pass.now.view c.requires.belongs.lawful);
      informed = λ e. absurd (let no = sym e ∙ plain in cc);
      plain = λ e. refl;
    }

pub returns-then-not-task-clause-unskipped : goal.returns-then-not-task-clause-unskipped
returns-then-not-task-clause-unskipped c =
    IsUnskipped-plain c.args.shared.now c.args.pass.now c.requires.belongs
    (ap (λ (t : Task). t.scene.informed) (sym c.task.ensures) ∙ c.if-not-task.true)

-- ---- the best was loaded

loaded_there : (c : After-best) → c.args.shared.now.task.scene.informed ≡ true → HasLoadedBest c.args.shared.now c.args.pass.now c.best.new.pass
loaded_there c informed = record {
  keeps =
      KeepsRecords-loaded c.args.shared.now c.args.pass.now c.best.new.pass c.args.k c.best.new.pass.view.best c.requires c.best.ensures.view
      c.best.ensures.goes_on c.best.ensures.looked;
  informed = λ e. c.best.ensures.view;
  plain = λ e. absurd (let no = sym e ∙ informed in cc);
}

-- ---- no goal node is known

pub returns-in_default-clause-may : goal.returns-in_default-clause-may
returns-in_default-clause-may c =
    MayExtend-loaded c.args.shared.now c.args.pass.now c.best.new.pass c.args.k c.best.new.pass.view.best c.requires c.best.ensures.view
    c.best.ensures.goes_on

pub returns-in_default-clause-loaded : goal.returns-in_default-clause-loaded
returns-in_default-clause-loaded c =
    loaded_there (goal.at.returns-in_default-clause-loaded c).After-best
    (ap (λ (t : Task). t.scene.informed) (sym c.task.ensures) ∙ c.if-not-task.false)

pub returns-in_default-clause-unskipped : goal.returns-in_default-clause-unskipped
returns-in_default-clause-unskipped c =
    let informed = ap (λ (t : Task). t.scene.informed) (sym c.task.ensures) ∙ c.if-not-task.false in
    IsUnskipped-none c.args.shared.now c.args.pass.now c.best.new.pass c.args.k _ c.requires informed c.best.ensures.view c.best.ensures.goes_on refl
    (sym c.best.ensures.found ∙ c.in_default.is)

-- ---- by the bound

pub returns-then-cost-mark_bound-clause-may : goal.returns-then-cost-mark_bound-clause-may
returns-then-cost-mark_bound-clause-may c =
    MayExtend-loaded c.args.shared.now c.args.pass.now c.best.new.pass c.args.k c.best.new.pass.view.best c.requires c.best.ensures.view
    c.best.ensures.goes_on

pub returns-then-cost-mark_bound-clause-loaded : goal.returns-then-cost-mark_bound-clause-loaded
returns-then-cost-mark_bound-clause-loaded c =
    loaded_there (goal.at.returns-then-cost-mark_bound-clause-loaded c).After-best
    (ap (λ (t : Task). t.scene.informed) (sym c.task.ensures) ∙ c.if-not-task.false)

pub returns-then-cost-mark_bound-clause-informed : goal.returns-then-cost-mark_bound-clause-informed
returns-then-cost-mark_bound-clause-informed c = ap (λ (t : Task). t.scene.informed) (sym c.task.ensures) ∙ c.if-not-task.false

pub returns-then-cost-mark_bound-clause-skipped : goal.returns-then-cost-mark_bound-clause-skipped
returns-then-cost-mark_bound-clause-skipped c =
    let informed = ap (λ (t : Task). t.scene.informed) (sym c.task.ensures) ∙ c.if-not-task.false in
    MayBeSkipped-loaded c.args.shared.now c.args.pass.now c.best.new.pass c.args.k c.mark_bound.result c.requires informed c.best.ensures.view
    c.best.ensures.goes_on c.mark_bound.ensures c.in-Some.goal_node c.in-Some.cost (sym c.best.ensures.found ∙ c.in-Some.is) c.if-cost-mark_bound.true

pub returns-then-cost-mark_bound-clause-whole : goal.returns-then-cost-mark_bound-clause-whole
returns-then-cost-mark_bound-clause-whole c = λ whole.
    FindsGoalNode-found c.args.pass.now.view c.best.new.pass.view.best c.in-Some.goal_node c.in-Some.cost
    (sym c.best.ensures.found ∙ c.in-Some.is) (c.in-Some.ensures.whole whole)

pub returns-else-cost-mark_bound-clause-may : goal.returns-else-cost-mark_bound-clause-may
returns-else-cost-mark_bound-clause-may c =
    MayExtend-loaded c.args.shared.now c.args.pass.now c.best.new.pass c.args.k c.best.new.pass.view.best c.requires c.best.ensures.view
    c.best.ensures.goes_on

pub returns-else-cost-mark_bound-clause-loaded : goal.returns-else-cost-mark_bound-clause-loaded
returns-else-cost-mark_bound-clause-loaded c =
    loaded_there (goal.at.returns-else-cost-mark_bound-clause-loaded c).After-best
    (ap (λ (t : Task). t.scene.informed) (sym c.task.ensures) ∙ c.if-not-task.false)

pub returns-else-cost-mark_bound-clause-unskipped : goal.returns-else-cost-mark_bound-clause-unskipped
returns-else-cost-mark_bound-clause-unskipped c =
    let informed = ap (λ (t : Task). t.scene.informed) (sym c.task.ensures) ∙ c.if-not-task.false in
    IsUnskipped-above c.args.shared.now c.args.pass.now c.best.new.pass c.args.k c.mark_bound.result c.requires informed c.best.ensures.view
    c.best.ensures.goes_on c.mark_bound.ensures c.in-Some.goal_node c.in-Some.cost (sym c.best.ensures.found ∙ c.in-Some.is) c.if-cost-mark_bound.false
