use Rattle.plan_words.proofs.Words.{◌/◌, ◌%◌, IsOpen, ap, arith, subst, sym, ◌∙◌}
use Rattle.plan_words.proofs.Claiming.{LoadsCounters-both}
use Rattle.plan_words.proofs.Scanning.{AllFull-both, AllLoaded-both, IsOpen-other, IsOpen-own}
use Rattle.plan_words.proofs.shared.Shared.first_open.Goals as goal
use Rattle.plan_words.proofs.shared.Shared.first_open.Goals.{then-own-limit, else-own-limit}

pub returns-then-first-limit-clause-loads : goal.returns-then-first-limit-clause-loads
returns-then-first-limit-clause-loads c = LoadsCounters-both _ _ _ _ c.least_of-own.ensures.loads c.least_of_others-other.ensures.loads

pub returns-then-first-limit-clause-loaded : goal.returns-then-first-limit-clause-loaded
returns-then-first-limit-clause-loaded c =
    let own = c.least_of-own.ensures in
    let other = c.least_of_others-other.ensures in
    AllLoaded-both _ _ _ _ _ _ _ _ (ap (λ r. r.workers) other.loads.belongs.run) own.loads.goes_on.later other.loads.goes_on.later own.least other.least

pub returns-then-first-limit-clause-first : goal.returns-then-first-limit-clause-first
returns-then-first-limit-clause-first c =
    let own = c.least_of-own.ensures in
    let other = c.least_of_others-other.ensures in
    elim c.if-own-limit.branch [
      | then-own-limit w ↦ absurd (omega (arith, w.first-is, w.if-own-limit.true, c.if-first-limit.true))
      | else-own-limit w ↦
          AllFull-both _ _ _ _ _ _ _ _ (ap (λ r. r.workers) other.loads.belongs.run) own.loads.goes_on.later other.loads.goes_on.later own.least other.least
          w.if-own-limit.false (omega (arith, w.first-is, c.if-first-limit.true))
    ]

pub returns-clause-loads : goal.returns-clause-loads
returns-clause-loads c = LoadsCounters-both _ _ _ _ c.least_of-own.ensures.loads c.least_of_others-other.ensures.loads

pub returns-clause-loaded : goal.returns-clause-loaded
returns-clause-loaded c =
    let own = c.least_of-own.ensures in
    let other = c.least_of_others-other.ensures in
    AllLoaded-both _ _ _ _ _ _ _ _ (ap (λ r. r.workers) other.loads.belongs.run) own.loads.goes_on.later other.loads.goes_on.later own.least other.least

pub returns-clause-first : goal.returns-clause-first
returns-clause-first c =
    let own = c.least_of-own.ensures in
    let other = c.least_of_others-other.ensures in
    let after = c.least_of_others-other.new.pass.view in
    let workers = ap (λ r. r.workers) other.loads.belongs.run in
    let strips = ap (λ r. r.strips) other.loads.belongs.run ∙ sym (ap (λ s. s.task.scene.strips) c.self.view_is) in
    subst (λ w. IsOpen after w c.args.limit (c.if-own-limit.first % c.self.inside.task.scene.strips) (c.if-own-limit.first / c.self.inside.task.scene.strips))
    c.worker-worker.ensures.number
    (subst (λ s. IsOpen after c.worker-worker.result c.args.limit (c.if-own-limit.first % s) (c.if-own-limit.first / s)) strips
    (elim c.if-own-limit.branch [
      | then-own-limit w ↦ subst (λ k. IsOpen after c.worker-worker.result c.args.limit (k % after.run.strips) (k / after.run.strips)) (sym w.first-is)
          (IsOpen-own _ _ _ _ _ _ _ _ workers own.loads.goes_on.later other.loads.goes_on.later own.least other.least w.if-own-limit.true)
      | else-own-limit w ↦ subst (λ k. IsOpen after c.worker-worker.result c.args.limit (k % after.run.strips) (k / after.run.strips)) (sym w.first-is)
          (IsOpen-other _ _ _ _ _ _ _ _ workers own.loads.goes_on.later other.loads.goes_on.later own.least other.least w.if-own-limit.false
          (omega (arith, w.first-is, c.if-first-limit.false)))
    ]))
