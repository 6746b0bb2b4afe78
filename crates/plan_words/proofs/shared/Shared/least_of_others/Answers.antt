use Rattle.plan_words.proofs.Words.{arith, ap, mod_below, refl}
use Rattle.plan_words.proofs.Claiming.{LoadsCounters-both, LoadsCounters-none}
use Rattle.plan_words.proofs.Scanning.{IsLeastNext-none, IsLeastNext-own, IsLeastNext-owner, IsLeastNext-same}
use Rattle.plan_words.proofs.shared.Shared.least_of_others.Goals as goal
use Rattle.plan_words.proofs.shared.Shared.least_of_others.Goals.{then-owner-worker, else-owner-worker}

pub loop-owner-init : goal.loop-owner-init
loop-owner-init c = record {
  loads = LoadsCounters-none _ _ c.requires.belongs;
  scanned = IsLeastNext-none _ _ _ _ refl (λ g here. absurd (omega (arith, here.0)));
}

pub loop-owner-preserved : goal.loop-owner-preserved
loop-owner-preserved c =
    let kept = c.loop-owner.invariant in
    elim c.if-owner-worker.branch [
      | then-owner-worker w ↦ rw w.pass-is (rw w.least-is record {
        loads = LoadsCounters-both _ _ _ _ kept.loads w.least_of-least.ensures.loads;
        scanned = IsLeastNext-owner _ _ _ c.args.self.now.workers c.loop-owner.owner c.args.worker _ _ _ kept.loads.goes_on.later
            w.least_of-least.ensures.loads.goes_on.later w.if-owner-worker.true kept.scanned w.least_of-least.ensures.least;
      })
      | else-owner-worker w ↦ rw w.pass-is (rw w.least-is record {
        loads = kept.loads;
        scanned = IsLeastNext-own _ _ c.args.self.now.workers c.loop-owner.owner c.args.worker _ _ w.if-owner-worker.false kept.scanned;
      })
    ]

pub returns-clause-least : goal.returns-clause-least
returns-clause-least c =
    let workers = ap (λ s. s.workers) c.self.view_is in
    IsLeastNext-same _ _ _ _ _ _ c.loop-owner.invariant.scanned
    (λ g low here. (omega (arith, c.loop-owner-test.false, workers, mod_below g c.args.self.now.workers (omega (arith, c.requires.worker))), here))
    (λ g here. here.1)
