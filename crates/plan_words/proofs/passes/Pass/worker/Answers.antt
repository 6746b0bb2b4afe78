use Rattle.std.proofs.Common.{◌<◌, subst, sym, ◌∙◌}
use Rattle.plan_words.proofs.Tying.{worker_few}
use Rattle.plan_words.proofs.passes.Pass.worker.Goals as goal

pub returns-in-Some-clause-of_run : goal.returns-in-Some-clause-of_run
returns-in-Some-clause-of_run c =
    let tied = c.self.invariant.1 in
    subst (λ p. c.in-Some.member.worker < p.view.run.workers) c.self.view_is (worker_few _ _ tied.lawful (sym c.in-Some.is ∙ tied.member_is)).0

pub returns-in-Some-clause-few : goal.returns-in-Some-clause-few
returns-in-Some-clause-few c = let tied = c.self.invariant.1 in (worker_few _ _ tied.lawful (sym c.in-Some.is ∙ tied.member_is)).1
