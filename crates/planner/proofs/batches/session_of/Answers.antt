use Rattle.planner.proofs.Words.{subst, Scene, ClearAt, space_of}
use Rattle.planner.proofs.Causes.{given_some}
use Rattle.planner.proofs.GivenBatches.{IsSessionOf-fresh}
use Rattle.planner.proofs.batches.session_of.Goals as goal

pub returns-clause-session : goal.returns-clause-session
returns-clause-session g c =
    let problem = c.in-Some.problem in
    let same = given_some _ _ _ c.in-Some.is c.in_ok-problem.ensures.scene in
    let fresh = rw c.get.ensures.value at c.in_ok-session.ensures in
    IsSessionOf-fresh _ _ _ problem.task _ fresh (subst (λ (s : Scene). ClearAt (space_of s) s.start) same problem.start) same
