use Rattle.plan_model.proofs.MeetingLaws.{SharesPoint-meets, Meets-shares_point}
use Rattle.plan_model.proofs.laws.clearance.clearance_0_is_touching.Goals as goal

pub returns : goal.returns
returns c = λ body obstacle q. (SharesPoint-meets body obstacle q, Meets-shares_point 0 body obstacle q)
