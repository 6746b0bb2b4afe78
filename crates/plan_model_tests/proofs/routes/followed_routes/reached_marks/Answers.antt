use Rattle.plan_model_tests.proofs.Words.{All-cons, All-nil}
use Rattle.plan_model_tests.proofs.OrderDecisions.{reached, unreached}
use Rattle.plan_model_tests.proofs.routes.followed_routes.reached_marks.Goals as goal

pub returns : goal.returns
returns c = search (All-cons, All-nil, reached, unreached)
