use Rattle.plan_model_tests.proofs.Words.{[], arith, at}
use Rattle.plan_model_tests.proofs.RouteExamples.OpenRoomLinks.{IsOpenLink-short}
use Rattle.plan_model_tests.proofs.routes.followed_routes.routes.Goals as goal

pub returns : goal.returns
returns c = record {
  over_two = record {
    rise = (omega arith, omega arith, (omega arith, omega arith, tt));
    links = (
      IsOpenLink-short [] (at 0 0) (at 0 50) (omega arith) (record { horizontal = omega arith; vertical = omega arith }),
      (IsOpenLink-short [] (at 0 50) (at 40 79) (omega arith) (record { horizontal = omega arith; vertical = omega arith }), tt),
    );
  };
  start_alone = record { rise = tt; links = tt };
  falling = λ route. omega (arith, route.rise.2.0);
  twice = λ route. omega (arith, route.rise.2.0);
  past_marks = λ route. omega (arith, route.rise.2.1);
  first_link = λ route. omega (arith, route.links.0.short);
  second_link = λ route. omega (arith, route.links.1.0.short);
}
