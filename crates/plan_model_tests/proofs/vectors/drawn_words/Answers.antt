use Rattle.plan_model_tests.proofs.Words.{ap, refl, points_of_marks}
use Rattle.plan_model_tests.proofs.vectors.drawn_words.Goals as goal

pub returns : goal.returns
returns c = record {
  first = refl;
  second = refl;
  mark = λ scene room body strips seed. rw (room, body, strips, seed) refl;
  wrapped = λ scene room body strips seed. rw (room, body, strips, seed) refl;
  least_word = refl;
  greatest_word = refl;
  no_column = refl;
  drawn_marks = λ scene plan. ap (points_of_marks scene) plan;
  listed_marks = λ scene points plan. ap (points_of_marks scene) plan;
}
