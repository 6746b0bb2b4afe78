use Rattle.plan_model_tests.proofs.Words.{arith, refl, inr, codes, lines_of, supported, whole_format, goals_and, IsSoundBelow-from_test, refused_at_line}
use Rattle.plan_model.specs.declared.text_terms.Kind.TheVariants as kinds
use Rattle.plan_model.proofs.Soundness.{are_sound}
use Rattle.plan_model_tests.proofs.vectors.second_version.Goals as goal

pub returns : goal.returns
unfolding are_sound
returns c = record {
  no_version = refused_at_line supported (codes "prrt 3\n") 0 kinds.Version refl (omega arith) refl;
  version_in_digits = refused_at_line supported (codes "prrt 02\n") 0 kinds.Version refl (omega arith) refl;
  clearance_of_first = refused_at_line supported (codes "prrt 1\nclearance 1\n") 1 kinds.Key refl (omega arith) refl;
  informed_of_first = refused_at_line whole_format (codes "prrt 1\ninformed 1\n") 1 kinds.Key refl (omega arith) refl;
  informed_words = refused_at_line supported (codes "prrt 2\ninformed x y\n") 1 kinds.Words refl (omega arith) refl;
  informed_too_great = refused_at_line supported (codes "prrt 2\ninformed 2\n") 1 kinds.Range refl (omega arith) refl;
  clearance_twice = refused_at_line supported (codes "prrt 2\nclearance 1\nclearance x y\n") 2 kinds.Repeat refl (omega arith) refl;
  second_goal_of_first = refused_at_line supported (codes "prrt 1\ngoal 1 1 2 2\ngoal 1 1 2 2\n") 2 kinds.Repeat refl (omega arith) refl;
  second_goal_before_words =
      refused_at_line supported (codes "prrt 1\nroom 9 9\ngoal 1 1 2 2\ngoal x\n") 3 kinds.Repeat refl (omega arith) refl;
  too_many_goals = refused_at_line supported (goals_and 16 (codes "goal 1 1 2 2\n")) 17 kinds.Many refl (omega arith) refl;
  words_before_many = refused_at_line supported (goals_and 16 (codes "goal 1 1 2\n")) 17 kinds.Words refl (omega arith) refl;
  many_before_number = refused_at_line supported (goals_and 16 (codes "goal a b c d\n")) 17 kinds.Many refl (omega arith) refl;
  many_before_range = refused_at_line supported (goals_and 16 (codes "goal 2 2 1 1\n")) 17 kinds.Many refl (omega arith) refl;
  clearance_too_great = refused_at_line supported (codes "prrt 2\nclearance 4097\n") 1 kinds.Range refl (omega arith) refl;
  goal_missing = (4, refl, IsSoundBelow-from_test supported (lines_of (codes "prrt 2\nroom 9 9\nstart 0 0\nstep 4\n")) 4 refl, inr (refl, refl));
}
