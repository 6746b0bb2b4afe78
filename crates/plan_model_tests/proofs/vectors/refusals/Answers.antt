use Rattle.plan_model_tests.proofs.Words.{arith, refl, inr, codes, lines_of, supported, without_keys, IsSoundBelow-from_test, refused_at_line}
use Rattle.plan_model.specs.declared.text_terms.Kind.TheVariants as kinds
use Rattle.plan_model.proofs.Soundness.{are_sound}
use Rattle.plan_model_tests.proofs.vectors.refusals.Goals as goal

pub returns : goal.returns
unfolding are_sound
returns c = record {
  empty_text = (0, refl, (λ i h. absurd (omega arith)), inr (refl, refl));
  other_version = refused_at_line supported (codes "# a scene\n\nprrt 3\n") 2 kinds.Version refl (omega arith) refl;
  not_a_key = refused_at_line supported (codes "prrt 1\nroom 10 10\nstar\n") 2 kinds.Key refl (omega arith) refl;
  not_supported = refused_at_line without_keys (codes "prrt 1\nroom 10 10\n") 1 kinds.Unbuilt refl (omega arith) refl;
  repeated = refused_at_line supported (codes "prrt 1\nroom 10 10\nstep 4\nstep 4\n") 3 kinds.Repeat refl (omega arith) refl;
  word_missing = refused_at_line supported (codes "prrt 1\nroom 10\n") 1 kinds.Words refl (omega arith) refl;
  not_a_number = refused_at_line supported (codes "prrt 1\nroom 10 010\n") 1 kinds.Number refl (omega arith) refl;
  too_low = refused_at_line supported (codes "prrt 1\nroom 10 0\n") 1 kinds.Range refl (omega arith) refl;
  too_high = refused_at_line supported (codes "prrt 1\nstart 65536 0\n") 1 kinds.Range refl (omega arith) refl;
  not_in_order = refused_at_line supported (codes "prrt 1\ngoal 8 9 9 8\n") 1 kinds.Range refl (omega arith) refl;
  clockwise = refused_at_line supported (codes "prrt 1\nobstacle 0 0 0 9 9 9\n") 1 kinds.Corners refl (omega arith) refl;
  body_of_two_corners = refused_at_line supported (codes "prrt 1\nbody 0 0 1 0\n") 1 kinds.Words refl (omega arith) refl;
  body_twice = refused_at_line supported (codes "prrt 1\nbody 0 0\nbody 1 1\n") 2 kinds.Repeat refl (omega arith) refl;
  three_in_a_line = refused_at_line supported (codes "prrt 1\nbody 0 0 5 0 9 0 9 9\n") 1 kinds.Corners refl (omega arith) refl;
  drawn_and_listed = refused_at_line supported (codes "prrt 1\nmarks 5\nmark 1 1\n") 2 kinds.Repeat refl (omega arith) refl;
  missing = (4, refl, IsSoundBelow-from_test supported (lines_of (codes "prrt 1\nroom 10 10\nstart 5 5\nstep 4\n")) 4 refl, inr (refl, refl));
  comments_alone = (3, refl, IsSoundBelow-from_test supported (lines_of (codes "# a\n\n  # b")) 3 refl, inr (refl, refl));
  third_word = refused_at_line supported (codes "prrt 1 1\n") 0 kinds.Version refl (omega arith) refl;
  version_again = refused_at_line supported (codes "prrt 1\nprrt 1\n") 1 kinds.Key refl (omega arith) refl;
  version_alone = (1, refl, IsSoundBelow-from_test supported (lines_of (codes "prrt 1")) 1 refl, inr (refl, refl));
  listed_and_drawn = refused_at_line supported (codes "prrt 1\nmark 1 1\nmarks 5\n") 2 kinds.Repeat refl (omega arith) refl;
  first_of_two_faults = refused_at_line supported (codes "prrt 1\nroom 0 1\nstar\n") 1 kinds.Range refl (omega arith) refl;
}
