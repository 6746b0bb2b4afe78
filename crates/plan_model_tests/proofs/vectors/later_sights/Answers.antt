use Rattle.plan_model_tests.proofs.Words.{true, false, [], arith, refl, inl, child_of_none, found_filled, found_with, seen_by, sight_of, IsSeen, at_entry}
use Rattle.plan_model_tests.proofs.Words.{at_return, three_children, trees_at_entry}
use Rattle.plan_model.specs.Vectors.SeenTrees.{three_points}
use Rattle.plan_model_tests.proofs.Decisions.{refuted, shown}
use Rattle.plan_model_tests.proofs.SeenByOne.{seen_at_return}
use Rattle.plan_model_tests.proofs.SightDecisions.{is_later, is_seen, keeps_or_finds_empty}
use Rattle.plan_model_tests.proofs.vectors.later_sights.Goals as goal

-- a number that no child is was not seen
not_seen_5 : ¬ IsSeen (seen_by child_of_none three_points trees_at_entry [] 2 3) 5
not_seen_5 = refuted (is_seen (seen_by child_of_none three_points trees_at_entry [] 2 3) (record { child = λ n side. refl; pairs = λ n. refl }) 5) refl

not_seen_3 : ¬ IsSeen (seen_by three_children three_points trees_at_entry [] 2 3) 3
not_seen_3 = refuted (is_seen (seen_by three_children three_points trees_at_entry [] 2 3) (record { child = λ n side. refl; pairs = λ n. refl }) 3) refl

pub returns : goal.returns
returns c = record {
  found_by_next_step = shown (is_later at_entry (sight_of at_return.seen 10 (found_with 7)) (λ n side. inl refl) (yes seen_at_return)) refl;
  found_by_earlier_step = λ h. refuted (keeps_or_finds_empty at_entry (sight_of at_return.seen 10 (found_with 6)) 1 true) refl (h.empty 1 true);
  found_where_a_child_was = λ h. refuted (keeps_or_finds_empty at_entry (sight_of at_return.seen 10 found_filled) 0 true) refl (h.empty 0 true);
  fewer_steps = λ h. omega (arith, h.steps);
  less_seen = λ h. omega (arith, h.seen.count);
  found_by_no_step = λ h. omega (arith, h.steps 1 true);
  no_start = λ h. let e = h.start in cc;
  parent_not_seen = λ h. not_seen_5 (h.children 5 6 true refl);
  point_of_none = λ h. not_seen_3 (h.points 3 refl);
  pair_of_none = λ h. not_seen_3 (h.pairs 3 refl);
  child_twice = λ h. omega (arith, (h.once 2 0 1 false false refl refl).0);
  start_is_a_child = λ h. h.root 1 true refl;
}
