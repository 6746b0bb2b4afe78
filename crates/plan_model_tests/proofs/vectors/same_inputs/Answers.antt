use Rattle.std.proofs.Common.{◌≡◌, ℕ, List, [], cond, refl, sym, ap, ◌∙◌}
use Rattle.plan_model_tests.proofs.Words.{Point, Vertex, ConfigurationSpace, at, marks_to_rewire, open_setup, points_of_marks, rewired_records, rewired_tree}
use Rattle.plan_model_tests.proofs.ComputedRuns.{IsTextbookRun-computed}
use Rattle.plan_model_tests.proofs.OrderDecisions.{is_clear}
use Rattle.plan_model_tests.proofs.vectors.same_inputs.Goals as goal

abbrev space_with : Point → List Vertex → List (List Vertex) → ℕ → ConfigurationSpace
space_with room body obstacles clearance = record { room = room; body = body; obstacles = obstacles; clearance = clearance }

same_space : (room hall : Point) (body other : List Vertex) (obstacles others : List (List Vertex)) (clearance distance : ℕ)
    → room ≡ hall → body ≡ other → obstacles ≡ others → clearance ≡ distance
    → space_with room body obstacles clearance ≡ space_with hall other others distance
same_space room hall body other obstacles others clearance distance e f g h = cc

pub returns : goal.returns
returns c = record {
  without_marks = λ one other room body obstacles clearance start step gamma plain plain_too listed drawn.
      record {
        space = same_space one.room other.room one.body other.body one.obstacles other.obstacles one.clearance other.clearance room body obstacles
            clearance;
        start = start;
        step = step;
        gamma = gamma;
        goals = ap (λ b. cond b one.goals []) plain ∙ sym (ap (λ b. cond b other.goals []) plain_too);
        marks = ap (points_of_marks one) listed ∙ sym (ap (points_of_marks other) drawn);
      };
  of_a_run = record {
    nodes = rewired_tree;
    records = rewired_records;
    run = IsTextbookRun-computed open_setup (is_clear (at 100 100)) marks_to_rewire rewired_tree rewired_records refl;
    same = record { points = λ n. refl; parents = λ n h. refl; costs = λ n h. refl; records = λ k. refl };
  };
}
