use Rattle.report_judge.proofs.Words.{◌≡◌, [], ◌++◌, None, Some, arith, rules, sym, ap, ◌∙◌, append_assoc, slice_index_or, state_of_lists, parent_of-lists}
use Rattle.report_judge.proofs.Words.{steps_up, points_up-start}
use Rattle.report_judge.proofs.Laws.ListedNodes.{listed, stands-listed}
use Rattle.report_judge.proofs.trees.best_paths.path_back.Goals as goal

pub unwrap-knot-requires : goal.unwrap-knot-requires
unwrap-knot-requires c =
    let own = listed c.args.knots.now [] c.loop-at.at c.loop-at.invariant.present in
    rw (c.knot_at.ensures, own.at) (search rules)

pub unwrap-requires : goal.unwrap-requires
unwrap-requires c =
    let own = listed c.args.knots.now [] 0 c.requires.settled.fall.start in
    rw (c.knot_at-2.ensures, own.at) (search rules)

pub loop-at-smaller : goal.loop-at-smaller
loop-at-smaller c =
    let knots = c.args.knots.now in
    let here : slice_index_or knots c.loop-at.at None ≡ Some c.unwrap-knot.result = sym c.knot_at.ensures ∙ c.unwrap-knot.ensures in
    (steps_up (state_of_lists knots []) c.requires.settled.fall c.loop-at.at c.unwrap-knot.result.parent c.unwrap-knot.result.point c.loop-at-test.true
    (stands-listed knots [] c.loop-at.at c.unwrap-knot.result here) (sym (parent_of-lists knots c.loop-at.at c.unwrap-knot.result here))).falls

pub loop-at-preserved : goal.loop-at-preserved
loop-at-preserved c =
    let knots = c.args.knots.now in
    let here : slice_index_or knots c.loop-at.at None ≡ Some c.unwrap-knot.result = sym c.knot_at.ensures ∙ c.unwrap-knot.ensures in
    let up =
    steps_up (state_of_lists knots []) c.requires.settled.fall c.loop-at.at c.unwrap-knot.result.parent c.unwrap-knot.result.point c.loop-at-test.true
    (stands-listed knots [] c.loop-at.at c.unwrap-knot.result here) (sym (parent_of-lists knots c.loop-at.at c.unwrap-knot.result here)) in
    record {
      present = up.present;
      whole = rw (c.in_ok-push.ensures.items, append_assoc) (ap (λ ps. c.loop-at.points.items ++ ps) (sym up.points) ∙ c.loop-at.invariant.whole);
    }

pub returns : goal.returns
returns c =
    let knots = c.args.knots.now in
    let here : slice_index_or knots 0 None ≡ Some c.unwrap.result = sym c.knot_at-2.ensures ∙ c.unwrap.ensures in
    let last =
    points_up-start (state_of_lists knots []) c.requires.settled.fall c.loop-at.at c.unwrap.result.point (omega arith)
    (stands-listed knots [] 0 c.unwrap.result here) in
    rw c.in_ok-push-2.ensures.items (ap (λ ps. c.loop-at.points.items ++ ps) (sym last) ∙ c.loop-at.invariant.whole)
