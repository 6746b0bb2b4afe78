use Rattle.settle_report.proofs.Words.{◌++◌, arith, sym, ap, ◌∙◌, append_assoc, StandsAt, state_of_grown}
use Rattle.settle_report.proofs.GrownPaths.{FallAlong-grown, steps_up, points_up-start}
use Rattle.settle_report.proofs.paths.path_back.Goals as goal

pub loop-at-smaller : goal.loop-at-smaller
loop-at-smaller c =
    let grown = c.args.grown.now in
    let stands : StandsAt (state_of_grown c.args.grown.now).points c.loop-at.at c.unwrap.result = sym c.point.ensures ∙ c.unwrap.ensures in
    (steps_up (state_of_grown grown) (FallAlong-grown grown) c.loop-at.at c.parent-at.result c.unwrap.result c.loop-at-test.true stands
    c.parent-at.ensures).falls

pub loop-at-preserved : goal.loop-at-preserved
loop-at-preserved c =
    let grown = c.args.grown.now in
    let stands : StandsAt (state_of_grown c.args.grown.now).points c.loop-at.at c.unwrap.result = sym c.point.ensures ∙ c.unwrap.ensures in
    let up =
    steps_up (state_of_grown grown) (FallAlong-grown grown) c.loop-at.at c.parent-at.result c.unwrap.result c.loop-at-test.true stands
    c.parent-at.ensures in
    record {
      present = up.present;
      whole = rw (c.in_ok-push.ensures.items, append_assoc) (ap (λ ps. c.loop-at.points.items ++ ps) (sym up.points) ∙ c.loop-at.invariant.whole);
    }

pub returns : goal.returns
returns c =
    let grown = c.args.grown.now in
    let stands : StandsAt (state_of_grown c.args.grown.now).points 0 c.unwrap-2.result = sym c.point-2.ensures ∙ c.unwrap-2.ensures in
    let last = points_up-start (state_of_grown grown) (FallAlong-grown grown) c.loop-at.at c.unwrap-2.result (omega arith) stands in
    rw c.in_ok-push-2.ensures.items (ap (λ ps. c.loop-at.points.items ++ ps) (sym last) ∙ c.loop-at.invariant.whole)
