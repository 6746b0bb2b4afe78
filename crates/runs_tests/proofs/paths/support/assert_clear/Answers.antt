use Rattle.std.proofs.Common.{◌≡◌, ◌+◌, suc, arith, below_more, subst}
use Rattle.plan_model.specs.Spaces.Clearance.{Clear, path_point}
use Rattle.runs_tests.proofs.paths.support.assert_clear.Goals as goal

pub edges-preserved : goal.edges-preserved
edges-preserved g c =
    let next : c.edges.first + 1 ≡ suc c.edges.first = omega arith in
    below_more (λ k. Clear c.args.hall.now (path_point c.args.points.now k) (path_point c.args.points.now (suc k))) c.edges.first c.edges.invariant
    (subst (λ n. Clear c.args.hall.now (path_point c.args.points.now c.edges.first) (path_point c.args.points.now n)) next c.assert_segment.ensures)

pub returns : goal.returns
returns g c =
    record { clear = λ i low. c.edges.invariant i (omega (arith, low, c.edges-test.false, c.saturating_sub-first-end.ensures)) }
