use Rattle.shared_tree_tests.proofs.Words.{◌/◌, ◌*◌, arith, subst, sym, mod_below}
use Rattle.shared_tree_tests.proofs.SteeredPasses.RepeatedPoints.{AreMarks, AreMarks-none, AreMarks-push, is_plan-marks}
use Rattle.shared_tree_tests.proofs.kd_tree.place_by_threads.repeated_points.Goals as goal

pub marks-init : goal.marks-init
marks-init c = subst (λ items. AreMarks items 0) (sym c.new-marks.ensures.items) AreMarks-none

pub marks-preserved : goal.marks-preserved
marks-preserved c =
    AreMarks-push _ _ _ c.marks.mark c.marks.invariant c.in_ok-push.ensures.items
    (omega (arith, mod_below (c.marks.mark / 64 * 7919) 3989 (omega arith))) (omega (arith, mod_below (c.marks.mark / 64 * 104729) 4001 (omega arith)))

pub returns-clause-plan : goal.returns-clause-plan
returns-clause-plan c = is_plan-marks _ c.marks.mark c.marks.invariant (omega (arith, c.marks.auto.mark-end))

pub returns-clause-count : goal.returns-clause-count
returns-clause-count c = omega (arith, c.marks.invariant.count, c.marks.auto.mark-end, c.marks-test.false)
