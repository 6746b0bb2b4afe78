use Rattle.twin_trees.proofs.Words.{sym, subst, Clear-alone, Clear-first, Clear, ClearAt, space_of, goal_middle}
use Rattle.twin_trees.proofs.growing.twin.Goals as goal

pub twin_from-requires-clause-middle : goal.twin_from-requires-clause-middle
twin_from-requires-clause-middle g c κs within =
    let space = space_of c.args.task.scene in
    let middle = c.middle_of_first_goal-middle.result in
    let yes = c.clear.ensures.0 c.if-not-clear.false in
    subst (ClearAt space) c.middle_of_first_goal-middle.ensures
    (Clear-first space middle middle (subst (λ s. Clear s middle middle) c.requires.hall yes))

pub returns-then-not-clear-clause-blocked : goal.returns-then-not-clear-clause-blocked
returns-then-not-clear-clause-blocked g c = λ is clear.
    let space = space_of c.args.task.scene in
    let middle = c.middle_of_first_goal-middle.result in
    let alone = Clear-alone space middle (subst (ClearAt space) (sym c.middle_of_first_goal-middle.ensures) clear) in
    let yes = c.clear.ensures.1 (subst (λ s. Clear s middle middle) (sym c.requires.hall) alone) in
    let no = c.if-not-clear.true in
    cc

-- the trees are grown only if the middle is clear
pub returns-in_err-twin_from-clause-clear : goal.returns-in_err-twin_from-clause-clear
returns-in_err-twin_from-clause-clear g c = λ blocked.
    let space = space_of c.args.task.scene in
    let middle = c.middle_of_first_goal-middle.result in
    let yes = c.clear.ensures.0 c.if-not-clear.false in
    let clear : ClearAt space (goal_middle c.args.task.scene) =
    subst (ClearAt space) c.middle_of_first_goal-middle.ensures
    (Clear-first space middle middle (subst (λ s. Clear s middle middle) c.requires.hall yes)) in
    absurd (blocked clear)
