use Rattle.report_judge.proofs.Words.{◌≡◌, suc, ◌+◌, Some, length, arith, subst, IsFirstBreak, KeepsHead, PricedPath, head_lines}
use Rattle.report_judge.proofs.Laws.HeadBreaks.{counts_found, points_unlike}
use Rattle.report_judge.proofs.heads.first_wrong_line.Goals as goal
use Rattle.report_judge.proofs.heads.first_wrong_line.Goals.{After-first_other_point}

long : (c : After-first_other_point) → length c.args.own.now.points.items ≡ length c.args.path.now.points.items
long c = omega (arith, c.if-len.false, c.len.ensures, c.len-2.ensures, c.args.path.now.points.ok, c.args.own.now.points.ok)

pub returns-in-Some : goal.returns-in-Some
returns-in-Some c =
    let path : PricedPath = record { points = c.args.path.now.points.items; cost = c.args.path.now.cost } in
    let own : PricedPath = record { points = c.args.own.now.points.items; cost = c.args.own.now.cost } in
    let next : suc c.in-Some.place ≡ c.in-Some.place + 1 = omega arith in
    subst
    (λ n. IsFirstBreak (KeepsHead (Some path) c.args.tally (Some own) c.args.own_tally) (length (head_lines (Some path) c.args.tally)) (Some n)) next
    (points_unlike path own c.args.tally c.args.own_tally (long (goal.at.returns-in-Some c).After-first_other_point) (omega (arith, c.if-path-own.false))
    c.in-Some.place (rw (c.deref.ensures.value, c.deref-2.ensures.value) at c.in-Some.ensures))

pub returns-in-None : goal.returns-in-None
returns-in-None c =
    let path : PricedPath = record { points = c.args.path.now.points.items; cost = c.args.path.now.cost } in
    let own : PricedPath = record { points = c.args.own.now.points.items; cost = c.args.own.now.cost } in
    let read = rw (c.deref.ensures.value, c.deref-2.ensures.value) at c.in-None.ensures in
    counts_found path own c.args.tally c.args.own_tally (long (goal.at.returns-in-None c).After-first_other_point) (omega (arith, c.if-path-own.false)) read
    (c.len-in-None.result + 1) (omega (arith, c.len-in-None.ensures, c.args.path.now.points.ok)) c.first_wrong_tally.result c.first_wrong_tally.ensures.same
    c.first_wrong_tally.ensures.other
