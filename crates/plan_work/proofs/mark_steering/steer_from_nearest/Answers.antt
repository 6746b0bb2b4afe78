use Rattle.plan_work.proofs.Words.{length, sym, ap, ◌∙◌, subst, arith, OnlyLooks, OnlyLooks-trans, PassLooks, PassLooks-load, IsBounded, mark_at, steered}
use Rattle.plan_work.proofs.Words.{Task, PointOf, IsNearestSeen, sight_in, SharedRun, PassSees-point, SeesAsBefore, KeepsRecords}
use Rattle.plan_work.proofs.FilledNear.{HasFilledNear-begun}
use Rattle.plan_work.proofs.HeldMarks.{mark_low, mark_shown}
use Rattle.plan_work.proofs.KeptRecords.{KeepsRecords-looks, KeepsRecords-trans}
use Rattle.plan_work.proofs.KeptSights.{HasSteered-found, HasSteered-still}
use Rattle.plan_work.proofs.WholeLists.{HasCounted-kept, HasWholeShare-kept, SeesButCount-all, SeesButCount-trans}
use Rattle.plan_work.proofs.mark_steering.steer_from_nearest.Goals as goal
use Rattle.plan_work.proofs.mark_steering.steer_from_nearest.Goals.{After-point-from}

pub bounds-as_slice-k : goal.bounds-as_slice-k
bounds-as_slice-k c =
    let low = mark_low c.args.pass.now.view c.args.k c.requires.belongs.lawful c.requires.some c.requires.hand in
    let marks = ap (λ run. length run.marks) c.requires.belongs.run in
    omega (arith, low, marks, ap (λ l. length l) c.as_slice.ensures, ap (λ (t : Task). length t.marks) c.task.ensures)

pub nearest-nearest-requires-clause-bounded : goal.nearest-nearest-requires-clause-bounded
nearest-nearest-requires-clause-bounded c =
    let shown = c.as_slice.ensures ∙ ap (λ (t : Task). t.marks) c.task.ensures in
    subst IsBounded (sym (mark_shown c.args.shared.now c.args.pass.now c.as_slice.result.now c.args.k c.requires.belongs shown))
    (c.requires.belongs.lawful.run.points c.args.k)

-- ---- the nearest node was looked for

load : (c : After-point-from) → PassLooks c.args.shared.now c.nearest-nearest.new.pass c.point-from.new.pass
load c =
    PassLooks-load c.args.shared.now c.nearest-nearest.new.pass c.point-from.new.pass (PointOf c.nearest-nearest.result) _ _
    c.nearest-nearest.ensures.belongs tt c.point-from.ensures.view c.point-from.ensures.goes_on c.point-from.ensures.seen c.point-from.ensures.looked
    c.point-from.ensures.whole

looks : (c : After-point-from) → OnlyLooks c.args.pass.now.view c.point-from.new.pass.view
looks c =
    OnlyLooks-trans c.args.pass.now.view c.nearest-nearest.new.pass.view c.point-from.new.pass.view c.nearest-nearest.ensures.looks (load c).looks

keeps : (c : After-point-from) → KeepsRecords c.args.shared.now c.args.pass.now c.point-from.new.pass
keeps c = KeepsRecords-looks c.args.shared.now c.args.pass.now c.point-from.new.pass (load c).belongs (looks c)

-- ---- and the nodes near the point

pub returns-clause-keeps : goal.returns-clause-keeps
returns-clause-keeps c =
    KeepsRecords-trans c.args.shared.now c.args.pass.now c.point-from.new.pass c.find_near-class.new.pass
    (keeps (goal.at.returns-clause-keeps c).After-point-from) c.find_near-class.ensures.keeps

pub returns-clause-hand : goal.returns-clause-hand
returns-clause-hand c = c.find_near-class.ensures.hand ∙ (looks (goal.at.returns-clause-hand c).After-point-from).kept.hand

pub returns-clause-steered : goal.returns-clause-steered
returns-clause-steered c =
    let before = c.args.pass.now in
    let mid = c.nearest-nearest.new.pass in
    let after = c.point-from.new.pass in
    let shown = c.as_slice.ensures ∙ ap (λ (t : Task). t.marks) c.task.ensures in
    let run = c.nearest-nearest.ensures.looks.looks.goes_on.later.run in
    let mark = mark_shown c.args.shared.now before c.as_slice.result.now c.args.k c.requires.belongs shown in
    let mark_mid = mark ∙ ap (λ (r : SharedRun). mark_at r.marks c.args.k) (sym run) in
    let last = c.point-from.ensures.goes_on.later.run in
    let step = ap (λ (t : Task). t.scene.step) c.task-2.ensures
    ∙ ap (λ (r : SharedRun). r.step) (sym c.requires.belongs.run ∙ sym run ∙ sym last) in
    HasSteered-still before.view after.view c.find_near-class.new.pass.view
    (looks (goal.at.returns-clause-steered c).After-point-from).looks.goes_on c.find_near-class.ensures.keeps.goes_on c.args.k
    c.nearest-nearest.result c.point-from.result c.steer-point.result
    (HasSteered-found before.view mid.view after.view c.nearest-nearest.ensures.looks.looks.goes_on c.point-from.ensures.goes_on c.args.k
    c.nearest-nearest.result c.point-from.result c.steer-point.result
    (subst (λ q. IsNearestSeen (sight_in before.view) (sight_in mid.view) q c.nearest-nearest.result) mark_mid c.nearest-nearest.ensures.nearest)
    c.point-from.ensures.found
    (c.steer-point.ensures.value
    ∙ ap (λ q. steered c.point-from.result q c.task-2.result.now.scene.step) (mark_mid ∙ ap (λ (r : SharedRun). mark_at r.marks c.args.k) (sym last))
    ∙ ap (steered c.point-from.result (mark_at after.view.run.marks c.args.k)) step))

pub returns-clause-filled : goal.returns-clause-filled
returns-clause-filled c =
    let kept = keeps (goal.at.returns-clause-filled c).After-point-from in
    HasFilledNear-begun c.args.pass.now.view c.point-from.new.pass.view c.find_near-class.new.pass.view kept.goes_on kept.records
    c.steer-point.result c.find_near-class.result c.find_near-class.new.pass.lists.search.found c.find_near-class.ensures.filled

-- with the share of all workers, the nearest node was seen with its point
pub returns-clause-whole : goal.returns-clause-whole
returns-clause-whole c = λ whole counted.
    let shared = c.args.shared.now in
    let before = c.args.pass.now in
    let mid = c.point-from.new.pass in
    let at = (goal.at.returns-clause-whole c).After-point-from in
    let steps = PassSees-point shared c.nearest-nearest.new.pass mid c.nearest-nearest.result _ _
    c.nearest-nearest.ensures.belongs c.nearest-nearest.ensures.nearest.nearest.member c.point-from.ensures.view c.point-from.ensures.goes_on
    c.point-from.ensures.seen c.point-from.ensures.looked in
    let seen : SeesAsBefore before.view mid.view = λ name. steps.sees_anew.others name (λ no. no) ∙ c.nearest-nearest.ensures.looks.whole whole name in
    let last = c.find_near-class.ensures.whole (HasWholeShare-kept shared before mid (keeps at) whole)
    (HasCounted-kept before.view mid.view (looks at).kept.hand counted) in (
      SeesButCount-trans before.view mid.view c.find_near-class.new.pass.view (SeesButCount-all before.view mid.view seen) last.0,
      last.1,
    )
