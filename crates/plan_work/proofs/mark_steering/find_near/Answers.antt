use Rattle.plan_work.proofs.Words.{sym, ap, ◌∙◌, subst, arith, AreGathered, AreOf, class_of, radius_of_class, unplaced_record, Blocked, near, node_count}
use Rattle.plan_work.proofs.Words.{PointOf, Count, SeesButCount, tree_seen, sight_in, SharedRun}
use Rattle.plan_work.proofs.FoundNear.{AreOf-gathered}
use Rattle.plan_work.proofs.FilledNear.{HasFilledNear-found, looks_at_count, own_count-some}
use Rattle.plan_work.proofs.KeptRecords.{KeepsRecords-looks, KeepsRecords-number, KeepsRecords-trans}
use Rattle.plan_work.proofs.MirroredTrees.{points_still}
use Rattle.plan_work.proofs.WholeLists.{HasWholeShare-kept, IsFilledWhole-found, SeesButCount-all, SeesButCount-trans}
use Rattle.plan_work.proofs.mark_steering.find_near.Goals as goal

pub at-requires-clause-some : goal.at-requires-clause-some
at-requires-clause-some c =
    let entry = unplaced_record 0 0 0 Blocked in
    omega (arith, c.number.ensures.own entry, own_count-some c.args.pass.now.view entry, c.from-nodes.ensures)

pub class-requires : goal.class-requires
class-requires c =
    let entry = unplaced_record 0 0 0 Blocked in
    omega (arith, c.number.ensures.own entry, own_count-some c.args.pass.now.view entry, c.from-nodes.ensures)

pub returns-clause-keeps : goal.returns-clause-keeps
returns-clause-keeps c =
    KeepsRecords-trans c.args.shared.now c.args.pass.now c.number.new.pass c.gather.new.pass
    (KeepsRecords-number c.args.shared.now c.args.pass.now c.number.new.pass _ _ c.requires.belongs c.number.ensures.view c.number.ensures.goes_on
    c.number.ensures.seen)
    (KeepsRecords-looks c.args.shared.now c.number.new.pass c.gather.new.pass c.gather.ensures.belongs c.gather.ensures.looks)

pub returns-clause-filled : goal.returns-clause-filled
returns-clause-filled c =
    let before = c.args.pass.now.view in
    let mid = c.number.new.pass.view in
    let after = c.gather.new.pass.view in
    let nodes = c.number.result in
    let count = c.gather.ensures.looks.looks.others Count (λ no. no) ∙ c.number.ensures.seen.here in
    let run = c.gather.ensures.looks.looks.goes_on.later.run ∙ c.number.ensures.goes_on.later.run ∙ c.requires.belongs.run in
    let radius =
    c.at.ensures ∙ ap (λ n. radius_of_class n c.args.radii.now.gamma (class_of c.from-nodes.result))
    (c.requires.radii.step ∙ ap (λ (r : SharedRun). r.step) (sym run))
    ∙ ap (λ n. radius_of_class after.run.step n (class_of c.from-nodes.result)) (c.requires.radii.gamma ∙ ap (λ (r : SharedRun). r.gamma) (sym run))
    ∙ ap (radius_of_class after.run.step after.run.gamma) (sym c.class.ensures.value) in
    HasFilledNear-found before mid after c.number.ensures.goes_on c.gather.ensures.looks.looks.goes_on c.args.p nodes c.class.result
    c.gather.new.pass.lists.search.found
    (looks_at_count c.args.pass.now c.number.new.pass nodes c.number.ensures.view c.number.ensures.goes_on) c.number.ensures.own count
    (c.class.ensures.value ∙ ap class_of c.from-nodes.ensures)
    (subst (λ r. AreGathered (sight_in mid) (sight_in after) c.args.p r c.gather.new.pass.lists.search.found) radius c.gather.ensures.gathered)

-- by the number of nodes seen, which the count is
pub returns-clause-whole : goal.returns-clause-whole
returns-clause-whole c = λ whole counted.
    let shared = c.args.shared.now in
    let before = c.args.pass.now in
    let mid = c.number.new.pass in
    let after = c.gather.new.pass in
    let numbered = KeepsRecords-number shared before mid _ _ c.requires.belongs c.number.ensures.view c.number.ensures.goes_on c.number.ensures.seen in
    let shown : SeesButCount before.view mid.view = λ name other. c.number.ensures.seen.others name other in
    let unshown = c.gather.ensures.looks.whole (HasWholeShare-kept shared before mid numbered whole) in
    let same = SeesButCount-trans before.view mid.view after.view shown (SeesButCount-all mid.view after.view unshown) in
    let run = c.gather.ensures.looks.looks.goes_on.later.run ∙ c.number.ensures.goes_on.later.run in
    let points = points_still before.view after.view run (λ n. same (PointOf n) (λ e. cc)) in
    let nodes = c.from-nodes.ensures ∙ c.number.ensures.whole whole counted ∙ ap node_count (sym points) in
    let own = run ∙ c.requires.belongs.run in
    let radius =
    c.at.ensures ∙ ap (λ n. radius_of_class n c.args.radii.now.gamma (class_of c.from-nodes.result))
    (c.requires.radii.step ∙ ap (λ (r : SharedRun). r.step) (sym own))
    ∙ ap (λ n. radius_of_class after.view.run.step n (class_of c.from-nodes.result)) (c.requires.radii.gamma ∙ ap (λ (r : SharedRun). r.gamma) (sym own)) in (
      same,
      IsFilledWhole-found after.view c.args.p c.from-nodes.result c.class.result after.lists.search.found c.class.ensures.value nodes
          (subst (λ r. AreOf after.lists.search.found (near (tree_seen after.view).points c.args.p r)) radius
          (AreOf-gathered (sight_in mid.view) (sight_in after.view) c.args.p c.at.result after.lists.search.found c.gather.ensures.gathered)),
    )
