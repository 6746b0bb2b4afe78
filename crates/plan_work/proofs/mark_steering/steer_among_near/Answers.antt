use Rattle.plan_work.proofs.Words.{◌≡◌, length, sym, ap, ◌∙◌, subst, arith, All, IfSome, IsSome, IsBounded, mark_at, Task, SharedRun, Point, Count, PointOf}
use Rattle.plan_work.proofs.Words.{PassState, PassLooks, PassLooks-load, IsPresent-stands, tree_seen, point_later, numbers_of, IsMeasured, IsNearestOf}
use Rattle.plan_work.proofs.Words.{HasFilledNear, IsFilledWhole}
use Rattle.plan_work.proofs.FilledNear.{HasFilledNear-begun}
use Rattle.plan_work.proofs.HeldMarks.{mark_low, mark_shown}
use Rattle.plan_work.proofs.KeptRecords.{KeepsRecords-looks, KeepsRecords-trans}
use Rattle.plan_work.proofs.KeptSights.{HasSteered-begun, HasSteered-still}
use Rattle.plan_work.proofs.NearestListed.{FitsWord-measured, HasSteered-listed}
use Rattle.plan_work.proofs.TriedMarks.{HasFilledNear-still}
use Rattle.plan_work.proofs.WholeLists.{HasCounted-kept, HasWholeShare-kept, IsFilledWhole-still, SeesButCount-all, SeesButCount-trans}
use Rattle.plan_work.proofs.mark_steering.steer_among_near.Goals as goal
use Rattle.plan_work.proofs.mark_steering.steer_among_near.Goals.{After-point-from}

pub bounds-as_slice-k : goal.bounds-as_slice-k
bounds-as_slice-k c =
    let low = mark_low c.args.pass.now.view c.args.k c.requires.belongs.lawful c.requires.some c.requires.hand in
    let marks = ap (λ run. length run.marks) c.requires.belongs.run in
    omega (arith, low, marks, ap (λ l. length l) c.as_slice.ensures, ap (λ (t : Task). length t.marks) c.task.ensures)

pub find_near-class-requires-clause-bounded : goal.find_near-class-requires-clause-bounded
find_near-class-requires-clause-bounded c =
    let shown = c.as_slice.ensures ∙ ap (λ (t : Task). t.marks) c.task.ensures in
    subst IsBounded (sym (mark_shown c.args.shared.now c.args.pass.now c.as_slice.result.now c.args.k c.requires.belongs shown))
    (c.requires.belongs.lawful.run.points c.args.k)

pub nearest_found-requires : goal.nearest_found-requires
nearest_found-requires c = λ k d below.
    let shown = c.as_slice.ensures ∙ ap (λ (t : Task). t.marks) c.task.ensures in
    let bounded = subst IsBounded (sym (mark_shown c.args.shared.now c.args.pass.now c.as_slice.result.now c.args.k c.requires.belongs shown))
    (c.requires.belongs.lawful.run.points c.args.k) in
    FitsWord-measured c.find_near-class.new.pass.view _ _ c.find_near-class.ensures.keeps.belongs.lawful bounded
    (c.find_near-class.ensures.filled.measured k d below)

pub point-from-requires-clause-seen_node : goal.point-from-requires-clause-seen_node
point-from-requires-clause-seen_node c =
    let mid = c.find_near-class.new.pass.view in
    c.find_near-class.ensures.keeps.belongs.lawful.tree.rooted.points c.in-Some.nearest
    (IsPresent-stands (tree_seen mid).points c.in-Some.nearest _ (c.in-Some.ensures.some mid _ c.find_near-class.ensures.filled.measured).stands)

-- ---- the nearest one found

-- by its distance
nearest_then : (c : After-point-from) → (p : Point) → All (IsMeasured c.find_near-class.new.pass.view p) c.find_near-class.new.pass.lists.search.found
    → IsNearestOf c.find_near-class.new.pass.view p (numbers_of c.find_near-class.new.pass.lists.search.found)
    (numbers_of c.find_near-class.new.pass.lists.search.found) c.in-Some.nearest c.point-from.result
nearest_then c p measured =
    let mid = c.find_near-class.new.pass.view in
    let found = c.find_near-class.new.pass.lists.search.found in
    let here = c.in-Some.ensures.some mid p measured in
    let present = IsPresent-stands (tree_seen mid).points c.in-Some.nearest _ here.stands in
    subst (IsNearestOf mid p (numbers_of found) (numbers_of found) c.in-Some.nearest) (sym
    (point_later mid c.point-from.new.pass.view c.point-from.ensures.goes_on c.in-Some.nearest c.point-from.result present c.point-from.ensures.found)) here

load : (c : After-point-from) → PassLooks c.args.shared.now c.find_near-class.new.pass c.point-from.new.pass
load c =
    PassLooks-load c.args.shared.now c.find_near-class.new.pass c.point-from.new.pass (PointOf c.in-Some.nearest) _ _
    c.find_near-class.ensures.keeps.belongs tt c.point-from.ensures.view c.point-from.ensures.goes_on c.point-from.ensures.seen c.point-from.ensures.looked
    c.point-from.ensures.whole

pub returns-in-Some-clause-keeps : goal.returns-in-Some-clause-keeps
returns-in-Some-clause-keeps c =
    let shared = c.args.shared.now in
    let looks = load (goal.at.returns-in-Some-clause-keeps c).After-point-from in
    KeepsRecords-trans shared c.args.pass.now c.find_near-class.new.pass c.point-from.new.pass c.find_near-class.ensures.keeps
    (KeepsRecords-looks shared c.find_near-class.new.pass c.point-from.new.pass looks.belongs looks.looks)

pub returns-in-Some-clause-hand : goal.returns-in-Some-clause-hand
returns-in-Some-clause-hand c =
    (load (goal.at.returns-in-Some-clause-hand c).After-point-from).looks.kept.hand ∙ c.find_near-class.ensures.hand

pub returns-in-Some-clause-steered : goal.returns-in-Some-clause-steered
returns-in-Some-clause-steered c =
    let at = (goal.at.returns-in-Some-clause-steered c).After-point-from in
    let before = c.args.pass.now in
    let mid = c.find_near-class.new.pass in
    let one = c.find_near-class.ensures.keeps.goes_on in
    let filled = c.find_near-class.ensures.filled in
    let shown = c.as_slice.ensures ∙ ap (λ (t : Task). t.marks) c.task.ensures in
    let mark = mark_shown c.args.shared.now before c.as_slice.result.now c.args.k c.requires.belongs shown in
    let mark_mid = mark ∙ ap (λ (r : SharedRun). mark_at r.marks c.args.k) (sym one.later.run) in
    HasSteered-still before.view mid.view c.point-from.new.pass.view one c.point-from.ensures.goes_on c.args.k c.in-Some.nearest c.point-from.result _
    (HasSteered-listed before.view mid.view one c.args.k c.in-Some.nearest c.find_near-class.result c.point-from.result _ mid.lists.search.found mark_mid
    filled (nearest_then at _ filled.measured))

pub returns-in-Some-clause-filled : goal.returns-in-Some-clause-filled
returns-in-Some-clause-filled c =
    let before = c.args.pass.now.view in
    let mid = c.find_near-class.new.pass in
    let after = c.point-from.new.pass in
    subst (HasFilledNear before after.view _ c.find_near-class.result) (sym (ap (λ (x : PassState). x.lists.search.found) c.point-from.ensures.view))
    (HasFilledNear-still before mid.view after.view _ c.find_near-class.result mid.lists.search.found c.point-from.ensures.goes_on
    (c.point-from.ensures.seen.others Count (λ e. cc)) c.find_near-class.ensures.filled)

pub returns-in-Some-clause-whole : goal.returns-in-Some-clause-whole
returns-in-Some-clause-whole c = λ whole counted.
    let shared = c.args.shared.now in
    let before = c.args.pass.now in
    let mid = c.find_near-class.new.pass in
    let after = c.point-from.new.pass in
    let share = HasWholeShare-kept shared before mid c.find_near-class.ensures.keeps whole in
    let same = (load (goal.at.returns-in-Some-clause-whole c).After-point-from).looks.whole share in
    let first = c.find_near-class.ensures.whole whole counted in (
      SeesButCount-trans before.view mid.view after.view first.0 (SeesButCount-all mid.view after.view same),
      subst (IsFilledWhole after.view _ c.find_near-class.result) (sym (ap (λ (x : PassState). x.lists.search.found) c.point-from.ensures.view))
          (IsFilledWhole-still mid.view after.view c.point-from.ensures.goes_on.later.run (λ n. same (PointOf n)) _ c.find_near-class.result
          mid.lists.search.found first.1),
    )

-- no near node was found, so the nearest one is looked for
pub steer_from_nearest-requires-clause-some : goal.steer_from_nearest-requires-clause-some
steer_from_nearest-requires-clause-some c = subst IsSome (sym c.find_near-class.ensures.hand) c.requires.some

pub steer_from_nearest-requires-clause-hand : goal.steer_from_nearest-requires-clause-hand
steer_from_nearest-requires-clause-hand c =
    subst (λ o. IfSome o (λ hand. hand.mark ≡ c.args.k)) (sym c.find_near-class.ensures.hand) c.requires.hand

pub returns-clause-keeps : goal.returns-clause-keeps
returns-clause-keeps c =
    KeepsRecords-trans c.args.shared.now c.args.pass.now c.find_near-class.new.pass c.steer_from_nearest.new.pass c.find_near-class.ensures.keeps
    c.steer_from_nearest.ensures.keeps

pub returns-clause-hand : goal.returns-clause-hand
returns-clause-hand c = c.steer_from_nearest.ensures.hand ∙ c.find_near-class.ensures.hand

pub returns-clause-steered : goal.returns-clause-steered
returns-clause-steered c =
    let steering = c.steer_from_nearest.result in
    HasSteered-begun c.args.pass.now.view c.find_near-class.new.pass.view c.steer_from_nearest.new.pass.view c.find_near-class.ensures.keeps.goes_on
    c.args.k steering.nearest steering.from steering.point c.steer_from_nearest.ensures.steered

pub returns-clause-filled : goal.returns-clause-filled
returns-clause-filled c =
    let keeps = c.find_near-class.ensures.keeps in
    let last = c.steer_from_nearest in
    HasFilledNear-begun c.args.pass.now.view c.find_near-class.new.pass.view last.new.pass.view keeps.goes_on keeps.records last.result.point
    last.result.class last.new.pass.lists.search.found last.ensures.filled

-- ---- with the share of all workers

pub returns-clause-whole : goal.returns-clause-whole
returns-clause-whole c = λ whole counted.
    let before = c.args.pass.now in
    let first = c.find_near-class in
    let share = HasWholeShare-kept c.args.shared.now before first.new.pass first.ensures.keeps whole in
    let last = c.steer_from_nearest.ensures.whole share (HasCounted-kept before.view first.new.pass.view first.ensures.hand counted) in (
      SeesButCount-trans before.view first.new.pass.view c.steer_from_nearest.new.pass.view (first.ensures.whole whole counted).0 last.0,
      last.1,
    )
