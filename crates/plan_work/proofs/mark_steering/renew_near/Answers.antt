use Rattle.plan_work.proofs.Words.{◌≡◌, sym, ap, ◌∙◌, subst, arith, class_of, unplaced_record, Blocked, PointOf, PassState, IsFilledWhole, SeesButCount}
use Rattle.plan_work.proofs.Words.{HasFilledNear}
use Rattle.plan_work.proofs.FilledNear.{HasFilledNear-begun, own_count-some}
use Rattle.plan_work.proofs.KeptRecords.{KeepsRecords-number, KeepsRecords-trans}
use Rattle.plan_work.proofs.TriedMarks.{HasFilledNear-recounted}
use Rattle.plan_work.proofs.WholeLists.{HasCounted-kept, HasWholeShare-kept, IsFilledWhole-still, SeesButCount-trans}
use Rattle.plan_work.proofs.mark_steering.renew_near.Goals as goal

pub class-class-requires : goal.class-class-requires
class-class-requires c =
    let entry = unplaced_record 0 0 0 Blocked in
    omega (arith, c.number.ensures.own entry, own_count-some c.args.pass.now.view entry, c.from.ensures)

-- the class is that of before, so the list stays filled
pub returns-then-class-old-clause-filled : goal.returns-then-class-old-clause-filled
returns-then-class-old-clause-filled c = λ first since.
    let before = c.args.pass.now in
    let after = c.number.new.pass in
    let goes_on = c.number.ensures.goes_on in
    let same : c.class-class.result ≡ c.args.old = omega (arith, c.if-class-old.true) in
    let was = subst (λ n. HasFilledNear first.view before.view c.args.p n before.lists.search.found) (sym same) since.filled in
    let is = c.class-class.ensures.value ∙ ap class_of (c.from.ensures ∙ sym c.number.ensures.seen.here) in
    let near = ap (λ (x : PassState). x.lists.search.found) c.number.ensures.view in
    record {
      keeps =
          KeepsRecords-trans c.args.shared.now first before after since.keeps
          (KeepsRecords-number c.args.shared.now before after _ _ c.requires.belongs c.number.ensures.view goes_on c.number.ensures.seen);
      filled =
          subst (HasFilledNear first.view after.view c.args.p c.class-class.result) (sym near)
          (HasFilledNear-recounted first.view before.view after.view c.args.p c.class-class.result before.lists.search.found goes_on is was);
    }

pub returns-clause-keeps : goal.returns-clause-keeps
returns-clause-keeps c =
    KeepsRecords-trans c.args.shared.now c.args.pass.now c.number.new.pass c.find_near.new.pass
    (KeepsRecords-number c.args.shared.now c.args.pass.now c.number.new.pass _ _ c.requires.belongs c.number.ensures.view c.number.ensures.goes_on
    c.number.ensures.seen) c.find_near.ensures.keeps

-- the list was filled anew
pub returns-clause-filled : goal.returns-clause-filled
returns-clause-filled c = λ first since.
    let mid = c.number.new.pass in
    let after = c.find_near.new.pass in
    let counted = KeepsRecords-trans c.args.shared.now first c.args.pass.now mid since.keeps
    (KeepsRecords-number c.args.shared.now c.args.pass.now mid _ _ c.requires.belongs c.number.ensures.view c.number.ensures.goes_on c.number.ensures.seen) in
    record {
      keeps = KeepsRecords-trans c.args.shared.now first mid after counted c.find_near.ensures.keeps;
      filled =
          HasFilledNear-begun first.view mid.view after.view counted.goes_on counted.records c.args.p c.find_near.result after.lists.search.found
          c.find_near.ensures.filled;
    }

-- ---- with the share of all workers

pub returns-then-class-old-clause-whole : goal.returns-then-class-old-clause-whole
returns-then-class-old-clause-whole c = λ whole counted filled.
    let before = c.args.pass.now in
    let after = c.number.new.pass in
    let shown : SeesButCount before.view after.view = λ name other. c.number.ensures.seen.others name other in
    let same : c.class-class.result ≡ c.args.old = omega (arith, c.if-class-old.true) in (
      shown,
      subst (IsFilledWhole after.view c.args.p c.class-class.result) (sym (ap (λ (x : PassState). x.lists.search.found) c.number.ensures.view))
          (subst (λ n. IsFilledWhole after.view c.args.p n before.lists.search.found) (sym same)
          (IsFilledWhole-still before.view after.view c.number.ensures.goes_on.later.run (λ n. shown (PointOf n) (λ e. cc)) c.args.p c.args.old
          before.lists.search.found
          filled)),
    )

pub returns-clause-whole : goal.returns-clause-whole
returns-clause-whole c = λ whole counted filled.
    let shared = c.args.shared.now in
    let before = c.args.pass.now in
    let mid = c.number.new.pass in
    let numbered = KeepsRecords-number shared before mid _ _ c.requires.belongs c.number.ensures.view c.number.ensures.goes_on c.number.ensures.seen in
    let shown : SeesButCount before.view mid.view = λ name other. c.number.ensures.seen.others name other in
    let hand = ap (λ (x : PassState). x.view.hand) c.number.ensures.view in
    let last = c.find_near.ensures.whole (HasWholeShare-kept shared before mid numbered whole) (HasCounted-kept before.view mid.view hand counted) in
    (SeesButCount-trans before.view mid.view c.find_near.new.pass.view shown last.0, last.1)
