use Rattle.plan_work.proofs.Words.{ap, subst, numbers_of, PassState, KeepsOthers, HasCome, IsHung, IsTried, Hanging}
use Rattle.plan_work.proofs.HeldMarks.{if_held, of_held}
use Rattle.plan_work.proofs.KeptRecords.{KeepsRecords-trans}
use Rattle.plan_work.proofs.TriedMarks.{IsTried-placing, KeepsRecords-placing, reach_of-steered}
use Rattle.plan_work.proofs.ExtendedAlone.{KeepsOthers-after}
use Rattle.plan_work.proofs.WholeLists.{HasWholeShare-kept}
use Rattle.plan_work.proofs.mark_placing.choose_and_place.Goals as goal

pub choose_and_write-parent-requires-clause-nearest : goal.choose_and_write-parent-requires-clause-nearest
choose_and_write-parent-requires-clause-nearest g c κs within =
    reach_of-steered c.args.pass.now.view c.args.k c.args.steering.nearest c.args.steering.point c.requires.may.steered

pub choose_and_write-parent-requires-clause-clear : goal.choose_and_write-parent-requires-clause-clear
choose_and_write-parent-requires-clause-clear g c κs within = c.requires.may.clear

pub returns-clause-keeps : goal.returns-clause-keeps
returns-clause-keeps g c =
    KeepsRecords-trans c.args.shared.now c.args.pass.now c.choose_and_write-parent.new.pass c.place_and_post-placing.new.pass
    c.choose_and_write-parent.ensures.keeps
    (KeepsRecords-placing c.args.shared.now c.choose_and_write-parent.new.pass c.place_and_post-placing.new.pass c.place_and_post-placing.ensures.belongs
    c.place_and_post-placing.ensures.goes_on c.place_and_post-placing.ensures.share)

pub returns-clause-tried : goal.returns-clause-tried
returns-clause-tried g c =
    let before = c.args.pass.now in
    let hung_at = c.choose_and_write-parent.new.pass in
    let after = c.place_and_post-placing.new.pass in
    let may = c.requires.may in
    let hanging : Hanging = record { parent = c.choose_and_write-parent.result; class = c.args.steering.class } in
    let hung = of_held before.view (λ hand. IsHung before.view.steps hung_at.view hand c.choose_and_write-parent.result
    (numbers_of before.lists.search.found)) may.hand may.held
    c.choose_and_write-parent.ensures.hung in
    if_held before.view (λ hand. IsTried before after hand c.place_and_post-placing.result hanging) may.hand may.held
    (IsTried-placing c.args.shared.now before hung_at after may.hand c.place_and_post-placing.result hanging c.choose_and_write-parent.ensures.keeps
    c.place_and_post-placing.ensures.goes_on c.choose_and_write-parent.ensures.found
    (ap (λ (p : PassState). p.lists.search.found) c.place_and_post-placing.ensures.view_alone)
    c.choose_and_write-parent.ensures.count hung
    (of_held hung_at.view (λ hand. HasCome after.view hand c.place_and_post-placing.result) _ hung.held c.place_and_post-placing.ensures.placed))

pub returns-clause-whole : goal.returns-clause-whole
returns-clause-whole g c = λ whole.
    let before = c.args.pass.now in
    let hung_at = c.choose_and_write-parent.new.pass in
    let after = c.place_and_post-placing.new.pass in
    let may = c.requires.may in
    let best = c.choose_and_write-parent.ensures.whole whole in
    let hung = of_held before.view (λ hand. IsHung before.view.steps hung_at.view hand c.choose_and_write-parent.result
    (numbers_of before.lists.search.found)) may.hand may.held
    c.choose_and_write-parent.ensures.hung in
    let others = of_held hung_at.view (λ hand. KeepsOthers hung_at.view after.view hand.mark c.place_and_post-placing.result) _ hung.held
    (c.place_and_post-placing.ensures.whole (HasWholeShare-kept c.args.shared.now before hung_at c.choose_and_write-parent.ensures.keeps whole)) in
    record {
      best = best.1;
      others = KeepsOthers-after before.view hung_at.view after.view c.args.k c.place_and_post-placing.result best.0
          (subst (λ n. KeepsOthers hung_at.view after.view n c.place_and_post-placing.result) may.mark others);
    }
