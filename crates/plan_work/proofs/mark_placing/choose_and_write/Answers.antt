use Rattle.plan_work.proofs.Words.{sym, ap, ◌∙◌, ◌∷◌, subst, arith, Clear, space_of, Count, numbers_of, PassState, sees, MayHang, setup_in, IsHung, IsPointed}
use Rattle.plan_work.proofs.Words.{SharedRun, NamesTree}
use Rattle.plan_work.proofs.HeldMarks.{holding, if_held, of_held}
use Rattle.plan_work.proofs.HungMarks.{IsHung-written, KeepsRecords-written, MayHang-chosen, chosen_near}
use Rattle.plan_work.proofs.KeptRecords.{KeepsRecords-anew, KeepsRecords-trans}
use Rattle.plan_work.proofs.KeptSights.{point_still, present_still}
use Rattle.plan_work.proofs.WholeLists.{IsBestParentSeen-before}
use Rattle.plan_work.proofs.mark_placing.choose_and_write.Goals as goal

pub write_tree-requires-clause-may : goal.write_tree-requires-clause-may
write_tree-requires-clause-may g c =
    let space = space_of c.args.shared.now.task.scene in
    let before = c.args.pass.now.view in
    let after = c.choose_found-parent.new.pass.view in
    let goes_on = c.choose_found-parent.ensures.seen.goes_on in
    let own = holding before (λ hand. IsPointed hand c.args.nearest c.args.p) c.requires.hand c.requires.pointed in
    let present = present_still before after goes_on c.args.nearest c.requires.nearest.present in
    let clear = subst (λ q. Clear space q c.args.p) (sym (point_still before after goes_on c.args.nearest c.requires.nearest.present)) c.requires.clear in
    if_held after (λ hand. MayHang after hand c.choose_found-parent.result.node c.choose_found-parent.result.cost) own.hand
    (c.choose_found-parent.ensures.seen.held (λ no. no) ∙ own.held)
    (MayHang-chosen space after own.hand c.args.p c.args.nearest (numbers_of c.args.pass.now.lists.search.found) c.choose_found-parent.result own.says
    c.choose_found-parent.ensures.least present (c.choose_found-parent.ensures.pairs 0 0 (omega arith)) clear
    c.choose_found-parent.ensures.below)

-- with the share of all workers, the costs are those that were seen
pub returns : goal.returns
returns g c =
    let before = c.args.pass.now in
    let mid = c.choose_found-parent.new.pass in
    let own = holding before.view (λ hand. IsPointed hand c.args.nearest c.args.p) c.requires.hand c.requires.pointed in
    let held = c.choose_found-parent.ensures.seen.held (λ no. no) ∙ own.held in
    let written = of_held mid.view _ own.hand held c.write_tree.ensures.view in
    record {
      keeps =
          KeepsRecords-trans c.args.shared.now before mid c.write_tree.new.pass
          (KeepsRecords-anew NamesTree c.args.shared.now before mid (λ k no. no) (λ g no. no) c.choose_found-parent.ensures.belongs
          c.choose_found-parent.ensures.seen)
          (KeepsRecords-written c.args.shared.now mid c.write_tree.new.pass own.hand c.choose_found-parent.result.node c.choose_found-parent.result.cost
          c.choose_found-parent.ensures.belongs (of_held mid.view _ own.hand held c.write_tree.ensures.view) c.write_tree.ensures.goes_on);
      found = ap (λ (x : PassState). x.lists.search.found) written ∙ ap (λ (x : PassState). x.lists.search.found) c.choose_found-parent.ensures.found_alone;
      count = ap (λ (x : PassState). sees x.view Count) written ∙ c.choose_found-parent.ensures.seen.others Count (λ no. no);
      hung =
          let space = space_of c.args.shared.now.task.scene in
          let run = ap (λ (r : SharedRun). (setup_in r).space) c.choose_found-parent.ensures.belongs.run in
          if_held before.view (λ hand. IsHung before.view.steps c.write_tree.new.pass.view hand c.choose_found-parent.result
          (numbers_of c.args.pass.now.lists.search.found)) own.hand own.held
          (IsHung-written space mid.view own.hand c.args.nearest c.args.p c.choose_found-parent.result (numbers_of c.args.pass.now.lists.search.found)
          c.write_tree.new.pass.view own.says
          (ap (λ (p : PassState). p.view) written) (sym run) c.choose_found-parent.ensures.pairs before.view.steps c.choose_found-parent.ensures.loaded
          c.write_tree.ensures.goes_on
          (chosen_near space mid.view own.hand c.args.p c.args.nearest (numbers_of c.args.pass.now.lists.search.found) c.choose_found-parent.result own.says
          c.choose_found-parent.ensures.least));
      whole = λ whole.
          let unshown = c.choose_found-parent.ensures.whole whole in (
            λ name. ap (λ (x : PassState). sees x.view name) written ∙ unshown name,
            IsBestParentSeen-before (space_of c.args.shared.now.task.scene) before.view mid.view c.args.p
                (c.args.nearest ∷ numbers_of before.lists.search.found) c.choose_found-parent.result
                c.choose_found-parent.ensures.seen.goes_on.later.run unshown c.choose_found-parent.ensures.least,
          );
    }
