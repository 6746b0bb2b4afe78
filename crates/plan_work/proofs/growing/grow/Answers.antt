use Rattle.plan_work.proofs.Words.{◌≡◌, ◌<◌, ◌∙◌, length, ap, arith, subst, sym, All, slice_index_or, MayClaim, PassState, SeesTextbook, HasLeft, HasTakenOver}
use Rattle.plan_work.proofs.Words.{rules, IsReady, left_of, state_of_grown, IsLawfulView}
use Rattle.plan_work.proofs.LoneRuns.{IsOfTextbook-seen}
use Rattle.plan_work.proofs.RetiredWorkers.{HaveStopped, all_ready, have_stopped-ready, whole_list}
use Rattle.plan_work.proofs.SharedRuns.{GrowsInto-all, HasHandled-alone, all_may_claim, limit_reached, none_left, one_of, whole_share}
use Rattle.plan_work.proofs.growing.grow.Goals as goal

pub work_all-requires-clause-ready : goal.work_all-requires-clause-ready
work_all-requires-clause-ready g c _ _ =
    let shared = c.in_ok-shared.shared in
    let before = c.in_ok-shared.passes.items in
    subst (All (IsReady shared)) (sym (c.as_mut_slice.ensures.value ∙ c.in_ok-all.ensures))
    (all_ready shared before c.in_ok-shared.ensures.may_claim)

pub take_over_all-last-requires-clause-stopped : goal.take_over_all-last-requires-clause-stopped
take_over_all-last-requires-clause-stopped g c =
    let shared = c.in_ok-shared.shared in
    let limit = c.args.limit in
    let before = c.in_ok-shared.passes.items in
    let worked = c.work_all.new.all in
    let after = left_of worked in
    let stopped : HaveStopped shared limit before worked =
    have_stopped-ready shared limit before c.as_mut_slice.result.now worked (c.as_mut_slice.ensures.value ∙ c.in_ok-all.ensures) c.work_all.ensures.count
    c.work_all.ensures.each in
    let same = whole_list c.in_ok-all.all.len worked c.in_ok-all.all.items (c.work_all.ensures.count ∙ c.as_mut_slice.ensures.len) in
    subst (All HasLeft) (sym same) stopped.stopped

pub take_over_all-last-requires-clause-may_claim : goal.take_over_all-last-requires-clause-may_claim
take_over_all-last-requires-clause-may_claim g c =
    let shared = c.in_ok-shared.shared in
    let limit = c.args.limit in
    let before = c.in_ok-shared.passes.items in
    let worked = c.work_all.new.all in
    let after = left_of worked in
    let stopped : HaveStopped shared limit before worked =
    have_stopped-ready shared limit before c.as_mut_slice.result.now worked (c.as_mut_slice.ensures.value ∙ c.in_ok-all.ensures) c.work_all.ensures.count
    c.work_all.ensures.each in
    let same = whole_list c.in_ok-all.all.len worked c.in_ok-all.all.items (c.work_all.ensures.count ∙ c.as_mut_slice.ensures.len) in
    subst (λ l. All (MayClaim shared) (left_of l)) (sym same)
    (all_may_claim shared c.args.grown before after limit c.in_ok-shared.ensures.passes stopped.count stopped.done c.requires.low)

pub end_retired-requires : goal.end_retired-requires
end_retired-requires g c =
    let shared = c.in_ok-shared.shared in
    let limit = c.args.limit in
    let before = c.in_ok-shared.passes.items in
    let worked = c.work_all.new.all in
    let after = left_of worked in
    let stopped : HaveStopped shared limit before worked =
    have_stopped-ready shared limit before c.as_mut_slice.result.now worked (c.as_mut_slice.ensures.value ∙ c.in_ok-all.ensures) c.work_all.ensures.count
    c.work_all.ensures.each in
    let same = whole_list c.in_ok-all.all.len worked c.in_ok-all.all.items (c.work_all.ensures.count ∙ c.as_mut_slice.ensures.len) in
    let takes = subst (λ l. HasTakenOver shared (left_of l) c.take_over_all-last.result) same c.take_over_all-last.ensures.taken in
    let some_pass : 0 < length before = omega (arith, c.in_ok-shared.ensures.count, c.requires.some) in
    record {
      belongs = c.take_over_all-last.ensures.taken.may_claim.belongs;
      idle = c.take_over_all-last.ensures.taken.may_claim.idle;
      whole =
          whole_share shared c.args.grown before after limit c.in_ok-shared.ensures.passes stopped.count stopped.done c.requires.low
          c.take_over_all-last.result takes some_pass
          ∙ c.in_ok-shared.ensures.count ∙ sym c.in_ok-shared.ensures.workers;
      none_left =
          none_left shared c.args.grown before after limit c.in_ok-shared.ensures.passes stopped.count stopped.done c.requires.low
          c.take_over_all-last.result takes some_pass;
    }

pub returns : goal.returns
returns g c =
    let shared = c.in_ok-shared.shared in
    let limit = c.args.limit in
    let before = c.in_ok-shared.passes.items in
    let worked = c.work_all.new.all in
    let after = left_of worked in
    let stopped : HaveStopped shared limit before worked =
    have_stopped-ready shared limit before c.as_mut_slice.result.now worked (c.as_mut_slice.ensures.value ∙ c.in_ok-all.ensures) c.work_all.ensures.count
    c.work_all.ensures.each in
    let same = whole_list c.in_ok-all.all.len worked c.in_ok-all.all.items (c.work_all.ensures.count ∙ c.as_mut_slice.ensures.len) in
    let takes = subst (λ l. HasTakenOver shared (left_of l) c.take_over_all-last.result) same c.take_over_all-last.ensures.taken in
    let some_pass : 0 < length before = omega (arith, c.in_ok-shared.ensures.count, c.requires.some) in
    record {
      task = search rules;
      limit =
          c.end_retired.ensures.limit
          ∙ limit_reached shared c.args.grown before after limit c.in_ok-shared.ensures.passes stopped.count stopped.done c.requires.low
          c.take_over_all-last.result takes some_pass (state_of_grown c.end_retired.result) c.end_retired.ensures.seen;
      grows =
          GrowsInto-all shared c.args.grown before after limit c.in_ok-shared.ensures.passes stopped.count stopped.done c.requires.low
          c.take_over_all-last.result takes some_pass (state_of_grown c.end_retired.result) c.end_retired.ensures.seen c.in_ok-shared.ensures.task;
      workers = λ k entry is past.
          omega (arith, c.end_retired.ensures.workers k entry (omega (arith, c.in_ok-shared.ensures.opening, past)) is, c.in_ok-shared.ensures.workers);
      textbook = λ one textbook.
          let pass = c.take_over_all-last.result in
          let alone : length before ≡ 1 = c.in_ok-shared.ensures.count ∙ one in
          let only : pass ≡ slice_index_or after 0 pass =
          c.take_over_all-last.ensures.one (slice_index_or after 0 pass) (ap left_of same ∙ one_of after pass (stopped.count ∙ alone)) in
          let handled = HasHandled-alone shared c.args.grown before after limit c.in_ok-shared.ensures.passes stopped.count stopped.done c.requires.low
          pass alone (c.in_ok-shared.ensures.workers ∙ one) c.in_ok-shared.ensures.task textbook in
          let reached : c.end_retired.result.limit ≡ limit =
          c.end_retired.ensures.limit
          ∙ limit_reached shared c.args.grown before after limit c.in_ok-shared.ensures.passes stopped.count stopped.done c.requires.low
          pass takes some_pass (state_of_grown c.end_retired.result) c.end_retired.ensures.seen in
          let seen : SeesTextbook pass.view c.end_retired.result.limit =
          subst (SeesTextbook pass.view) (sym reached) (subst (λ (p : PassState). SeesTextbook p.view limit) (sym only) handled.textbook) in
          let lawful = subst (λ (p : PassState). IsLawfulView p.view) (sym only) (stopped.done 0 pass some_pass).goes_on.lawful in
          IsOfTextbook-seen shared.task shared.workers shared.opening pass.view c.end_retired.result lawful takes.may_claim.belongs.run
          c.end_retired.ensures.task seen c.end_retired.ensures.same;
    }
