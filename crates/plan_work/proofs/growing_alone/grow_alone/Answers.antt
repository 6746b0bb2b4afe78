use Rattle.plan_work.proofs.Words.{rules, ◌∙◌, arith, subst, sym, All, MayClaim, SeesTextbook, state_of_grown}
use Rattle.plan_work.proofs.LoneRuns.{IsOfTextbook-seen}
use Rattle.plan_work.proofs.WorkedAlone.{HasWorkedAlone-worked}
use Rattle.plan_work.proofs.growing_alone.grow_alone.Goals as goal

pub work-requires-clause-may_claim : goal.work-requires-clause-may_claim
work-requires-clause-may_claim g c _ _ =
    let shared = c.in_ok-shared.shared in
    let pass = c.only_pass-pass.result in
    subst (All (MayClaim shared)) c.only_pass-pass.ensures c.in_ok-shared.ensures.may_claim 0 pass (omega arith)

pub end-requires-clause-none_left : goal.end-requires-clause-none_left
end-requires-clause-none_left g c =
    let started = c.in_ok-shared.ensures in
    let worked = c.work.ensures in
    let alone = HasWorkedAlone-worked _ c.args.grown _ _ _ c.args.limit started.passes c.only_pass-pass.ensures c.requires.low started.workers
    started.task worked.goes_on worked.worked worked.none_left worked.textbook in
    alone.none_left

pub returns : goal.returns
returns g c =
    let started = c.in_ok-shared.ensures in
    let worked = c.work.ensures in
    let alone = HasWorkedAlone-worked _ c.args.grown _ _ _ c.args.limit started.passes c.only_pass-pass.ensures c.requires.low started.workers
    started.task worked.goes_on worked.worked worked.none_left worked.textbook in
    record {
      task = search rules;
      limit = c.end.ensures.limit ∙ alone.reached (state_of_grown c.end.result) c.end.ensures.seen;
      grows = alone.grows (state_of_grown c.end.result) c.end.ensures.seen;
      worker = λ k entry is past.
          omega (arith, c.end.ensures.workers k entry (omega (arith, c.in_ok-shared.ensures.opening, past)) is, c.in_ok-shared.ensures.workers);
      textbook = λ textbook.
          let shared = c.in_ok-shared.shared in
          let view = c.work.new.pass.view in
          let reached = c.end.ensures.limit ∙ alone.reached (state_of_grown c.end.result) c.end.ensures.seen in
          let handled = alone.textbook textbook in
          IsOfTextbook-seen shared.task shared.workers shared.opening view c.end.result worked.goes_on.lawful worked.worked.may_claim.belongs.run
          c.end.ensures.task (subst (SeesTextbook view) (sym reached) handled.textbook) c.end.ensures.same;
    }
