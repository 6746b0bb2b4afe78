use Rattle.std.proofs.Common.{refl, arith}
use Rattle.planner.specs.declared.commands.Command.TheVariants as commands
use Rattle.planner.proofs.Causes.{given_none, given_some}
use Rattle.planner.proofs.GivenBatches.{Answers-batch, Answers-batch_blocked, Answers-batch_no_memory, ReportsBatch-finished}
use Rattle.planner.proofs.GivenBatches.{all_have_runs, settled_runs, starts_of_sessions}
use Rattle.planner.proofs.batches.plan_batch.Goals as goal

pub returns-in_err-sessions : goal.returns-in_err-sessions
returns-in_err-sessions g c =
    Answers-batch_no_memory (commands.Batch c.args.workers c.args.slice) _ _ c.in_ok-scenes.scenes.items refl c.in_ok-scenes.ensures.within
    c.in_ok-scenes.ensures.scenes _ c.from_residual-in_err-sessions.ensures.1

pub returns-in_err-finished : goal.returns-in_err-finished
returns-in_err-finished g c =
    Answers-batch_no_memory (commands.Batch c.args.workers c.args.slice) _ _ c.in_ok-scenes.scenes.items refl c.in_ok-scenes.ensures.within
    c.in_ok-scenes.ensures.scenes _ c.from_residual-in_err-finished.ensures.1

pub returns-in_err-batch_report_of : goal.returns-in_err-batch_report_of
returns-in_err-batch_report_of g c =
    Answers-batch_no_memory (commands.Batch c.args.workers c.args.slice) _ _ c.in_ok-scenes.scenes.items refl c.in_ok-scenes.ensures.within
    c.in_ok-scenes.ensures.scenes _ c.from_residual-in_err-batch_report_of.ensures.1

pub returns-in_default : goal.returns-in_default
returns-in_default g c =
    Answers-batch_blocked (commands.Batch c.args.workers c.args.slice) _ _ c.in_ok-scenes.scenes.items refl c.in_ok-scenes.ensures.within
    c.in_ok-scenes.ensures.scenes refl (given_none _ _ c.in_default.is c.in_ok-sessions.ensures.blocked)

pub finish_batch-requires-clause-few : goal.finish_batch-requires-clause-few
finish_batch-requires-clause-few g c =
    let few = c.in_ok-scenes.ensures.scenes.spelled.spelled.few in
    let count = given_some _ _ _ c.in-Some.is c.in_ok-sessions.ensures.count in
    omega (arith, few, count)

pub finish_batch-requires-clause-runs : goal.finish_batch-requires-clause-runs
finish_batch-requires-clause-runs g c = λ κs outlives k d within.
    let count = given_some _ _ _ c.in-Some.is c.in_ok-sessions.ensures.count in
    let each = given_some _ _ _ c.in-Some.is c.in_ok-sessions.ensures.each in
    all_have_runs c.args.workers c.args.slice c.in_ok-scenes.scenes.items c.in-Some.sessions.items count each k d within

pub batch_report_of-requires-clause-settled : goal.batch_report_of-requires-clause-settled
batch_report_of-requires-clause-settled g c = λ k d within.
    let count = given_some _ _ _ c.in-Some.is c.in_ok-sessions.ensures.count in
    let each = given_some _ _ _ c.in-Some.is c.in_ok-sessions.ensures.each in
    let finished = c.in_ok-finished.ensures in
    settled_runs c.args.workers c.args.slice c.in_ok-scenes.scenes.items c.in-Some.sessions.items _ _ count each finished.each finished.runs
    k d within

pub returns : goal.returns
returns g c =
    let scenes = c.in_ok-scenes.scenes.items in
    let has = c.in_ok-scenes.ensures.scenes in
    let count = given_some _ _ _ c.in-Some.is c.in_ok-sessions.ensures.count in
    let each = given_some _ _ _ c.in-Some.is c.in_ok-sessions.ensures.each in
    let finished = c.in_ok-finished.ensures in
    let report = c.in_ok-batch_report_of.ensures in
    Answers-batch (commands.Batch c.args.workers c.args.slice) _ _ scenes refl c.in_ok-scenes.ensures.within has _ (record {
      scenes = scenes;
      spelled = has.spelled;
      starts = starts_of_sessions c.args.workers c.args.slice scenes c.in-Some.sessions.items each;
      meaning = ReportsBatch-finished c.args.workers c.args.slice scenes c.in-Some.sessions.items _ _ count each finished.each _ _
          finished.runs finished.lists report.batch report.better report.status report.text report.alone;
    })
