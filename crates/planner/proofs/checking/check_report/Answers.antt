use Rattle.planner.proofs.Words.{List, ℕ, refl, subst, Judges, RefusesCheck}
use Rattle.planner.specs.declared.commands.Command.TheVariants as commands
use Rattle.planner.specs.declared.refusals.Refusal.TheVariants as refusals
use Rattle.planner.proofs.Causes.{IsReadWhole-fetched, fetch-caused}
use Rattle.planner.proofs.GivenAnswers.{Answers-given, Answers-refused}
use Rattle.planner.proofs.GivenChecks.{Answers-not_checked}
use Rattle.planner.proofs.checking.check_report.Goals as goal

pub returns-in_err-text : goal.returns-in_err-text
returns-in_err-text g c =
    let before = g.S.Source.state c.args.source.now in
    let now = g.S.Source.state c.fetch.new.source in
    let fetched = c.in_err-text.ensures in
    Answers-refused commands.Check before now refl fetched.within _ _ c.from_residual.ensures.1
    (fetch-caused commands.Check before now _ c.in_err-text.field-0.0 refl refl fetched.no_end fetched.came fetched.read fetched.one_fault
    fetched.no_fault)

pub returns-in_err-verdict : goal.returns-in_err-verdict
returns-in_err-verdict g c =
    let fetched = c.in_ok-text.ensures in
    let whole = IsReadWhole-fetched _ _ _ fetched.end fetched.bytes fetched.none_left fetched.no_fault in
    let refusal = c.in_err-verdict.field-0.0 in
    Answers-not_checked _ _ _ fetched.within whole _ refusal c.from_residual-in_err-verdict.ensures.1
    (subst (λ (bytes : List ℕ). RefusesCheck bytes refusal) c.deref.ensures.value c.in_err-verdict.ensures.refusal)

pub returns-in_err-verdict_answer : goal.returns-in_err-verdict_answer
returns-in_err-verdict_answer g c =
    let fetched = c.in_ok-text.ensures in
    let whole = IsReadWhole-fetched _ _ _ fetched.end fetched.bytes fetched.none_left fetched.no_fault in
    Answers-not_checked _ _ _ fetched.within whole _ refusals.Memory c.from_residual-in_err-verdict_answer.ensures.1 tt

pub returns : goal.returns
returns g c =
    let fetched = c.in_ok-text.ensures in
    let whole = IsReadWhole-fetched _ _ _ fetched.end fetched.bytes fetched.none_left fetched.no_fault in
    let verdict = c.in_ok-verdict.verdict in
    let judged = subst (λ (bytes : List ℕ). Judges bytes verdict) c.deref.ensures.value c.in_ok-verdict.ensures.verdict in
    let answered = c.in_ok-verdict_answer.ensures in
    Answers-given commands.Check _ _ refl fetched.within _ _ whole (record {
      scene = judged.task.scene;
      of_command = record { short = fetched.small; front = judged.front; report = judged.report; cut = judged.cut; spelled = judged.spelled };
      start = λ planned. judged.start;
      meaning = record {
        front = judged.front;
        report = judged.report;
        cut = judged.cut;
        task = judged.task;
        of_scene = refl;
        verdict = verdict;
        judged = judged.judged;
        status = answered.status;
        written = answered.text;
        nothing = answered.nothing;
      };
    })
