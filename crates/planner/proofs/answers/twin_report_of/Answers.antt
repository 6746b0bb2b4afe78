use Rattle.std.proofs.Common.{ap, ◌∙◌}
use Rattle.planner.proofs.Successes.{IsBridge-present}
use Rattle.planner.proofs.answers.twin_report_of.Goals as goal

pub twin_report-requires-clause-bridge : goal.twin_report-requires-clause-bridge
twin_report-requires-clause-bridge c = IsBridge-present _ _ _ _ c.requires.1.bridge

pub returns : goal.returns
returns c = λ workers twin. record {
  both = c.args.both;
  given = c.twin_answer_of.ensures.twin;
  twin = twin;
  bridge = c.twin_answer_of.ensures.status;
  written = ap (λ text. text.items) c.twin_answer_of.ensures.text ∙ c.in_ok-text.ensures;
  alone = c.twin_answer_of.ensures.alone;
}
