use Rattle.plan_c.proofs.exports.kimorefo_plan.Goals as goal

pub returns : goal.returns
returns c = record { answered = record { answer = c.plan_alone.result; answers = c.plan_alone.ensures; handed_out = c.answer_out.ensures } }
