use Rattle.plan_c.proofs.exports.kimorefo_smooth.Goals as goal

pub returns : goal.returns
returns c = record { answered = record { answer = c.smooth_alone.result; answers = c.smooth_alone.ensures; handed_out = c.answer_out.ensures } }
