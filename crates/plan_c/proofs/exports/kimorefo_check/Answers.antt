use Rattle.plan_c.proofs.exports.kimorefo_check.Goals as goal

pub returns : goal.returns
returns c = record { judged = record { answer = c.judge_alone.result; judges = c.judge_alone.ensures; told = c.tell_verdict.ensures } }
