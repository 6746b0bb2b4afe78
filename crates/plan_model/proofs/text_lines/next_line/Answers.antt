use Rattle.plan_model.proofs.Words.{◌<◌, length, rules, take_rest}
use Rattle.plan_model.proofs.FirstLines.{lines_of-split, rest_of_nothing}
use Rattle.plan_model.proofs.text_lines.next_line.Goals as goal

pub returns-in-empty-clause-some : goal.returns-in-empty-clause-some
returns-in-empty-clause-some c =
    let some : 0 < length c.args.text.now = search rules in
    let after = c.split_at.result.1.now in
    lines_of-split c.args.text.now c.split_at.result.0.now after after c.count_before.result some c.count_before.ensures.place c.split_at.ensures.front
    c.split_at.ensures.back (rest_of_nothing after (search rules))

pub returns-in-len1-up-clause-some : goal.returns-in-len1-up-clause-some
returns-in-len1-up-clause-some c =
    let some : 0 < length c.args.text.now = search rules in
    let after = c.split_at.result.1.now in
    lines_of-split c.args.text.now c.split_at.result.0.now after _ c.count_before.result some c.count_before.ensures.place c.split_at.ensures.front
    c.split_at.ensures.back (take_rest after 1)
