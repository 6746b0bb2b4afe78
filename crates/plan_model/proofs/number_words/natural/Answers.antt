use Rattle.std.proofs.Common.{◌≡◌, get_or, rules}
use Rattle.plan_model.proofs.DigitNumbers.{outside-negative}
use Rattle.plan_model.proofs.number_words.natural.Goals as goal

pub returns-in-45-clause-outside : goal.returns-in-45-clause-outside
returns-in-45-clause-outside c =
    let minus : get_or c.args.word.now 0 0 ≡ 45 = search rules in
    outside-negative c.args.word.now c.args.least c.args.most c.in-45.len_at_least minus (search rules)
