use Rattle.plan_model.proofs.Words.{rules, take_rest}
use Rattle.plan_model.proofs.FirstWords.{words_of-none, words_of-split}
use Rattle.plan_model.proofs.text_lines.next_word.Goals as goal

pub returns-then-is_empty-clause-none : goal.returns-then-is_empty-clause-none
returns-then-is_empty-clause-none c =
    words_of-none c.args.line.now _ c.count_blanks.result c.count_blanks.ensures.count (take_rest c.args.line.now c.count_blanks.result) (search rules)

pub returns-clause-some : goal.returns-clause-some
returns-clause-some c =
    words_of-split c.args.line.now _ c.split_at.result.0.now c.split_at.result.1.now c.count_blanks.result c.count_before.result
    c.count_blanks.ensures.count (take_rest c.args.line.now c.count_blanks.result) (search rules) c.count_before.ensures.place c.split_at.ensures.front
    c.split_at.ensures.back
