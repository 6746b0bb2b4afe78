use Rattle.grown_runs.proofs.Words.{◌+◌, ◌<◌, arith, subst, strip_of_mark, words_in, WritesWord, Counter}
use Rattle.grown_runs.proofs.run_words.RunWords.count_mark.Goals as goal

pub returns-clause-word : goal.returns-clause-word
returns-clause-word c =
    let words = c.args.self.now in
    let strip = strip_of_mark words.places.strips c.args.mark in
    let small : strip < words.places.strips = omega (arith, c.requires.strips) in
    let found = c.counter_of_mark-place.ensures in
    subst (λ word. WritesWord (Counter strip) (word + 1) (words_in words) (words_in c.set.new.self)) (c.at.ensures.word (Counter strip) small found)
    (c.set.ensures.word (Counter strip) small found)
