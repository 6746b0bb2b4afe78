use Rattle.grown_runs.proofs.Words.{◌≡◌, arith, sym, ap, subst, ClearsNodes, cleared, sizes_in, words_in}
use Rattle.grown_runs.specs.Table.WordPlaces.{word_at}
use Rattle.grown_runs.proofs.Table.ClearedWords.{cleared-all}
use Rattle.grown_runs.proofs.cleared_words.clear.Goals as goal

pub returns-clause-words : goal.returns-clause-words
returns-clause-words c =
    let sizes = sizes_in c.args.words.now.places in
    let last = c.loop-node.words in
    let same = ap sizes_in c.loop-node.invariant.places in
    subst (λ s. word_at s last.list.items ≡ cleared (words_in c.args.words.now)) (sym same)
    (cleared-all sizes c.args.words.now.list.items last.list.items c.loop-node.node
    (omega (arith, c.loop-node-test.false, c.marks-marks.ensures, ap (λ places. places.marks) c.places.ensures))
    (subst (λ s. ClearsNodes c.loop-node.node (words_in c.args.words.now) (word_at s last.list.items)) same c.loop-node.invariant.words))
