use Rattle.plan_words.proofs.Words.{◌<◌, List, length, arith, ap, sym, subst, ◌∙◌, All, IsPermutation, filter, slice_index, is_dearer, PassState, tree_words}
use Rattle.plan_words.proofs.Words.{Found}
use Rattle.plan_words.proofs.KeptFound.{filter-same}
use Rattle.plan_words.proofs.passes.Pass.keep_dearer.Goals as goal

pub keep_dearer-requires-clause-low : goal.keep_dearer-requires-clause-low
keep_dearer-requires-clause-low c =
    subst (λ (p : PassState). All (λ f. f.node < length c.self.inside.pairs) p.lists.search.found) (sym c.self.view_is)
    (λ k d below.
    omega (arith, c.requires.low k d below, c.self.invariant.3.for_each, ap (λ (p : PassState). length p.view.run.marks) c.self.view_is))

pub returns-clause-same : goal.returns-clause-same
returns-clause-same c =
    let words = slice_index c.self.inside.pairs in
    let now = c.args.self.now in
    let found = ap (λ (p : PassState). filter (is_dearer words c.args.cost) p.lists.search.found) c.self.view_is
    ∙ filter-same words (tree_words now.view) c.args.cost (length now.view.run.marks) now.lists.search.found
    (λ n low.
    c.self.invariant.3.seen n (omega (arith, low, ap (λ (p : PassState). length p.view.run.marks) c.self.view_is))
    ∙ ap (λ (p : PassState). tree_words p.view n) c.self.view_is)
    c.requires.low in
    subst (λ (l : List Found). IsPermutation l c.keep_dearer.new.self.lists.found) found c.keep_dearer.ensures.same
