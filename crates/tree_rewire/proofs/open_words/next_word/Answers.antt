use Rattle.tree_rewire.proofs.Words.{◌≡◌, ◌+◌, List, ℕ, Some, map, take, ap, arith, subst, sym, ◌∙◌, slice_get, take_all, PassState, TreeOf, cost_in, tree_word}
use Rattle.tree_rewire.proofs.Words.{AreKnown, IsNextOf, IsNextWord, nodes_on, word_through, NamesNothing, SeesPair, seen_cost_through, SeesKnot}
use Rattle.tree_rewire.proofs.ChosenFound.{IsNextWord-more, IsNextWord-none, edge_low, number_low, words_read}
use Rattle.tree_rewire.proofs.ChosenParents.{All-read}
use Rattle.tree_rewire.proofs.CostSteps.{PassSees-refl, PassSees-trans, seen_cost_through-same}
use Rattle.tree_rewire.proofs.NearLists.{AllKnots-known, AreKnown-later}
use Rattle.tree_rewire.proofs.SeenCosts.{SeesPair-later}
use Rattle.tree_rewire.proofs.open_words.next_word.Goals as goal
use Rattle.tree_rewire.proofs.open_words.next_word.Goals.{After-weighed-near}

pub words-init : goal.words-init
words-init c = record {
  steps = PassSees-refl NamesNothing c.args.shared.now c.args.pass.now c.requires.belongs;
  next = IsNextWord-none c.args.low c.args.last c.requires.low;
}

pub weighed-near-requires-clause-known : goal.weighed-near-requires-clause-known
weighed-near-requires-clause-known c =
    let steps = c.words.invariant.steps in
    subst (λ (s : PassState). AreKnown c.args.among c.words.pass.view c.args.p s.lists) (sym steps.view_alone)
    (AreKnown-later c.args.among c.args.pass.now.view c.words.pass.view c.args.p c.args.pass.now.lists steps.sees_anew.goes_on c.requires.known)

-- the node is seen with its cost
knot : (c : After-weighed-near) → SeesKnot c.words.pass.view c.weighed-near.result.node
knot c =
    let steps = c.words.invariant.steps in
    let view = c.words.pass.view in
    All-read (SeesKnot view) (nodes_on c.args.among c.words.pass.lists) c.words.index c.weighed-near.result.node c.weighed-near.ensures.node
    (AllKnots-known c.args.among view c.args.p c.words.pass.lists
    (subst (λ (s : PassState). AreKnown c.args.among view c.args.p s.lists) (sym steps.view_alone)
    (AreKnown-later c.args.among c.args.pass.now.view view c.args.p c.args.pass.now.lists steps.sees_anew.goes_on c.requires.known)))

pair : (c : After-weighed-near) → SeesPair c.weighed-near.new.pass.view c.weighed-near.result.node
pair c =
    SeesPair-later c.words.pass.view c.weighed-near.new.pass.view c.weighed-near.ensures.steps.sees_anew.goes_on c.weighed-near.result.node (knot c).written

pub seen_cost-requires-clause-pair : goal.seen_cost-requires-clause-pair
seen_cost-requires-clause-pair c = pair (goal.at.seen_cost-requires-clause-pair c).After-weighed-near

pub pack_tree-word-requires-clause-parent : goal.pack_tree-word-requires-clause-parent
pack_tree-word-requires-clause-parent c =
    number_low c.weighed-near.new.pass.view c.weighed-near.result.node c.weighed-near.ensures.steps.belongs.lawful
    (pair (goal.at.pack_tree-word-requires-clause-parent c).After-weighed-near)

pub pack_tree-word-requires-clause-cost : goal.pack_tree-word-requires-clause-cost
pack_tree-word-requires-clause-cost c =
    let here = (goal.at.pack_tree-word-requires-clause-cost c).After-weighed-near in
    let n = c.weighed-near.result.node in
    omega (
      arith,
      (c.weighed-near.ensures.steps.belongs.lawful.pairs n (pair here)).low,
      edge_low c.words.pass.view c.args.p n c.requires.bounded (knot here).stands,
      c.weighed-near.ensures.edge,
      c.seen_cost.ensures,
      c.from.ensures,
    )

pub words-preserved : goal.words-preserved
words-preserved c =
    let before = c.args.pass.now in
    let mid = c.words.pass in
    let h = c.words.invariant in
    let now = c.weighed-near.ensures.steps in
    let n = c.weighed-near.result.node in
    let near = nodes_on c.args.among before.lists in
    let word = word_through before.view c.args.p in
    let read : slice_get near c.words.index ≡ Some n =
    ap (λ (s : PassState). slice_get (nodes_on c.args.among s.lists) c.words.index) (sym h.steps.view_alone) ∙ c.weighed-near.ensures.node in
    let through : c.seen_cost.result + c.from.result ≡ seen_cost_through before.view c.args.p n = omega (
      arith,
      ap cost_in (now.sees_anew.others (TreeOf n) (λ no. no)),
      c.seen_cost.ensures,
      c.from.ensures,
      c.weighed-near.ensures.edge,
      seen_cost_through-same h.steps.sees_anew c.args.p n,
    ) in
    record {
      steps = PassSees-trans h.steps now;
      next = IsNextWord-more (map word (take c.words.index near)) (map word (take (c.words.index + 1) near)) c.args.low c.args.last c.words.next (word n)
          c.next_of-next.result (words_read word near c.words.index n read) h.next
          (subst (λ w. IsNextOf c.args.low w c.words.next c.next_of-next.result) (c.pack_tree-word.ensures ∙ ap (tree_word n) through) c.next_of-next.ensures);
    }

pub returns-clause-next : goal.returns-clause-next
returns-clause-next c =
    let near = nodes_on c.args.among c.args.pass.now.lists in
    subst (λ (ns : List ℕ). IsNextWord (map (word_through c.args.pass.now.view c.args.p) ns) c.args.low c.args.last c.words.next)
    (take_all c.words.index near (omega (arith, c.words-test.false, c.count-count.ensures))) c.words.invariant.next
