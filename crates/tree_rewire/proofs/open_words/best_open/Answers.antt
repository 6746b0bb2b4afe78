use Rattle.tree_rewire.proofs.Words.{◌∷◌, List, ℕ, ap, subst, sym, ◌∙◌, IsFirstLeast, IsOpenTo, cost_in, parent_in, tree_word, PassState, IsPresent-later}
use Rattle.tree_rewire.proofs.Words.{tree_seen, AreKnown, nodes_on, IsBestParentSeen, seen_cost_through, Parent}
use Rattle.tree_rewire.proofs.ChosenFound.{IsBestParentSeen-word}
use Rattle.tree_rewire.proofs.ChosenParents.{IsBestParentSeen-after, clear_after}
use Rattle.tree_rewire.proofs.CostSteps.{PassSees-trans, seen_cost_through-same}
use Rattle.tree_rewire.proofs.NearLists.{AllKnots-known, AreKnown-later}
use Rattle.tree_rewire.proofs.SeenCosts.{SeesPair-later}
use Rattle.tree_rewire.proofs.open_words.best_open.Goals as goal

pub least_open-word-requires-clause-known : goal.least_open-word-requires-clause-known
least_open-word-requires-clause-known g c κs within =
    let steps = c.word_of-last.ensures.steps in
    let then = c.word_of-last.new.pass in
    let before = c.args.pass.now in
    subst (λ (s : PassState). AreKnown c.args.among then.view c.args.p s.lists) (sym steps.view_alone)
    (AreKnown-later c.args.among before.view then.view c.args.p before.lists steps.sees_anew.goes_on c.requires.known)

pub returns : goal.returns
returns g c =
    let p = c.args.p in
    let nearest = c.args.nearest in
    let before = c.args.pass.now.view in
    let then = c.word_of-last.new.pass in
    let after = c.least_open-word.new.pass.view in
    let word = c.least_open-word.result in
    let found = c.least_open-word.ensures in
    let space = g.C.Clearing.space c.args.hall.now in
    let steps = c.word_of-last.ensures.steps in
    let goes_on = steps.sees_anew.goes_on in
    let own = c.requires.nearest in
    let among = nearest ∷ nodes_on c.args.among c.args.pass.now.lists in
    let parent : Parent = record { node = parent_in word; cost = cost_in word } in
    -- what the word is of
    let chosen = IsBestParentSeen-word space then.view p (nodes_on c.args.among then.lists) c.word_of-last.result word steps.belongs.lawful
    (AllKnots-known c.args.among then.view p then.lists
    (subst (λ (s : PassState). AreKnown c.args.among then.view p s.lists) (sym steps.view_alone)
    (AreKnown-later c.args.among before then.view p c.args.pass.now.lists goes_on c.requires.known)))
    nearest c.requires.bounded (SeesPair-later before then.view goes_on nearest own.written)
    (IsPresent-later before then.view goes_on.later.run goes_on.later.seen nearest own.stands)
    (c.word_of-last.ensures.word ∙ ap (tree_word nearest) (sym (seen_cost_through-same steps.sees_anew p nearest)))
    (clear_after space steps.sees_anew p nearest c.requires.clear) found.one_of found.most found.blocked in
    let best = IsBestParentSeen-after space found.steps.sees_anew p among parent
    (subst (λ (ns : List ℕ). IsBestParentSeen space then.view p (nearest ∷ ns) parent)
    (ap (λ (s : PassState). nodes_on c.args.among s.lists) steps.view_alone) chosen) in
    let node = sym c.pair_in-node.ensures.parent in
    record {
      steps = PassSees-trans steps found.steps;
      least = record {
        least = subst (IsFirstLeast (seen_cost_through after p) (IsOpenTo space (tree_seen after).points p among)) node best.least;
        cost = c.pair_in-node.ensures.cost ∙ best.cost ∙ ap (seen_cost_through after p) node;
      };
    }
