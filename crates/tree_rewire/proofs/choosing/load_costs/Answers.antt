use Rattle.tree_rewire.proofs.Words.{◌≡◌, Some, take, ap, arith, refl, subst, sym, ◌∙◌, All, slice_get, take_all, All-cons, All-nil, IsPresent, TreeOf}
use Rattle.tree_rewire.proofs.Words.{PassState, SeesNode, tree_seen, IsPresent-later, nodes_on, IsLoadedSince, SeesPair}
use Rattle.tree_rewire.proofs.ChosenParents.{All-more, All-read, take_read}
use Rattle.tree_rewire.proofs.CostSteps.{PassSees-trans, PassSees-tree}
use Rattle.tree_rewire.proofs.SeenCosts.{IsLoadedSince-later, SeesNode-present, SeesPair-later}
use Rattle.tree_rewire.proofs.WholeShares.{HasWholeShare-later, SeesAsBefore-loaded, SeesAsBefore-trans}
use Rattle.tree_rewire.proofs.choosing.load_costs.Goals as goal
use Rattle.tree_rewire.proofs.choosing.load_costs.Goals.{After-node-node}

pub loads-init : goal.loads-init
loads-init c =
    let load = c.tree-pair.ensures in
    let new = c.tree-pair.new.pass in
    record {
      steps = PassSees-tree c.args.shared.now c.args.pass.now new c.args.nearest _ _ c.requires.belongs load.view load.goes_on load.seen load.looked;
      first = load.found.written;
      first_loaded = omega (arith, load.looked.here);
      earlier = All-nil (SeesPair new.view);
      earlier_loaded = All-nil (IsLoadedSince c.args.pass.now.view.steps new.view);
      whole = λ all. SeesAsBefore-loaded c.args.pass.now.view new.view (TreeOf c.args.nearest) _ load.seen (load.whole all);
    }

-- the node on the list is the one from before
read : (c : After-node-node) → slice_get (nodes_on c.args.among c.args.pass.now.lists) c.loads.index ≡ Some c.node-node.result
read c = ap (λ (s : PassState). slice_get (nodes_on c.args.among s.lists) c.loads.index) (sym c.loads.invariant.steps.view_alone) ∙ c.node-node.ensures

node : (c : After-node-node) → SeesNode c.loads.pass.view c.node-node.result
node c =
    let goes_on = c.loads.invariant.steps.sees_anew.goes_on in
    let before = c.args.pass.now in
    SeesNode-present c.loads.pass.view c.node-node.result goes_on.lawful
    (IsPresent-later before.view c.loads.pass.view goes_on.later.run goes_on.later.seen c.node-node.result
    (All-read (IsPresent (tree_seen before.view).points) (nodes_on c.args.among before.lists) c.loads.index c.node-node.result (read c) c.requires.near))

pub tree-pair-requires-in-loads-clause-seen_node : goal.tree-pair-requires-in-loads-clause-seen_node
tree-pair-requires-in-loads-clause-seen_node c = node (goal.at.tree-pair-requires-in-loads-clause-seen_node c).After-node-node

pub loads-preserved : goal.loads-preserved
loads-preserved c =
    let steps = c.loads.invariant.steps in
    let before = c.args.pass.now in
    let here = (goal.at.loads-preserved c).After-node-node in
    let n = c.node-node.result in
    let load = c.tree-pair-in-loads.ensures in
    let then = c.tree-pair-in-loads.new.pass in
    let later = steps.sees_anew.goes_on.later in
    let step = PassSees-tree c.args.shared.now c.loads.pass then n _ _ steps.belongs load.view load.goes_on load.seen load.looked in
    let near = nodes_on c.args.among before.lists in
    let one_more = take_read near near c.loads.index n refl (read here) in
    record {
      steps = PassSees-trans steps step;
      first = SeesPair-later c.loads.pass.view then.view load.goes_on c.args.nearest c.loads.invariant.first;
      first_loaded = IsLoadedSince-later c.loads.pass.view then.view load.goes_on before.view.steps c.args.nearest later.steps
          c.loads.invariant.first_loaded;
      earlier = All-more (SeesPair then.view) (take c.loads.index near) _ n one_more
          (λ k d below. SeesPair-later c.loads.pass.view then.view load.goes_on _ (c.loads.invariant.earlier k d below)) load.found.written;
      earlier_loaded = All-more (IsLoadedSince before.view.steps then.view) (take c.loads.index near) _ n one_more
          (λ k d below. IsLoadedSince-later c.loads.pass.view then.view load.goes_on before.view.steps _ later.steps
          (c.loads.invariant.earlier_loaded k d below)) (omega (arith, load.looked.here, later.steps));
      whole = λ all.
          SeesAsBefore-trans before.view c.loads.pass.view then.view (c.loads.invariant.whole all)
          (SeesAsBefore-loaded c.loads.pass.view then.view (TreeOf n) _ load.seen (load.whole (HasWholeShare-later steps.sees_anew all)));
    }

pub returns : goal.returns
returns c =
    let h = c.loads.invariant in
    let view = c.loads.pass.view in
    let near = nodes_on c.args.among c.args.pass.now.lists in
    let since = IsLoadedSince c.args.pass.now.view.steps view in
    let all = take_all c.loads.index near (omega (arith, c.loads-test.false, c.count-count.ensures)) in
    record {
      steps = h.steps;
      pairs = All-cons (SeesPair view) c.args.nearest near h.first (subst (All (SeesPair view)) all h.earlier);
      loaded = All-cons since c.args.nearest near h.first_loaded (subst (All since) all h.earlier_loaded);
      whole = h.whole;
    }
