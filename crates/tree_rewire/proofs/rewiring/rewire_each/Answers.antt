use Rattle.tree_rewire.proofs.Words.{◌+◌, ◌≡◌, ◌≤◌, ℕ, List, length, ap, arith, drop, is_some, refl, subst, suc, sym, take, All, Contains, drop_all, take_all}
use Rattle.tree_rewire.proofs.Words.{All-contains_itself, All-nil, space_of, Rewires, some_hand, nodes_on, HasSpreadFalls, IsInReach}
use Rattle.tree_rewire.proofs.Words.{SeesPair, cost_seen}
use Rattle.tree_rewire.proofs.NearLists.{nodes_on-kept}
use Rattle.tree_rewire.proofs.ChosenParents.{All-more, IsInReach-later, drop_read, near_read, take_read}
use Rattle.tree_rewire.proofs.CostSteps.{PassLowers-lists, PassLowers-trans}
use Rattle.tree_rewire.proofs.RewiredNodes.{IsRewired, IsRewired-later, IsRewired-looked, all_rewired, placed_near, placed_pair, placed_stands}
use Rattle.tree_rewire.proofs.RewiredTrees.{IsRewiring-more}
use Rattle.tree_rewire.proofs.SeenCosts.{SeesPair-later, stands_later}
use Rattle.tree_rewire.proofs.SpreadFalls.{HasSpreadFalls-more, HasSpreadFalls-none}
use Rattle.tree_rewire.proofs.WholeShares.{HasWholeShare-later}
use Rattle.tree_rewire.proofs.rewiring.rewire_each.Given.{Over}
use Rattle.tree_rewire.proofs.rewiring.rewire_each.Goals as goal
use Rattle.tree_rewire.proofs.rewiring.rewire_each.Goals.{After-node-node}

-- the nodes on the list are those from before
kept : (g : Over) (c : After-node-node g) → nodes_on c.args.among c.nodes.pass.lists ≡ nodes_on c.args.among c.args.pass.now.lists
kept g c = nodes_on-kept c.args.among c.args.pass.now.lists c.nodes.pass.lists c.nodes.invariant.steps.near c.nodes.invariant.steps.search

-- the near node is in reach
reach : (g : Over) (c : After-node-node g) → IsInReach c.args.pass.now.view c.hand_point-from.result c.node-node.result
reach g c =
    let near = nodes_on c.args.among c.args.pass.now.lists in
    let now = nodes_on c.args.among c.nodes.pass.lists in
    let held = some_hand c.args.pass.now.view.hand c.requires.hand in
    near_read (IsInReach c.args.pass.now.view c.hand_point-from.result) near now c.nodes.index c.node-node.result
    (kept g c) c.node-node.ensures
    (placed_near c.args.pass.now.view c.args.k c.hand_point-from.result held.0 held.1 c.requires.placed c.hand_point-from.ensures near
    c.requires.near)

pub nodes-init : goal.nodes-init
nodes-init g c =
    let pass = c.args.pass.now in
    record {
      steps = PassLowers-lists c.args.shared.now pass pass c.requires.belongs refl refl refl refl refl;
      earlier = All-nil (IsRewired (g.C.Clearing.space c.args.hall.now) pass.view pass.view c.hand_point-from.result (cost_seen pass.view (c.args.k + 1)));
      spread = HasSpreadFalls-none (g.C.Clearing.space c.args.hall.now) (Contains (nodes_on c.args.among pass.lists)) (c.args.k + 1) pass.view pass.view
          (λ n pair. refl);
      goals = λ all posted. posted;
      whole = λ all tree mirrors. record { now = tree; mirrors = mirrors; leads = λ last r. r };
    }

pub rewire_node-requires-clause-parent : goal.rewire_node-requires-clause-parent
rewire_node-requires-clause-parent g c κs within =
    let held = some_hand c.args.pass.now.view.hand c.requires.hand in
    stands_later c.args.pass.now.view c.nodes.pass.view c.nodes.invariant.steps.sees_anew.goes_on (c.args.k + 1) c.hand_point-from.result
    (placed_stands c.args.pass.now.view c.args.k c.hand_point-from.result held.0 held.1 c.requires.placed c.hand_point-from.ensures)

pub rewire_node-requires-clause-parent_pair : goal.rewire_node-requires-clause-parent_pair
rewire_node-requires-clause-parent_pair g c κs within =
    let held = some_hand c.args.pass.now.view.hand c.requires.hand in
    SeesPair-later c.args.pass.now.view c.nodes.pass.view c.nodes.invariant.steps.sees_anew.goes_on (c.args.k + 1)
    (placed_pair c.args.pass.now.view c.args.k c.hand_point-from.result held.0 held.1 c.requires.placed c.hand_point-from.ensures)

pub rewire_node-requires-clause-reach : goal.rewire_node-requires-clause-reach
rewire_node-requires-clause-reach g c κs within =
    IsInReach-later c.args.pass.now.view c.nodes.pass.view c.hand_point-from.result c.node-node.result
    c.nodes.invariant.steps.sees_anew.goes_on (reach g (goal.at.rewire_node-requires-clause-reach g c).After-node-node)

pub nodes-preserved : goal.nodes-preserved
nodes-preserved g c =
    let near = nodes_on c.args.among c.args.pass.now.lists in
    let now = nodes_on c.args.among c.nodes.pass.lists in
    let h = c.nodes.invariant in
    let space = g.C.Clearing.space c.args.hall.now in
    let before = c.args.pass.now.view in
    let new = c.rewire_node.new.pass in
    let from = c.hand_point-from.result in
    let n = c.node-node.result in
    let done = c.rewire_node.ensures in
    let held = some_hand before.hand c.requires.hand in
    let same = kept g (goal.at.nodes-preserved g c).After-node-node in
    record {
      steps = PassLowers-trans h.steps done.steps;
      earlier = All-more (IsRewired space before new.view from (cost_seen before (c.args.k + 1))) (take c.nodes.index near) _ n
          (take_read near now c.nodes.index n same c.node-node.ensures)
          (λ k d below. IsRewired-later space before c.nodes.pass.view new.view from _ _ done.steps.sees_anew.goes_on (h.earlier k d below))
          (IsRewired-looked space before c.nodes.pass.view new.view from (c.args.k + 1) n h.steps.sees_anew.goes_on
          (reach g (goal.at.nodes-preserved g c).After-node-node).present
          (placed_pair before c.args.k from held.0 held.1 c.requires.placed c.hand_point-from.ensures) done.pair done.rewired);
      spread = HasSpreadFalls-more space (Contains near) (c.args.k + 1) n before c.nodes.pass.view new.view
          h.steps.sees_anew.goes_on done.steps.sees_anew.goes_on
          (near_read (Contains near) near now c.nodes.index n
          same c.node-node.ensures
          (All-contains_itself near))
          (reach g (goal.at.nodes-preserved g c).After-node-node).present
          (ap is_some (placed_stands before c.args.k from held.0 held.1 c.requires.placed c.hand_point-from.ensures))
          (placed_pair before c.args.k from held.0 held.1 c.requires.placed c.hand_point-from.ensures) h.spread done.spread;
      goals = λ all posted.
          done.goals (HasWholeShare-later h.steps.sees_anew all) (h.goals all posted);
      whole = λ all tree mirrors.
          let was = h.whole all tree mirrors in
          IsRewiring-more space tree (c.args.k + 1) n near (drop c.nodes.index near)
          (drop (c.nodes.index + 1) near) c.nodes.pass.view new.view
          (drop_read near now c.nodes.index n same c.node-node.ensures) was (done.whole (HasWholeShare-later h.steps.sees_anew all) was.now was.mirrors);
    }

pub returns : goal.returns
returns g c =
    let h = c.nodes.invariant in
    let before = c.args.pass.now.view in
    let new = c.nodes.pass.view in
    let from = c.hand_point-from.result in
    let space = space_of c.args.shared.now.task.scene in
    let near = nodes_on c.args.among c.args.pass.now.lists in
    let ended : length near ≤ c.nodes.index = omega (arith, c.nodes-test.false, c.count-count.ensures) in
    let all = take_all c.nodes.index near ended in
    let held = some_hand before.hand c.requires.hand in
    let next : c.args.k + 1 ≡ suc c.args.k = omega arith in
    record {
      belongs = h.steps.belongs;
      seen = h.steps.sees_anew;
      lists = (h.steps.near, h.steps.around, h.steps.search);
      pairs = subst (All (SeesPair new)) all (λ k d below. (h.earlier k d below).pair);
      rewired = all_rewired before c.args.k from held.0 held.1 c.requires.placed c.hand_point-from.ensures space new near c.requires.belongs.lawful
          (subst (All (IsRewired space before new from (cost_seen before (c.args.k + 1)))) all
          (subst (λ s. All (IsRewired s before new from (cost_seen before (c.args.k + 1))) (take c.nodes.index near)) c.requires.hall h.earlier));
      spread = subst (λ s. HasSpreadFalls s (Contains near) (suc c.args.k) before new) c.requires.hall
          (subst (λ n. HasSpreadFalls (g.C.Clearing.space c.args.hall.now) (Contains near) n before new) next h.spread);
      goals = h.goals;
      whole = λ all tree mirrors.
          let was = h.whole all tree mirrors in
          let rest = subst (λ (ns : List ℕ). Rewires (g.C.Clearing.space c.args.hall.now) was.now (c.args.k + 1) ns was.now)
          (sym (drop_all c.nodes.index near ended)) refl in
          let rewired = subst (λ s. Rewires s tree (c.args.k + 1) near was.now) c.requires.hall (was.leads was.now rest) in
          (was.now, subst (λ n. Rewires space tree n near was.now) next rewired, was.mirrors);
    }
