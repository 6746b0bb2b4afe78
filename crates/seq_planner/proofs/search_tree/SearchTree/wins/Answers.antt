use Rattle.seq_planner.proofs.Words.{◌≡◌, ◌+◌, sym, subst, Point, Clear, cost_of, cost_through}
use Rattle.seq_planner.proofs.ReadCosts.{through-read}
use Rattle.seq_planner.proofs.search_tree.SearchTree.wins.Given.{Over}
use Rattle.seq_planner.proofs.search_tree.SearchTree.wins.Goals as goal
use Rattle.seq_planner.proofs.search_tree.SearchTree.wins.Goals.{After-is_beaten_by}

-- the cost through the node, once its point and its kept cost are read
through :
    (g : Over) (c : After-is_beaten_by g)
    → c.index-kept_cost.result.now + cost_of c.point-from.result c.args.point ≡ cost_through c.args.self.now.nodes c.args.point c.args.number
through g c =
    let tree = c.args.self.now in
    sym (through-read tree.nodes tree.costs.items tree.placed c.args.number c.index-kept_cost.result.now c.point-from.result c.args.point c.requires.sound
    c.requires.present c.index-kept_cost.ensures c.point-from.ensures)

pub returns-then-is_beaten_by-clause-clear : goal.returns-then-is_beaten_by-clause-clear
returns-then-is_beaten_by-clause-clear g c = λ yes.
    subst (λ (a : Point). Clear (g.C.Clearing.space c.args.hall.now) a c.args.point) c.point-from.ensures (c.clear.ensures.0 yes)

pub returns-then-is_beaten_by-clause-wins : goal.returns-then-is_beaten_by-clause-wins
returns-then-is_beaten_by-clause-wins g c =
    let to = goal.at.returns-then-is_beaten_by-clause-wins g c in
    λ yes.
    c.is_beaten_by.ensures.wins (cost_through c.args.self.now.nodes c.args.point) c.requires.best (through g to.After-is_beaten_by) c.if-is_beaten_by.true

pub returns-then-is_beaten_by-clause-loses : goal.returns-then-is_beaten_by-clause-loses
returns-then-is_beaten_by-clause-loses g c = λ no clear.
    let yes = c.clear.ensures.1 (subst (λ (a : Point). Clear (g.C.Clearing.space c.args.hall.now) a c.args.point) (sym c.point-from.ensures) clear) in
    absurd (cc)

pub returns-else-is_beaten_by-clause-loses : goal.returns-else-is_beaten_by-clause-loses
returns-else-is_beaten_by-clause-loses g c =
    let to = goal.at.returns-else-is_beaten_by-clause-loses g c in
    λ no clear.
    c.is_beaten_by.ensures.loses (cost_through c.args.self.now.nodes c.args.point) c.requires.best (through g to.After-is_beaten_by) c.if-is_beaten_by.false
