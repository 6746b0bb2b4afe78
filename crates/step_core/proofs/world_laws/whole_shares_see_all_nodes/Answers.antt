use Rattle.step_core.proofs.Whole.WholeCopies.{children-whole, count-whole, nodes-whole, points-whole, trees-whole}
use Rattle.step_core.proofs.world_laws.whole_shares_see_all_nodes.Goals as goal

pub returns-clause-nodes : goal.returns-clause-nodes
returns-clause-nodes c = λ now is. nodes-whole now.run now.words now.views now.id now.view is.world is.at

pub returns-clause-points : goal.returns-clause-points
returns-clause-points c = λ now is. points-whole now.run now.words now.views now.id now.view is.world is.at

pub returns-clause-children : goal.returns-clause-children
returns-clause-children c = λ now is. children-whole now.run now.words now.views now.id now.view is.world is.at

pub returns-clause-trees : goal.returns-clause-trees
returns-clause-trees c = λ now is. trees-whole now.run now.words now.views now.id now.view is.world is.at

pub returns-clause-count : goal.returns-clause-count
returns-clause-count c = λ now is. count-whole now.run now.words now.views now.id now.view is.world is.at
