use Rattle.tree_rewire.proofs.Words.{◌+◌, ◌∙◌, ap, arith, tree_word}
use Rattle.tree_rewire.proofs.ChosenFound.{number_low}
use Rattle.tree_rewire.proofs.ChosenParents.{read_through}
use Rattle.tree_rewire.proofs.CostSteps.{PassSees-point}
use Rattle.tree_rewire.proofs.SeenCosts.{SeesNode-pair}
use Rattle.tree_rewire.proofs.open_words.word_of.Goals as goal

pub point-from-requires-clause-seen_node : goal.point-from-requires-clause-seen_node
point-from-requires-clause-seen_node c = SeesNode-pair c.args.pass.now.view c.args.node c.requires.belongs.lawful c.requires.node.written

pub pack_tree-requires : goal.pack_tree-requires
pack_tree-requires c = record {
  parent = number_low c.args.pass.now.view c.args.node c.requires.belongs.lawful c.requires.node.written;
  cost =
      omega (arith, (c.requires.belongs.lawful.pairs c.args.node c.requires.node.written).low, c.seen_cost-kept_cost.ensures, c.cost.ensures.bound);
}

pub returns : goal.returns
returns c = record {
  steps = PassSees-point c.args.shared.now c.args.pass.now c.point-from.new.pass c.args.node _ _ c.requires.belongs c.requires.node.stands
      c.point-from.ensures.view c.point-from.ensures.goes_on c.point-from.ensures.seen c.point-from.ensures.looked;
  word = c.pack_tree.ensures
      ∙ ap (tree_word c.args.node)
      (ap (λ e. c.seen_cost-kept_cost.result + e) c.cost.ensures.value
      ∙ read_through c.args.pass.now.view c.point-from.new.pass.view c.args.p c.point-from.result c.args.node c.seen_cost-kept_cost.result
      c.point-from.ensures.goes_on c.requires.node.stands c.point-from.ensures.found c.seen_cost-kept_cost.ensures);
}
