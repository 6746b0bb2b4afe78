use Rattle.seq_planner.proofs.Words.{arith, rules, points_of-cheaper_parent, IsPresent-cheaper_parent, CostsFall-cheaper_parent}
use Rattle.seq_planner.proofs.ReadCheaperNodes.{IsCheaper-read}
use Rattle.seq_planner.proofs.RewiredNodes.{OnOk-two, child-cheaper, HasCheaperParent-cheaper, IsSound-rewired}
use Rattle.seq_planner.proofs.search_tree.SearchTree.rewire_one.Goals as goal

pub overflow_sub-fall : goal.overflow_sub-fall
overflow_sub-fall g c =
    let is =
    IsCheaper-read c.requires.sound c.requires.present c.requires.near (c.is_cheaper.ensures.0 c.if-not-is_cheaper.false)
    c.point.ensures c.parent-cost_through.ensures.cost c.index.ensures in
    omega (arith, is.less)

pub set_parent-requires-clause-child : goal.set_parent-requires-clause-child
set_parent-requires-clause-child g c =
    let is =
    IsCheaper-read c.requires.sound c.requires.present c.requires.near (c.is_cheaper.ensures.0 c.if-not-is_cheaper.false)
    c.point.ensures c.parent-cost_through.ensures.cost c.index.ensures in
    child-cheaper is

pub spread-requires : goal.spread-requires
spread-requires g c =
    let is =
    IsCheaper-read c.requires.sound c.requires.present c.requires.near (c.is_cheaper.ensures.0 c.if-not-is_cheaper.false)
    c.point.ensures c.parent-cost_through.ensures.cost c.index.ensures in
    let change = HasCheaperParent-cheaper is c.set_parent.ensures in
    record {
      child = child-cheaper is;
      present = IsPresent-cheaper_parent _ _ _ _ _ _ change c.args.near_node c.requires.near;
      each = search rules;
      falling = CostsFall-cheaper_parent _ _ _ _ _ _ change c.requires.sound.falling;
      some = omega (arith, is.less);
      enough = search rules;
    }

pub returns-clause-sound : goal.returns-clause-sound
returns-clause-sound g c =
    let is =
    IsCheaper-read c.requires.sound c.requires.present c.requires.near (c.is_cheaper.ensures.0 c.if-not-is_cheaper.false)
    c.point.ensures c.parent-cost_through.ensures.cost c.index.ensures in
    let change = HasCheaperParent-cheaper is c.set_parent.ensures in
    OnOk-two c.spread.result (λ lowered count. IsSound-rewired _ _ _ _ _ _ _ _ c.requires.sound change lowered count)
    c.spread.ensures.lowered c.spread.ensures.each

pub returns-clause-points : goal.returns-clause-points
returns-clause-points g c =
    let is =
    IsCheaper-read c.requires.sound c.requires.present c.requires.near (c.is_cheaper.ensures.0 c.if-not-is_cheaper.false)
    c.point.ensures c.parent-cost_through.ensures.cost c.index.ensures in
    let change = HasCheaperParent-cheaper is c.set_parent.ensures in
    OnOk-two c.spread.result (λ lowered count. points_of-cheaper_parent _ _ _ _ _ _ change) c.spread.ensures.lowered c.spread.ensures.each
