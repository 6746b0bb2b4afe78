use Rattle.std.proofs.Common.{refl}
use Rattle.seq_planner.proofs.RewiredLists.{IsRewiredSoFar-more}
use Rattle.seq_planner.proofs.search_tree.SearchTree.rewire.Goals as goal

pub loop-near_node-preserved : goal.loop-near_node-preserved
loop-near_node-preserved g c =
    IsRewiredSoFar-more (g.C.Clearing.space c.args.hall.now) c.args.self.now c.loop-near_node.self c.rewire_one.new.self c.args.new_node c.args.near.now
    c.loop-near_node.near_node-index _ c.loop-near_node-test.true refl c.loop-near_node.invariant
    (record {
      rewired = c.in_ok-rewire_one.ensures.rewired;
      sound = c.in_ok-rewire_one.ensures.sound;
      points = c.in_ok-rewire_one.ensures.points;
      count = c.in_ok-rewire_one.ensures.count;
      records = c.in_ok-rewire_one.ensures.records;
    })
