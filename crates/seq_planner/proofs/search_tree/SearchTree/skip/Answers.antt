use Rattle.seq_planner.proofs.Words.{[], ◌∷◌, length, ap, arith, rules, is_some, space_of}
use Rattle.std.proofs.Common.{length-append}
use Rattle.seq_planner.proofs.MarkExtensions.{IsExtensionOf-skipped}
use Rattle.seq_planner.proofs.PutNodes.{AddsRewired-none, GrowsByMark-put}
use Rattle.seq_planner.proofs.search_tree.SearchTree.skip.Goals as goal

pub returns-clause-skips : goal.returns-clause-skips
returns-clause-skips c = λ scene mark by.
    let tree = c.args.self.now in
    let extension = c.skipped.result in
    GrowsByMark-put scene tree c.push.new.self mark extension []
    (IsExtensionOf-skipped scene tree mark c.len-turn.result c.args.goal_node extension (search (rules, c.len-turn.ensures)) by
    (record { node = c.skipped.ensures.node; cost = c.skipped.ensures.cost; recorded = c.skipped.ensures.entry }))
    c.in_ok-push.ensures.records
    (AddsRewired-none (space_of scene) tree.nodes c.push.new.self.nodes extension.node [] (ap is_some c.skipped.ensures.node) c.in_ok-push.ensures.nodes)
    (omega (arith, ap length c.in_ok-push.ensures.nodes, length-append tree.nodes (extension.node ∷ [])))
