use Rattle.shared_tree_tests.proofs.Words.{ap, Record, no_goals}
use Rattle.shared_tree_tests.proofs.SteeredPasses.SteeredRecords.{may_finish-same}
use Rattle.shared_tree_tests.proofs.kd_tree.support.finish_same.Goals as goal

pub finish-requires-clause-may : goal.finish-requires-clause-may
finish-requires-clause-may c =
    may_finish-same c.args.pass.now.view c.args.closest c.args.node c.unplaced-entry.result
    (no_goals c.args.shared.now c.args.pass.now.view c.requires.holds.belongs.run c.requires.plain)
    c.requires.holds.belongs.lawful c.requires.steers c.requires.seen
    (ap (λ (entry : Record). entry.nearest) c.unplaced-entry.ensures) (ap (λ (entry : Record). entry.outcome) c.unplaced-entry.ensures)
