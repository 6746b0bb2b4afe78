use Rattle.report_judge.proofs.Words.{length, HasLowTurn, IsNewKey}
use Rattle.report_judge.proofs.Laws.FirstBreakLaws.{IsFirstBreak-earlier}
use Rattle.report_judge.proofs.Laws.TurnBreaks.{IsFirstBreak-turns}
use Rattle.report_judge.proofs.marks.turns.first_wrong_turn.Goals as goal

pub returns : goal.returns
returns c =
    let records = c.args.records.now in
    let keys = c.in_ok-keys.keys.items in
    let first = c.in_ok-repeat.repeat in
    let new = rw (c.deref.ensures.value, c.in_ok-keys.ensures.length) at c.in_ok-repeat.ensures in
    IsFirstBreak-turns records keys c.in_ok-keys.ensures.length c.in_ok-keys.ensures.keys c.requires.fit c.earlier.result
    (rw c.earlier.ensures
    (IsFirstBreak-earlier (IsNewKey keys) (HasLowTurn records) (length records) first c.first_high_turn.result new c.first_high_turn.ensures))
