use Rattle.plan_words.proofs.Words.{IsPassOf}
use Rattle.plan_words.proofs.Dealing.{StandsFor-all, each-head}
use Rattle.plan_words.proofs.shared.Shared.hand_out.Goals as goal

pub hand_on_all-requires-clause-stands : goal.hand_on_all-requires-clause-stands
hand_on_all-requires-clause-stands c =
    StandsFor-all c.args.self.now c.args.first c.requires.belongs c.requires.crew c.requires.hand c.requires.lists

pub returns-clause-passes : goal.returns-clause-passes
returns-clause-passes c =
    let told = c.in_ok-passes.ensures in
    each-head (IsPassOf c.args.self.now c.args.first) c.hand_on_all.new.first c.in_ok-passes.passes.items c.insert.new.self.items
    c.in_ok-insert.ensures.items told.first told.passes
