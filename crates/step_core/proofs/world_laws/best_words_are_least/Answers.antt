use Rattle.std.proofs.Common.{ap, ◌∙◌, arith}
use Rattle.step_core.specs.Stages.{has_first}
use Rattle.grown_runs.proofs.Common.{cost_in, cost_in-tree_word}
use Rattle.step_core.proofs.world_laws.best_words_are_least.Goals as goal

pub returns-clause-placed : goal.returns-clause-placed
returns-clause-placed c = λ run words views world. world.best.placed

pub returns-clause-in_hand : goal.returns-clause-in_hand
returns-clause-in_hand c = λ now is hand held far.
    let knows = is.world.bests now.id now.view is.at is.own in
    let first = is.world.pairs.first now.id now.view is.at hand held (ap has_first far) in
    let cost = ap cost_in first.word ∙ cost_in-tree_word hand.parent hand.cost first.fits.0 first.fits.1 in
    omega (arith, knows.falls, knows.posted hand held far, cost)

pub returns-clause-pair : goal.returns-clause-pair
returns-clause-pair c = λ run words views world. world.best.pair

pub returns-clause-seen : goal.returns-clause-seen
returns-clause-seen c = λ now is. (is.world.bests now.id now.view is.at is.own).falls

pub returns-clause-goal : goal.returns-clause-goal
returns-clause-goal c = λ now is some_pair. ((is.world.bests now.id now.view is.at is.own).pair some_pair).0
