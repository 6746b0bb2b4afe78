use Rattle.plan_model.proofs.Words.{None, ◌++◌, replicate}
use Rattle.plan_model.proofs.TreeChanges.{HaveSameNodes-absent_all, chain-same, sum-same}
use Rattle.plan_model.proofs.laws.trees.absent_numbers_change_nothing.Goals as goal

pub returns-clause-chains : goal.returns-clause-chains
returns-clause-chains c = λ tree most n. chain-same (tree ++ replicate most None) tree n (HaveSameNodes-absent_all tree most)

pub returns-clause-sums : goal.returns-clause-sums
returns-clause-sums c = λ tree most n. sum-same (tree ++ replicate most None) tree n (HaveSameNodes-absent_all tree most)
