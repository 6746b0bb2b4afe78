use Rattle.std.proofs.Common.{ℕ, ◌+◌, get_or, refl, subst, sym, arith}
use Rattle.seq_planner.proofs.LeastNumbers.{IsFirstLeast-all, IsLeastOf, IsLeastOf-keeps, IsLeastOf-takes}
use Rattle.seq_planner.proofs.goal_nodes.least.Goals as goal
use Rattle.seq_planner.proofs.goal_nodes.least.Goals.{then-comes_before, else-comes_before}

pub loop-number-preserved : goal.loop-number-preserved
loop-number-preserved c =
    let key : ℕ → ℕ = λ n. get_or c.args.costs.now n 0 in
    let i : ℕ = c.loop-number.number-index in
    let n : ℕ = get_or c.args.numbers.now c.loop-number.number-index 0 in
    elim c.if-comes_before.branch [
      | then-comes_before w ↦
          subst (IsLeastOf key c.args.numbers.now (i + 1)) (sym w.best-is)
          (IsLeastOf-takes key c.args.numbers.now i c.loop-number.best n c.loop-number.invariant c.loop-number-test.true refl
          (c.comes_before.ensures.before w.if-comes_before.true))
      | else-comes_before w ↦
          subst (IsLeastOf key c.args.numbers.now (i + 1)) (sym w.best-is)
          (IsLeastOf-keeps key c.args.numbers.now i c.loop-number.best n c.loop-number.invariant c.loop-number-test.true refl
          (c.comes_before.ensures.after w.if-comes_before.false))
    ]

pub returns : goal.returns
returns c =
    IsFirstLeast-all (λ n. get_or c.args.costs.now n 0) c.args.numbers.now c.loop-number.number-index c.loop-number.best (omega arith)
    c.loop-number.invariant
