use Rattle.seq_planner.proofs.Words.{ℕ, List, get_or, subst, arith, Contains, IsFirstLeast}
use Rattle.seq_planner.proofs.GoalNodeLists.{IsSkippedBy-least, MayBeCheaper-least}
use Rattle.seq_planner.proofs.goal_nodes.GoalNodes.skipper.Goals as goal

pub returns-then-index-bound : goal.returns-then-index-bound
returns-then-index-bound c =
    let tree = c.args.tree.now in
    let numbers : List ℕ = c.args.self.now.numbers.items in
    let least : IsFirstLeast (λ n. get_or tree.costs.items n 0) (Contains numbers) c.in_ok-best.best =
    subst (λ ns. IsFirstLeast (λ n. get_or tree.costs.items n 0) (Contains ns) c.in_ok-best.best) c.deref.ensures.value
    (subst (λ costs. IsFirstLeast (λ n. get_or costs n 0) (Contains c.deref.result.now) c.in_ok-best.best) c.as_slice.ensures.value c.in_ok-best.ensures) in
    IsSkippedBy-least c.args.scene.now tree c.args.mark numbers c.requires.sound c.requires.listed c.in_ok-best.best least c.index.result.now
    c.as_slice-2.result.now c.index.ensures c.as_slice-2.ensures (omega (arith, c.if-index-bound.true, c.bound.ensures.value))

pub returns-else-index-bound : goal.returns-else-index-bound
returns-else-index-bound c =
    let tree = c.args.tree.now in
    let numbers : List ℕ = c.args.self.now.numbers.items in
    let least : IsFirstLeast (λ n. get_or tree.costs.items n 0) (Contains numbers) c.in_ok-best.best =
    subst (λ ns. IsFirstLeast (λ n. get_or tree.costs.items n 0) (Contains ns) c.in_ok-best.best) c.deref.ensures.value
    (subst (λ costs. IsFirstLeast (λ n. get_or costs n 0) (Contains c.deref.result.now) c.in_ok-best.best) c.as_slice.ensures.value c.in_ok-best.ensures) in
    MayBeCheaper-least c.args.scene.now tree c.args.mark numbers c.requires.sound c.requires.listed c.in_ok-best.best least c.index.result.now
    c.as_slice-2.result.now c.index.ensures c.as_slice-2.ensures (omega (arith, c.if-index-bound.false, c.bound.ensures.value))
