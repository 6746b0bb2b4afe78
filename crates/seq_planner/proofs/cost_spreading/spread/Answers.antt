use Rattle.seq_planner.proofs.Words.{ℕ, ◌-◌, [], ◌∷◌, ◌++◌, get_or, set, arith, ap, ◌∙◌, length-set, get_or_default_zero, times}
use Rattle.seq_planner.proofs.LoweredBranches.{IsUnderway-start, IsBranchLowered-end}
use Rattle.seq_planner.proofs.LoweringTurns.{IsUnderway-turn}
use Rattle.seq_planner.proofs.PendingNodes.{times-last, times-none, IsNext-last, IsTurn-lists, sum-lowered}
use Rattle.seq_planner.proofs.cost_spreading.spread.Goals as goal

pub index_mut-requires : goal.index_mut-requires
index_mut-requires c =
    let next = IsNext-last _ _ _ _ c.loop-number.invariant.each c.requires.enough c.loop-number.invariant.underway c.in-Some.ensures.items in
    omega (arith, next.within)

pub overflow_sub-index_mut : goal.overflow_sub-index_mut
overflow_sub-index_mut c =
    let costs = c.loop-number.costs.items in
    let next = IsNext-last _ _ _ _ c.loop-number.invariant.each c.requires.enough c.loop-number.invariant.underway c.in-Some.ensures.items in
    omega (arith, get_or_default_zero costs c.in-Some.number c.index_mut.result.now next.within, c.index_mut.ensures.value, next.enough)

pub push_children-requires : goal.push_children-requires
push_children-requires c =
    (IsNext-last _ _ _ _ c.loop-number.invariant.each c.requires.enough c.loop-number.invariant.underway c.in-Some.ensures.items).present

pub loop-number-smaller : goal.loop-number-smaller
loop-number-smaller c =
    let costs = c.loop-number.costs.items in
    let next = IsNext-last _ _ _ _ c.loop-number.invariant.each c.requires.enough c.loop-number.invariant.underway c.in-Some.ensures.items in
    let cost = get_or_default_zero costs c.in-Some.number c.index_mut.result.now next.within in
    sum-lowered costs c.in-Some.number (c.index_mut.result.now - c.args.fall) c.args.fall next.within c.requires.some
    (omega (arith, cost, c.index_mut.ensures.value, next.enough))

pub loop-number-init : goal.loop-number-init
loop-number-init c =
    let alone = c.in_ok-push.ensures.items ∙ ap (λ ns. ns ++ c.args.node ∷ []) c.clear.ensures.items in
    record {
      each = c.requires.each;
      underway =
          IsUnderway-start c.args.tree.now c.args.node c.args.fall (λ n. get_or c.args.costs.now.items n 0) (times c.push.new.self.items) c.requires.some
          c.requires.child c.requires.present (λ n. omega (arith, ap (λ ns. times ns n) alone, times-last [] c.args.node n));
    }

pub loop-number-preserved : goal.loop-number-preserved
loop-number-preserved c =
    let tree = c.args.tree.now in
    let number = c.in-Some.number in
    let entry = λ (n : ℕ). get_or c.args.costs.now.items n 0 in
    let costs = c.loop-number.costs.items in
    let lowered : ℕ = c.index_mut.result.now - c.args.fall in
    let before = c.loop-number.pending.items in
    let after = c.push_children.new.list.items in
    let next = IsNext-last _ _ _ _ c.loop-number.invariant.each c.requires.enough c.loop-number.invariant.underway c.in-Some.ensures.items in
    let cost = get_or_default_zero costs number c.index_mut.result.now next.within in
    let turn =
    IsTurn-lists tree c.args.fall costs before c.pop.new.self.items after number lowered next.within
    (omega (arith, cost, c.index_mut.ensures.value, next.enough)) c.in-Some.ensures.items c.in_ok-push_children.ensures in
    record {
      each = length-set costs number lowered ∙ c.loop-number.invariant.each;
      underway =
          IsUnderway-turn tree c.args.node c.args.fall entry c.requires.some c.requires.falling (λ n. get_or costs n 0)
          (λ n. get_or (set costs number lowered) n 0) (times before) (times after) number c.loop-number.invariant.underway turn;
    }

pub returns-clause-lowered : goal.returns-clause-lowered
returns-clause-lowered c =
    IsBranchLowered-end c.args.tree.now c.args.node c.args.fall (λ n. get_or c.args.costs.now.items n 0) (λ n. get_or c.loop-number.costs.items n 0)
    (times c.loop-number.pending.items) c.requires.some c.loop-number.invariant.underway
    (λ n. times-none c.loop-number.pending.items n (omega (arith, c.in_default.ensures.cases.0)))
