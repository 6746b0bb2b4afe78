use Rattle.std.proofs.Common.{arith, sym, ap, ◌∙◌, subst}
use Rattle.std.proofs.lemmas.List.{get_or_read}
use Rattle.path_tools.specs.declared.rests.Rest.{Rest}
use Rattle.path_tools.specs.SmoothPaths.{rest_at}
use Rattle.path_tools.proofs.Walks.{HasWalked, HasWalked-start, Steps-read, HasWalked-end}
use Rattle.path_tools.proofs.smoothing.cheapest_path.Goals as goal

pub loop-at-init : goal.loop-at-init
loop-at-init g c =
    let space = g.C.Clearing.space c.args.hall.now in
    let path = c.args.path.now in
    let rest = rest_at c.in_ok-rests.rests.items 0 in
    subst (λ points. HasWalked space path points 0 rest.cost) (sym c.in_ok-points.ensures.items)
    (HasWalked-start space path rest (c.in_ok-rests.ensures.1 0 (omega arith) c.requires.some))

pub bounds-path-at : goal.bounds-path-at
bounds-path-at g c =
    (Steps-read (g.C.Clearing.space c.args.hall.now) c.args.path.now c.in_ok-rests.rests.items c.loop-at.points.items c.loop-at.at
    (rest_at c.in_ok-rests.rests.items 0).cost c.index.result.now c.in_ok-rests.ensures c.loop-at.invariant c.loop-at-test.true c.index.ensures).inside

pub loop-at-smaller : goal.loop-at-smaller
loop-at-smaller g c =
    let step =
    Steps-read (g.C.Clearing.space c.args.hall.now) c.args.path.now c.in_ok-rests.rests.items c.loop-at.points.items c.loop-at.at
    (rest_at c.in_ok-rests.rests.items 0).cost c.index.result.now c.in_ok-rests.ensures c.loop-at.invariant c.loop-at-test.true c.index.ensures in
    omega (arith, step.onward, step.inside)

pub loop-at-preserved : goal.loop-at-preserved
loop-at-preserved g c =
    let space = g.C.Clearing.space c.args.hall.now in
    let path = c.args.path.now in
    let rests = c.in_ok-rests.rests.items in
    let step =
    Steps-read space path rests c.loop-at.points.items c.loop-at.at (rest_at rests 0).cost c.index.result.now c.in_ok-rests.ensures c.loop-at.invariant
    c.loop-at-test.true c.index.ensures in
    subst (λ points. HasWalked space path points c.index.result.now.next (rest_at rests 0).cost) (sym c.in_ok-push.ensures.items) step.walked

pub returns-clause-smoothed : goal.returns-clause-smoothed
returns-clause-smoothed g c =
    (HasWalked-end (g.C.Clearing.space c.args.hall.now) c.args.path.now c.loop-at.points.items c.loop-at.at
    (rest_at c.in_ok-rests.rests.items 0).cost c.loop-at.invariant (omega (arith, c.requires.some, c.loop-at-test.false))).0

pub returns-clause-cost : goal.returns-clause-cost
returns-clause-cost g c =
    let rests = c.in_ok-rests.rests.items in
    let end =
    HasWalked-end (g.C.Clearing.space c.args.hall.now) c.args.path.now c.loop-at.points.items c.loop-at.at (rest_at rests 0).cost c.loop-at.invariant
    (omega (arith, c.requires.some, c.loop-at-test.false)) in
    let read =
    get_or_read rests 0 c.index-2.result.now (omega (arith, c.requires.some, c.in_ok-rests.ensures.0)) c.index-2.ensures
    (record { cost = 0; points = 0; next = 0 }) in
    ap (λ (rest : Rest). rest.cost) read ∙ end.1
