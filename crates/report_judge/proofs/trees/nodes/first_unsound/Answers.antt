use Rattle.report_judge.proofs.Words.{◌*◌, length, refl, sym, setup_of, KeepsEdges, IsNewKey}
use Rattle.report_judge.proofs.Laws.FirstBreakLaws.{IsFirstBreak-earlier}
use Rattle.report_judge.proofs.Laws.NodeBreaks.{IsFirstBreak-nodes, KeepsNode-start}
use Rattle.report_judge.proofs.trees.nodes.first_unsound.Goals as goal

pub returns : goal.returns
returns g c =
    let scene = c.args.scene.now in
    let knots = c.args.knots.now in
    let space = g.C.Clearing.space c.args.hall.now in
    let keys = c.in_ok-keys.keys.items in
    let first = c.in_ok-repeat.repeat in
    let new = rw (c.deref.ensures.value, c.in_ok-keys.ensures.length) at c.in_ok-repeat.ensures in
    let square = c.from.result * c.from-2.result in
    let edges = KeepsEdges space square knots in
    let both = IsFirstBreak-earlier (IsNewKey keys) edges (length knots) first c.first_loose-loose.result new c.first_loose-loose.ensures in
    λ records.
    IsFirstBreak-nodes knots records (setup_of scene) space (sym c.requires.hall) square
    (λ i. sym c.from.ensures i * sym c.from-2.ensures i) keys c.in_ok-keys.ensures.keys
    c.requires.fit
    (KeepsNode-start knots records (setup_of scene) (record { point = scene.start; parent = 0; cost = 0 })
    (c.is_start.ensures.0 c.if-not-is_start.false) refl) c.earlier.result
    (rw c.earlier.ensures both)
