use Rattle.shared_tree_tests.proofs.Words.{◌≡◌, ap, sym, subst, ◌∙◌, IsBounded, Clear, at_hand, IsBounded-hand, MayHang-start, with_view, IsUnskipped}
use Rattle.shared_tree_tests.proofs.Words.{has_point, SeesPoint-later, half, treed, Half}
use Rattle.shared_tree_tests.proofs.HeldPasses.FirstRecords.{HangsFromStart-hung, unskipped_later}
use Rattle.shared_tree_tests.proofs.passes.link.hang_from_start.Goals as goal

pub cost-edge-requires-clause-to : goal.cost-edge-requires-clause-to
cost-edge-requires-clause-to g c =
    let view = c.tree-pair.new.pass.view in
    let holds = c.requires.holds in
    let held = ap (λ p. p.view.hand) c.tree-pair.ensures.view ∙ ap (λ p. p.view.hand) c.point-start.ensures.view ∙ holds.held in
    let is = at_hand (λ hand. c.hand_point-p.result ≡ hand.point) _ holds.hand held c.hand_point-p.ensures in
    subst IsBounded (sym is) (IsBounded-hand view holds.hand c.tree-pair.ensures.goes_on.lawful held (ap has_point holds.stage_is))

pub write_tree-requires-clause-may : goal.write_tree-requires-clause-may
write_tree-requires-clause-may g c =
    let before = c.point-start.new.pass.view in
    let view = c.tree-pair.new.pass.view in
    let holds = c.requires.holds in
    let later = c.tree-pair.ensures.goes_on.later in
    let held = ap (λ p. p.view.hand) c.tree-pair.ensures.view ∙ ap (λ p. p.view.hand) c.point-start.ensures.view ∙ holds.held in
    let own = ap (λ p. p.view.run) c.tree-pair.ensures.view ∙ ap (λ p. p.view.run) c.point-start.ensures.view ∙ holds.belongs.run in
    let clear = subst (λ space. Clear space c.point-start.result c.hand_point-p.result) c.requires.hall (c.clear.ensures.0 c.if-not-clear.false) in
    MayHang-start c.args.shared.now view holds.hand c.point-start.result c.hand_point-p.result c.cost-edge.result own c.tree-pair.ensures.goes_on.lawful held
    (ap has_point holds.stage_is) holds.from_start
    (SeesPoint-later before view later.run later.seen 0 c.point-start.result c.point-start.ensures.found) c.tree-pair.ensures.found.written clear
    c.hand_point-p.ensures c.cost-edge.ensures.value

pub returns-clause-hangs : goal.returns-clause-hangs
returns-clause-hangs g c =
    let old = c.tree-pair.new.pass in
    let holds = c.requires.holds in
    let edge = c.cost-edge.result in
    let later = c.tree-pair.ensures.goes_on.later in
    let held = ap (λ p. p.view.hand) c.tree-pair.ensures.view ∙ ap (λ p. p.view.hand) c.point-start.ensures.view ∙ holds.held in
    let own = ap (λ p. p.view.run) c.tree-pair.ensures.view ∙ ap (λ p. p.view.run) c.point-start.ensures.view ∙ holds.belongs.run in
    let clear = subst (λ space. Clear space c.point-start.result c.hand_point-p.result) c.requires.hall (c.clear.ensures.0 c.if-not-clear.false) in
    let is = at_hand (λ hand. c.hand_point-p.result ≡ hand.point) _ holds.hand held c.hand_point-p.ensures in
    let made =
    at_hand
    (λ hand. c.write_tree.new.pass ≡ with_view old (treed (half old.view hand 0 edge) (record hand { stage = Half; parent = 0; cost = edge })))
    _ holds.hand held c.write_tree.ensures.view in
    HangsFromStart-hung old.view c.write_tree.new.pass.view c.write_tree.ensures.goes_on.later c.args.shared.now holds.hand c.point-start.result
    c.hand_point-p.result edge own is
    (SeesPoint-later c.point-start.new.pass.view old.view later.run later.seen 0 c.point-start.result c.point-start.ensures.found)
    c.tree-pair.ensures.found.written clear c.cost-edge.ensures.value (ap (λ p. p.view.hand) made)
    (unskipped_later c.point-start.new.pass.view old.view later holds.hand
    (unskipped_later c.args.pass.now.view c.point-start.new.pass.view c.point-start.ensures.goes_on.later holds.hand
    (at_hand (IsUnskipped c.args.pass.now.view) c.args.pass.now.view.hand holds.hand holds.held c.requires.unskipped)))
