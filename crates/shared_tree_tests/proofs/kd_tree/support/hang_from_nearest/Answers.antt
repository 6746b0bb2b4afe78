use Rattle.shared_tree_tests.proofs.Words.{◌≡◌, ◌+◌, ap, false, sym, subst, ◌∙◌, IsBounded, Clear, RecordOf, with_view, at_hand, IsBounded-hand, has_link}
use Rattle.shared_tree_tests.proofs.Words.{has_point, half, treed, sees, SeesPoint-later, Half}
use Rattle.shared_tree_tests.proofs.SteeredPasses.SteeredMarks.{HangsBelowNearest-hung, MayHang-steered, SteersFrom-looked, sees_nearest}
use Rattle.shared_tree_tests.proofs.kd_tree.support.hang_from_nearest.Goals as goal

pub point-from-requires-clause-seen_node : goal.point-from-requires-clause-seen_node
point-from-requires-clause-seen_node c = sees_nearest c.args.pass.now.view c.args.closest c.requires.holds.belongs.lawful c.requires.steers

pub cost-requires-clause-to : goal.cost-requires-clause-to
cost-requires-clause-to c =
    let view = c.tree-cost_to_come.new.pass.view in
    let holds = c.requires.holds in
    let held = ap (λ p. p.view.hand) c.tree-cost_to_come.ensures.view ∙ ap (λ p. p.view.hand) c.point-from.ensures.view ∙ holds.held in
    let is = at_hand (λ hand. c.hand_point-p.result ≡ hand.point) _ holds.hand held c.hand_point-p.ensures in
    subst IsBounded (sym is) (IsBounded-hand view holds.hand c.tree-cost_to_come.ensures.goes_on.lawful held (ap has_point holds.stage_is))

pub write_tree-requires-clause-may : goal.write_tree-requires-clause-may
write_tree-requires-clause-may c =
    let before = c.point-from.new.pass.view in
    let view = c.tree-cost_to_come.new.pass.view in
    let looks = c.point-from.ensures in
    let pair = c.tree-cost_to_come.ensures in
    let later = pair.goes_on.later in
    let steers =
    SteersFrom-looked c.args.pass.now.view before view c.args.closest _ _ _ _ looks.goes_on pair.goes_on looks.seen pair.seen
    (ap (λ p. p.view.hand) looks.view) (ap (λ p. p.view.hand) pair.view) c.requires.steers in
    let own = ap (λ p. p.view.run) pair.view ∙ ap (λ p. p.view.run) looks.view ∙ c.requires.holds.belongs.run in
    let clear = subst (λ space. Clear space c.point-from.result c.hand_point-p.result) c.requires.hall (c.clear.ensures.0 c.if-not-clear.false) in
    MayHang-steered c.args.shared.now view c.args.closest c.tree-cost_to_come.result.1 c.cost.result c.point-from.result c.hand_point-p.result own
    pair.goes_on.lawful steers
    (record {
      stands = SeesPoint-later before view later.run later.seen c.args.closest c.point-from.result looks.found;
      written = pair.found.written;
      cost_is = pair.found.cost;
    })
    clear c.hand_point-p.ensures c.cost.ensures.value

pub returns-clause-hangs : goal.returns-clause-hangs
returns-clause-hangs c =
    let before = c.point-from.new.pass.view in
    let old = c.tree-cost_to_come.new.pass in
    let looks = c.point-from.ensures in
    let pair = c.tree-cost_to_come.ensures in
    let later = pair.goes_on.later in
    let through = c.tree-cost_to_come.result.1 + c.cost.result in
    let steers =
    SteersFrom-looked c.args.pass.now.view before old.view c.args.closest _ _ _ _ looks.goes_on pair.goes_on looks.seen pair.seen
    (ap (λ p. p.view.hand) looks.view) (ap (λ p. p.view.hand) pair.view) c.requires.steers in
    let holds = c.requires.holds in
    let held = ap (λ p. p.view.hand) pair.view ∙ ap (λ p. p.view.hand) looks.view ∙ holds.held in
    let same : steers.hand ≡ holds.hand = cc (steers.held, held) in
    let unlinked : has_link steers.hand.stage ≡ false = ap (λ h. has_link h.stage) same ∙ ap has_link holds.stage_is in
    let own = ap (λ p. p.view.run) pair.view ∙ ap (λ p. p.view.run) looks.view ∙ holds.belongs.run in
    let clear = subst (λ space. Clear space c.point-from.result c.hand_point-p.result) c.requires.hall (c.clear.ensures.0 c.if-not-clear.false) in
    let is = at_hand (λ hand. c.hand_point-p.result ≡ hand.point) _ steers.hand steers.held c.hand_point-p.ensures in
    let made =
    at_hand
    (λ hand. c.write_tree.new.pass
    ≡ with_view old (treed (half old.view hand c.args.closest through) (record hand { stage = Half; parent = c.args.closest; cost = through })))
    _ steers.hand steers.held c.write_tree.ensures.view in
    HangsBelowNearest-hung old.view c.write_tree.new.pass.view c.write_tree.ensures.goes_on.later pair.goes_on.lawful
    (λ k. ap (λ p. sees p.view (RecordOf k)) made)
    c.args.shared.now c.args.closest through steers c.point-from.result c.hand_point-p.result own unlinked is
    (SeesPoint-later before old.view later.run later.seen c.args.closest c.point-from.result looks.found) clear (ap (λ p. p.view.hand) made)
