use Rattle.growing_tests.proofs.Words.{◌≡◌, ap, arith, subst, sym, ◌∙◌, All, IsBounded, at_hand, if_hand, IsBounded-hand, has_point, sight_in, IsInReach}
use Rattle.growing_tests.proofs.LoweredNodes.ReachedNodes.{All-in_reach}
use Rattle.growing_tests.proofs.rewiring.rewire.fill_near.Goals as goal

pub near-requires-clause-bounded : goal.near-requires-clause-bounded
near-requires-clause-bounded c =
    let holds = c.requires.holds in
    subst IsBounded (sym (at_hand (λ hand. c.hand_point-p.result ≡ hand.point) c.args.pass.now.view.hand holds.hand holds.held c.hand_point-p.ensures))
    (IsBounded-hand c.args.pass.now.view holds.hand holds.belongs.lawful holds.held (ap has_point holds.stage_is))

pub returns-clause-near : goal.returns-clause-near
returns-clause-near c =
    let holds = c.requires.holds in
    let after = c.near.new.pass in
    let near = c.near.ensures in
    let p_is = at_hand (λ hand. c.hand_point-p.result ≡ hand.point) c.args.pass.now.view.hand holds.hand holds.held c.hand_point-p.ensures in
    let all = All-in_reach (sight_in c.args.pass.now.view) after.view c.hand_point-p.result c.args.radius after.lists.near near.near
    (omega (arith, c.requires.short, ap (λ run. run.step) near.belongs.run)) in
    if_hand (λ hand. All (IsInReach after.view hand.point) after.lists.near) after.view.hand holds.hand (near.looks.kept.hand ∙ holds.held)
    (subst (λ p. All (IsInReach after.view p) after.lists.near) p_is all)
