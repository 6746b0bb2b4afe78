use Rattle.growing_tests.proofs.Words.{◌≡◌, ℕ, ap, arith, length, refl, subst, sym, ◌∙◌, All, IfSome, All-head, Point, Clear, space_of, point_of-stands}
use Rattle.growing_tests.proofs.Words.{PassState, SharedState, with_view, at_hand, if_hand, has_point, half, treed, MayHang, tree_seen, Hand, Half, Pointed}
use Rattle.growing_tests.proofs.Words.{Treed, IsInReach, SeesPair, IsInReach-later, points_later, HoldsMark}
use Rattle.growing_tests.proofs.LoweredNodes.ReachedNodes.{All-in_reach-later, IsInReach-nearest, MayHang-chosen}
use Rattle.growing_tests.proofs.rewiring.rewire.hang.Goals as goal

-- the point in hand is read
p_is : {shared : SharedState} {k nearest : ℕ} {pass : PassState} {p : Point} (holds : HoldsMark shared k Pointed nearest pass)
    → IfSome pass.view.hand (λ hand. p ≡ hand.point) → p ≡ holds.hand.point
p_is {pass = pass} {p = p} holds read = at_hand (λ hand. p ≡ hand.point) pass.view.hand holds.hand holds.held read

-- its nearest node is in reach
reach : {shared : SharedState} {k nearest : ℕ} {pass : PassState} {p : Point} (holds : HoldsMark shared k Pointed nearest pass)
    → IfSome pass.view.hand (λ hand. p ≡ hand.point) → IsInReach pass.view p nearest
reach {pass = pass} {p = p} holds read =
    subst (IsInReach pass.view p) holds.nearest_is
    (subst (λ q. IsInReach pass.view q holds.hand.nearest) (sym (p_is holds read))
    (IsInReach-nearest pass.view holds.hand holds.belongs.lawful holds.held (ap has_point holds.stage_is)))

pub point-from-requires-clause-seen_node : goal.point-from-requires-clause-seen_node
point-from-requires-clause-seen_node c =
    c.requires.holds.belongs.lawful.tree.rooted.points c.args.nearest (reach c.requires.holds c.hand_point-p.ensures).present

pub choose-parent-requires-clause-nearest : goal.choose-parent-requires-clause-nearest
choose-parent-requires-clause-nearest c κs =
    IsInReach-later c.args.pass.now.view c.point-from.new.pass.view c.hand_point-p.result c.args.nearest c.point-from.ensures.goes_on
    (reach c.requires.holds c.hand_point-p.ensures)

pub choose-parent-requires-clause-clear : goal.choose-parent-requires-clause-clear
choose-parent-requires-clause-clear c κs =
    let space = space_of c.args.shared.now.task.scene in
    let free = subst (λ s. Clear s c.point-from.result c.hand_point-p.result) c.requires.hall (c.clear.ensures.0 c.if-not-clear.false) in
    subst (λ q. Clear space q c.hand_point-p.result)
    (sym (point_of-stands (tree_seen c.point-from.new.pass.view).points c.args.nearest c.point-from.result c.point-from.ensures.found)) free

pub choose-parent-requires-clause-near : goal.choose-parent-requires-clause-near
choose-parent-requires-clause-near c κs =
    let holds = c.requires.holds in
    let before = c.args.pass.now in
    let all = at_hand (λ hand. All (IsInReach before.view hand.point) before.lists.near) before.view.hand holds.hand holds.held c.requires.near in
    All-in_reach-later before.view c.point-from.new.pass.view c.hand_point-p.result before.lists.near c.point-from.new.pass.lists.near
    c.point-from.ensures.goes_on
    (ap (λ (s : PassState). s.lists.near) c.point-from.ensures.view)
    (subst (λ p. All (IsInReach before.view p) before.lists.near) (sym (p_is c.requires.holds c.hand_point-p.ensures)) all)

pub write_tree-requires-clause-may : goal.write_tree-requires-clause-may
write_tree-requires-clause-may c =
    let holds = c.requires.holds in
    let mid = c.point-from.new.pass in
    let now = c.choose-parent.new.pass in
    let choice = c.choose-parent.ensures in
    let space = space_of c.args.shared.now.task.scene in
    let near_reach = IsInReach-later c.args.pass.now.view mid.view c.hand_point-p.result c.args.nearest c.point-from.ensures.goes_on
    (reach c.requires.holds c.hand_point-p.ensures) in
    let held = choice.seen.held (λ no. no) ∙ ap (λ (s : PassState). s.view.hand) c.point-from.ensures.view ∙ holds.held in
    let free = subst (λ s. Clear s c.point-from.result c.hand_point-p.result) c.requires.hall (c.clear.ensures.0 c.if-not-clear.false) in
    let from_is = points_later mid.view now.view c.args.nearest choice.seen.goes_on near_reach.present
    ∙ point_of-stands (tree_seen mid.view).points c.args.nearest c.point-from.result c.point-from.ensures.found in
    if_hand (λ hand. MayHang now.view hand c.choose-parent.result.0 c.choose-parent.result.1) now.view.hand holds.hand held
    (MayHang-chosen now.view space holds.hand c.hand_point-p.result c.args.nearest mid.lists.near c.choose-parent.result.0 c.choose-parent.result.1
    (p_is c.requires.holds c.hand_point-p.ensures) (sym holds.nearest_is)
    (IsInReach-later mid.view now.view c.hand_point-p.result c.args.nearest choice.seen.goes_on near_reach).present
    (All-head (SeesPair now.view) c.args.nearest mid.lists.near choice.pairs) (subst (λ q. Clear space q c.hand_point-p.result) (sym from_is) free) choice.least
    choice.cost choice.below)

pub returns-clause-near : goal.returns-clause-near
returns-clause-near c =
    let holds = c.requires.holds in
    let before = c.args.pass.now in
    let mid = c.point-from.new.pass in
    let now = c.choose-parent.new.pass in
    let after = c.write_tree.new.pass in
    let choice = c.choose-parent.ensures in
    let held = choice.seen.held (λ no. no) ∙ ap (λ (s : PassState). s.view.hand) c.point-from.ensures.view ∙ holds.held in
    let hung : Hand = record holds.hand { stage = Treed; parent = c.choose-parent.result.0; cost = c.choose-parent.result.1 } in
    let is = at_hand
    (λ hand. after ≡ with_view now
    (treed (half now.view hand c.choose-parent.result.0 c.choose-parent.result.1)
    (record hand { stage = Half; parent = c.choose-parent.result.0; cost = c.choose-parent.result.1 })))
    now.view.hand holds.hand held c.write_tree.ensures.view in
    let all = at_hand (λ hand. All (IsInReach before.view hand.point) before.lists.near) before.view.hand holds.hand holds.held c.requires.near in
    if_hand (λ hand. All (IsInReach after.view hand.point) after.lists.near) after.view.hand hung (ap (λ (s : PassState). s.view.hand) is)
    (All-in_reach-later now.view after.view holds.hand.point now.lists.near after.lists.near c.write_tree.ensures.goes_on
    (ap (λ (s : PassState). s.lists.near) is)
    (All-in_reach-later mid.view now.view holds.hand.point mid.lists.near now.lists.near choice.seen.goes_on
    (ap (λ (s : PassState). s.lists.near) choice.view_alone)
    (All-in_reach-later before.view mid.view holds.hand.point before.lists.near mid.lists.near c.point-from.ensures.goes_on
    (ap (λ (s : PassState). s.lists.near) c.point-from.ensures.view) all)))

pub returns-clause-holds : goal.returns-clause-holds
returns-clause-holds c =
    let holds = c.requires.holds in
    let now = c.choose-parent.new.pass in
    let after = c.write_tree.new.pass in
    let choice = c.choose-parent.ensures in
    let held = choice.seen.held (λ no. no) ∙ ap (λ (s : PassState). s.view.hand) c.point-from.ensures.view ∙ holds.held in
    let is = at_hand
    (λ hand. after ≡ with_view now
    (treed (half now.view hand c.choose-parent.result.0 c.choose-parent.result.1)
    (record hand { stage = Half; parent = c.choose-parent.result.0; cost = c.choose-parent.result.1 })))
    now.view.hand holds.hand held c.write_tree.ensures.view in
    let crew = ap (λ (s : PassState). s.view.crew) is ∙ choice.seen.kept.crew ∙ ap (λ (s : PassState). s.view.crew) c.point-from.ensures.view in
    record {
      belongs = record {
        table = ap (λ (s : PassState). s.table) is ∙ choice.belongs.table;
        run = ap (λ (s : PassState). s.view.run) is ∙ choice.belongs.run;
        lawful = c.write_tree.ensures.goes_on.lawful;
      };
      part = omega (arith, holds.part, ap (λ crew. length crew) crew);
      hand = record holds.hand { stage = Treed; parent = c.choose-parent.result.0; cost = c.choose-parent.result.1 };
      held = ap (λ (s : PassState). s.view.hand) is;
      mark = holds.mark;
      stage_is = refl;
      nearest_is = holds.nearest_is;
    }
