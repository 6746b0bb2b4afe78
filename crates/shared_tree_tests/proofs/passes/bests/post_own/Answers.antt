use Rattle.shared_tree_tests.proofs.Words.{◌≡◌, ◌+◌, ◌≤◌, ◌^◌, suc, ap, arith, refl, subst, sym, true, ◌∙◌, lies_in_goals, IsPresent-stands, TreeOf, at_hand}
use Rattle.shared_tree_tests.proofs.Words.{HoldsMark, MayPost, SeesNode, sees, tree_seen, Counted}
use Rattle.shared_tree_tests.proofs.HeldPasses.FirstRecords.{HangsFromStart-kept}
use Rattle.shared_tree_tests.proofs.HeldPasses.HeldMarks.{HoldsMark-kept}
use Rattle.shared_tree_tests.proofs.HeldPasses.InformedMarks.{HangsFromStart-posted, MayPost-own, lies_here, own_stands}
use Rattle.shared_tree_tests.proofs.passes.bests.post_own.Given.{Over}
use Rattle.shared_tree_tests.proofs.passes.bests.post_own.Goals as goal
use Rattle.shared_tree_tests.proofs.passes.bests.post_own.Goals.{After-tree-at}

pub tree-at-requires-clause-seen_node : goal.tree-at-requires-clause-seen_node
tree-at-requires-clause-seen_node g c =
    let view = c.args.pass.now.view in
    let holds = c.requires.holds in
    let stands = own_stands view holds.hand holds.belongs.lawful holds.held holds.stage_is in
    let own : suc holds.hand.mark ≡ c.args.mark + 1 = omega (arith, holds.mark) in
    subst (SeesNode view) own
    (holds.belongs.lawful.tree.rooted.points (suc holds.hand.mark) (IsPresent-stands (tree_seen view).points (suc holds.hand.mark) holds.hand.point stands))

-- the mark stays in hand while its tree word is loaded
holds_mid : (g : Over) (c : After-tree-at g) → HoldsMark c.args.shared.now c.args.mark Counted c.tree-at.new.pass
holds_mid g c =
    HoldsMark-kept c.args.shared.now c.args.mark Counted c.args.pass.now c.tree-at.new.pass _ c.tree-at.ensures.view refl
    c.tree-at.ensures.goes_on c.requires.holds

-- and its point lies in a goal
lies : (g : Over) (c : After-tree-at g) → lies_in_goals c.args.shared.now.task.scene.goals c.requires.holds.hand.point ≡ true
lies g c =
    let holds = c.requires.holds in
    let point = at_hand (λ hand. c.hand_point.result ≡ hand.point) _ holds.hand holds.held c.hand_point.ensures in
    ap (λ goals. lies_in_goals goals holds.hand.point) (sym (c.as_slice.ensures ∙ ap (λ t. t.scene.goals) c.task.ensures))
    ∙ ap (lies_in_goals c.as_slice.result.now) (sym point) ∙ sym c.lies_in_goals.ensures ∙ c.if-not-lies_in_goals.false

pub post-requires-clause-may : goal.post-requires-clause-may
post-requires-clause-may g c =
    let at = (goal.at.post-requires-clause-may g c).After-tree-at in
    let view = c.tree-at.new.pass.view in
    let belongs = (holds_mid g at).belongs in
    let holds = c.requires.holds in
    let own : suc holds.hand.mark ≡ c.args.mark + 1 = omega (arith, holds.mark) in
    subst (MayPost view) own
    (MayPost-own view holds.hand belongs.lawful (ap (λ p. p.view.hand) c.tree-at.ensures.view ∙ holds.held) holds.stage_is
    (lies_here c.args.shared.now view holds.hand belongs.run (ap (λ t. t.scene.informed) (sym c.task.ensures) ∙ c.if-not-scene.false) (lies g at))
    (subst (λ n. 2 ^ 63 ≤ sees view (TreeOf n)) (sym own) c.tree-at.ensures.found.written))

pub returns-clause-hangs : goal.returns-clause-hangs
returns-clause-hangs g c =
    let mid = c.tree-at.new.pass in
    let holds = holds_mid g (goal.at.returns-clause-hangs g c).After-tree-at in
    HangsFromStart-posted c.args.shared.now c.args.mark (c.args.mark + 1) mid c.post.new.pass holds (omega (arith, holds.mark)) c.post.ensures.view
    c.post.ensures.goes_on c.args.cost
    (HangsFromStart-kept c.args.pass.now.view mid.view c.tree-at.ensures.goes_on.later c.args.cost c.requires.hangs
    (ap (λ p. p.view.hand) c.tree-at.ensures.view))
