use Rattle.plan_words.proofs.Words.{◌≡◌, ◌≢◌, Some, ap, subst, suc, sym, ◌∙◌, ◌==◌, IfSome, cond, HasLinked, IsLinkedAt, LeadsOn, with_view, SeesNode, counted}
use Rattle.plan_words.proofs.Words.{last_note, linked, loaded, note_before, LeadsTo, IsOnWayOf-found, ChildOf, Hand, Treed}
use Rattle.plan_words.proofs.GoingOn.{GoesOn-trans}
use Rattle.plan_words.proofs.HandSteps.{ChangesOnly-linked, ChangesOnly-met, ChangesOnly-met_node, IsLinkedAt-counted, at_hand}
use Rattle.plan_words.proofs.HandSteps.{child_met, leads_seen, linked_view, looked-linked, looked-met, met_view, some_hand}
use Rattle.plan_words.proofs.shared.Shared.link.Goals as goal
use Rattle.plan_words.proofs.shared.Shared.link.Goals.{After-count, After-put-child}

-- ---- a child was met

seen_node : (c : After-put-child) → SeesNode c.args.pass.now.view c.args.node
seen_node c =
    let view = c.args.pass.now.view in
    let of = some_hand view.hand c.requires.hand in
    leads_seen view of.0 c.args.node c.args.right c.put-child.ensures.goes_on.was_lawful
    (at_hand (λ h. LeadsTo view h.point c.args.node c.args.right) _ of.0 of.1 c.requires.leads)

met : (c : After-put-child) → c.put-child.result ≢ 0
    → c.put-child.new.pass.view ≡ loaded c.args.pass.now.view (ChildOf c.args.node c.args.right) c.put-child.result
met c some_child =
    let pass = c.args.pass.now in
    let found = c.put-child.result in
    let of = some_hand pass.view.hand c.requires.hand in
    met_view pass c.put-child.new.pass of.0 c.args.node c.args.right found some_child
    (at_hand (λ h. c.put-child.new.pass ≡ with_view pass
    (cond (found == 0) (linked pass.view h c.args.node c.args.right (last_note c.put-child.new.pass.view))
    (loaded pass.view (ChildOf c.args.node c.args.right) found)))
    _ of.0 of.1 c.put-child.ensures.view)

pub returns-then-child-ne0-clause-found : goal.returns-then-child-ne0-clause-found
returns-then-child-ne0-clause-found c =
    let at = (goal.at.returns-then-child-ne0-clause-found c).After-put-child in
    child_met c.args.pass.now.view _ c.args.node c.args.right c.put-child.result c.put-child.ensures.goes_on.was_lawful (seen_node at) c.if-child-ne0.true
    (met at c.if-child-ne0.true)

pub returns-then-child-ne0-clause-looked : goal.returns-then-child-ne0-clause-looked
returns-then-child-ne0-clause-looked c =
    let at = (goal.at.returns-then-child-ne0-clause-looked c).After-put-child in
    looked-met c.args.pass.now.view _ c.args.node c.args.right c.put-child.result c.put-child.ensures.goes_on.was_lawful (seen_node at) c.if-child-ne0.true
    (met at c.if-child-ne0.true)

pub returns-then-child-ne0-clause-deeper : goal.returns-then-child-ne0-clause-deeper
returns-then-child-ne0-clause-deeper c =
    let at = (goal.at.returns-then-child-ne0-clause-deeper c).After-put-child in
    let view = c.args.pass.now.view in
    let then = c.put-child.new.pass.view in
    let found = c.put-child.result in
    let of = some_hand view.hand c.requires.hand in
    let met_it = child_met view _ c.args.node c.args.right found c.put-child.ensures.goes_on.was_lawful (seen_node at) c.if-child-ne0.true
    (met at c.if-child-ne0.true) in
    subst (λ o. IfSome o (λ h. LeadsOn view then h.point c.args.node c.args.right found)) (sym of.1)
    (λ leads. IsOnWayOf-found view then c.put-child.ensures.goes_on.later of.0.point c.args.node found c.args.right leads met_it.0)

pub returns-then-child-ne0-clause-others : goal.returns-then-child-ne0-clause-others
returns-then-child-ne0-clause-others c =
    let at = (goal.at.returns-then-child-ne0-clause-others c).After-put-child in
    ChangesOnly-met_node c.args.pass.now.view _ c.args.node c.args.right c.put-child.result c.put-child.ensures.goes_on.was_lawful (seen_node at)
    c.if-child-ne0.true (met at c.if-child-ne0.true)

pub returns-then-child-ne0-clause-others_found : goal.returns-then-child-ne0-clause-others_found
returns-then-child-ne0-clause-others_found c =
    let at = (goal.at.returns-then-child-ne0-clause-others_found c).After-put-child in
    ChangesOnly-met c.args.pass.now.view _ c.args.node c.args.right c.put-child.result c.put-child.ensures.goes_on.was_lawful (seen_node at)
    c.if-child-ne0.true (met at c.if-child-ne0.true)

pub returns-then-child-ne0-clause-whole : goal.returns-then-child-ne0-clause-whole
returns-then-child-ne0-clause-whole c all none = absurd (c.if-child-ne0.true (c.put-child.ensures.whole all ∙ none))

-- ---- the node was linked

linked_is : (c : After-count) → c.put-child.result ≡ 0 → (hand : Hand) → c.args.pass.now.view.hand ≡ Some hand
    → c.count.new.pass.view ≡ counted (linked c.args.pass.now.view hand c.args.node c.args.right (note_before c.count.new.pass.view 1).steps) hand
    (note_before c.count.new.pass.view 0).word (last_note c.count.new.pass.view)
linked_is c none hand held =
    let pass = c.args.pass.now in
    let new = c.count.new.pass in
    ap (λ p. p.view) (at_hand (HasLinked pass new c.args.node c.args.right) _ hand held
    (linked_view pass c.put-child.new.pass new c.args.node c.args.right c.put-child.result none c.put-child.ensures.view c.count.ensures.view))

treed : (c : After-count) → (hand : Hand) → c.args.pass.now.view.hand ≡ Some hand → hand.stage ≡ Treed
treed c hand held = at_hand (λ h. h.stage ≡ Treed) _ hand held c.requires.treed

leads_there : (c : After-count) → (hand : Hand) → c.args.pass.now.view.hand ≡ Some hand
    → LeadsTo c.args.pass.now.view hand.point c.args.node c.args.right
leads_there c hand held = at_hand (λ h. LeadsTo c.args.pass.now.view h.point c.args.node c.args.right) _ hand held c.requires.leads

placed : (c : After-count) → c.put-child.result ≡ 0 → (hand : Hand) → c.args.pass.now.view.hand ≡ Some hand
    → IsLinkedAt c.count.new.pass.view c.args.node c.args.right hand
placed c none hand held =
    IsLinkedAt-counted c.args.pass.now.view c.count.new.pass.view hand c.args.node c.args.right _ _ _ c.put-child.ensures.goes_on.was_lawful held
    (treed c hand held) (leads_there c hand held) (linked_is c none hand held)

pub returns-clause-goes_on : goal.returns-clause-goes_on
returns-clause-goes_on c = GoesOn-trans _ _ _ c.put-child.ensures.goes_on c.count.ensures.goes_on

pub returns-clause-linked : goal.returns-clause-linked
returns-clause-linked c =
    let of = some_hand c.args.pass.now.view.hand c.requires.hand in
    subst (λ o. IfSome o (λ h. IsLinkedAt c.count.new.pass.view c.args.node c.args.right h)) (sym of.1)
    (placed (goal.at.returns-clause-linked c).After-count c.if-child-ne0.false of.0 of.1)

pub returns-clause-on_way : goal.returns-clause-on_way
returns-clause-on_way c =
    let view = c.args.pass.now.view in
    let then = c.count.new.pass.view in
    let of = some_hand view.hand c.requires.hand in
    let child = (placed (goal.at.returns-clause-on_way c).After-count c.if-child-ne0.false of.0 of.1).child in
    let goes_on = GoesOn-trans _ _ _ c.put-child.ensures.goes_on c.count.ensures.goes_on in
    subst (λ o. IfSome o (λ h. LeadsOn view then h.point c.args.node c.args.right (suc h.mark))) (sym of.1)
    (λ leads. IsOnWayOf-found view then goes_on.later of.0.point c.args.node (suc of.0.mark) c.args.right leads child)

pub returns-clause-others : goal.returns-clause-others
returns-clause-others c =
    let at = (goal.at.returns-clause-others c).After-count in
    let of = some_hand c.args.pass.now.view.hand c.requires.hand in
    ChangesOnly-linked c.args.pass.now.view c.count.new.pass.view of.0 c.args.node c.args.right _ _ _ c.put-child.ensures.goes_on.was_lawful of.1
    (treed at of.0 of.1) (leads_there at of.0 of.1) (linked_is at c.if-child-ne0.false of.0 of.1)

pub returns-clause-looked : goal.returns-clause-looked
returns-clause-looked c =
    let at = (goal.at.returns-clause-looked c).After-count in
    let of = some_hand c.args.pass.now.view.hand c.requires.hand in
    looked-linked c.args.pass.now.view c.count.new.pass.view of.0 c.args.node c.args.right _ _ _ c.put-child.ensures.goes_on.was_lawful of.1
    (treed at of.0 of.1) (leads_there at of.0 of.1) (linked_is at c.if-child-ne0.false of.0 of.1)
