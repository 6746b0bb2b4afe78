use Rattle.plan_words.proofs.Words.{◌≡◌, ◌≢◌, ap, arith, subst, sym, ◌∙◌, is_some, MayLower, sees, TreeOf}
use Rattle.plan_words.proofs.LookedNodes.{IsEdgeSeen-pair}
use Rattle.plan_words.proofs.LoweredNodes.{found_less, found_pair, found_pass, found_writes, lowered_less, lowered_pass, lowered_writes}
use Rattle.plan_words.proofs.shared.Shared.lower_pair.Goals as goal
use Rattle.plan_words.proofs.shared.Shared.lower_pair.Goals.{After-word-seen}

pub word-seen-requires : goal.word-seen-requires
word-seen-requires c =
    let lawful = c.pass.invariant.1.lawful in
    let may = subst (λ p. MayLower p.view c.args.node c.args.parent c.args.cost) (sym c.pass.view_is) c.requires.may in
    let node = lawful.tree.rooted.points c.args.node (ap is_some may.seen.stands) in
    omega (arith, c.pass.invariant.3.for_each, lawful.within c.args.node node)

-- the list has the word as it was seen last
seen_there : (c : After-word-seen) → c.word-seen.result ≡ sees c.args.pass.now.view (TreeOf c.args.node)
seen_there c =
    let lawful = c.pass.invariant.1.lawful in
    let may = subst (λ p. MayLower p.view c.args.node c.args.parent c.args.cost) (sym c.pass.view_is) c.requires.may in
    let within = lawful.within c.args.node (lawful.tree.rooted.points c.args.node (ap is_some may.seen.stands)) in
    c.word-seen.ensures ∙ c.pass.invariant.3.seen c.args.node within ∙ ap (λ p. sees p.view (TreeOf c.args.node)) c.pass.view_is

pub returns-then-found-seen-clause-view : goal.returns-then-found-seen-clause-view
returns-then-found-seen-clause-view c =
    let seen = seen_there (goal.at.returns-then-found-seen-clause-view c).After-word-seen in
    lowered_pass _ _ c.args.node c.args.parent c.args.cost _ c.requires.belongs.lawful c.requires.may c.exchange_tree-found.ensures.view
    (c.if-found-seen.true ∙ seen)

pub returns-then-found-seen-clause-seen : goal.returns-then-found-seen-clause-seen
returns-then-found-seen-clause-seen c =
    let seen = seen_there (goal.at.returns-then-found-seen-clause-seen c).After-word-seen in
    lowered_writes _ _ c.args.node c.args.parent c.args.cost _ c.requires.belongs.lawful c.requires.may c.exchange_tree-found.ensures.view
    (c.if-found-seen.true ∙ seen)

pub returns-then-found-seen-clause-falls : goal.returns-then-found-seen-clause-falls
returns-then-found-seen-clause-falls c =
    let seen = seen_there (goal.at.returns-then-found-seen-clause-falls c).After-word-seen in
    lowered_less _ _ c.args.node c.args.parent c.args.cost _ c.requires.belongs.lawful c.requires.may c.exchange_tree-found.ensures.view
    (c.if-found-seen.true ∙ seen)

pub returns-clause-view_found : goal.returns-clause-view_found
returns-clause-view_found c =
    let seen = seen_there (goal.at.returns-clause-view_found c).After-word-seen in
    let other : c.exchange_tree-found.result ≢ sees c.args.pass.now.view (TreeOf c.args.node) = λ same. c.if-found-seen.false (same ∙ sym seen) in
    found_pass _ _ c.args.node c.args.parent c.args.cost _ c.requires.belongs.lawful c.requires.may c.exchange_tree-found.ensures.view other
    (c.exchange_tree-found.ensures.found other)

pub returns-clause-found : goal.returns-clause-found
returns-clause-found c =
    let seen = seen_there (goal.at.returns-clause-found c).After-word-seen in
    let other : c.exchange_tree-found.result ≢ sees c.args.pass.now.view (TreeOf c.args.node) = λ same. c.if-found-seen.false (same ∙ sym seen) in
    found_pair _ _ c.args.node c.args.parent c.args.cost _ c.requires.belongs.lawful c.requires.may c.exchange_tree-found.ensures.view other
    (c.exchange_tree-found.ensures.found other) c.pair_in.result
    c.pair_in.ensures.parent c.pair_in.ensures.cost

pub returns-clause-edge_found : goal.returns-clause-edge_found
returns-clause-edge_found c = IsEdgeSeen-pair _ _ c.args.node _ c.exchange_tree-found.ensures.goes_on (returns-clause-found c)

pub returns-clause-seen : goal.returns-clause-seen
returns-clause-seen c =
    let seen = seen_there (goal.at.returns-clause-seen c).After-word-seen in
    let other : c.exchange_tree-found.result ≢ sees c.args.pass.now.view (TreeOf c.args.node) = λ same. c.if-found-seen.false (same ∙ sym seen) in
    found_writes _ _ c.args.node c.args.parent c.args.cost _ c.requires.belongs.lawful c.requires.may c.exchange_tree-found.ensures.view other
    (c.exchange_tree-found.ensures.found other)

pub returns-clause-falls : goal.returns-clause-falls
returns-clause-falls c =
    let seen = seen_there (goal.at.returns-clause-falls c).After-word-seen in
    let other : c.exchange_tree-found.result ≢ sees c.args.pass.now.view (TreeOf c.args.node) = λ same. c.if-found-seen.false (same ∙ sym seen) in
    found_less _ _ c.args.node c.args.parent c.args.cost _ c.requires.belongs.lawful c.requires.may c.exchange_tree-found.ensures.view other
    (c.exchange_tree-found.ensures.found other)

pub returns-clause-whole : goal.returns-clause-whole
returns-clause-whole c all =
    let seen = seen_there (goal.at.returns-clause-whole c).After-word-seen in
    absurd (c.if-found-seen.false (c.exchange_tree-found.ensures.whole all ∙ sym seen))
