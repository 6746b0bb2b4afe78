use Rattle.plan_words.proofs.KeptPairs.{keeps_saw}
use Rattle.plan_words.proofs.Words.{◌≡◌, ◌<◌, ◌≤◌, Some, ap, sym, subst, refl, ◌∙◌, arith, MatchOption, child_of_word, ChildOf, place_of, SeesNode, last_zero}
use Rattle.plan_words.proofs.Words.{tree_seen}
use Rattle.plan_words.proofs.LookedNodes.{child_fits, child_found, place_here, seen_low}
use Rattle.plan_words.proofs.Owning.{found_whole, looks_told, may_load_here, same_run, same_table, sees_told}
use Rattle.plan_words.proofs.shared.Shared.child_or_start.Goals as goal

pub child-place-requires : goal.child-place-requires
child-place-requires c =
    let own = same_run _ _ _ _ c.pass.view_is c.self.view_is c.requires.belongs in
    let seen = subst (λ p. SeesNode p.view c.args.node) (sym c.pass.view_is) c.requires.seen_node in
    subst (λ s. c.args.node ≤ s.marks) (sym c.self.invariant.places_are) (seen_low _ _ c.args.node c.pass.invariant.1.lawful own seen)

pub load-requires : goal.load-requires
load-requires c =
    let same = same_table _ _ _ _ c.pass.view_is c.self.view_is c.requires.belongs in
    let own = same_run _ _ _ _ c.pass.view_is c.self.view_is c.requires.belongs in
    let seen = subst (λ p. SeesNode p.view c.args.node) (sym c.pass.view_is) c.requires.seen_node in
    let low = seen_low _ _ c.args.node c.pass.invariant.1.lawful own seen in
    let place = c.child-place.ensures ∙ ap (λ s. place_of s (ChildOf c.args.node c.args.right)) c.self.invariant.places_are in
    may_load_here _ _ _ _ c.self.invariant _ _ _ _ (ChildOf c.args.node c.args.right) same own low seen place

pub overflow_cast-result : goal.overflow_cast-result
overflow_cast-result c =
    let own = same_run _ _ _ _ c.pass.view_is c.self.view_is c.requires.belongs in
    let seen = subst (λ p. SeesNode p.view c.args.node) (sym c.pass.view_is) c.requires.seen_node in
    let place = place_here c.self.inside.places _ c.pass.inside.seat.me.0
    (ChildOf c.args.node c.args.right) _ c.self.invariant.places_are own c.child-place.ensures in
    let few = child_fits _ _ c.args.node c.args.right _ _ c.pass.invariant.1.lawful seen place refl c.load.ensures.2.told.goes_on.lawful in
    omega (arith, few)

pub returns-clause-seen : goal.returns-clause-seen
returns-clause-seen c =
    let own = same_run _ _ _ _ c.pass.view_is c.self.view_is c.requires.belongs in
    let seen = subst (λ p. SeesNode p.view c.args.node) (sym c.pass.view_is) c.requires.seen_node in
    let lawful = c.pass.invariant.1.lawful in
    let place = place_here c.self.inside.places _ c.pass.inside.seat.me.0
    (ChildOf c.args.node c.args.right) _ c.self.invariant.places_are own c.child-place.ensures in
    sees_told _ _ _ (ChildOf c.args.node c.args.right) _ _ (ap (λ p. p.view) c.pass.view_is) lawful (lawful.within c.args.node seen) place
    c.load.ensures.2.told.view_is

pub returns-clause-looked : goal.returns-clause-looked
returns-clause-looked c =
    let own = same_run _ _ _ _ c.pass.view_is c.self.view_is c.requires.belongs in
    let seen = subst (λ p. SeesNode p.view c.args.node) (sym c.pass.view_is) c.requires.seen_node in
    let lawful = c.pass.invariant.1.lawful in
    let place = place_here c.self.inside.places _ c.pass.inside.seat.me.0
    (ChildOf c.args.node c.args.right) _ c.self.invariant.places_are own c.child-place.ensures in
    looks_told _ _ _ (ChildOf c.args.node c.args.right) _ _ (ap (λ p. p.view) c.pass.view_is) lawful (lawful.within c.args.node seen) place
    c.load.ensures.2.told.view_is

pub returns-clause-found : goal.returns-clause-found
returns-clause-found c =
    let own = same_run _ _ _ _ c.pass.view_is c.self.view_is c.requires.belongs in
    let seen = subst (λ p. SeesNode p.view c.args.node) (sym c.pass.view_is) c.requires.seen_node in
    let place = place_here c.self.inside.places _ c.pass.inside.seat.me.0
    (ChildOf c.args.node c.args.right) _ c.self.invariant.places_are own c.child-place.ensures in
    let then = c.load.new.seat.me.0 in
    subst
    (λ p. MatchOption (child_of_word c.load.result) (p.view.steps < last_zero then (ChildOf c.args.node c.args.right))
    (λ child. ((tree_seen then).child c.args.node c.args.right ≡ Some child) × SeesNode then child))
    c.pass.view_is
    (child_found _ then c.args.node c.args.right _ _ c.pass.invariant.1.lawful seen place c.load.ensures.2.told.view_is)

pub invariant_of-pass : goal.invariant_of-pass
invariant_of-pass c =
    let own = same_run _ _ _ _ c.pass.view_is c.self.view_is c.requires.belongs in
    let seen = subst (λ p. SeesNode p.view c.args.node) (sym c.pass.view_is) c.requires.seen_node in
    let place = place_here c.self.inside.places _ c.pass.inside.seat.me.0
    (ChildOf c.args.node c.args.right) _ c.self.invariant.places_are own c.child-place.ensures in
    keeps_saw c.pass.inside.seat.me c.load.new.seat.me _ _ _ _ _ _ c.pass.inside.pairs (ChildOf c.args.node c.args.right) _ _ _ c.load.ensures.2.told
    c.pass.invariant (c.pass.invariant.1.lawful.within c.args.node seen) place (λ n e. cc)

pub returns-clause-whole : goal.returns-clause-whole
returns-clause-whole c all =
    let own = same_run _ _ _ _ c.pass.view_is c.self.view_is c.requires.belongs in
    let seen = subst (λ p. SeesNode p.view c.args.node) (sym c.pass.view_is) c.requires.seen_node in
    let view = c.pass.inside.seat.me.0 in
    let place = place_here c.self.inside.places _ view (ChildOf c.args.node c.args.right) _ c.self.invariant.places_are own c.child-place.ensures in
    found_whole _ _ (ChildOf c.args.node c.args.right) _ _ (ap (λ p. p.view) c.pass.view_is) c.load.ensures.2.whole (λ e. cc) seen place all
