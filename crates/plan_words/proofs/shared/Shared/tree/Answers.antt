use Rattle.plan_words.proofs.Words.{◌<◌, ◌≤◌, length, ap, arith, subst, sym, ◌∙◌, loaded, saw_at, SeesNode, sees, WritesWord, TreeOf, place_of}
use Rattle.plan_words.proofs.KeptPairs.{keeps_pair, keeps_parent}
use Rattle.plan_words.proofs.LookedNodes.{IsEdgeSeen-pair, pair_found, pair_not_above, place_here, seen_low, tree_word_seen}
use Rattle.plan_words.proofs.Owning.{found_whole, goes_on_told, looks_told, may_load_here, same_run, same_table, sees_told, with_view_told}
use Rattle.plan_words.proofs.shared.Shared.tree.Goals as goal

pub tree-place-requires : goal.tree-place-requires
tree-place-requires c =
    let own = same_run _ _ _ _ c.pass.view_is c.self.view_is c.requires.belongs in
    let seen = subst (λ p. SeesNode p.view c.args.node) (sym c.pass.view_is) c.requires.seen_node in
    subst (λ s. c.args.node ≤ s.marks) (sym c.self.invariant.places_are) (seen_low _ _ c.args.node c.pass.invariant.1.lawful own seen)

pub load-word-requires : goal.load-word-requires
load-word-requires c =
    let same = same_table _ _ _ _ c.pass.view_is c.self.view_is c.requires.belongs in
    let own = same_run _ _ _ _ c.pass.view_is c.self.view_is c.requires.belongs in
    let seen = subst (λ p. SeesNode p.view c.args.node) (sym c.pass.view_is) c.requires.seen_node in
    let low = seen_low _ _ c.args.node c.pass.invariant.1.lawful own seen in
    let place = c.tree-place.ensures ∙ ap (λ s. place_of s (TreeOf c.args.node)) c.self.invariant.places_are in
    may_load_here _ _ _ _ c.self.invariant _ _ _ _ (TreeOf c.args.node) same own low seen place

pub set-requires : goal.set-requires
set-requires c =
    let own = same_run _ _ _ _ c.pass.view_is c.self.view_is c.requires.belongs in
    let seen = subst (λ p. SeesNode p.view c.args.node) (sym c.pass.view_is) c.requires.seen_node in
    let place = place_here c.self.inside.places _ c.pass.inside.seat.me.0 (TreeOf c.args.node) _ c.self.invariant.places_are own c.tree-place.ensures in
    let within = c.pass.invariant.1.lawful.within c.args.node seen in
    let low : c.args.node < length c.pass.inside.pairs = omega (arith, c.pass.invariant.3.for_each, within) in
    record {
      node = low;
      parent =
          keeps_parent c.load-word.new.seat.me _ _ _ _ _ _ c.pass.inside.pairs c.args.node _
          (keeps_pair c.pass.inside.seat.me c.load-word.new.seat.me _ _ _ _ _ _ c.pass.inside.pairs c.args.node _ _ _ c.load-word.ensures.2.told
          c.pass.invariant within place) low;
    }

pub invariant_of-pass : goal.invariant_of-pass
invariant_of-pass c =
    let own = same_run _ _ _ _ c.pass.view_is c.self.view_is c.requires.belongs in
    let seen = subst (λ p. SeesNode p.view c.args.node) (sym c.pass.view_is) c.requires.seen_node in
    let place = place_here c.self.inside.places _ c.pass.inside.seat.me.0 (TreeOf c.args.node) _ c.self.invariant.places_are own c.tree-place.ensures in
    rw c.set.ensures
    (keeps_pair c.pass.inside.seat.me c.load-word.new.seat.me _ _ _ _ _ _ c.pass.inside.pairs c.args.node _ _ _ c.load-word.ensures.2.told c.pass.invariant
    (c.pass.invariant.1.lawful.within c.args.node seen) place)

pub returns-clause-view : goal.returns-clause-view
returns-clause-view c =
    let own = same_run _ _ _ _ c.pass.view_is c.self.view_is c.requires.belongs in
    let seen = subst (λ p. SeesNode p.view c.args.node) (sym c.pass.view_is) c.requires.seen_node in
    let place = place_here c.self.inside.places _ c.pass.inside.seat.me.0 (TreeOf c.args.node) _ c.self.invariant.places_are own c.tree-place.ensures in
    let told = c.load-word.ensures.2.told in
    let x = c.load-word.result in
    let then = c.load-word.new.seat.me.0 in
    let word = tree_word_seen _ then c.args.node _ x c.pass.invariant.1.lawful seen place told.view_is in
    with_view_told _ _ _ then (λ v. loaded v (TreeOf c.args.node) (sees then (TreeOf c.args.node))) c.pass.view_is c.load-word.ensures.0
    (told.view_is ∙ ap (λ n. saw_at c.pass.inside.seat.me.0 n x x) place ∙ ap (λ w. loaded c.pass.inside.seat.me.0 (TreeOf c.args.node) w) (sym word))

pub returns-clause-seen : goal.returns-clause-seen
returns-clause-seen c =
    let own = same_run _ _ _ _ c.pass.view_is c.self.view_is c.requires.belongs in
    let seen = subst (λ p. SeesNode p.view c.args.node) (sym c.pass.view_is) c.requires.seen_node in
    let lawful = c.pass.invariant.1.lawful in
    let place = place_here c.self.inside.places _ c.pass.inside.seat.me.0 (TreeOf c.args.node) _ c.self.invariant.places_are own c.tree-place.ensures in
    let told = c.load-word.ensures.2.told in
    let word = tree_word_seen _ c.load-word.new.seat.me.0 c.args.node _ _ lawful seen place told.view_is in
    subst (λ w. WritesWord (TreeOf c.args.node) w (sees c.args.pass.now.view) (sees c.load-word.new.seat.me.0)) (sym word)
    (sees_told _ _ _ (TreeOf c.args.node) _ _ (ap (λ p. p.view) c.pass.view_is) lawful (lawful.within c.args.node seen) place told.view_is)

pub returns-clause-looked : goal.returns-clause-looked
returns-clause-looked c =
    let own = same_run _ _ _ _ c.pass.view_is c.self.view_is c.requires.belongs in
    let seen = subst (λ p. SeesNode p.view c.args.node) (sym c.pass.view_is) c.requires.seen_node in
    let lawful = c.pass.invariant.1.lawful in
    let place = place_here c.self.inside.places _ c.pass.inside.seat.me.0 (TreeOf c.args.node) _ c.self.invariant.places_are own c.tree-place.ensures in
    looks_told _ _ _ (TreeOf c.args.node) _ _ (ap (λ p. p.view) c.pass.view_is) lawful (lawful.within c.args.node seen) place
    c.load-word.ensures.2.told.view_is

pub returns-clause-found : goal.returns-clause-found
returns-clause-found c =
    let own = same_run _ _ _ _ c.pass.view_is c.self.view_is c.requires.belongs in
    let seen = subst (λ p. SeesNode p.view c.args.node) (sym c.pass.view_is) c.requires.seen_node in
    let place = place_here c.self.inside.places _ c.pass.inside.seat.me.0 (TreeOf c.args.node) _ c.self.invariant.places_are own c.tree-place.ensures in
    let told = c.load-word.ensures.2 in
    pair_found _ c.load-word.new.seat.me.0 c.args.node _ _ c.pass.invariant.1.lawful seen place told.told.view_is c.pair_in.result c.pair_in.ensures.parent
    c.pair_in.ensures.cost (told.tree c.args.node seen place)

pub returns-clause-goes_on : goal.returns-clause-goes_on
returns-clause-goes_on c = goes_on_told _ _ _ _ c.pass.view_is c.load-word.ensures.2.told.view_is c.load-word.ensures.2.told.goes_on

pub returns-clause-not_above : goal.returns-clause-not_above
returns-clause-not_above c = pair_not_above _ _ c.args.node _ (returns-clause-goes_on c) (returns-clause-found c)

pub returns-clause-edge : goal.returns-clause-edge
returns-clause-edge c = IsEdgeSeen-pair _ _ c.args.node _ (returns-clause-goes_on c) (returns-clause-found c)

pub returns-clause-whole : goal.returns-clause-whole
returns-clause-whole c all =
    let own = same_run _ _ _ _ c.pass.view_is c.self.view_is c.requires.belongs in
    let seen = subst (λ p. SeesNode p.view c.args.node) (sym c.pass.view_is) c.requires.seen_node in
    let place = place_here c.self.inside.places _ c.pass.inside.seat.me.0 (TreeOf c.args.node) _ c.self.invariant.places_are own c.tree-place.ensures in
    let told = c.load-word.ensures.2 in
    tree_word_seen _ c.load-word.new.seat.me.0 c.args.node _ _ c.pass.invariant.1.lawful seen place told.told.view_is
    ∙ found_whole _ _ (TreeOf c.args.node) _ _ (ap (λ p. p.view) c.pass.view_is) told.whole (λ e. cc) seen place all
