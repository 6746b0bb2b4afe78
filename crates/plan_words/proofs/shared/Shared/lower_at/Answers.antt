use Rattle.plan_words.proofs.Words.{◌≡◌, ◌≤◌, List, ◌∷◌, ap, arith, is_some, length, subst, sym, ◌∙◌, ◌==◌, cond, Tells, run_in, last_note, place_in, saw_at}
use Rattle.plan_words.proofs.Words.{sees, Note, WritesWord, TreeOf, place_of}
use Rattle.plan_words.proofs.KeptPairs.{fits_word, lower_view}
use Rattle.plan_words.proofs.LookedNodes.{place_here, seen_low}
use Rattle.plan_words.proofs.Allowing.{may_lower}
use Rattle.plan_words.proofs.Owning.{in_table}
use Rattle.plan_words.proofs.SeatSteps.{LooksOn-told, SitsAt-told, exchanged_noted, looked_told, with_notes, writes_told}
use Rattle.plan_words.proofs.shared.Shared.lower_at.Goals as goal
use Rattle.plan_words.proofs.shared.Shared.lower_at.Goals.{After-compare_exchange}

pub tree-place-requires : goal.tree-place-requires
tree-place-requires c =
    let own = c.requires.sits.run ∙ ap run_in (sym c.self.view_is) in
    let lawful = c.requires.sits.lawful in
    let node = lawful.tree.rooted.points c.args.node (ap is_some c.requires.may.seen.stands) in
    subst (λ s. c.args.node ≤ s.marks) (sym c.self.invariant.places_are) (seen_low _ _ c.args.node lawful own node)

pub pack_tree-requires : goal.pack_tree-requires
pack_tree-requires c =
    let may = c.requires.may in
    let fits = fits_word c.args.seat.now.me.0 may.at c.args.parent c.args.cost c.requires.sits.lawful may.below in
    record { parent = omega (arith, fits.0); cost = omega (arith, fits.1) }

pub compare_exchange-requires : goal.compare_exchange-requires
compare_exchange-requires c =
    let own = c.requires.sits.run ∙ ap run_in (sym c.self.view_is) in
    let same = c.requires.sits.table_is ∙ ap (λ s. s.table) (sym c.self.view_is) in
    let lawful = c.requires.sits.lawful in
    let node = lawful.tree.rooted.points c.args.node (ap is_some c.requires.may.seen.stands) in
    let low = seen_low _ _ c.args.node lawful own node in
    let place = c.tree-place.ensures ∙ ap (λ s. place_of s (TreeOf c.args.node)) c.self.invariant.places_are in (
      same,
      in_table _ _ _ _ c.self.invariant (TreeOf c.args.node) _ low place,
      may_lower _ _ _ _ c.self.invariant _ _ _ _ _ c.args.node c.args.parent c.args.cost _ low place own c.requires.part
          c.requires.may node c.requires.seen c.pack_tree.ensures,
    )

within : (c : After-compare_exchange) → c.args.node ≤ length c.args.seat.now.me.0.run.marks
within c =
    c.requires.sits.lawful.within c.args.node (c.requires.sits.lawful.tree.rooted.points c.args.node (ap is_some c.requires.may.seen.stands))

here : (c : After-compare_exchange) → c.tree-place.result ≡ place_in c.args.seat.now.me.0 (TreeOf c.args.node)
here c =
    place_here c.self.inside.places _ c.args.seat.now.me.0 (TreeOf c.args.node) _ c.self.invariant.places_are
    (c.requires.sits.run ∙ ap run_in (sym c.self.view_is)) c.tree-place.ensures

-- the notes then
abbrev notes : After-compare_exchange → List Note
notes c =
    let note : Note = record { place = c.tree-place.result; word = c.pack_tree.result; steps = last_note c.compare_exchange.new.seat.me.0 } in
    cond (c.compare_exchange.result == c.args.seen) (note ∷ c.args.seat.now.me.0.notes) c.args.seat.now.me.0.notes

told : (c : After-compare_exchange) → Tells c.args.seat.now.me
    (with_notes (saw_at c.args.seat.now.me.0 c.tree-place.result c.compare_exchange.result
    (cond (c.compare_exchange.result == c.args.seen) c.pack_tree.result c.compare_exchange.result)) (notes c))
    c.compare_exchange.new.seat.me
told c =
    subst (λ v. Tells c.args.seat.now.me v c.compare_exchange.new.seat.me)
    (exchanged_noted c.args.seat.now.me.0 c.tree-place.result c.args.seen c.pack_tree.result c.compare_exchange.result
    (last_note c.compare_exchange.new.seat.me.0))
    c.compare_exchange.ensures.2.told

pub returns-clause-sits : goal.returns-clause-sits
returns-clause-sits c =
    let at = (goal.at.returns-clause-sits c).After-compare_exchange in
    SitsAt-told c.args.seat.now.me c.compare_exchange.new.seat.me (TreeOf c.args.node) c.tree-place.result _ _ (notes at) c.requires.sits.lawful
    (within at) (here at) (told at) _ _ _ c.compare_exchange.ensures.0 c.requires.sits

pub returns-clause-looks : goal.returns-clause-looks
returns-clause-looks c =
    let at = (goal.at.returns-clause-looks c).After-compare_exchange in
    LooksOn-told c.args.seat.now.me c.compare_exchange.new.seat.me (TreeOf c.args.node) c.tree-place.result _ _ (notes at) c.requires.sits.lawful
    (within at) (here at) (told at) (λ other off. (off c.args.node).0)

pub returns-clause-hand : goal.returns-clause-hand
returns-clause-hand c = ap (λ v. v.hand) (told (goal.at.returns-clause-hand c).After-compare_exchange).view_is

pub returns-clause-view : goal.returns-clause-view
returns-clause-view c =
    let then = c.compare_exchange.new.seat.me.0 in
    lower_view c.args.seat.now.me.0 then c.args.node c.args.parent c.args.cost _ _ _ c.compare_exchange.result (last_note then)
    (here (goal.at.returns-clause-view c).After-compare_exchange) c.requires.seen c.pack_tree.ensures c.compare_exchange.ensures.2.told.view_is

pub returns-clause-wrote : goal.returns-clause-wrote
returns-clause-wrote c =
    let at = (goal.at.returns-clause-wrote c).After-compare_exchange in
    let found = c.compare_exchange.result in
    subst (λ w. WritesWord (TreeOf c.args.node) (cond (found == c.args.seen) w found) (sees c.args.seat.now.me.0) (sees c.compare_exchange.new.seat.me.0))
    c.pack_tree.ensures
    (writes_told c.args.seat.now.me c.compare_exchange.new.seat.me (TreeOf c.args.node) c.tree-place.result _ _ (notes at) c.requires.sits.lawful
    (within at) (here at) (told at))

pub returns-clause-looked : goal.returns-clause-looked
returns-clause-looked c =
    let at = (goal.at.returns-clause-looked c).After-compare_exchange in
    (looked_told c.args.seat.now.me c.compare_exchange.new.seat.me (TreeOf c.args.node) c.tree-place.result _ _ (notes at) c.requires.sits.lawful
    (within at) (here at) (told at)).here
