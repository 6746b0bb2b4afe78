use Rattle.plan_words.proofs.Words.{◌≡◌, ◌≤◌, ap, sym, subst, ◌∙◌, run_in, loaded, place_in, saw_at, sees, WritesWord, PointOf, place_of}
use Rattle.plan_words.proofs.LookedNodes.{place_here, point_found, point_word_seen, seen_low}
use Rattle.plan_words.proofs.Owning.{may_load_here}
use Rattle.plan_words.proofs.SeatSteps.{LooksOn-told, SitsAt-told, looked_told, writes_told}
use Rattle.plan_words.proofs.shared.Shared.point_at.Goals as goal
use Rattle.plan_words.proofs.shared.Shared.point_at.Goals.{After-load}

pub point-place-requires : goal.point-place-requires
point-place-requires c =
    let own = c.requires.sits.run ∙ ap run_in (sym c.self.view_is) in
    subst (λ s. c.args.node ≤ s.marks) (sym c.self.invariant.places_are) (seen_low _ _ c.args.node c.requires.sits.lawful own c.requires.seen_node)

pub load-requires : goal.load-requires
load-requires c =
    let own = c.requires.sits.run ∙ ap run_in (sym c.self.view_is) in
    let same = c.requires.sits.table_is ∙ ap (λ s. s.table) (sym c.self.view_is) in
    let low = seen_low _ _ c.args.node c.requires.sits.lawful own c.requires.seen_node in
    let place = c.point-place.ensures ∙ ap (λ s. place_of s (PointOf c.args.node)) c.self.invariant.places_are in
    may_load_here _ _ _ _ c.self.invariant _ _ _ _ (PointOf c.args.node) same own low c.requires.seen_node place

here : (c : After-load) → c.point-place.result ≡ place_in c.args.seat.now.me.0 (PointOf c.args.node)
here c =
    place_here c.self.inside.places _ c.args.seat.now.me.0 (PointOf c.args.node) _ c.self.invariant.places_are
    (c.requires.sits.run ∙ ap run_in (sym c.self.view_is)) c.point-place.ensures

word : (c : After-load) → sees c.load.new.seat.me.0 (PointOf c.args.node) ≡ c.load.result
word c =
    let told = c.load.ensures.2 in
    point_word_seen _ c.load.new.seat.me.0 c.args.node _ _ c.requires.sits.lawful c.requires.seen_node (here c) told.told.view_is told.point

pub returns-clause-sits : goal.returns-clause-sits
returns-clause-sits c =
    SitsAt-told c.args.seat.now.me c.load.new.seat.me (PointOf c.args.node) c.point-place.result _ _ c.args.seat.now.me.0.notes c.requires.sits.lawful
    (c.requires.sits.lawful.within c.args.node c.requires.seen_node) (here (goal.at.returns-clause-sits c).After-load) c.load.ensures.2.told
    _ _ _ c.load.ensures.0 c.requires.sits

pub returns-clause-looks : goal.returns-clause-looks
returns-clause-looks c =
    LooksOn-told c.args.seat.now.me c.load.new.seat.me (PointOf c.args.node) c.point-place.result _ _ c.args.seat.now.me.0.notes c.requires.sits.lawful
    (c.requires.sits.lawful.within c.args.node c.requires.seen_node) (here (goal.at.returns-clause-looks c).After-load) c.load.ensures.2.told
    (λ other off. (off c.args.node).1)

pub returns-clause-view : goal.returns-clause-view
returns-clause-view c =
    let at = (goal.at.returns-clause-view c).After-load in
    let me = c.args.seat.now.me in
    let x = c.load.result in
    c.load.ensures.2.told.view_is ∙ ap (λ n. saw_at me.0 n x x) (here at) ∙ ap (λ w. loaded me.0 (PointOf c.args.node) w) (sym (word at))

pub returns-clause-seen : goal.returns-clause-seen
returns-clause-seen c =
    let at = (goal.at.returns-clause-seen c).After-load in
    subst (λ w. WritesWord (PointOf c.args.node) w (sees c.args.seat.now.me.0) (sees c.load.new.seat.me.0)) (sym (word at))
    (writes_told c.args.seat.now.me c.load.new.seat.me (PointOf c.args.node) c.point-place.result _ _ c.args.seat.now.me.0.notes c.requires.sits.lawful
    (c.requires.sits.lawful.within c.args.node c.requires.seen_node) (here at) c.load.ensures.2.told)

pub returns-clause-looked : goal.returns-clause-looked
returns-clause-looked c =
    looked_told c.args.seat.now.me c.load.new.seat.me (PointOf c.args.node) c.point-place.result _ _ c.args.seat.now.me.0.notes c.requires.sits.lawful
    (c.requires.sits.lawful.within c.args.node c.requires.seen_node) (here (goal.at.returns-clause-looked c).After-load) c.load.ensures.2.told

pub returns-clause-found : goal.returns-clause-found
returns-clause-found c =
    let told = c.load.ensures.2 in
    point_found c.args.seat.now.me.0 c.load.new.seat.me.0 c.args.node _ _ c.requires.sits.lawful c.requires.seen_node
    (here (goal.at.returns-clause-found c).After-load) told.told.view_is told.point

pub returns-clause-whole : goal.returns-clause-whole
returns-clause-whole c all =
    let at = (goal.at.returns-clause-whole c).After-load in
    word at ∙ c.load.ensures.2.whole all (PointOf c.args.node) (λ e. cc) c.requires.seen_node (here at)
