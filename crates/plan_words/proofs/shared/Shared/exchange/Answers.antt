use Rattle.plan_words.proofs.Words.{◌≡◌, ℕ, ◌+◌, ◌<◌, ◌≤◌, ◌==◌, List, None, Some, ap, cond, length, refl, subst, sym, ◌∙◌, ne_eqb, Tells, run_in, WritesWord}
use Rattle.plan_words.proofs.Words.{Counter, claimed, last_note, loaded, mark_of, new_hand, place_in, saw_at, sees, share, HasWholeShare, View}
use Rattle.std.proofs.lemmas.Bool.{eq-eqb}
use Rattle.plan_words.proofs.KeptPairs.{HasPairs-claimed, keeps_saw, keeps_view}
use Rattle.plan_words.proofs.Allowing.{may_claim}
use Rattle.plan_words.proofs.Owning.{found_whole, in_table, same_run, same_table, sees_exchanged, tells_on, with_view_told}
use Rattle.plan_words.proofs.shared.Shared.exchange.Goals as goal
use Rattle.plan_words.proofs.shared.Shared.exchange.Goals.{After-compare_exchange_with-found}
use Rattle.plan_model.specs.Scenes.MarkPoints.{mark_of as mark_by_strips}

-- the view after an exchange was tried, by what the counter was
abbrev view_exchanged : View → ℕ → ℕ → ℕ → ℕ → List ℕ → View
view_exchanged view strip round limit x steps = cond (x == round) (claimed view strip round limit steps) (loaded view (Counter strip) x)

view_exchanged-told :
    (view then : View) (strip round next limit x place : ℕ) (steps : List ℕ)
    → then ≡ cond (x == round) (claimed view strip round limit steps) (saw_at view place x x)
    → place ≡ place_in view (Counter strip) → round ≡ next → then ≡ view_exchanged view strip next limit x steps
view_exchanged-told view then strip round next limit x place steps is at same =
    is ∙ ap (λ n. cond (x == round) (claimed view strip round limit steps) (saw_at view n x x)) at ∙ ap (λ n. view_exchanged view strip n limit x steps) same

pub compare_exchange_with-found-requires : goal.compare_exchange_with-found-requires
compare_exchange_with-found-requires c =
    let same = same_table _ _ _ _ c.pass.view_is c.self.view_is c.requires.belongs in
    let own = same_run _ _ _ _ c.pass.view_is c.self.view_is c.requires.belongs in
    let part = subst (λ p. 0 < share p.view) (sym c.pass.view_is) c.requires.part in
    let idle = subst (λ p. p.view.hand ≡ None) (sym c.pass.view_is) c.requires.idle in
    let strip = subst (λ s. c.args.next.strip < s.task.scene.strips) (sym c.self.view_is) c.requires.strip in
    let low = subst (λ round. mark_of (run_in c.args.self.now) c.args.next.strip round < c.args.limit) (sym c.from-round.ensures) c.requires.low in
    let low_here = subst (λ s. mark_of (run_in s) c.args.next.strip c.from-round.result < c.args.limit) (sym c.self.view_is) low in
    let limit = subst (λ s. c.args.limit ≤ length s.task.marks) (sym c.self.view_is) c.requires.limit in (
      same,
      in_table _ _ _ _ c.self.invariant (Counter c.args.next.strip) _ strip c.counter-place.ensures,
      may_claim _ _ _ _ c.self.invariant _ _ _ c.args.next.strip c.from-round.result c.args.limit _ c.counter-place.ensures own part idle strip low_here limit,
    )

here : (c : After-compare_exchange_with-found) → c.args.next.strip < c.pass.inside.seat.me.0.run.strips
here c =
    subst (λ r. c.args.next.strip < r.strips) (sym (same_run _ _ _ _ c.pass.view_is c.self.view_is c.requires.belongs))
    (subst (λ s. c.args.next.strip < s.task.scene.strips) (sym c.self.view_is) c.requires.strip)

seen : (c : After-compare_exchange_with-found) → let x = c.compare_exchange_with-found.result in let next = c.args.next in
    WritesWord (Counter next.strip) (cond (x == next.round) (next.round + 1) x) (sees c.args.pass.now.view) (sees c.compare_exchange_with-found.new.seat.me.0)
seen c =
    let x = c.compare_exchange_with-found.result in
    let then = c.compare_exchange_with-found.new.seat.me.0 in
    subst (λ round. WritesWord (Counter c.args.next.strip) (cond (x == round) (round + 1) x) (sees c.args.pass.now.view) (sees then)) c.from-round.ensures
    (sees_exchanged _ _ _ c.args.next.strip c.from-round.result c.args.limit _ x (last_note then) (ap (λ p. p.view) c.pass.view_is) c.pass.invariant.1.lawful
    (here c) c.counter-place.ensures c.compare_exchange_with-found.ensures.2.told.view_is)

pub returns-then-found-round-clause-seen : goal.returns-then-found-round-clause-seen
returns-then-found-round-clause-seen c = seen (goal.at.returns-then-found-round-clause-seen c).After-compare_exchange_with-found

pub returns-else-found-round-clause-seen : goal.returns-else-found-round-clause-seen
returns-else-found-round-clause-seen c = seen (goal.at.returns-else-found-round-clause-seen c).After-compare_exchange_with-found

pub invariant_of-pass : goal.invariant_of-pass
invariant_of-pass c =
    let own = same_run _ _ _ _ c.pass.view_is c.self.view_is c.requires.belongs in
    let me = c.pass.inside.seat.me in
    let after = c.compare_exchange_with-found.new.seat.me in
    let x = c.compare_exchange_with-found.result in
    let then = claimed me.0 c.args.next.strip c.from-round.result c.args.limit (last_note after.0) in
    let told = subst (λ b. Tells me (cond b then (saw_at me.0 c.counter-place.result x x)) after) (eq-eqb x c.from-round.result c.if-found-round.true)
    c.compare_exchange_with-found.ensures.2.told in
    keeps_view me after then _ _ _ _ _ _ _ _ c.pass.inside.pairs _ told c.pass.invariant refl c.pass.invariant.1.member_is
    (ap (λ k. Some (new_hand k))
    (c.mark_of.ensures ∙ ap (mark_by_strips c.self.inside.task.scene.strips c.args.next.strip) (sym c.from-round.ensures)
    ∙ ap (λ r. mark_of r c.args.next.strip c.from-round.result) (sym own)))
    (HasPairs-claimed me.0 c.pass.inside.pairs c.args.next.strip c.from-round.result c.args.limit (last_note after.0) c.pass.invariant.1.lawful
    (here (goal.at.invariant_of-pass c).After-compare_exchange_with-found))

pub invariant_of-pass-else-found-round : goal.invariant_of-pass-else-found-round
invariant_of-pass-else-found-round c =
    let me = c.pass.inside.seat.me in
    let after = c.compare_exchange_with-found.new.seat.me in
    let x = c.compare_exchange_with-found.result in
    let told = subst (λ b. Tells me (cond b (claimed me.0 c.args.next.strip c.from-round.result c.args.limit (last_note after.0))
    (saw_at me.0 c.counter-place.result x x)) after)
    (ne_eqb x c.from-round.result c.if-found-round.false) c.compare_exchange_with-found.ensures.2.told in
    keeps_saw me after _ _ _ _ _ _ c.pass.inside.pairs (Counter c.args.next.strip) _ _ _ told c.pass.invariant
    (here (goal.at.invariant_of-pass-else-found-round c).After-compare_exchange_with-found) c.counter-place.ensures (λ n e. cc)

whole : (c : After-compare_exchange_with-found) → HasWholeShare c.args.pass.now.view
    → c.compare_exchange_with-found.result ≡ sees c.args.pass.now.view (Counter c.args.next.strip)
whole c all =
    found_whole _ _ (Counter c.args.next.strip) _ _ (ap (λ p. p.view) c.pass.view_is) c.compare_exchange_with-found.ensures.2.whole (λ e. cc) (here c)
    c.counter-place.ensures all

pub returns-then-found-round-clause-whole : goal.returns-then-found-round-clause-whole
returns-then-found-round-clause-whole c all = whole (goal.at.returns-then-found-round-clause-whole c).After-compare_exchange_with-found all

pub returns-else-found-round-clause-whole : goal.returns-else-found-round-clause-whole
returns-else-found-round-clause-whole c all = whole (goal.at.returns-else-found-round-clause-whole c).After-compare_exchange_with-found all

pub returns-then-found-round-clause-view : goal.returns-then-found-round-clause-view
returns-then-found-round-clause-view c =
    let next = c.args.next in
    with_view_told _ _ _ c.compare_exchange_with-found.new.seat.me.0
    (λ v. view_exchanged v next.strip next.round c.args.limit c.compare_exchange_with-found.result
    (last_note c.compare_exchange_with-found.new.seat.me.0)) c.pass.view_is
    c.compare_exchange_with-found.ensures.0
    (view_exchanged-told c.pass.inside.seat.me.0 c.compare_exchange_with-found.new.seat.me.0 next.strip c.from-round.result next.round c.args.limit
    c.compare_exchange_with-found.result c.counter-place.result _ c.compare_exchange_with-found.ensures.2.told.view_is c.counter-place.ensures
    c.from-round.ensures)

pub returns-then-found-round-clause-goes_on : goal.returns-then-found-round-clause-goes_on
returns-then-found-round-clause-goes_on c =
    tells_on _ c.pass.inside.seat.me c.compare_exchange_with-found.new.seat.me _ (ap (λ p. p.view) c.pass.view_is) c.compare_exchange_with-found.ensures.2.told

pub returns-else-found-round-clause-view : goal.returns-else-found-round-clause-view
returns-else-found-round-clause-view c =
    let next = c.args.next in
    with_view_told _ _ _ c.compare_exchange_with-found.new.seat.me.0
    (λ v. view_exchanged v next.strip next.round c.args.limit c.compare_exchange_with-found.result
    (last_note c.compare_exchange_with-found.new.seat.me.0)) c.pass.view_is
    c.compare_exchange_with-found.ensures.0
    (view_exchanged-told c.pass.inside.seat.me.0 c.compare_exchange_with-found.new.seat.me.0 next.strip c.from-round.result next.round c.args.limit
    c.compare_exchange_with-found.result c.counter-place.result _ c.compare_exchange_with-found.ensures.2.told.view_is c.counter-place.ensures
    c.from-round.ensures)

pub returns-else-found-round-clause-goes_on : goal.returns-else-found-round-clause-goes_on
returns-else-found-round-clause-goes_on c =
    tells_on _ c.pass.inside.seat.me c.compare_exchange_with-found.new.seat.me _ (ap (λ p. p.view) c.pass.view_is) c.compare_exchange_with-found.ensures.2.told
