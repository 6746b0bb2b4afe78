use Rattle.plan_words.proofs.KeptPairs.{keeps_saw}
use Rattle.plan_words.proofs.Words.{◌≡◌, ◌≢◌, ◌≤◌, Some, ap, arith, subst, sym, ◌∙◌, node_count, Count, HasWholeShare, own_count, tree_seen, Hand, Linked}
use Rattle.plan_words.proofs.LookedNodes.{place_here}
use Rattle.plan_words.proofs.Owning.{count_fits, looks_told, may_load_here, same_run, same_table, sees_told}
use Rattle.plan_words.proofs.shared.Shared.number.Goals as goal

pub load-requires : goal.load-requires
load-requires c =
    let same = same_table _ _ _ _ c.pass.view_is c.self.view_is c.requires in
    let own = same_run _ _ _ _ c.pass.view_is c.self.view_is c.requires in
    may_load_here _ _ _ _ c.self.invariant _ _ _ _ Count same own tt tt c.count.ensures

pub returns-clause-seen : goal.returns-clause-seen
returns-clause-seen c =
    sees_told _ _ _ Count _ _ (ap (λ p. p.view) c.pass.view_is) c.pass.invariant.1.lawful tt c.count.ensures c.load.ensures.2.told.view_is

pub returns-clause-looked : goal.returns-clause-looked
returns-clause-looked c =
    looks_told _ _ _ Count _ _ (ap (λ p. p.view) c.pass.view_is) c.pass.invariant.1.lawful tt c.count.ensures c.load.ensures.2.told.view_is

pub invariant_of-pass : goal.invariant_of-pass
invariant_of-pass c =
    keeps_saw c.pass.inside.seat.me c.load.new.seat.me _ _ _ _ _ _ c.pass.inside.pairs Count _ _ _ c.load.ensures.2.told c.pass.invariant tt
    c.count.ensures (λ n e. cc)

pub returns-clause-own : goal.returns-clause-own
returns-clause-own c entry =
    let own = same_run _ _ _ _ c.pass.view_is c.self.view_is c.requires in
    let place = place_here c.self.inside.places _ c.pass.inside.seat.me.0 Count _ c.self.invariant.places_are own c.count.ensures in
    subst (λ p. own_count p.view entry ≤ c.load.result) c.pass.view_is (c.load.ensures.2.count place entry)

pub returns-clause-whole : goal.returns-clause-whole
returns-clause-whole c all done =
    let own = same_run _ _ _ _ c.pass.view_is c.self.view_is c.requires in
    let place = place_here c.self.inside.places _ c.pass.inside.seat.me.0 Count _ c.self.invariant.places_are own c.count.ensures in
    let whole = subst (λ p. HasWholeShare p.view) (sym c.pass.view_is) all in
    let counted = subst (λ p. (hand : Hand) → p.view.hand ≡ Some hand → hand.stage ≢ Linked) (sym c.pass.view_is) done in
    c.load.ensures.2.whole_count whole counted place ∙ ap (λ p. node_count (tree_seen p.view).points) c.pass.view_is

pub overflow_cast-result : goal.overflow_cast-result
overflow_cast-result c = omega (arith, count_fits _ _ _ c.pass.invariant.1.lawful c.count.ensures c.load.ensures.2.told.goes_on.lawful)
