use Rattle.plan_words.proofs.KeptPairs.{keeps_saw}
use Rattle.plan_words.proofs.Words.{◌<◌, ap, arith, subst, sym, Counter}
use Rattle.plan_words.proofs.Owning.{counter_most, found_whole, looks_told, may_load_here, same_run, same_table, sees_told}
use Rattle.plan_words.proofs.shared.Shared.taken.Goals as goal

pub load-requires : goal.load-requires
load-requires c =
    let same = same_table _ _ _ _ c.pass.view_is c.self.view_is c.requires.belongs in
    let own = same_run _ _ _ _ c.pass.view_is c.self.view_is c.requires.belongs in
    let strip = subst (λ s. c.args.strip < s.task.scene.strips) (sym c.self.view_is) c.requires.strip in
    let here = subst (λ r. c.args.strip < r.strips) (sym own) strip in
    may_load_here _ _ _ _ c.self.invariant _ _ _ _ (Counter c.args.strip) same own strip here c.counter-place.ensures

pub overflow_cast-result : goal.overflow_cast-result
overflow_cast-result c =
    let own = same_run _ _ _ _ c.pass.view_is c.self.view_is c.requires.belongs in
    let strip = subst (λ s. c.args.strip < s.task.scene.strips) (sym c.self.view_is) c.requires.strip in
    let here = subst (λ r. c.args.strip < r.strips) (sym own) strip in
    let lawful = c.pass.invariant.1.lawful in
    omega (arith, counter_most _ _ c.args.strip _ lawful here c.counter-place.ensures c.load.ensures.2.told.goes_on.lawful, lawful.run.marks)

pub returns-clause-seen : goal.returns-clause-seen
returns-clause-seen c =
    let own = same_run _ _ _ _ c.pass.view_is c.self.view_is c.requires.belongs in
    let strip = subst (λ s. c.args.strip < s.task.scene.strips) (sym c.self.view_is) c.requires.strip in
    let here = subst (λ r. c.args.strip < r.strips) (sym own) strip in
    sees_told _ _ _ (Counter c.args.strip) _ _
    (ap (λ p. p.view) c.pass.view_is) c.pass.invariant.1.lawful here c.counter-place.ensures c.load.ensures.2.told.view_is

pub returns-clause-looked : goal.returns-clause-looked
returns-clause-looked c =
    let own = same_run _ _ _ _ c.pass.view_is c.self.view_is c.requires.belongs in
    let strip = subst (λ s. c.args.strip < s.task.scene.strips) (sym c.self.view_is) c.requires.strip in
    let here = subst (λ r. c.args.strip < r.strips) (sym own) strip in
    looks_told _ _ _ (Counter c.args.strip) _ _ (ap (λ p. p.view) c.pass.view_is) c.pass.invariant.1.lawful here
    c.counter-place.ensures c.load.ensures.2.told.view_is

pub invariant_of-pass : goal.invariant_of-pass
invariant_of-pass c =
    let own = same_run _ _ _ _ c.pass.view_is c.self.view_is c.requires.belongs in
    let strip = subst (λ s. c.args.strip < s.task.scene.strips) (sym c.self.view_is) c.requires.strip in
    let here = subst (λ r. c.args.strip < r.strips) (sym own) strip in
    keeps_saw c.pass.inside.seat.me c.load.new.seat.me _ _ _ _ _ _ c.pass.inside.pairs (Counter c.args.strip) _ _ _ c.load.ensures.2.told c.pass.invariant here
    c.counter-place.ensures (λ n e. cc)

pub returns-clause-whole : goal.returns-clause-whole
returns-clause-whole c all =
    let own = same_run _ _ _ _ c.pass.view_is c.self.view_is c.requires.belongs in
    let strip = subst (λ s. c.args.strip < s.task.scene.strips) (sym c.self.view_is) c.requires.strip in
    let here = subst (λ r. c.args.strip < r.strips) (sym own) strip in
    found_whole _ _ (Counter c.args.strip) _ _ (ap (λ p. p.view) c.pass.view_is) c.load.ensures.2.whole (λ e. cc) here c.counter-place.ensures all
