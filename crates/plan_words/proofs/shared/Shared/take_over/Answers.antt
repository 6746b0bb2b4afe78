use Rattle.plan_words.proofs.Words.{◌≡◌, ap, refl, subst, sym, ◌∙◌, Me, Tells, Aim, loaded, saw_at, sees, Count, View}
use Rattle.plan_words.proofs.Joining.{AreBehind-taken_over, GoesOn-taken_over}
use Rattle.plan_words.proofs.Allowing.{may_take_over}
use Rattle.plan_words.proofs.Owning.{may_load_here, same_run, same_table, sees-loaded, some_word}
use Rattle.plan_words.proofs.shared.Shared.take_over.Goals as goal

pub join_seat-requires : goal.join_seat-requires
join_seat-requires c =
    let same = same_table _ _ _ _ refl c.self.view_is c.requires.belongs in
    let own = same_run _ _ _ _ refl c.self.view_is c.requires.belongs in
    let same_too = same_table _ _ _ _ refl c.self.view_is c.requires.belongs_too in
    let own_too = same_run _ _ _ _ refl c.self.view_is c.requires.belongs_too in (
      same,
      same_too,
      c.requires.empty,
      some_word _ _ _ _ c.self.invariant,
      may_take_over _ _ _ _ c.self.invariant _ _ _ _ own own_too c.requires.idle c.requires.idle_too,
    )

pub load-count-requires : goal.load-count-requires
load-count-requires c =
    let same = same_table _ _ _ _ refl c.self.view_is c.requires.belongs in
    let own = same_run _ _ _ _ refl c.self.view_is c.requires.belongs in
    let joins = c.join_seat.ensures in
    may_load_here _ _ _ _ c.self.invariant _ _ _ _ Count (joins.0 ∙ same) (ap (λ m. m.0.run) joins.2 ∙ own) tt tt c.count.ensures

pub returns-clause-told : goal.returns-clause-told
returns-clause-told c =
    let mid = c.join_seat.new.seat.me in
    let after = c.load-count.new.seat.me in
    let x = c.load-count.result in
    let told = c.load-count.ensures.2.told in
    let here : Tells mid (loaded mid.0 Count x) after = subst (λ n. Tells mid (saw_at mid.0 n x x) after) c.count.ensures told in
    let word : x ≡ sees after.0 Count = sym (ap (λ v. sees v Count) here.view_is ∙ sees-loaded mid.0 here.goes_on.was_lawful Count tt x) in
    subst (λ (m : Me Aim View). Tells m (loaded m.0 Count (sees after.0 Count)) after) c.join_seat.ensures.2
    (subst (λ n. Tells mid (loaded mid.0 Count n) after) word here)

pub returns-clause-goes_on : goal.returns-clause-goes_on
returns-clause-goes_on c =
    GoesOn-taken_over c.args.seat.now.me.0 c.args.other.me.0 c.args.seat.now.me.1 c.load-count.new.seat.me _ (returns-clause-told c)
    c.requires.belongs.lawful

pub returns-clause-others_seen : goal.returns-clause-others_seen
returns-clause-others_seen c =
    AreBehind-taken_over c.args.seat.now.me.0 c.args.other.me.0 c.args.seat.now.me.1 c.load-count.new.seat.me _ (returns-clause-told c)
    (c.requires.belongs_too.run ∙ sym c.requires.belongs.run)
