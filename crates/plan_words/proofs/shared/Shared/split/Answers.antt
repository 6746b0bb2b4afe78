use Rattle.plan_words.proofs.Words.{◌+◌, None, ap, subst, sym, ◌∙◌, HasPairs, IsTied, sees, TreeOf}
use Rattle.plan_words.proofs.GoingOn.{BelongsTo-later}
use Rattle.plan_words.proofs.KeptPairs.{HasPairs-kept}
use Rattle.plan_words.proofs.Allowing.{may_look}
use Rattle.plan_words.proofs.Owning.{goes_on_told, same_run, same_table, some_word}
use Rattle.plan_words.proofs.Tying.{GoesOn-stepped, HasRoom-kept, HasRoom-new, IsTied-looker, IsTied-stepped}
use Rattle.plan_words.proofs.shared.Shared.split.Goals as goal

pub split_seat-seat-requires : goal.split_seat-seat-requires
split_seat-seat-requires c =
    let same = same_table _ _ _ _ c.pass.view_is c.self.view_is c.requires in
    let own = same_run _ _ _ _ c.pass.view_is c.self.view_is c.requires in
    (same, some_word _ _ _ _ c.self.invariant, may_look _ _ _ _ c.self.invariant _ _ own)

pub invariant_of-result : goal.invariant_of-result
invariant_of-result c =
    let own = same_run _ _ _ _ c.pass.view_is c.self.view_is c.requires in
    let told = c.split_seat-seat.ensures.4 in (
      ap (λ m. m.1) told,
      subst (λ v. IsTied v None None) (sym (ap (λ m. m.0) told)) (IsTied-looker _ c.pass.invariant.1.lawful),
      HasRoom-new c.self.inside.places _ _ _ _ _ _ _ c.self.invariant.places_are (ap (λ m. m.0.run) told ∙ own) (ap (λ n. n + 1) c.marks.ensures)
          c.in_ok-lists.ensures.room,
      subst (HasPairs _) (sym c.in_ok-pairs.ensures)
          (HasPairs-kept _ _ _ (ap (λ m. m.0.run) told) (λ n. ap (λ m. sees m.0 (TreeOf n)) told) c.pass.invariant.3),
    )

pub invariant_of-pass : goal.invariant_of-pass
invariant_of-pass c =
    let told = c.split_seat-seat.ensures.2 in (
      ap (λ m. m.1) told ∙ c.pass.invariant.0,
      subst (λ v. IsTied v c.pass.inside.member c.pass.inside.hand) (sym (ap (λ m. m.0) told)) (IsTied-stepped _ _ _ c.pass.invariant.1),
      HasRoom-kept _ _ _ _ _ _ (ap (λ m. m.0.run) told) c.pass.invariant.2,
      HasPairs-kept _ _ _ (ap (λ m. m.0.run) told) (λ n. ap (λ m. sees m.0 (TreeOf n)) told) c.pass.invariant.3,
    )

pub returns-clause-goes_on : goal.returns-clause-goes_on
returns-clause-goes_on c =
    goes_on_told _ _ _ _ c.pass.view_is (ap (λ m. m.0) c.split_seat-seat.ensures.2) (GoesOn-stepped _ c.pass.invariant.1.lawful)

pub returns-clause-belongs : goal.returns-clause-belongs
returns-clause-belongs c =
    BelongsTo-later _ c.args.pass.now _ (c.split_seat-seat.ensures.0 ∙ ap (λ p. p.table) c.pass.view_is) (returns-clause-goes_on c) c.requires

pub returns-clause-belongs_too : goal.returns-clause-belongs_too
returns-clause-belongs_too c = record {
  table = c.split_seat-seat.ensures.3 ∙ ap (λ p. p.table) c.pass.view_is ∙ c.requires.table;
  run = ap (λ m. m.0.run) c.split_seat-seat.ensures.4 ∙ ap (λ p. p.view.run) c.pass.view_is ∙ c.requires.run;
  lawful = (invariant_of-result c).1.lawful;
}
