use Rattle.plan_words.proofs.Words.{◌+◌, None, Some, ap, subst, sym, ◌∙◌, HasPairs, IsTied, second_alone, sees, TreeOf}
use Rattle.plan_words.proofs.KeptPairs.{HasPairs-kept}
use Rattle.plan_words.proofs.Allowing.{may_hand_on}
use Rattle.plan_words.proofs.Owning.{same_run, same_table, some_word}
use Rattle.plan_words.proofs.Tying.{HasRoom-kept, HasRoom-new, IsTied-apart, IsTied-parted}
use Rattle.plan_words.proofs.shared.Shared.hand_on.Goals as goal

pub split_seat-seat-requires : goal.split_seat-seat-requires
split_seat-seat-requires c =
    let same = same_table _ _ _ _ c.pass.view_is c.self.view_is c.requires.belongs in
    let own = same_run _ _ _ _ c.pass.view_is c.self.view_is c.requires.belongs in
    (same, some_word _ _ _ _ c.self.invariant, may_hand_on _ _ _ _ c.self.invariant _ _ own)

pub invariant_of-pass : goal.invariant_of-pass
invariant_of-pass c =
    let told = c.split_seat-seat.ensures.2 in (
      ap (λ m. m.1) told ∙ c.pass.invariant.0,
      subst (λ v. IsTied v c.pass.inside.member c.pass.inside.hand) (sym (ap (λ m. m.0) told)) (IsTied-parted _ _ _ c.pass.invariant.1),
      HasRoom-kept _ _ _ _ _ _ (ap (λ m. m.0.run) told) c.pass.invariant.2,
      HasPairs-kept _ _ _ (ap (λ m. m.0.run) told) (λ n. ap (λ m. sees m.0 (TreeOf n)) told) c.pass.invariant.3,
    )

pub invariant_of-result : goal.invariant_of-result
invariant_of-result c =
    let own = same_run _ _ _ _ c.pass.view_is c.self.view_is c.requires.belongs in
    let told = c.split_seat-seat.ensures.4 in
    let second = ap (λ p. second_alone p.view.crew) c.pass.view_is ∙ c.requires.second in (
      ap (λ m. m.1) told,
      subst (λ v. IsTied v (Some (record { worker = c.args.worker; turn = c.args.turn })) None) (sym (ap (λ m. m.0) told))
          (IsTied-apart _ _ c.pass.invariant.1.lawful second),
      HasRoom-new c.self.inside.places _ _ _ _ _ _ _ c.self.invariant.places_are (ap (λ m. m.0.run) told ∙ own) (ap (λ n. n + 1) c.marks.ensures)
          c.in_ok-lists.ensures.room,
      subst (HasPairs _) (sym c.in_ok-pairs.ensures)
          (HasPairs-kept _ _ _ (ap (λ m. m.0.run) told) (λ n. ap (λ m. sees m.0 (TreeOf n)) told) c.pass.invariant.3),
    )

pub returns-clause-belongs : goal.returns-clause-belongs
returns-clause-belongs c = record {
  table = c.split_seat-seat.ensures.0 ∙ ap (λ p. p.table) c.pass.view_is ∙ c.requires.belongs.table;
  run = ap (λ m. m.0.run) c.split_seat-seat.ensures.2 ∙ ap (λ p. p.view.run) c.pass.view_is ∙ c.requires.belongs.run;
  lawful = (invariant_of-pass c).1.lawful;
}

pub returns-clause-belongs_too : goal.returns-clause-belongs_too
returns-clause-belongs_too c = record {
  table = c.split_seat-seat.ensures.3 ∙ ap (λ p. p.table) c.pass.view_is ∙ c.requires.belongs.table;
  run = ap (λ m. m.0.run) c.split_seat-seat.ensures.4 ∙ ap (λ p. p.view.run) c.pass.view_is ∙ c.requires.belongs.run;
  lawful = (invariant_of-result c).1.lawful;
}
