use Rattle.plan_words.proofs.Words.{◌+◌, length, ap, arith, refl, subst, sym, ◌∙◌, option_or, HasParentsBelow, first_member}
use Rattle.std.proofs.lemmas.Grind.{common_steps}
use Rattle.plan_words.proofs.Joining.{first-joined, keeps_taken_over}
use Rattle.plan_words.proofs.Owning.{same_run}
use Rattle.plan_words.proofs.SeenChildren.{HasParentsBelow-seen}
use Rattle.plan_words.proofs.shared.Shared.join.Goals as goal

pub take_cheaper-requires : goal.take_cheaper-requires
take_cheaper-requires c =
    let own = same_run _ _ _ _ c.pass.view_is refl c.requires.belongs in
    let own_too = same_run _ _ _ _ c.other.view_is refl c.requires.belongs_too in
    let sized = c.other.invariant.3.for_each ∙ ap (λ r. length r.marks + 1) (own_too ∙ sym own) ∙ sym c.pass.invariant.3.for_each in
    record {
      sized = sized;
      parents = HasParentsBelow-seen _ _ c.pass.invariant.1.lawful c.pass.invariant.3;
      parents_too =
          subst (λ count. HasParentsBelow count c.other.inside.pairs) sized (HasParentsBelow-seen _ _ c.other.invariant.1.lawful c.other.invariant.3);
    }

pub invariant_of-pass : goal.invariant_of-pass
invariant_of-pass c =
    let own = same_run _ _ _ _ c.pass.view_is refl c.requires.belongs in
    let own_too = same_run _ _ _ _ c.other.view_is refl c.requires.belongs_too in
    keeps_taken_over c.pass.inside.seat.me c.take_over.new.seat.me c.other.inside.seat.me.0 _ _ _ _ _ _ _ c.pass.inside.pairs
    c.other.inside.pairs c.take_cheaper.new.pairs _ c.take_over.ensures.told c.pass.invariant (own_too ∙ sym own) c.other.invariant.3
    (c.or-pass-inside.ensures ∙ ap (λ o. option_or o c.other.inside.member) c.pass.invariant.1.member_is
    ∙ ap (option_or (first_member c.pass.inside.seat.me.0.crew)) c.other.invariant.1.member_is
    ∙ sym (first-joined c.pass.inside.seat.me.0.crew c.other.inside.seat.me.0.crew))
    c.take_cheaper.ensures.as_many
    c.take_cheaper.ensures.each

pub returns-clause-share : goal.returns-clause-share
returns-clause-share c = grind (arith, common_steps)
