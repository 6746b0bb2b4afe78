use Rattle.plan_words.proofs.Words.{subst, sym, ◌∙◌, IsSome}
use Rattle.plan_words.proofs.Tying.{turn_few}
use Rattle.plan_words.proofs.passes.Pass.turn.Goals as goal

pub returns-in-Some-clause-few : goal.returns-in-Some-clause-few
returns-in-Some-clause-few c =
    let tied = c.self.invariant.1 in
    λ held. turn_few _ _ tied.lawful (sym c.in-Some.is ∙ tied.member_is) (subst (λ p. IsSome p.view.hand) (sym c.self.view_is) held)
