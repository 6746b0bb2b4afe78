use Rattle.plan_words.proofs.Words.{◌∙◌, ◌<◌, ap, length, subst, sym, turns_of, record_at, IsPassOf, sees}
use Rattle.plan_words.proofs.Dealing.{sees-started}
use Rattle.plan_words.proofs.shared.Shared.deal.Goals as goal

pub hand_out-requires-clause-turns : goal.hand_out-requires-clause-turns
hand_out-requires-clause-turns c w low =
    let opened = c.in_ok-shared.ensures in
    c.requires.turns w (subst (λ n. w < n) opened.workers low)
    ∙ sym (ap (λ words. turns_of (record_at words) (length c.args.opening.grown.task.marks) w) (sees-started c.args.opening))
    ∙ sym (ap (λ p. turns_of (record_at (sees p.view)) (length c.args.opening.grown.task.marks) w) opened.first)
    ∙ sym (ap (λ t. turns_of (record_at (sees c.in_ok-shared.first.view)) (length t.marks) w) opened.task)

pub returns-clause-passes : goal.returns-clause-passes
returns-clause-passes c w pass e =
    subst (λ first. IsPassOf c.in_ok-shared.shared first w pass) c.in_ok-shared.ensures.first (c.in_ok-passes.ensures.passes w pass e)
