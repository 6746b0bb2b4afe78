use Rattle.plan_words.proofs.Words.{◌∙◌, ap, subst, sym, slice_index, IfOk-weaker, skipping_goals, state_of_grown, words_of_grown, IsLeastBest, Best}
use Rattle.plan_words.proofs.Words.{first_view, new_pass, without_best, Opening}
use Rattle.plan_words.proofs.Dealing.{IsLeastBest-written, MayClaim-starts, StartsAs-pass, sees-started, without_best-written}
use Rattle.plan_words.proofs.shared.Shared.start.Goals as goal

pub deal-requires-clause-turns : goal.deal-requires-clause-turns
deal-requires-clause-turns c w low = ap (λ l. slice_index l w) c.as_slice.ensures.value ∙ c.in_ok-turns.ensures.each w low

pub invariant_of-deal : goal.invariant_of-deal
invariant_of-deal c = record {
  some = c.requires.some;
  few = c.requires.few;
  best = IsLeastBest-written c.args.grown c.write_best.new.self c.write_best.ensures.task c.write_best.ensures.words c.write_best.ensures.best;
}

pub returns-clause-passes : goal.returns-clause-passes
returns-clause-passes c =
    let grown = c.write_best.new.self in
    let opening : Opening = record {
      grown = grown;
      workers = c.args.workers;
      some = c.requires.some;
      few = c.requires.few;
      best = IsLeastBest-written c.args.grown grown c.write_best.ensures.task c.write_best.ensures.words c.write_best.ensures.best;
    } in
    IfOk-weaker c.deal.result _ _
    (λ started dealt w pass e.
    StartsAs-pass started.0 c.args.grown (new_pass started.0.table (first_view opening)) w pass
    (ap without_best (sees-started opening)
    ∙ without_best-written (words_of_grown c.args.grown) (words_of_grown grown) _ c.write_best.ensures.words) c.write_best.ensures.limit
    (subst (IsLeastBest (skipping_goals c.args.grown.task.scene) (state_of_grown c.args.grown)) (sym (ap (λ words. words Best) (sees-started opening)))
    c.write_best.ensures.best)
    (dealt w pass e))
    c.deal.ensures.passes

pub returns-clause-may_claim : goal.returns-clause-may_claim
returns-clause-may_claim c =
    IfOk-weaker c.deal.result _ _ (λ started starts. MayClaim-starts started.0 c.args.grown started.1.items (λ w pass e. (w, starts w pass e)))
    (returns-clause-passes c)
