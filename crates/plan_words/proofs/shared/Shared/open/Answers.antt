use Rattle.plan_words.proofs.Words.{◌∙◌, ap, subst, sym, IsTableOf, run_of, IsLawfulView}
use Rattle.plan_words.proofs.Dealing.{IsLawfulView-started, IsTableOf-started}
use Rattle.plan_words.proofs.shared.Shared.open.Goals as goal

pub invariant_of-shared : goal.invariant_of-shared
invariant_of-shared c =
    let laid = c.in_ok-table.ensures in
    let given = c.into_words-task.ensures in
    let table = c.in_ok-table.table.shared in
    subst (λ task. IsTableOf table.table_id table.key (run_of task c.args.opening.workers c.into_words-task.result.1) c.places-places.result)
    (sym given.task)
    (subst (λ limit. IsTableOf table.table_id table.key (run_of c.args.opening.grown.task c.args.opening.workers limit) c.places-places.result)
    (sym given.limit)
    (IsTableOf-started c.args.opening table.table_id table.key c.places-places.result laid.words laid.slots laid.key
    (c.places-places.ensures ∙ ap (λ words. words.places) given.words)))

pub returns-clause-belongs : goal.returns-clause-belongs
returns-clause-belongs c =
    let first = c.in_ok-table.ensures.first in
    let given = c.into_words-task.ensures in
    let opening = c.args.opening in
    record {
      table = ap (λ p. p.table) first;
      run = ap (λ p. p.view.run) first ∙ ap (λ task. run_of task opening.workers opening.grown.limit) (sym given.task)
          ∙ ap (run_of c.into_words-task.result.0 opening.workers) (sym given.limit);
      lawful = subst (λ p. IsLawfulView p.view) (sym first) (IsLawfulView-started opening);
    }
