use Rattle.plan_words.proofs.Words.{ap, arith, ◌∙◌, PassState, joined, loaded, sees, Count}
use Rattle.std.proofs.lemmas.Grind.{common_steps}
use Rattle.plan_words.proofs.Owning.{with_view_told}
use Rattle.plan_words.proofs.shared.Shared.join_retired.Goals as goal

pub returns-clause-view : goal.returns-clause-view
returns-clause-view c =
    let then = c.take_over.new.seat.me.0 in
    with_view_told c.args.retired.now _ _ then (λ v. loaded (joined v c.args.other.view) Count (sees then Count)) c.retired.view_is
    c.take_over.ensures.table
    (c.take_over.ensures.told.view_is
    ∙ ap (λ (o : PassState). loaded (joined c.retired.inside.seat.me.0 o.view) Count (sees then Count)) c.other.view_is)

pub returns-clause-share : goal.returns-clause-share
returns-clause-share c = grind (arith, common_steps)
