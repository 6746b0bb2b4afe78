use Rattle.any_time.proofs.Words.{sym, ◌∙◌, subst, AreBetterPaths}
use Rattle.any_time.proofs.GatheredItems.{AreBetterPaths-gathered, EndsWith-gathered}
use Rattle.any_time.proofs.gathering.finish_session.Goals as goal

pub returns-clause-ended : goal.returns-clause-ended
returns-clause-ended g c =
    let gathers = rw (c.new-2.ensures, c.in_ok-session-2.was) at c.in-Ok.ensures in
    EndsWith-gathered c.args.task c.args.workers c.args.slice _ _ _ _ _ c.new-none.ensures.items c.in_ok-session.ensures gathers
    (sym c.finish.ensures ∙ c.in-Some.is)

pub returns-clause-better : goal.returns-clause-better
returns-clause-better g c =
    let gathers = rw (c.new-2.ensures, c.in_ok-session-2.was) at c.in-Ok.ensures in
    subst (AreBetterPaths c.args.workers c.args.slice c.in-Some.run') (sym c.from_vec.ensures)
    (AreBetterPaths-gathered c.args.task c.args.workers c.args.slice _ _ _ _ _ c.new-none.ensures.items c.in_ok-session.ensures gathers
    (sym c.finish.ensures ∙ c.in-Some.is))
