use Rattle.report_judge.proofs.Workers.OwnNodeLaws.{HasNo-end, HasNo-on, HasOne-on}
use Rattle.report_judge.proofs.own.searches.has_one.Goals as goal

pub walk-preserved : goal.walk-preserved
walk-preserved g c =
    HasNo-on _ c.args.disc.center c.args.disc.square c.requires.within c.args.judged.now.own.now c.walk.at c.in-Some.stretch c.walk.invariant
    c.in-Some.ensures (c.has_one_in.ensures.none c.if-has_one_in.false)

pub returns-then-has_one_in-clause-some : goal.returns-then-has_one_in-clause-some
returns-then-has_one_in-clause-some g c = λ h.
    HasOne-on _ c.args.disc.center c.args.disc.square c.requires.within c.args.judged.now.own.now c.walk.at c.in-Some.stretch c.in-Some.ensures
    (c.has_one_in.ensures.some c.if-has_one_in.true)

pub returns-clause-none : goal.returns-clause-none
returns-clause-none g c = λ h.
    HasNo-end _ c.args.disc.center c.args.disc.square c.requires.within c.args.judged.now.own.now c.walk.at c.walk.invariant c.in_default.ensures
