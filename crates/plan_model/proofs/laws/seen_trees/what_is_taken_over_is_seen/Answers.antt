use Rattle.plan_model.proofs.SightsTogether.{HasSeenAtLeast-second, IsTrueOf-together, AgreeOnParents-together, IsLaterMoment-takes, KeepsSight-takes}
use Rattle.plan_model.proofs.laws.seen_trees.what_is_taken_over_is_seen.Goals as goal

pub returns-clause-own : goal.returns-clause-own
returns-clause-own c = λ before after other takes. IsLaterMoment-takes before other after takes

pub returns-clause-other : goal.returns-clause-other
returns-clause-other c =
    λ before after other tree takes first second agree.
    HasSeenAtLeast-second before.seen other after.seen takes.seen tree first second agree

pub returns-clause-still_true : goal.returns-clause-still_true
returns-clause-still_true c =
    λ before after other tree takes first second. IsTrueOf-together before.seen other after.seen takes.seen tree first second

pub returns-clause-keeps : goal.returns-clause-keeps
returns-clause-keeps c =
    λ before after other tree takes first second follow keeps rooted.
    KeepsSight-takes before other after takes tree first second follow keeps rooted

pub returns-clause-agree : goal.returns-clause-agree
returns-clause-agree c =
    λ before after other third takes first second. AgreeOnParents-together before.seen other after.seen takes.seen third first second
