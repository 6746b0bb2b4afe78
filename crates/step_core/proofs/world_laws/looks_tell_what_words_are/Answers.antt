use Rattle.step_core.proofs.Whole.Histories.{WasSo-looked, best-not_stale, load-not_stale, seen-as_it_is}
use Rattle.step_core.proofs.world_laws.looks_tell_what_words_are.Goals as goal

pub returns-clause-as_it_is : goal.returns-clause-as_it_is
returns-clause-as_it_is c = λ now is after then next. seen-as_it_is now.run now.words after now.views now.id now.view then is.world is.at is.own next

pub returns-clause-stale : goal.returns-clause-stale
returns-clause-stale c = λ now is. load-not_stale now.run now.words now.views now.id now.view is.world is.at is.own

pub returns-clause-stale_best : goal.returns-clause-stale_best
returns-clause-stale_best c = λ now is. best-not_stale now.run now.words now.views now.id now.view is.world is.at is.own

pub returns-clause-was_so : goal.returns-clause-was_so
returns-clause-was_so c =
    λ run id words last views lasts first end world at come at_end own name may looked some_seen.
    WasSo-looked run id words views world first at name may last lasts come end at_end looked some_seen
