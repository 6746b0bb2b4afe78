-- The words of a closed run are the cleared ones.
use Rattle.std.proofs.Common.{sym, subst}
use Rattle.grown_runs.proofs.Common.{HoldRun, words_in, cleared-blank}
use Rattle.runs_tests.proofs.packed_runs.grown.gives_its_words_and_takes_them_back.Goals as goal

pub from_words-grown-requires-clause-run : goal.from_words-grown-requires-clause-run
from_words-grown-requires-clause-run g c =
    let held = c.into_words-task.ensures.run in
    subst (HoldRun c.into_words-task.result.0 c.into_words-task.result.1) (sym (cleared-blank (words_in c.into_words-task.result.2) held.blank)) held
