use Rattle.planner.proofs.Words.{ap, inr, map, ◌∙◌, string_bytes, command_of}
use Rattle.planner.proofs.ConcludedCalls.{no_words}
use Rattle.planner.proofs.command_line.exit_code.Goals as goal

pub returns-in-Ok-clause-done : goal.returns-in-Ok-clause-done
returns-in-Ok-clause-done g c =
    let same = c.deref.ensures.value ∙ c.in-Ok.ensures.words in
    rw (← same) (inr (c.run.result, c.from.ensures, c.run.ensures))

pub returns-in-Ok-clause-no_text : goal.returns-in-Ok-clause-no_text
returns-in-Ok-clause-no_text g c = λ no_text.
    let same = c.deref.ensures.value ∙ c.in-Ok.ensures.words ∙ no_words _ no_text in
    rw c.from.ensures (c.run.ensures.words (ap (λ words. command_of (map string_bytes words)) same))
