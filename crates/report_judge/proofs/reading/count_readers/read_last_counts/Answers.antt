use Rattle.report_judge.proofs.Words.{sym, ap, ◌∙◌, codes, field}
use Rattle.report_judge.proofs.Texts.CountParts.{parts-skipped}
use Rattle.report_judge.proofs.reading.count_readers.read_last_counts.Goals as goal

pub returns-clause-some : goal.returns-clause-some
returns-clause-some c =
    c.in_ok-blocked-2.ensures.some.1 ∙ ap (field (codes "blocked ") c.in_ok-blocked-2.blocked 32) c.in_ok-skipped.ensures.some.1
    ∙ sym (parts-skipped c.in_ok-blocked-2.blocked c.in_ok-skipped.skipped c.in_ok-skipped.rest.now)
