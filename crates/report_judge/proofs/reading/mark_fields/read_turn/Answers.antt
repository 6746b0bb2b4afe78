use Rattle.report_judge.proofs.Words.{ℕ, List, arith, ap, ◌∙◌, codes, field}
use Rattle.report_judge.proofs.Texts.FieldWords.{no_value}
use Rattle.report_judge.proofs.reading.mark_fields.read_turn.Goals as goal

-- the line after its number, and after its worker
abbrev from_turn : (turn : ℕ) → List ℕ → List ℕ
from_turn turn rest = field (codes "turn ") turn 32 rest

abbrev from_worker : (worker turn : ℕ) → List ℕ → List ℕ
from_worker worker turn rest = field (codes "worker ") worker 32 (from_turn turn rest)

pub returns-in_err-number-clause-none : goal.returns-in_err-number-clause-none
returns-in_err-number-clause-none c =
    no_value c.from_residual.result (λ number worker turn rest low_number low_worker low_turn e.
    c.in_err-number.ensures.none number (from_worker worker turn rest) (omega (arith, low_number, c.from-last.ensures)) e)

pub returns-in_err-worker-clause-none : goal.returns-in_err-worker-clause-none
returns-in_err-worker-clause-none c =
    no_value c.from_residual-in_err-worker.result (λ number worker turn rest low_number low_worker low_turn e.
    let behind = c.in_ok-number.ensures.only number (from_worker worker turn rest) (omega (arith, low_number, c.from-last.ensures)) e in
    c.in_err-worker.ensures.none worker (from_turn turn rest) (omega (arith, low_worker)) behind.1)

pub returns-in_err-turn-clause-none : goal.returns-in_err-turn-clause-none
returns-in_err-turn-clause-none c =
    no_value c.from_residual-in_err-turn.result (λ number worker turn rest low_number low_worker low_turn e.
    let behind = c.in_ok-number.ensures.only number (from_worker worker turn rest) (omega (arith, low_number, c.from-last.ensures)) e in
    let further = c.in_ok-worker.ensures.only worker (from_turn turn rest) (omega (arith, low_worker)) behind.1 in
    c.in_err-turn.ensures.none turn rest (omega (arith, low_turn)) further.1)

pub returns-clause-some : goal.returns-clause-some
returns-clause-some c =
    let from_workers = c.in_ok-worker.ensures.some.1 ∙ ap (field (codes "worker ") c.in_ok-worker.worker 32) c.in_ok-turn.ensures.some.1 in
    c.in_ok-number.ensures.some.1 ∙ ap (field (codes "mark ") c.in_ok-number.number 32) from_workers

pub returns-clause-only : goal.returns-clause-only
returns-clause-only c = λ number worker turn rest low_number low_worker low_turn e.
    let behind = c.in_ok-number.ensures.only number (from_worker worker turn rest) (omega (arith, low_number, c.from-last.ensures)) e in
    let further = c.in_ok-worker.ensures.only worker (from_turn turn rest) (omega (arith, low_worker)) behind.1 in
    let last = c.in_ok-turn.ensures.only turn rest (omega (arith, low_turn)) further.1 in
    (behind.0, further.0, last.0, last.1)
