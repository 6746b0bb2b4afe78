use Rattle.report_judge.proofs.Words.{◌≡◌, ℕ, List, [], ◌∷◌, ◌++◌, arith, sym, ◌∙◌, append_assoc, decimal, codes, line, field}
use Rattle.report_judge.proofs.Texts.FieldWords.{no_value}
use Rattle.report_judge.proofs.reading.mark_fields.read_skipped.Goals as goal

-- the line
abbrev spelled : (goal : ℕ) → List ℕ
spelled goal = line (codes "skipped" ∷ codes "by" ∷ decimal goal ∷ [])

parts : (goal : ℕ) (rest : List ℕ) → spelled goal ++ rest ≡ field (codes "skipped by ") goal 10 rest
parts goal rest = simp append_assoc

pub returns-in_err-goal-clause-none : goal.returns-in_err-goal-clause-none
returns-in_err-goal-clause-none c =
    no_value c.from_residual.result (λ goal rest low e. c.in_err-goal.ensures.none goal rest (omega (arith, low, c.from.ensures)) (e ∙ parts goal rest))

pub returns-clause-some : goal.returns-clause-some
returns-clause-some c = c.in_ok-goal.ensures.some.1 ∙ sym (parts c.in_ok-goal.goal c.in_ok-goal.rest.now)
