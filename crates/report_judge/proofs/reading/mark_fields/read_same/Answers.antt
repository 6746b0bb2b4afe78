use Rattle.report_judge.proofs.Words.{◌≡◌, ℕ, List, [], ◌∷◌, ◌++◌, arith, sym, ◌∙◌, append_assoc, decimal, codes, line, field}
use Rattle.report_judge.proofs.Texts.FieldWords.{no_value}
use Rattle.report_judge.proofs.reading.mark_fields.read_same.Goals as goal

-- the line
abbrev spelled : (node : ℕ) → List ℕ
spelled node = line (codes "same" ∷ decimal node ∷ [])

parts : (node : ℕ) (rest : List ℕ) → spelled node ++ rest ≡ field (codes "same ") node 10 rest
parts node rest = simp append_assoc

pub returns-in_err-node-clause-none : goal.returns-in_err-node-clause-none
returns-in_err-node-clause-none c =
    no_value c.from_residual.result (λ node rest low e. c.in_err-node.ensures.none node rest (omega (arith, low, c.from.ensures)) (e ∙ parts node rest))

pub returns-clause-some : goal.returns-clause-some
returns-clause-some c = c.in_ok-node.ensures.some.1 ∙ sym (parts c.in_ok-node.node c.in_ok-node.rest.now)
