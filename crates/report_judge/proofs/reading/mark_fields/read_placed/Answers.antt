use Rattle.report_judge.proofs.Words.{◌≡◌, ℕ, List, [], ◌∷◌, ◌++◌, arith, sym, ap, ◌∙◌, append_assoc, decimal, codes, line, field}
use Rattle.report_judge.proofs.Texts.FieldWords.{no_value}
use Rattle.report_judge.proofs.reading.mark_fields.read_placed.Goals as goal

-- the line from each of its numbers on
abbrev from_cost : (cost : ℕ) → List ℕ → List ℕ
from_cost cost rest = field [] cost 10 rest

abbrev from_parent : (parent cost : ℕ) → List ℕ → List ℕ
from_parent parent cost rest = field (codes "first ") parent 32 (from_cost cost rest)

-- the line
abbrev spelled : (class parent cost : ℕ) → List ℕ
spelled class parent cost =
    line (codes "placed" ∷ codes "class" ∷ decimal class ∷ codes "first" ∷ decimal parent ∷ decimal cost ∷ [])

parts : (class parent cost : ℕ) (rest : List ℕ) → spelled class parent cost ++ rest ≡ field (codes "placed class ") class 32 (from_parent parent cost rest)
parts class parent cost rest = simp append_assoc

pub returns-in_err-class-clause-none : goal.returns-in_err-class-clause-none
returns-in_err-class-clause-none c =
    no_value c.from_residual.result (λ class parent cost rest low_class low_parent low_cost e.
    c.in_err-class.ensures.none class (from_parent parent cost rest) (omega (arith, low_class)) (e ∙ parts class parent cost rest))

pub returns-in_err-parent-clause-none : goal.returns-in_err-parent-clause-none
returns-in_err-parent-clause-none c =
    no_value c.from_residual-in_err-parent.result (λ class parent cost rest low_class low_parent low_cost e.
    let behind = c.in_ok-class.ensures.only class (from_parent parent cost rest) (omega (arith, low_class)) (e ∙ parts class parent cost rest) in
    c.in_err-parent.ensures.none parent (from_cost cost rest) (omega (arith, low_parent, c.from-last.ensures)) behind.1)

pub returns-in_err-cost-clause-none : goal.returns-in_err-cost-clause-none
returns-in_err-cost-clause-none c =
    no_value c.from_residual-in_err-cost.result (λ class parent cost rest low_class low_parent low_cost e.
    let behind = c.in_ok-class.ensures.only class (from_parent parent cost rest) (omega (arith, low_class)) (e ∙ parts class parent cost rest) in
    let further = c.in_ok-parent.ensures.only parent (from_cost cost rest) (omega (arith, low_parent, c.from-last.ensures)) behind.1 in
    c.in_err-cost.ensures.none cost rest (omega (arith, low_cost)) further.1)

pub returns-clause-some : goal.returns-clause-some
returns-clause-some c =
    let from_parents = c.in_ok-parent.ensures.some.1 ∙ ap (field (codes "first ") c.in_ok-parent.parent 32) c.in_ok-cost.ensures.some.1 in
    c.in_ok-class.ensures.some.1 ∙ ap (field (codes "placed class ") c.in_ok-class.class 32) from_parents
    ∙ sym (parts c.in_ok-class.class c.in_ok-parent.parent c.in_ok-cost.cost c.in_ok-cost.rest.now)
