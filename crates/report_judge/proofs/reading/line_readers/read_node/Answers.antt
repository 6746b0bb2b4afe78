use Rattle.report_judge.proofs.Words.{ℕ, List, arith, sym, ap, ◌∙◌, codes, Knot, field, point_field}
use Rattle.report_judge.proofs.Texts.FieldWords.{no_value}
use Rattle.report_judge.proofs.Texts.LineParts.{parts-node}
use Rattle.report_judge.proofs.reading.line_readers.read_node.Goals as goal

-- the line from each of its parts on
abbrev from_cost : Knot → List ℕ → List ℕ
from_cost knot rest = field (codes "cost ") knot.cost 10 rest

abbrev from_parent : Knot → List ℕ → List ℕ
from_parent knot rest = field (codes "parent ") knot.parent 32 (from_cost knot rest)

abbrev from_point : Knot → List ℕ → List ℕ
from_point knot rest = point_field (codes "at ") knot.point 32 (from_parent knot rest)

pub returns-in_err-point-clause-none : goal.returns-in_err-point-clause-none
returns-in_err-point-clause-none c =
    no_value c.from_residual-in_err-point.result (λ n knot rest fits e.
    let behind = c.in_ok-number.ensures.only n (from_point knot rest) (omega (arith, fits.number, c.from-last.ensures)) (e ∙ parts-node n knot rest) in
    c.in_err-point.ensures.none knot.point (from_parent knot rest) fits.point behind.1)

pub returns-in_err-parent-clause-none : goal.returns-in_err-parent-clause-none
returns-in_err-parent-clause-none c =
    no_value c.from_residual-in_err-parent.result (λ n knot rest fits e.
    let behind = c.in_ok-number.ensures.only n (from_point knot rest) (omega (arith, fits.number, c.from-last.ensures)) (e ∙ parts-node n knot rest) in
    c.in_err-parent.ensures.none knot.parent (from_cost knot rest) (omega (arith, fits.parent, c.from-last.ensures))
    (c.in_ok-point.ensures.only knot.point (from_parent knot rest) fits.point behind.1))

pub returns-in_err-cost-clause-none : goal.returns-in_err-cost-clause-none
returns-in_err-cost-clause-none c =
    no_value c.from_residual-in_err-cost.result (λ n knot rest fits e.
    let behind = c.in_ok-number.ensures.only n (from_point knot rest) (omega (arith, fits.number, c.from-last.ensures)) (e ∙ parts-node n knot rest) in
    let further = c.in_ok-point.ensures.only knot.point (from_parent knot rest) fits.point behind.1 in
    let last = c.in_ok-parent.ensures.only knot.parent (from_cost knot rest) (omega (arith, fits.parent, c.from-last.ensures)) further in
    c.in_err-cost.ensures.none knot.cost rest (omega (arith, fits.cost)) last.1)

pub returns-clause-some : goal.returns-clause-some
returns-clause-some c =
    let number = c.in_ok-number.ensures.some in
    let point = c.in_ok-point.ensures.some in
    let parent = c.in_ok-parent.ensures.some in
    let cost = c.in_ok-cost.ensures.some in
    let own : Knot = record { point = c.in_ok-point.point; parent = c.in_ok-parent.parent; cost = c.in_ok-cost.cost } in
    let from_points = point.1 ∙ ap (point_field (codes "at ") own.point 32) (parent.1 ∙ ap (field (codes "parent ") own.parent 32) cost.1) in (
      record {
        number = omega (arith, number.0, c.from-last.ensures);
        point = point.0;
        parent = omega (arith, parent.0, c.from-last.ensures);
        cost = omega (arith, cost.0);
      },
      number.1 ∙ ap (field (codes "node ") c.in_ok-number.number 32) from_points ∙ sym (parts-node c.in_ok-number.number own c.in_ok-cost.rest.now),
    )
