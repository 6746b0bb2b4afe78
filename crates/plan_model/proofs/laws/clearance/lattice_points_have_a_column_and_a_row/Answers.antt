use Rattle.plan_model.proofs.SpanLaws.{IsInSpans-from_in_room, InRoom-from_spans, BodyFits-from_in_room}
use Rattle.plan_model.proofs.laws.clearance.lattice_points_have_a_column_and_a_row.Goals as goal

pub returns-clause-spans : goal.returns-clause-spans
returns-clause-spans c = λ space p. (
  λ h. (let own = IsInSpans-from_in_room space p h in (own.column, own.row)),
  λ (column, row). InRoom-from_spans space p (record { column = column; row = row }),
)

pub returns-clause-fits : goal.returns-clause-fits
returns-clause-fits c = λ space p clear. BodyFits-from_in_room space p clear.in_room
