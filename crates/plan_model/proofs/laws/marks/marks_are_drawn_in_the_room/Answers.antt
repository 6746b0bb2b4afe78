use Rattle.plan_model.proofs.DrawnMarks.{drawn_mark-column, drawn_mark-row, drawn_mark-in_room}
use Rattle.plan_model.proofs.laws.marks.marks_are_drawn_in_the_room.Goals as goal

pub returns-clause-column : goal.returns-clause-column
returns-clause-column c = drawn_mark-column

pub returns-clause-row : goal.returns-clause-row
returns-clause-row c = drawn_mark-row

pub returns-clause-in_room : goal.returns-clause-in_room
returns-clause-in_room c = drawn_mark-in_room
