use Rattle.report_judge.proofs.Words.{◌≡◌, ◌++◌, length, map, All, IsBounded, lines_text, PathPoint}
use Rattle.report_judge.proofs.reading.front_lines.read_points.Given as goal

-- the points so far are read
abbrev pub invariant-points : goal.invariant-points
invariant-points l = record {
  long : length l.points.items ≡ l._place;
  told : l.text ≡ lines_text (map PathPoint l.points.items) ++ l.rest;
  fit : All IsBounded l.points.items;
}
