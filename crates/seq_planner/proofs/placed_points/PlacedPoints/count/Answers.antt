use Rattle.std.proofs.Common.{◌∙◌}
use Rattle.seq_planner.proofs.PresentNumbers.{ArePlaced-count}
use Rattle.seq_planner.proofs.placed_points.PlacedPoints.count.Goals as goal

pub returns : goal.returns
returns c = λ points h. c.len.ensures ∙ c.args.self.now.points.ok.0 ∙ ArePlaced-count points c.args.self.now h
