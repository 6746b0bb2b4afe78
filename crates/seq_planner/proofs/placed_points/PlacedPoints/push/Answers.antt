use Rattle.std.proofs.Common.{◌∙◌, ap, ◌++◌, ◌∷◌, [], ℕ}
use Rattle.seq_planner.proofs.PresentNumbers.{ArePlaced-push}
use Rattle.seq_planner.proofs.placed_points.PlacedPoints.push.Goals as goal

pub returns : goal.returns
returns c = λ points number h.
    ArePlaced-push points c.args.self.now (record { points = c.push.new.self; numbers = c.push-2.new.self }) c.args.point h
    (c.in_ok-push-2.ensures.items ∙ ap (λ (n : ℕ). c.args.self.now.numbers.items ++ n ∷ []) number) c.in_ok-push.ensures.items
