-- What was read of a near node says that it is cheaper through a new one.
use Rattle.seq_planner.proofs.Words.{◌≡◌, ℕ, List, get_or, arith, ap, ◌∙◌, Point, ConfigurationSpace, IsPresent, point_of, points_of, Nodes, cost_through}
use Rattle.seq_planner.proofs.Words.{IsCheaperThrough, PlacedPoints, IsSound}
use Rattle.seq_planner.proofs.ReadCosts.{sum-read}
use Rattle.seq_planner.proofs.RewiredNodes.{IsCheaper}

module _
    {space : ConfigurationSpace} {nodes : Nodes} {costs : List ℕ} {placed : PlacedPoints} {n i through kept : ℕ} {p : Point}
    (sound : IsSound nodes costs placed) (parent : IsPresent (points_of nodes) n) (present : IsPresent (points_of nodes) i)
    (cheaper : IsCheaperThrough space nodes n i) (stands : p ≡ point_of (points_of nodes) i) (cost_is : through ≡ cost_through nodes p n)
    (kept_cost : kept ≡ get_or costs i kept) where
  -- its point, its cost through the new node, and its kept cost
  pub IsCheaper-read : IsCheaper nodes costs placed n i through kept
  IsCheaper-read =
      let costs_through : through ≡ cost_through nodes (point_of (points_of nodes) i) n = cost_is ∙ ap (λ q. cost_through nodes q n) stands in
      let sum = sum-read nodes costs placed i kept sound present kept_cost in
      record {
        sound = sound;
        parent = parent;
        present = present;
        through_is = costs_through;
        kept_is = sum;
        less = omega (arith, cheaper.cheaper, costs_through, sum);
      }
