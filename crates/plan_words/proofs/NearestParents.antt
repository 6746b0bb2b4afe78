-- A node in hand may hang below the node that it was steered from, if the segment between them is clear.
use Rattle.plan_words.proofs.Words.{◌≡◌, ℕ, ◌+◌, ◌≤◌, ◌^◌, true, Some, refl, sym, ap, subst, arith, IfSome, IsBounded, Clear, mark_at, space_of, cost_of}
use Rattle.plan_words.proofs.Words.{squared_distance, Point, StandsAt-unique, IsStep-steered, TreeOf, SharedState, run_in, IsLawfulView, has_point, MayHang}
use Rattle.plan_words.proofs.Words.{SeesCost, SeesPoint, sees, setup_in, tree_seen, IsBounded-steered, Hand, View}
use Rattle.plan_words.proofs.HandSteps.{at_hand}
use Rattle.plan_words.proofs.KeptPairs.{if_hand}

pub MayHang-nearest :
    (view : View) (hand : Hand) (at : Point) (cost : ℕ) → IsLawfulView view → view.hand ≡ Some hand → has_point hand.stage ≡ true
    → SeesCost view hand.nearest at cost → Clear (setup_in view.run).space at hand.point
    → MayHang view hand hand.nearest (cost + cost_of at hand.point)
MayHang-nearest view hand at cost lawful held far seen clear =
    let step = (lawful.tree.holds hand held).steered_from far in
    let same : step.from ≡ at = StandsAt-unique (tree_seen view).points hand.nearest step.from at step.seen seen.stands in
    let short = (IsStep-steered step.from (mark_at view.run.marks hand.mark) view.run.step).short in
    record {
      below = record {
        from = at;
        parent_cost = cost;
        seen = seen;
        edge = record {
          clear = clear;
          short =
              omega (
                arith,
                ap (λ p. squared_distance p hand.point) same,
                ap (λ p. squared_distance step.from p) step.reached,
                short,
              );
        };
        cost_is = refl;
      };
      nearest_at = at;
      nearest_cost = cost;
      nearest = seen;
      chosen = omega arith;
    }

-- node 0 is seen at no cost
pub SeesCost-start : (view : View) (at : Point) → IsLawfulView view → SeesPoint view 0 at → 2 ^ 63 ≤ sees view (TreeOf 0) → SeesCost view 0 at 0
SeesCost-start view at lawful stands written = record {
  stands = stands;
  written = written;
  cost_is = sym ((lawful.pairs 0 written).start refl).1;
}

-- the point in hand is within bounds
pub IsBounded-hand : (view : View) (hand : Hand) → IsLawfulView view → view.hand ≡ Some hand → has_point hand.stage ≡ true → IsBounded hand.point
IsBounded-hand view hand lawful held far =
    IsBounded-steered view hand.mark hand.nearest hand.point (lawful.run.points hand.mark) ((lawful.tree.holds hand held).steered_from far)

-- A node in hand that was steered from the start may hang below it.
pub MayHang-start :
    (shared : SharedState) (view : View) (hand : Hand) (start p : Point) (edge : ℕ) → view.run ≡ run_in shared → IsLawfulView view → view.hand ≡ Some hand
    → has_point hand.stage ≡ true → hand.nearest ≡ 0 → SeesPoint view 0 start → 2 ^ 63 ≤ sees view (TreeOf 0) → Clear (space_of shared.task.scene) start p
    → IfSome view.hand (λ h. p ≡ h.point) → edge ≡ cost_of start p → IfSome view.hand (λ h. MayHang view h 0 edge)
MayHang-start shared view hand start p edge own lawful held far from_start stands written clear is edge_is =
    let point : p ≡ hand.point = at_hand (λ h. p ≡ h.point) view.hand hand held is in
    let seen = subst (λ m. SeesCost view m start 0) (sym from_start) (SeesCost-start view start lawful stands written) in
    let free = subst (λ q. Clear (setup_in view.run).space start q) point (subst (λ r. Clear (setup_in r).space start p) (sym own) clear) in
    let own_edge : edge ≡ 0 + cost_of start hand.point = omega (arith, edge_is, ap (cost_of start) point) in
    if_hand (λ h. MayHang view h 0 edge) view.hand hand held
    (subst (λ m. MayHang view hand m edge) from_start
    (subst (MayHang view hand hand.nearest) (sym own_edge) (MayHang-nearest view hand start 0 lawful held far seen free)))
