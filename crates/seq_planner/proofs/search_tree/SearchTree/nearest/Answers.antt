use Rattle.seq_planner.proofs.Words.{◌<◌, List, ℕ, length, arith, rules, sym, subst, All, Contains, IsStrictlyIncreasing, IsFirstLeast, distance_to, points_of}
use Rattle.seq_planner.proofs.Words.{IsPresent, near-present}
use Rattle.seq_planner.proofs.NearestNodes.{near-rising, IsNearest-near}
use Rattle.seq_planner.proofs.ScannedLists.{near-listed}
use Rattle.seq_planner.proofs.PresentNumbers.{ArePlaced-bounded, ArePlaced-count, ArePlaced-numbered}
use Rattle.seq_planner.proofs.SoundTrees.{some_present}
use Rattle.seq_planner.proofs.search_tree.SearchTree.nearest.Goals as goal

pub nearest-requires : goal.nearest-requires
nearest-requires c =
    let tree = c.args.self.now in
    let placed = c.requires.sound.are_placed in
    record {
      some = omega (
        arith,
        ArePlaced-count (points_of tree.nodes) tree.placed placed,
        some_present tree.nodes tree.costs.items tree.placed c.requires.sound,
      );
      numbered = ArePlaced-numbered (points_of tree.nodes) tree.placed placed;
      nodes = ArePlaced-bounded (points_of tree.nodes) tree.placed placed c.requires.sound.bounded;
      bounded = c.requires.bounded;
    }

pub nearest_listed-requires : goal.nearest_listed-requires
nearest_listed-requires c =
    let points = points_of c.args.self.now.nodes in
    let r = c.requires.near.0 in
    let some : 0 < length c.args.near.now = search rules in
    let listed = near-listed points c.args.mark r c.args.near.now c.requires.near.1 some in
    record {
      some = some;
      present = subst (All (IsPresent points)) (sym listed) (near-present points c.args.mark r);
      rising = subst IsStrictlyIncreasing (sym listed) (near-rising points c.args.mark r);
      sound = c.requires.sound;
      bounded = c.requires.bounded;
    }

pub returns-else-is_empty : goal.returns-else-is_empty
returns-else-is_empty c =
    let points = points_of c.args.self.now.nodes in
    let r = c.requires.near.0 in
    let some : 0 < length c.args.near.now = search rules in
    let listed = near-listed points c.args.mark r c.args.near.now c.requires.near.1 some in
    let L : List ℕ → Type 0 = λ ns. IsFirstLeast (distance_to c.args.mark points) (Contains ns) c.nearest_listed.result in
    IsNearest-near points c.args.mark r c.nearest_listed.result (subst L listed c.nearest_listed.ensures)
