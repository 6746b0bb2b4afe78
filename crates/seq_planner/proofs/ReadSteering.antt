-- What was read of the nearest node says that it steers towards the next mark, that the point is bounded, and which nodes are near it.
use Rattle.seq_planner.proofs.Words.{◌≡◌, ℕ, ◌+◌, ◌<◌, ◌≤◌, List, length, max, arith, sym, ap, ◌∙◌, subst, ◌≢◌, Point, Scene, IsBounded, radius_of}
use Rattle.seq_planner.proofs.Words.{MayBeCheaper, setup_of, near_new, IsNearest, near, point_of, node_count, steered, points_of, sum_of, SearchTree}
use Rattle.seq_planner.proofs.Words.{listed_near, IsSoundTree}
use Rattle.seq_planner.proofs.MarkExtensions.{Steers, is_free}
use Rattle.seq_planner.proofs.NearestNodes.{steered-beside}
use Rattle.seq_planner.proofs.ScannedLists.{near-listed, listed_near-free}
use Rattle.seq_planner.proofs.SoundTrees.{IsBounded-present}

-- its number, its point, and the point that it steers to
pub Steers-read :
    (scene : Scene) (tree : SearchTree) (mark : Point) (k : ℕ) {nearest : ℕ} {from point : Point}
    → MayBeCheaper (setup_of scene) (sum_of tree.nodes) (points_of tree.nodes) mark
    → k ≡ length tree.records.items → length tree.records.items + 1 ≡ length tree.nodes → IsNearest (points_of tree.nodes) mark nearest
    → from ≡ point_of (points_of tree.nodes) nearest → point ≡ steered from mark scene.step → Steers scene tree mark k nearest from point
Steers-read scene tree mark k cheaper turn numbers is_nearest begins ends = record {
  cheaper = cheaper;
  turn = turn;
  numbers = numbers;
  is_nearest = is_nearest;
  begins = begins;
  ends = ends;
}

-- it lies between the two
pub IsBounded-steered :
    {scene : Scene} {tree : SearchTree} {mark : Point} {k nearest : ℕ} {from point : Point} → Steers scene tree mark k nearest from point
    → IsSoundTree tree → IsBounded mark → point.x ≤ max from.x mark.x → point.y ≤ max from.y mark.y → IsBounded point
IsBounded-steered {tree = tree} {nearest = nearest} {from = from} steers sound bounded right top =
    let start = IsBounded-present tree.nodes tree.costs.items tree.placed nearest from sound steers.is_nearest.member steers.begins in
    record {
      right = omega (arith, right, start.right, bounded.right);
      top = omega (arith, top, start.top, bounded.top);
    }

-- the radius of the nodes that are present
abbrev radius_in : Scene → SearchTree → ℕ
radius_in scene tree = radius_of scene.step scene.gamma (node_count (points_of tree.nodes))

-- nodes near the mark are near the point, which is the mark
pub near_new-kept :
    {scene : Scene} {tree : SearchTree} {mark : Point} {k nearest : ℕ} {from point : Point} → Steers scene tree mark k nearest from point
    → (r : ℕ) (ns : List ℕ) → r ≡ radius_in scene tree → ns ≡ listed_near (points_of tree.nodes) mark r → 0 < length ns
    → ns ≡ near_new (setup_of scene) (points_of tree.nodes) point
near_new-kept {scene = scene} {tree = tree} {mark = mark} {nearest = nearest} {point = point} steers r ns radius listed some =
    let points = points_of tree.nodes in
    let all : ns ≡ near_new (setup_of scene) points mark = near-listed points mark r ns listed some ∙ ap (near points mark) radius in
    let there = steered-beside (setup_of scene) points mark nearest steers.is_nearest (subst (λ ms. 0 < length ms) all some) in
    let is : point ≡ mark = steers.ends ∙ ap (λ a. steered a mark scene.step) steers.begins ∙ there in
    all ∙ ap (near_new (setup_of scene) points) (sym is)

-- a look for the nodes near the point finds them all, as none stands there
pub near_new-found :
    {scene : Scene} {tree : SearchTree} {mark : Point} {k nearest : ℕ} {from point : Point} → Steers scene tree mark k nearest from point
    → point ≢ from → (r : ℕ) (ns : List ℕ) → r ≡ radius_in scene tree → ns ≡ listed_near (points_of tree.nodes) point r
    → ns ≡ near_new (setup_of scene) (points_of tree.nodes) point
near_new-found {scene = scene} {tree = tree} {point = point} steers apart r ns radius listed =
    listed ∙ listed_near-free (points_of tree.nodes) point r (is_free steers apart) ∙ ap (near (points_of tree.nodes) point) radius
