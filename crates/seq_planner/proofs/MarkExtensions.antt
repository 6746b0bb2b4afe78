-- What a mark adds to a sound tree handles it, by its outcome.
use Rattle.seq_planner.proofs.Words.{◌≡◌, ℕ, suc, ◌+◌, ◌*◌, ◌^◌, ◌≤◌, List, [], ◌∷◌, ◌++◌, length, Option, Some, None, arith, refl, sym, ap, ◌∙◌, subst, All}
use Rattle.seq_planner.proofs.Words.{◌≢◌, All-cons, All-contains, All-nil, Point, Twig, Scene, Record, space_of, Clear, IsInRoom, IsFirstLeast, class_of}
use Rattle.seq_planner.proofs.Words.{radius_of, steered, IsNearest, IsOpenTo, StandsAt, IsPresent, IsFree, point_of, node_count, points_of, sum_of, Nodes}
use Rattle.seq_planner.proofs.Words.{setup_of, near_new, SteersTo, Rewires, Ending, Steered, NewNode, SameNode, NoWay, SkippedBy, record_of_ending, Ends}
use Rattle.seq_planner.proofs.Words.{Handles, IsCandidate, IsBestParent, cost_through, MayBeCheaper, IsFirstLeast-among, AreInRoom-from_clear, IsFree-steered}
use Rattle.seq_planner.proofs.Words.{near-present, StandsAt-present, IsBounded-in_room, Extension, IsLeastParent, Parent, SearchTree, AddsRewired}
use Rattle.seq_planner.proofs.Words.{IsExtensionOf, IsSkippedBy, Fits}

-- A path over the next mark, of number k, may be cheaper than each goal node is. The mark steers from its nearest node, which stands at
-- from, to the point.
pub record Steers (scene : Scene) (tree : SearchTree) (mark : Point) (k nearest : ℕ) (from point : Point) : Type 0 where
  pub cheaper : MayBeCheaper (setup_of scene) (sum_of tree.nodes) (points_of tree.nodes) mark
  pub turn : k ≡ length tree.records.items
  pub numbers : length tree.records.items + 1 ≡ length tree.nodes
  pub is_nearest : IsNearest (points_of tree.nodes) mark nearest
  pub begins : from ≡ point_of (points_of tree.nodes) nearest
  pub ends : point ≡ steered from mark scene.step

module _ {scene : Scene} {tree : SearchTree} {mark : Point} {k nearest : ℕ} {from point : Point} (h : Steers scene tree mark k nearest from point) where
  reached : point ≡ steered (point_of (points_of tree.nodes) nearest) mark scene.step
  reached = h.ends ∙ ap (λ a. steered a mark scene.step) h.begins

  steers_to : SteersTo (setup_of scene) (points_of tree.nodes) mark nearest point
  steers_to = record { nearest = h.is_nearest; reached = reached }

  from_stands : StandsAt (points_of tree.nodes) nearest from
  from_stands = StandsAt-present (points_of tree.nodes) nearest h.is_nearest.member ∙ ap Some (sym h.begins)

  -- if the point is the nearest node's own, that node stands there
  nearest_stands : point ≡ from → StandsAt (points_of tree.nodes) nearest point
  nearest_stands same = from_stands ∙ ap Some (sym same)

  -- otherwise no node does
  pub is_free : point ≢ from → IsFree (points_of tree.nodes) point
  is_free apart = IsFree-steered (setup_of scene) (points_of tree.nodes) mark nearest from point steers_to from_stands apart

  -- a clear segment ends in the room
  IsInRoom-reached : Clear (space_of scene) from point → IsInRoom scene.room point
  IsInRoom-reached clear = (AreInRoom-from_clear (space_of scene) from point clear).last

-- ---- marks that are not placed

-- The extension has no node and no cost, and its record says that mark k ended so.
pub record IsUnplaced (extension : Extension) (k : ℕ) (ending : Ending) : Type 0 where
  pub node : extension.node ≡ None
  pub cost : extension.cost ≡ 0
  pub recorded : extension.entry ≡ record_of_ending 0 k ending

fits_none : (nodes : Nodes) (node : Option Twig) (cost : ℕ) → node ≡ None → cost ≡ 0 → Fits nodes node cost
fits_none nodes o cost e f = (let P : Option Twig → Type 0 = λ n. Fits nodes n cost in subst P (sym e) f)

-- a mark that ends so is handled with the record that says it
Handles-ends :
    (scene : Scene) (nodes : Nodes) (k : ℕ) (mark : Point) (ending : Ending) (after : Nodes) → Ends (setup_of scene) nodes k mark ending after
    → Handles (setup_of scene) nodes k mark (record_of_ending 0 k ending) after
Handles-ends scene nodes k mark (Steered m (NewNode first)) after ends = record { worker = refl; turn = refl; ends = ends }
Handles-ends scene nodes k mark (Steered m (SameNode j)) after ends = record { worker = refl; turn = refl; ends = ends }
Handles-ends scene nodes k mark (Steered m NoWay) after ends = record { worker = refl; turn = refl; ends = ends }
Handles-ends scene nodes k mark (SkippedBy g) after ends = record { worker = refl; turn = refl; ends = ends }

unplaced :
    (scene : Scene) (tree : SearchTree) (mark : Point) (extension : Extension) (k : ℕ) (ending : Ending) (ns : List ℕ)
    → k ≡ length tree.records.items → All (IsPresent (points_of tree.nodes)) ns
    → Ends (setup_of scene) tree.nodes k mark ending (tree.nodes ++ None ∷ [])
    → IsUnplaced extension k ending → IsExtensionOf scene tree mark extension ns
unplaced scene tree mark extension k ending ns turn present ends h =
    let E : ℕ → Record → Nodes → Type 0 = λ n r after. Handles (setup_of scene) tree.nodes n mark r after in
    record {
      fits = fits_none tree.nodes extension.node extension.cost h.node h.cost;
      handles = λ after added.
          let A : Option Twig → Type 0 = λ node. AddsRewired (space_of scene) tree.nodes node ns after in
          let same : after ≡ tree.nodes ++ None ∷ [] = subst A h.node added in
          let own : E k (record_of_ending 0 k ending) (tree.nodes ++ None ∷ []) = Handles-ends scene tree.nodes k mark ending (tree.nodes ++ None ∷ []) ends in
          subst (λ (n : ℕ). E n extension.entry after) turn
          (subst (λ (r : Record). E k r after) (sym h.recorded) (subst (E k (record_of_ending 0 k ending)) (sym same) own));
      present = present;
    }

-- the best goal node costs no more than the bound of the mark
pub IsExtensionOf-skipped :
    (scene : Scene) (tree : SearchTree) (mark : Point) (k goal_node : ℕ) (extension : Extension) → k ≡ length tree.records.items
    → IsSkippedBy scene tree mark goal_node → IsUnplaced extension k (SkippedBy goal_node) → IsExtensionOf scene tree mark extension []
IsExtensionOf-skipped scene tree mark k goal_node extension turn by own =
    unplaced scene tree mark extension k (SkippedBy goal_node) [] turn (All-nil (IsPresent (points_of tree.nodes)))
    (record { best = by.best; within = by.within; added = refl }) own

module _ {scene : Scene} {tree : SearchTree} {mark : Point} {k nearest : ℕ} {from point : Point} (h : Steers scene tree mark k nearest from point) where
  -- the nearest node stands at the point already
  pub IsExtensionOf-same :
      {extension : Extension} {ns : List ℕ} → All (IsPresent (points_of tree.nodes)) ns → point ≡ from
      → IsUnplaced extension k (Steered nearest (SameNode nearest)) → IsExtensionOf scene tree mark extension ns
  IsExtensionOf-same {extension = extension} {ns = ns} present same own =
      unplaced scene tree mark extension k (Steered nearest (SameNode nearest)) ns h.turn present
      (record { cheaper = h.cheaper; point = point; steers = steers_to h; reaches = (nearest_stands h same, refl) }) own

  -- the segment to the point is not clear
  pub IsExtensionOf-blocked :
      {extension : Extension} {ns : List ℕ} → All (IsPresent (points_of tree.nodes)) ns → point ≢ from → ¬ Clear (space_of scene) from point
      → IsUnplaced extension k (Steered nearest NoWay) → IsExtensionOf scene tree mark extension ns
  IsExtensionOf-blocked {extension = extension} {ns = ns} present apart blocked own =
      let Q : Point → Type 0 = λ p. ¬ Clear (space_of scene) p point in
      unplaced scene tree mark extension k (Steered nearest NoWay) ns h.turn present
      (record {
        cheaper = h.cheaper;
        point = point;
        steers = steers_to h;
        reaches = (record { free = is_free h apart; blocked = subst Q h.begins blocked }, refl);
      }) own

-- ---- a mark that is placed

-- The extension is a new node under the best parent of the nearest node and the near ones, with its record.
pub record IsPlaced
    (scene : Scene) (tree : SearchTree) (extension : Extension) (k nearest : ℕ) (point : Point) (ns : List ℕ) (parent : Parent) (class : ℕ)
    : Type 0 where
  pub are_near : ns ≡ near_new (setup_of scene) (points_of tree.nodes) point
  pub best : IsLeastParent (cost_through tree.nodes point) (IsOpenTo (space_of scene) (points_of tree.nodes) point (nearest ∷ ns)) parent
  pub bound : (i : ℕ) → IsPresent (points_of tree.nodes) i → cost_through tree.nodes point i ≤ node_count (points_of tree.nodes) * 2 ^ 29
  pub class_is : class ≡ class_of (node_count (points_of tree.nodes))
  pub node : extension.node ≡ Some (record { point = point; parent = parent.node })
  pub cost : extension.cost ≡ parent.cost
  pub entry : extension.entry ≡ record_of_ending 0 k (Steered nearest (NewNode (record { parent = parent.node; cost = parent.cost; class = class })))

module _ {scene : Scene} {tree : SearchTree} {mark : Point} {k nearest : ℕ} {from point : Point} (h : Steers scene tree mark k nearest from point)
    {extension : Extension} {ns : List ℕ} (parent : Parent) (class : ℕ) (own : IsPlaced scene tree extension k nearest point ns parent class)
    (apart : point ≢ from) (clear : Clear (space_of scene) from point) where
  abbrev new_node : Twig
  new_node = record { point = point; parent = parent.node }

  -- it is the best of the candidates
  best_parent : IsBestParent (setup_of scene) tree.nodes nearest point parent.node
  best_parent =
      let among : List ℕ → ℕ → Type 0 = IsOpenTo (space_of scene) (points_of tree.nodes) point in
      let L : List ℕ → Type 0 = λ is. IsFirstLeast (cost_through tree.nodes point) (among (nearest ∷ is)) parent.node in
      IsFirstLeast-among (cost_through tree.nodes point) (among (nearest ∷ near_new (setup_of scene) (points_of tree.nodes) point))
      (IsCandidate (setup_of scene) (points_of tree.nodes) nearest point) parent.node
      (λ i o. record { among = o.among; clear = o.clear }) (λ i o. record { among = o.among; clear = o.clear })
      (subst L own.are_near own.best.least)

  handles_placed :
      (after : Nodes) → Rewires (space_of scene) (tree.nodes ++ Some new_node ∷ []) (suc k) ns after
      → Handles (setup_of scene) tree.nodes k mark extension.entry after
  handles_placed after rewired =
      let Q : Point → Type 0 = λ p. Clear (space_of scene) p point in
      let R : List ℕ → Type 0 = λ is. Rewires (space_of scene) (tree.nodes ++ Some new_node ∷ []) (suc k) is after in
      subst (λ (r : Record). Handles (setup_of scene) tree.nodes k mark r after) (sym own.entry) (record {
        worker = refl;
        turn = refl;
        ends = record {
          cheaper = h.cheaper;
          point = point;
          steers = steers_to h;
          reaches = record {
            free = is_free h apart;
            clear = subst Q h.begins clear;
            parent = best_parent;
            cost = own.best.cost;
            of_class = own.class_is;
            rewired = subst R own.are_near rewired;
          };
        };
      })

  -- the best parent is one of nodes that are present
  is_present : IsPresent (points_of tree.nodes) parent.node
  is_present =
      let points : List (Option Point) = points_of tree.nodes in
      let near_ones : All (IsPresent points) ns =
      subst (All (IsPresent points)) (sym own.are_near) (near-present points point (radius_of scene.step scene.gamma (node_count points))) in
      All-contains (IsPresent points) (nearest ∷ ns) parent.node (All-cons (IsPresent points) nearest ns h.is_nearest.member near_ones)
      own.best.least.member.among

  fits_new : Fits tree.nodes (Some new_node) extension.cost
  fits_new =
      let in_room = IsInRoom-reached h clear in (
        is_present,
        is_free h apart,
        IsBounded-in_room scene point in_room,
        own.cost ∙ own.best.cost,
        omega (arith, own.cost, own.best.cost, own.bound parent.node is_present),
      )

  -- a node is placed at the point
  pub IsExtensionOf-placed : IsExtensionOf scene tree mark extension ns
  IsExtensionOf-placed =
      let F : Option Twig → Type 0 = λ node. Fits tree.nodes node extension.cost in
      let adds : Nodes → Option Twig → Type 0 = λ after node. AddsRewired (space_of scene) tree.nodes node ns after in
      let rewires : Nodes → ℕ → Type 0 = λ after n. Rewires (space_of scene) (tree.nodes ++ Some new_node ∷ []) n ns after in
      let handled : ℕ → Nodes → Type 0 = λ n after. Handles (setup_of scene) tree.nodes n mark extension.entry after in
      let points : List (Option Point) = points_of tree.nodes in
      record {
        fits = subst F (sym own.node) fits_new;
        handles = λ after rewired.
            let number : length tree.nodes ≡ suc k = omega (arith, h.turn, h.numbers) in
            let with_node : rewires after (length tree.nodes) = subst (adds after) own.node rewired in
            let with_number : rewires after (suc k) = subst (rewires after) number with_node in
            subst (λ (n : ℕ). handled n after) h.turn (handles_placed after with_number);
        present = subst (All (IsPresent points)) (sym own.are_near) (near-present points point (radius_of scene.step scene.gamma (node_count points)));
      }
