use Rattle.seq_planner.proofs.Words.{◌≡◌, ◌<◌, ℕ, List, ◌∷◌, length, true, arith, rules, sym, ap, ◌∙◌, subst, All, Point, ConfigurationSpace, space_of, Clear}
use Rattle.seq_planner.proofs.Words.{IsOpenTo, IsPresent, node_count, class_of, radius_of, setup_of, near_new, cost_through, points_of, same_point-true}
use Rattle.seq_planner.proofs.Words.{same_point-false, IsLeastParent}
use Rattle.seq_planner.proofs.PresentNumbers.{ArePlaced-bounded, ArePlaced-numbered}
use Rattle.seq_planner.proofs.ReadCosts.{through-bound}
use Rattle.seq_planner.proofs.SoundTrees.{IsBounded-present, few_present, some_present}
use Rattle.seq_planner.proofs.ReadSteering.{Steers-read, IsBounded-steered, near_new-found, near_new-kept}
use Rattle.seq_planner.proofs.ScannedLists.{listed_near-present}
use Rattle.seq_planner.proofs.MarkExtensions.{IsExtensionOf-same, IsExtensionOf-blocked, IsExtensionOf-placed}
use Rattle.seq_planner.proofs.search_tree.SearchTree.extension.Goals as goal
use Rattle.seq_planner.proofs.search_tree.SearchTree.extension.Goals.{then-is_empty+in_ok-near-2, else-is_empty}

pub overflow_cast-turn : goal.overflow_cast-turn
overflow_cast-turn g c = omega (arith, c.len-turn.ensures, c.requires.turn, c.requires.few, c.args.self.now.records.ok.0)

pub point-from-requires : goal.point-from-requires
point-from-requires g c = (c.nearest-nearest.ensures).member

pub steer-point-requires-clause-from : goal.steer-point-requires-clause-from
steer-point-requires-clause-from g c =
    let tree = c.args.self.now in
    IsBounded-present tree.nodes tree.costs.items tree.placed c.nearest-nearest.result c.point-from.result c.requires.sound
    c.nearest-nearest.ensures.member c.point-from.ensures

pub nearest-nearest-requires-clause-near : goal.nearest-nearest-requires-clause-near
nearest-nearest-requires-clause-near g c =
    let points = points_of c.args.self.now.nodes in
    (c.at-radius.result, c.deref.ensures.value ∙ c.in_ok-near.ensures points c.requires.sound.are_placed)

pub returns-then-eq : goal.returns-then-eq
returns-then-eq g c =
    let steers =
    Steers-read c.args.scene.now c.args.self.now c.args.mark c.len-turn.result c.requires.cheaper (search (rules, c.len-turn.ensures))
    c.requires.turn c.nearest-nearest.ensures c.point-from.ensures c.steer-point.ensures.value in
    IsExtensionOf-same steers
    (listed_near-present (points_of c.args.self.now.nodes) c.args.mark c.at-radius.result c.near.new.found.items
    (c.in_ok-near.ensures (points_of c.args.self.now.nodes) c.requires.sound.are_placed))
    (same_point-true c.steer-point.result c.point-from.result (sym c.eq.ensures ∙ c.if-eq.true))
    (record { node = c.same.ensures.node; cost = c.same.ensures.cost; recorded = c.same.ensures.entry })

pub returns-then-not-clear : goal.returns-then-not-clear
returns-then-not-clear g c =
    let steers =
    Steers-read c.args.scene.now c.args.self.now c.args.mark c.len-turn.result c.requires.cheaper (search (rules, c.len-turn.ensures))
    c.requires.turn c.nearest-nearest.ensures c.point-from.ensures c.steer-point.ensures.value in
    IsExtensionOf-blocked steers
    (listed_near-present (points_of c.args.self.now.nodes) c.args.mark c.at-radius.result c.near.new.found.items
    (c.in_ok-near.ensures (points_of c.args.self.now.nodes) c.requires.sound.are_placed))
    (same_point-false c.steer-point.result c.point-from.result (sym c.eq.ensures ∙ c.if-eq.false))
    (λ clear. (
    let yes : c.clear.result ≡ true =
    c.clear.ensures.1 (subst (λ (space : ConfigurationSpace). Clear space c.point-from.result c.steer-point.result) (sym c.requires.hall) clear) in
    cc))
    (record { node = c.blocked.ensures.node; cost = c.blocked.ensures.cost; recorded = c.blocked.ensures.entry })

pub at-radius-requires : goal.at-radius-requires
at-radius-requires g c =
    let tree = c.args.self.now in
    let count = c.count-present.ensures (points_of tree.nodes) c.requires.sound.are_placed in
    record {
      some = omega (arith, count, some_present tree.nodes tree.costs.items tree.placed c.requires.sound);
      most = omega (arith, count, few_present tree.nodes, c.requires.few);
    }

pub near-requires-clause-numbered : goal.near-requires-clause-numbered
near-requires-clause-numbered g c = ArePlaced-numbered (points_of c.args.self.now.nodes) c.args.self.now.placed c.requires.sound.are_placed

pub near-requires-clause-nodes : goal.near-requires-clause-nodes
near-requires-clause-nodes g c =
    ArePlaced-bounded (points_of c.args.self.now.nodes) c.args.self.now.placed c.requires.sound.are_placed c.requires.sound.bounded

pub near-requires-then-is_empty-clause-nodes : goal.near-requires-then-is_empty-clause-nodes
near-requires-then-is_empty-clause-nodes g c =
    ArePlaced-bounded (points_of c.args.self.now.nodes) c.args.self.now.placed c.requires.sound.are_placed c.requires.sound.bounded

pub near-requires-then-is_empty-clause-bounded : goal.near-requires-then-is_empty-clause-bounded
near-requires-then-is_empty-clause-bounded g c =
    let steers =
    Steers-read c.args.scene.now c.args.self.now c.args.mark c.len-turn.result c.requires.cheaper (search (rules, c.len-turn.ensures))
    c.requires.turn c.nearest-nearest.ensures c.point-from.ensures c.steer-point.ensures.value in
    IsBounded-steered steers c.requires.sound c.requires.bounded c.steer-point.ensures.right c.steer-point.ensures.top

pub choose-parent-requires-clause-bounded : goal.choose-parent-requires-clause-bounded
choose-parent-requires-clause-bounded g c κs within =
    let steers =
    Steers-read c.args.scene.now c.args.self.now c.args.mark c.len-turn.result c.requires.cheaper (search (rules, c.len-turn.ensures))
    c.requires.turn c.nearest-nearest.ensures c.point-from.ensures c.steer-point.ensures.value in
    IsBounded-steered steers c.requires.sound c.requires.bounded c.steer-point.ensures.right c.steer-point.ensures.top

pub choose-parent-requires-clause-clear : goal.choose-parent-requires-clause-clear
choose-parent-requires-clause-clear g c κs within =
    subst (λ (p : Point). Clear (g.C.Clearing.space c.args.hall.now) p c.steer-point.result) c.point-from.ensures
    (c.clear.ensures.0 c.if-not-clear.false)

pub choose-parent-requires-clause-near : goal.choose-parent-requires-clause-near
choose-parent-requires-clause-near g c κs within =
    let points = points_of c.args.self.now.nodes in
    let placed = c.requires.sound.are_placed in
    let r = c.at-radius.result in
    let present : All (IsPresent points) c.if-is_empty.near.items = elim c.if-is_empty.branch [
      | then-is_empty+in_ok-near-2 w ↦
          rw w.near-is (listed_near-present points c.steer-point.result r w.near-then-is_empty.new.found.items (w.in_ok-near-2.ensures points placed))
      | else-is_empty w ↦ rw w.near-is (listed_near-present points c.args.mark r c.near.new.found.items (c.in_ok-near.ensures points placed))
    ] in
    subst (All (IsPresent points)) (sym c.deref-2.ensures.value) present

pub class-requires : goal.class-requires
class-requires g c =
    let tree = c.args.self.now in
    let count = c.count-present.ensures (points_of tree.nodes) c.requires.sound.are_placed in
    omega (arith, count, some_present tree.nodes tree.costs.items tree.placed c.requires.sound)

pub returns : goal.returns
returns g c =
    let tree = c.args.self.now in
    let scene = c.args.scene.now in
    let points = points_of tree.nodes in
    let placed = c.requires.sound.are_placed in
    let steers =
    Steers-read c.args.scene.now c.args.self.now c.args.mark c.len-turn.result c.requires.cheaper (search (rules, c.len-turn.ensures))
    c.requires.turn c.nearest-nearest.ensures c.point-from.ensures c.steer-point.ensures.value in
    let apart = same_point-false c.steer-point.result c.point-from.result (sym c.eq.ensures ∙ c.if-eq.false) in
    let count : c.count-present.result ≡ node_count points = c.count-present.ensures points placed in
    let radius : c.at-radius.result ≡ radius_of scene.step scene.gamma (node_count points) =
    c.at-radius.ensures ∙ ap (λ s. radius_of s c.args.radii.now.gamma c.count-present.result) c.requires.step
    ∙ ap (λ e. radius_of scene.step e c.count-present.result) c.requires.gamma ∙ ap (radius_of scene.step scene.gamma) count in
    let are_near : c.if-is_empty.near.items ≡ near_new (setup_of scene) points c.steer-point.result = elim c.if-is_empty.branch [
      | then-is_empty+in_ok-near-2 w ↦
          rw w.near-is
          (near_new-found steers apart c.at-radius.result w.near-then-is_empty.new.found.items radius (w.in_ok-near-2.ensures points placed))
      | else-is_empty w ↦ (
          let some : 0 < length c.near.new.found.items = search rules in
          rw w.near-is (near_new-kept steers c.at-radius.result c.near.new.found.items radius (c.in_ok-near.ensures points placed) some))
    ] in
    let S : ConfigurationSpace → List ℕ → Type 0 =
    λ space ns. IsLeastParent (cost_through tree.nodes c.steer-point.result) (IsOpenTo space points c.steer-point.result (c.nearest-nearest.result ∷ ns))
    c.choose-parent.result in
    let best : S (space_of scene) c.if-is_empty.near.items =
    subst (λ (space : ConfigurationSpace). S space c.if-is_empty.near.items) c.requires.hall
    (subst (S (g.C.Clearing.space c.args.hall.now)) c.deref-2.ensures.value c.choose-parent.ensures) in
    let bounded = IsBounded-steered steers c.requires.sound c.requires.bounded c.steer-point.ensures.right c.steer-point.ensures.top in
    IsExtensionOf-placed steers c.choose-parent.result c.class.result
    (record {
      are_near = are_near;
      best = best;
      bound = λ i own. through-bound tree.nodes tree.costs.items tree.placed i c.steer-point.result c.requires.sound own bounded;
      class_is = c.class.ensures.value ∙ ap class_of count;
      node = c.placed.ensures.node;
      cost = c.placed.ensures.cost;
      entry = c.placed.ensures.entry;
    })
    apart
    (subst (λ (space : ConfigurationSpace). Clear space c.point-from.result c.steer-point.result) c.requires.hall
    (c.clear.ensures.0 c.if-not-clear.false))
