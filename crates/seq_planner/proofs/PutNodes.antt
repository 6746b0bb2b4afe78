-- A mark is handled: its node is put at the end, and near nodes are rewired.
use Rattle.seq_planner.proofs.Words.{◌≡◌, ℕ, ◌+◌, List, [], ◌∷◌, ◌++◌, length, Option, Some, None, true, false, sym, ap, ◌∙◌, subst, All, is_some, option_map}
use Rattle.seq_planner.proofs.Words.{All-weaker, Point, Twig, Scene, ConfigurationSpace, space_of, IsPresent, points_of, Nodes, Rewires, points_of-push}
use Rattle.seq_planner.proofs.Words.{IsPresent-push, Extension, SearchTree, AddsRewired, IsExtensionOf, GrowsByMark}

-- present nodes are present beside one more number
pub present-put :
    (tree after : Nodes) (node : Option Twig) (ns : List ℕ) → after ≡ tree ++ node ∷ [] → All (IsPresent (points_of tree)) ns
    → All (IsPresent (points_of after)) ns
present-put tree after node ns e h =
    let points : points_of after ≡ points_of tree ++ option_map (λ (n : Twig). n.point) node ∷ [] =
    ap points_of e ∙ points_of-push tree node in
    All-weaker (IsPresent (points_of tree)) (IsPresent (points_of after))
    (λ i present. subst (λ ps. IsPresent ps i) (sym points) (IsPresent-push (points_of tree) _ i present)) ns h

-- a node was put, and near ones are rewired
pub AddsRewired-some :
    (space : ConfigurationSpace) (tree after : Nodes) (node : Option Twig) (ns : List ℕ) → is_some node ≡ true
    → Rewires space (tree ++ node ∷ []) (length tree) ns after → AddsRewired space tree node ns after
AddsRewired-some space tree after None ns e h = cc
AddsRewired-some space tree after (Some node) ns e h = h

-- none was
pub AddsRewired-none :
    (space : ConfigurationSpace) (tree after : Nodes) (node : Option Twig) (ns : List ℕ) → is_some node ≡ false
    → after ≡ tree ++ node ∷ [] → AddsRewired space tree node ns after
AddsRewired-none space tree after None ns e h = h
AddsRewired-none space tree after (Some node) ns e h = cc

-- the mark is handled by what rewiring leaves
pub GrowsByMark-put :
    (scene : Scene) (tree after : SearchTree) (mark : Point) (extension : Extension) (ns : List ℕ) → IsExtensionOf scene tree mark extension ns
    → after.records.items ≡ tree.records.items ++ extension.entry ∷ []
    → AddsRewired (space_of scene) tree.nodes extension.node ns after.nodes
    → length after.nodes ≡ length tree.nodes + 1 → GrowsByMark scene tree mark after
GrowsByMark-put scene tree after mark extension ns h recorded rewired count = record {
  entry = extension.entry;
  recorded = recorded;
  handled = h.handles after.nodes rewired;
  one_more = count;
}
