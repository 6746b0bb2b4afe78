use Rattle.seq_planner.proofs.Words.{◌≡◌, List, [], ◌∷◌, ◌++◌, Option, Some, length, arith, sym, subst, option_map, length-map, Point, Twig, points_of}
use Rattle.seq_planner.proofs.Words.{points_of-push, ArePlaced}
use Rattle.seq_planner.proofs.PresentNumbers.{ArePlaced-absent}
use Rattle.seq_planner.proofs.SoundTrees.{IsSound-put, IsSound-same}
use Rattle.seq_planner.proofs.search_tree.SearchTree.push.Goals as goal

pub returns-in_ok-push-4-clause-sound : goal.returns-in_ok-push-4-clause-sound
returns-in_ok-push-4-clause-sound c =
    let tree = c.args.self.now in
    let number : c.len-number.result ≡ length (points_of tree.nodes) =
    omega (arith, c.len-number.ensures, c.requires.sound.cost_count, length-map tree.nodes (option_map (λ (node : Twig). node.point))) in
    let added : ArePlaced (points_of tree.nodes ++ Some c.in-Some.node.point ∷ []) c.push-in-Some.new.self =
    c.in_ok-push-4.ensures (points_of tree.nodes) number c.requires.sound.are_placed in
    let P : Option Twig → Type 0 = λ node. ArePlaced (points_of tree.nodes ++ option_map (λ (n : Twig). n.point) node ∷ []) c.push-in-Some.new.self in
    let Q : List (Option Point) → Type 0 = λ points. ArePlaced points c.push-in-Some.new.self in
    let are = subst Q (sym (points_of-push tree.nodes c.args.extension.node)) (subst P (sym c.in-Some.is) added) in
    IsSound-same (tree.nodes ++ c.args.extension.node ∷ []) c.push.new.self (tree.costs.items ++ c.args.extension.cost ∷ []) c.push-2.new.self.items
    c.push-in-Some.new.self c.in_ok-push.ensures.put c.in_ok-push-2.ensures.items
    (IsSound-put tree.nodes tree.costs.items tree.placed c.push-in-Some.new.self c.args.extension.node c.args.extension.cost c.requires.sound
    c.requires.fits are)

pub returns-in_default-clause-sound : goal.returns-in_default-clause-sound
returns-in_default-clause-sound c =
    let tree = c.args.self.now in
    let absent = ArePlaced-absent (points_of tree.nodes) tree.placed c.requires.sound.are_placed in
    let P : Option Twig → Type 0 = λ node. ArePlaced (points_of tree.nodes ++ option_map (λ (n : Twig). n.point) node ∷ []) tree.placed in
    let Q : List (Option Point) → Type 0 = λ points. ArePlaced points tree.placed in
    let are = subst Q (sym (points_of-push tree.nodes c.args.extension.node)) (subst P (sym c.in_default.is) absent) in
    IsSound-same (tree.nodes ++ c.args.extension.node ∷ []) c.push.new.self (tree.costs.items ++ c.args.extension.cost ∷ []) c.push-2.new.self.items
    tree.placed c.in_ok-push.ensures.put c.in_ok-push-2.ensures.items
    (IsSound-put tree.nodes tree.costs.items tree.placed tree.placed c.args.extension.node c.args.extension.cost c.requires.sound c.requires.fits are)
