-- A textbook run that has come as far as some of the marks.
use Rattle.seq_planner.proofs.Words.{◌≡◌, ℕ, ◌+◌, ◌<◌, List, [], ◌∷◌, ◌++◌, length, get_or, take, arith, sym, ap, ◌∙◌, subst, take_more, Point, Scene, Record}
use Rattle.seq_planner.proofs.Words.{setup_of, start_alone, Handles, HandlesAll, HandlesAll-push, SearchTree, IsSoundTree, GrowsByMark}
use Rattle.std.proofs.Common.{length-append}

-- these marks are handled, and the tree is what they left
pub record IsRunSoFar (scene : Scene) (marks : List Point) (tree : SearchTree) : Type 0 where
  pub run : HandlesAll (setup_of scene) 0 (start_alone scene.start) marks tree.records.items tree.nodes
  pub sound : IsSoundTree tree
  pub nodes : length tree.nodes ≡ length marks + 1
  pub records : length tree.records.items ≡ length marks

-- after one more mark
pub IsRunSoFar-more :
    (scene : Scene) (marks : List Point) (tree after : SearchTree) (i : ℕ) (mark : Point) → IsRunSoFar scene (take i marks) tree
    → i < length marks → mark ≡ get_or marks i mark → GrowsByMark scene tree mark after → IsSoundTree after
    → IsRunSoFar scene (take (i + 1) marks) after
IsRunSoFar-more scene marks tree after i mark h l e next sound =
    let done : List Point = take i marks in
    let K : ℕ → Type 0 = λ k. Handles (setup_of scene) tree.nodes k mark next.entry after.nodes in
    let handled : K (0 + length done) = subst K (omega (arith, h.records)) next.handled in
    let run =
    HandlesAll-push (setup_of scene) 0 (start_alone scene.start) done tree.records.items tree.nodes mark next.entry after.nodes h.run handled in
    let more : take (i + 1) marks ≡ done ++ mark ∷ [] = take_more marks i mark l ∙ ap (λ m. done ++ m ∷ []) (sym e) in
    let P : List Record → Type 0 = λ entries. HandlesAll (setup_of scene) 0 (start_alone scene.start) (done ++ mark ∷ []) entries after.nodes in
    let Q : List Point → Type 0 = λ ms. HandlesAll (setup_of scene) 0 (start_alone scene.start) ms after.records.items after.nodes in
    record {
      run = subst Q (sym more) (subst P (sym next.recorded) run);
      sound = sound;
      nodes = omega (arith, ap length more, length-append done (mark ∷ []), next.one_more, h.nodes);
      records =
          omega (arith, ap length more, length-append done (mark ∷ []), ap length next.recorded, length-append tree.records.items (next.entry ∷ []), h.records);
    }
