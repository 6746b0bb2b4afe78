-- Near nodes are looked at one after another: what is so after some of them.
use Rattle.seq_planner.proofs.Words.{◌≡◌, ℕ, ◌+◌, ◌<◌, List, [], ◌∷◌, ◌++◌, length, get_or, take, refl, sym, ap, ◌∙◌, subst, take_more, ConfigurationSpace}
use Rattle.seq_planner.proofs.Words.{points_of, Nodes, RewiresOne, Rewires, SearchTree, IsSoundTree}

-- one more near node
pub Rewires-push :
    (space : ConfigurationSpace) (tree : Nodes) (n : ℕ) (ns : List ℕ) (i : ℕ) (mid after : Nodes)
    → Rewires space tree n ns mid → RewiresOne space mid n i after → Rewires space tree n (ns ++ i ∷ []) after
Rewires-push space tree n [] i mid after r last = (after, subst (λ (t : Nodes). RewiresOne space t n i after) r last, refl)
Rewires-push space tree n (j ∷ ns) i mid after r last = (r.0, r.1, Rewires-push space r.0 n ns i mid after r.2 last)

-- The first k near nodes are looked at. The tree is sound and has its points.
pub record IsRewiredSoFar (space : ConfigurationSpace) (before tree : SearchTree) (n : ℕ) (ns : List ℕ) (k : ℕ) : Type 0 where
  pub rewired : Rewires space before.nodes n (take k ns) tree.nodes
  pub sound : IsSoundTree tree
  pub points : points_of tree.nodes ≡ points_of before.nodes
  pub count : length tree.nodes ≡ length before.nodes
  pub records : tree.records.items ≡ before.records.items

-- What the look at one near node leaves.
pub record IsRewiredOne (space : ConfigurationSpace) (tree after : SearchTree) (n i : ℕ) : Type 0 where
  pub rewired : RewiresOne space tree.nodes n i after.nodes
  pub sound : IsSoundTree after
  pub points : points_of after.nodes ≡ points_of tree.nodes
  pub count : length after.nodes ≡ length tree.nodes
  pub records : after.records.items ≡ tree.records.items

-- one more
pub IsRewiredSoFar-more :
    (space : ConfigurationSpace) (before tree after : SearchTree) (n : ℕ) (ns : List ℕ) (k i : ℕ)
    → k < length ns → i ≡ get_or ns k 0 → IsRewiredSoFar space before tree n ns k → IsRewiredOne space tree after n i
    → IsRewiredSoFar space before after n ns (k + 1)
IsRewiredSoFar-more space before tree after n ns k i below at h one =
    let more : take (k + 1) ns ≡ take k ns ++ i ∷ [] = take_more ns k 0 below ∙ ap (λ m. take k ns ++ m ∷ []) (sym at) in
    let R : List ℕ → Type 0 = λ is. Rewires space before.nodes n is after.nodes in
    record {
      rewired = subst R (sym more) (Rewires-push space before.nodes n (take k ns) i tree.nodes after.nodes h.rewired one.rewired);
      sound = one.sound;
      points = one.points ∙ h.points;
      count = one.count ∙ h.count;
      records = one.records ∙ h.records;
    }
