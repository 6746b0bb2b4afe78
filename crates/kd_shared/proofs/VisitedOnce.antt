-- A search visits each node once, so few nodes wait at a time, and it comes to an end.
use Rattle.kd_shared.proofs.Words.{◌≡◌, ◌⊎◌, ℕ, suc, ◌+◌, ◌≤◌, Bool, true, false, not, length, length-append, List, [], ◌∷◌, ◌++◌, Some, arith, refl, sym, ap}
use Rattle.kd_shared.proofs.Words.{◌∙◌, subst, inl, inr, Contains, map, length-map, Contains-append_right, IsSeen, IsLaterMoment, KeepsSight, Sight}
use Rattle.kd_shared.proofs.Words.{Contains-first, Contains-after, Opens, Spot, AreDifferent, AreDifferent-after, AreDifferent-few, AreDifferent-within}
use Rattle.kd_shared.proofs.Words.{Contains-cases, Contains-none, Contains-within}

-- ---- the nodes that wait

abbrev pub nodes_of : List Spot → List ℕ
nodes_of spots = map (λ (spot : Spot). spot.node) spots

-- the last of them stands before those that are done
nodes_of-push : (spots : List Spot) (spot : Spot) (done : List ℕ) → nodes_of (spots ++ spot ∷ []) ++ done ≡ nodes_of spots ++ spot.node ∷ done
nodes_of-push [] spot done = refl
nodes_of-push (first ∷ spots) spot done = ap (λ ns. first.node ∷ ns) (nodes_of-push spots spot done)

length-nodes_of : (spots : List Spot) → length (nodes_of spots) ≡ length spots
length-nodes_of spots = length-map spots (λ (spot : Spot). spot.node)

-- ---- each once

-- Of the nodes that wait and those that are done no two are the same. Each of them but node 0 is a child in a place that was used.
pub record AreOnce (now : Sight) (spots : List Spot) (done : List ℕ) (Used : ℕ → Bool → Type 0) : Type 0 where
  pub different : AreDifferent (nodes_of spots ++ done)
  pub known : (n : ℕ) → Contains (nodes_of spots ++ done) n
      → (n ≡ 0) ⊎ ((a : ℕ) × (side : Bool) × Used a side × (now.seen.child a side ≡ Some n))

-- the places of nodes that are done
abbrev pub IsDone : List ℕ → ℕ → Bool → Type 0
IsDone done a side = Contains done a

-- and of the node that is visited, on one side
abbrev pub IsDoneOrAt : List ℕ → ℕ → Bool → ℕ → Bool → Type 0
IsDoneOrAt done node used a side = Contains done a ⊎ ((a ≡ node) × (side ≡ used))

module _ (now after : Sight) (later : IsLaterMoment now after) (done : List ℕ) (Used Still : ℕ → Bool → Type 0)
    (still : (a : ℕ) (side : Bool) → Used a side → Still a side) where
  -- a used place stays used
  stays_known : (n : ℕ) → (n ≡ 0) ⊎ ((a : ℕ) × (side : Bool) × Used a side × (now.seen.child a side ≡ Some n))
      → (n ≡ 0) ⊎ ((a : ℕ) × (side : Bool) × Still a side × (after.seen.child a side ≡ Some n))
  stays_known n (inl start) = inl start
  stays_known n (inr (a, side, used, link)) = inr (a, side, still a side used, later.seen.places.children a n side link)

  pub AreOnce-later : (spots : List Spot) → AreOnce now spots done Used → AreOnce after spots done Still
  AreOnce-later spots h = record { different = h.different; known = λ n k. stays_known n (h.known n k) }

  module _ (spots : List Spot) (h : AreOnce now spots done Used) (keeps : KeepsSight after) (node : ℕ) (side : Bool) (unused : ¬ Used node side) where
    -- a child in a place that was not used is a new one
    pub is_new : (child : ℕ) → after.seen.child node side ≡ Some child → ¬ Contains (nodes_of spots ++ done) child
    is_new child link k =
        elim (h.known child k) [
          | inl start ↦ keeps.ways.root node side (link ∙ ap Some start)
          | inr (a, other, used, old) ↦ (
              let same = keeps.ways.once child a node other side (later.seen.places.children a child other old) link in
              unused (subst (λ m. Used m side) same.0 (subst (Used a) same.1 used)))
        ]

    -- The child in a place that was not used is loaded.
    pub AreOnce-opens : (spot : Spot) (put : List Spot) → spot.node ≡ node → Still node side → Opens now after spots put spot side
        → AreOnce after put done Still
    AreOnce-opens spot put is uses (inl (empty, same)) = subst (λ xs. AreOnce after xs done Still) (sym same) (AreOnce-later spots h)
    AreOnce-opens spot put is uses (inr new) =
        let link : after.seen.child node side ≡ Some new.child.node = ap (λ a. after.seen.child a side) (sym is) ∙ new.link in
        let same : nodes_of put ++ done ≡ nodes_of spots ++ new.child.node ∷ done =
        ap (λ xs. nodes_of xs ++ done) new.last ∙ nodes_of-push spots new.child done in
        record {
          different = subst AreDifferent (sym same)
              (AreDifferent-within new.child.node (nodes_of spots) done h.different (is_new new.child.node link));
          known = λ n k. elim (Contains-within new.child.node n (nodes_of spots) done (subst (λ ns. Contains ns n) same k)) [
            | inl there ↦ inr (node, side, uses, link ∙ ap Some there)
            | inr old ↦ stays_known n (h.known n old)
          ];
        }

-- ---- taken to be visited

module _ (now : Sight) (spot : Spot) (spots rest : List Spot) (done : List ℕ) (h : AreOnce now spots done (IsDone done)) where
  -- the first of a queue
  pub AreOnce-takes : spots ≡ spot ∷ rest → AreOnce now rest (spot.node ∷ done) (IsDone done)
  AreOnce-takes is =
      let same : nodes_of spots ++ done ≡ spot.node ∷ (nodes_of rest ++ done) = ap (λ xs. nodes_of xs ++ done) is in
      let own = subst AreDifferent same h.different in
      record {
        different = AreDifferent-within spot.node (nodes_of rest) done own.1 own.0;
        known = λ n k. h.known n (subst (λ ns. Contains ns n) (sym same) (at_front n k));
      }
    where
      at_front : (n : ℕ) → Contains (nodes_of rest ++ spot.node ∷ done) n → Contains (spot.node ∷ (nodes_of rest ++ done)) n
      at_front n k =
          elim (Contains-within spot.node n (nodes_of rest) done k) [
            | inl same ↦ (0, omega arith, same)
            | inr old ↦ Contains-after spot.node (nodes_of rest ++ done) n old
          ]

-- a node that is visited was not done before
pub is_not_done : (now : Sight) (spots : List Spot) (node : ℕ) (done : List ℕ) (Used : ℕ → Bool → Type 0) → AreOnce now spots (node ∷ done) Used
    → ¬ Contains done node
is_not_done now spots node done Used h = AreDifferent-after node (nodes_of spots) done h.different

-- ---- one visit

module _ (now after : Sight) (later : IsLaterMoment now after) (spots : List Spot) (spot : Spot) (done : List ℕ) where
  -- First the child on the one side is loaded,
  pub AreOnce-opens_first : KeepsSight after → (put : List Spot) (side : Bool) → AreOnce now spots (spot.node ∷ done) (IsDone done)
      → Opens now after spots put spot side → AreOnce after put (spot.node ∷ done) (IsDoneOrAt done spot.node side)
  AreOnce-opens_first keeps put side h opens =
      AreOnce-opens now after later (spot.node ∷ done) (IsDone done) (IsDoneOrAt done spot.node side) (λ a b used. inl used) spots h keeps
      spot.node side (is_not_done now spots spot.node done (IsDone done) h) spot put refl (inr (refl, refl)) opens

  -- or left out,
  pub AreOnce-leaves_first : (side : Bool) → AreOnce now spots (spot.node ∷ done) (IsDone done)
      → AreOnce after spots (spot.node ∷ done) (IsDoneOrAt done spot.node side)
  AreOnce-leaves_first side h = AreOnce-later now after later (spot.node ∷ done) (IsDone done) (IsDoneOrAt done spot.node side) (λ a b used. inl used) spots h

  -- the place on the other side is not used yet
  pub is_other_side : (right : Bool) → AreOnce now spots (spot.node ∷ done) (IsDoneOrAt done spot.node (not right))
      → ¬ IsDoneOrAt done spot.node (not right) spot.node right
  is_other_side right h (inl old) = is_not_done now spots spot.node done (IsDoneOrAt done spot.node (not right)) h old
  is_other_side true h (inr (same, side)) = cc
  is_other_side false h (inr (same, side)) = cc

  -- and then the node is done
  is_done_now : (right : Bool) (a : ℕ) (side : Bool) → IsDoneOrAt done spot.node (not right) a side → IsDone (spot.node ∷ done) a side
  is_done_now right a side (inl old) = Contains-after spot.node done a old
  is_done_now right a side (inr (same, used)) = (0, omega arith, sym same)

  -- once the child on the other side is loaded,
  pub AreOnce-opens_last : KeepsSight after → (put : List Spot) (right : Bool)
      → AreOnce now spots (spot.node ∷ done) (IsDoneOrAt done spot.node (not right)) → Opens now after spots put spot right
      → AreOnce after put (spot.node ∷ done) (IsDone (spot.node ∷ done))
  AreOnce-opens_last keeps put right h opens =
      AreOnce-opens now after later (spot.node ∷ done) (IsDoneOrAt done spot.node (not right)) (IsDone (spot.node ∷ done))
      (is_done_now right) spots h keeps spot.node right (is_other_side right h) spot put refl (Contains-first spot.node done) opens

  -- or left out, too.
  pub AreOnce-leaves_last : (right : Bool) → AreOnce now spots (spot.node ∷ done) (IsDoneOrAt done spot.node (not right))
      → AreOnce after spots (spot.node ∷ done) (IsDone (spot.node ∷ done))
  AreOnce-leaves_last right h =
      AreOnce-later now after later (spot.node ∷ done) (IsDoneOrAt done spot.node (not right)) (IsDone (spot.node ∷ done)) (is_done_now right) spots h

-- ---- so many visits

-- So many nodes are done, and those that wait are others.
pub record IsVisiting (now : Sight) (spots : List Spot) (visits : ℕ) : Type 0 where
  pub done : List ℕ
  pub count : length done ≡ visits
  pub once : AreOnce now spots done (IsDone done)

pub IsVisiting-begins : (now : Sight) (spot : Spot) → spot.node ≡ 0 → IsVisiting now (spot ∷ []) 0
IsVisiting-begins now spot node = record {
  done = [];
  count = refl;
  once = record {
    different = (Contains-none spot.node, tt);
    known = λ n k. elim (Contains-cases spot.node n [] k) [
      | inl is ↦ inl (sym is ∙ node)
      | inr none ↦ absurd (Contains-none n none)
    ];
  };
}

module _ (now : Sight) (marks : ℕ) (within : (n : ℕ) → IsSeen now.seen n → n ≤ marks) (spots : List Spot) (done : List ℕ) (Used : ℕ → Bool → Type 0)
    (h : AreOnce now spots done Used) where
  is_low : (n : ℕ) → Contains (nodes_of spots ++ done) n → n ≤ marks
  is_low n k =
      elim (h.known n k) [
        | inl start ↦ within n (inl start)
        | inr (a, side, used, link) ↦ within n (inr (a, side, link))
      ]

  -- The number of a node that is done is one of the run's.
  pub AreOnce-low : (n : ℕ) → Contains done n → n ≤ marks
  AreOnce-low n k = is_low n (Contains-append_right (nodes_of spots) done n k)

  -- No more nodes wait and are done than there are marks, and node 0.
  pub AreOnce-few : length spots + length done ≤ suc marks
  AreOnce-few =
      omega (
        arith,
        AreDifferent-few (nodes_of spots ++ done) marks h.different is_low,
        length-append (nodes_of spots) done,
        length-nodes_of spots,
      )
