-- A walk to the nearest node visits each node once, though it comes back to far sides.
use Rattle.kd_shared.proofs.Words.{◌≡◌, ◌⊎◌, ℕ, suc, ◌≤◌, Bool, true, false, not, length, List, [], ◌∷◌, ◌++◌, arith, refl, sym, ap, ◌∙◌, subst, inl, inr}
use Rattle.kd_shared.proofs.Words.{Contains, append-nil, length-map, map-append, Contains-append_left, Contains-append_right, Contains-push_cases, Point}
use Rattle.kd_shared.proofs.Words.{IsSeen, IsLaterMoment, KeepsSight, Sight, IsLaterMoment-refl, Contains-after, Contains-first, Spot, AreDifferent}
use Rattle.kd_shared.proofs.Words.{AreDifferent-few, AreDifferent-within, Contains-cases, Contains-none, far_side, near_side, Puts}
use Rattle.kd_shared.proofs.VisitedOnce.{AreOnce, AreOnce-few, AreOnce-later, AreOnce-low, AreOnce-opens, nodes_of}

-- ---- lists of different numbers

AreDifferent-left : (ms ns : List ℕ) → AreDifferent (ms ++ ns) → AreDifferent ms
AreDifferent-left [] ns h = tt
AreDifferent-left (m ∷ ms) ns (apart, h) = ((λ k. apart (Contains-append_left ms ns m k)), AreDifferent-left ms ns h)

-- a number within does not stand before itself
AreDifferent-before : (n : ℕ) (ms ns : List ℕ) → AreDifferent (ms ++ n ∷ ns) → ¬ Contains ms n
AreDifferent-before n [] ns h k = absurd (Contains-none n k)
AreDifferent-before n (m ∷ ms) ns (apart, h) k =
    elim (Contains-cases m n ms k) [
      | inl is ↦ apart (subst (λ j. Contains (ms ++ n ∷ ns) j) (sym is) (Contains-append_right ms (n ∷ ns) n (Contains-first n ns)))
      | inr more ↦ AreDifferent-before n ms ns h more
    ]

Contains-node : (spots : List Spot) (spot : Spot) → Contains spots spot → Contains (nodes_of spots) spot.node
Contains-node [] spot k = absurd (Contains-none spot k)
Contains-node (first ∷ spots) spot k =
    elim (Contains-cases first spot spots k) [
      | inl is ↦ subst (λ n. Contains (first.node ∷ nodes_of spots) n) (ap (λ (s : Spot). s.node) is) (Contains-first first.node (nodes_of spots))
      | inr more ↦ Contains-after first.node (nodes_of spots) spot.node (Contains-node spots spot more)
    ]

Contains-spot : (spots : List Spot) (n : ℕ) → Contains (nodes_of spots) n → (spot : Spot) × Contains spots spot × (spot.node ≡ n)
Contains-spot [] n k = absurd (Contains-none n k)
Contains-spot (first ∷ spots) n k =
    elim (Contains-cases first.node n (nodes_of spots) k) [
      | inl is ↦ (first, Contains-first first spots, is)
      | inr more ↦ (let own = Contains-spot spots n more in (own.0, Contains-after first spots own.0 own.1, own.2))
    ]

-- ---- so many visits

-- The places of nodes that are done are used, but for the far sides of those on the stack.
abbrev pub IsWalked : Point → List ℕ → List Spot → ℕ → Bool → Type 0
IsWalked target done stack a side =
    Contains done a × ((spot : Spot) → Contains stack spot → spot.node ≡ a → side ≡ far_side spot target → ⊥)

-- So many nodes are done, and those on the stack are among them. The next one is another.
pub record IsWalking (now : Sight) (target : Point) (next stack : List Spot) (visits : ℕ) : Type 0 where
  pub done : List ℕ
  pub count : length done ≡ visits
  pub once : AreOnce now next done (IsWalked target done stack)
  pub stacked : (spot : Spot) → Contains stack spot → Contains done spot.node
  pub different : AreDifferent (nodes_of stack)

pub IsWalking-begins : (now : Sight) (target : Point) (here : Spot) → here.node ≡ 0 → IsWalking now target (here ∷ []) [] 0
IsWalking-begins now target here start = record {
  done = [];
  count = refl;
  once = record {
    different = (Contains-none here.node, tt);
    known = λ n k. elim (Contains-cases here.node n [] k) [
      | inl is ↦ inl (sym is ∙ start)
      | inr none ↦ absurd (Contains-none n none)
    ];
  };
  stacked = λ spot k. absurd (Contains-none spot k);
  different = tt;
}

module _ (now : Sight) (target : Point) (marks : ℕ) (within : (n : ℕ) → IsSeen now.seen n → n ≤ marks) (here : Spot) (stack : List Spot) (visits : ℕ)
    (h : IsWalking now target (here ∷ []) stack visits) where
  -- no more nodes are done than there are marks,
  pub IsWalking-few : visits ≤ marks
  IsWalking-few =
      let few = AreOnce-few now marks within (here ∷ []) h.done (IsWalked target h.done stack) h.once in
      omega (arith, few, h.count)

  -- and no more are on the stack
  pub IsWalking-room : length stack ≤ suc marks
  IsWalking-room =
      omega (
        arith,
        AreDifferent-few (nodes_of stack) marks h.different
            (λ n k. (let own = Contains-spot stack n k in
            AreOnce-low now marks within (here ∷ []) h.done (IsWalked target h.done stack) h.once n
            (subst (Contains h.done) own.2 (h.stacked own.0 own.1)))),
        length-map stack (λ (spot : Spot). spot.node),
      )

-- ---- one visit

module _ (now : Sight) (target : Point) (here : Spot) (stack : List Spot) (visits : ℕ) (h : IsWalking now target (here ∷ []) stack visits)
    (put : List Spot) (either : (put ≡ stack) ⊎ (put ≡ stack ++ here ∷ [])) where
  abbrev done : List ℕ
  done = here.node ∷ h.done

  new_here : ¬ Contains h.done here.node
  new_here = h.once.different.0

  put_cases : (spot : Spot) → Contains put spot → Contains stack spot ⊎ (here ≡ spot)
  put_cases spot k =
      elim either [
        | inl same ↦ inl (subst (λ xs. Contains xs spot) same k)
        | inr last ↦ Contains-push_cases stack here spot (subst (λ xs. Contains xs spot) last k)
      ]

  stacked_put : (spot : Spot) → Contains put spot → Contains done spot.node
  stacked_put spot k =
      elim (put_cases spot k) [
        | inl old ↦ Contains-after here.node h.done spot.node (h.stacked spot old)
        | inr is ↦ subst (λ (s : Spot). Contains done s.node) is (Contains-first here.node h.done)
      ]

  different_put : AreDifferent (nodes_of put)
  different_put =
      elim either [
        | inl same ↦ subst (λ xs. AreDifferent (nodes_of xs)) (sym same) h.different
        | inr last ↦ (
            let whole : nodes_of stack ++ [] ≡ nodes_of stack = append-nil (nodes_of stack) in
            subst AreDifferent (sym (ap nodes_of last ∙ map-append (λ (s : Spot). s.node) stack (here ∷ [])))
            (AreDifferent-within here.node (nodes_of stack) [] (subst AreDifferent (sym whole) h.different)
            (λ k. (let own = Contains-spot stack here.node (subst (λ ns. Contains ns here.node) whole k) in
            new_here (subst (Contains h.done) own.2 (h.stacked own.0 own.1))))))
      ]

  -- what was used is so still
  still_used : (a : ℕ) (side : Bool) → IsWalked target h.done stack a side → IsWalked target done put a side
  still_used a side (old, left) = (
    Contains-after here.node h.done a old,
    (λ spot k is far. elim (put_cases spot k) [
      | inl before ↦ left spot before is far
      | inr same ↦ new_here (subst (Contains h.done) (sym (ap (λ (s : Spot). s.node) same ∙ is)) old)
    ]),
  )

  not_far : (b : Bool) → b ≡ not b → ⊥
  not_far true e = cc
  not_far false e = cc

  -- the near side of the node is used now
  near_used : IsWalked target done put here.node (near_side here target)
  near_used = (
    Contains-first here.node h.done,
    (λ spot k is far. elim (put_cases spot k) [
      | inl before ↦ new_here (subst (Contains h.done) is (h.stacked spot before))
      | inr same ↦ not_far (near_side here target) (far ∙ ap (λ s. far_side s target) (sym same))
    ]),
  )

  -- The child on the near side is next,
  module _ (half after : Sight) (first : IsLaterMoment now half) (later : IsLaterMoment half after) (keeps : KeepsSight after) where
    once_half : AreOnce half [] done (IsWalked target h.done stack)
    once_half =
        let same : AreOnce now [] done (IsWalked target h.done stack) = record { different = h.once.different; known = h.once.known } in
        AreOnce-later now half first done (IsWalked target h.done stack) (IsWalked target h.done stack) (λ a side used. used) [] same

    pub IsWalking-near : (child : Spot) → Puts after [] (child ∷ []) here (near_side here target) → IsWalking after target (child ∷ []) put (suc visits)
    IsWalking-near child puts = record {
      done = done;
      count = ap suc h.count;
      once = AreOnce-opens half after later done (IsWalked target h.done stack) (IsWalked target done put) still_used [] once_half keeps here.node
          (near_side here target) (λ used. new_here used.0) here (child ∷ []) refl near_used (inr puts);
      stacked = stacked_put;
      different = different_put;
    }

    -- or one on the far side of a node that is popped.
    pub IsWalking-far : (child above : Spot) (rest popped : List Spot) → put ≡ rest ++ above ∷ popped
        → Puts after [] (child ∷ []) above (far_side above target) → IsWalking after target (child ∷ []) rest (suc visits)
    IsWalking-far child above rest popped split puts = record {
      done = done;
      count = ap suc h.count;
      once = AreOnce-opens half after later done (IsWalked target done put) (IsWalked target done rest) fewer []
          (AreOnce-later half half (IsLaterMoment-refl half) done (IsWalked target h.done stack) (IsWalked target done put) still_used [] once_half)
          keeps above.node (far_side above target) (λ used. used.1 above above_in refl refl) above (child ∷ []) refl far_used (inr puts);
      stacked = λ spot k. stacked_put spot (in_put spot k);
      different = AreDifferent-left (nodes_of rest) (nodes_of (above ∷ popped)) different_split;
    }
      where
        in_put : (spot : Spot) → Contains rest spot → Contains put spot
        in_put spot k = subst (λ xs. Contains xs spot) (sym split) (Contains-append_left rest (above ∷ popped) spot k)

        above_in : Contains put above
        above_in = subst (λ xs. Contains xs above) (sym split) (Contains-append_right rest (above ∷ popped) above (Contains-first above popped))

        fewer : (a : ℕ) (side : Bool) → IsWalked target done put a side → IsWalked target done rest a side
        fewer a side (own, left) = (own, (λ spot k is far. left spot (in_put spot k) is far))

        different_split : AreDifferent (nodes_of rest ++ nodes_of (above ∷ popped))
        different_split = subst AreDifferent (ap nodes_of split ∙ map-append (λ (s : Spot). s.node) rest (above ∷ popped)) different_put

        far_used : IsWalked target done rest above.node (far_side above target)
        far_used = (
          stacked_put above above_in,
          (λ spot k is far.
              AreDifferent-before above.node (nodes_of rest) (nodes_of popped) different_split
              (subst (Contains (nodes_of rest)) is (Contains-node rest spot k))),
        )
