-- A worker that looks at one word more is at a later moment, and what it has seen is of the words still, and seen from node 0 on.
use Rattle.step_core.proofs.Words.{◌≡◌, ◌+◌, ◌<◌, ◌∙◌, ◌≢◌, ◌⊎◌, ℕ, Bool, true, false, Some, None, refl, arith, sym, ap, subst, inl, inr, is_some, IsSome}
use Rattle.step_core.proofs.Words.{cases_eq, point_of, IsPresent, SeenTree, IsSeen, IsRooted, IsLaterMoment, IsPresent-stands, StandsAt-present, IsSeen-more}
use Rattle.step_core.proofs.Words.{child_of_word, SeenWords, MayLookAt, LooksAt, seen_tree_of_words, sight_of_words, kind_of, MayBecome, AreBehind, Once, Word}
use Rattle.step_core.proofs.Words.{Words, Count, Best, Counter, PointOf, ChildOf, TreeOf, FirstOf, RecordOf, Sizes, point_of_word, tree_of_word, MayBecome-refl}
use Rattle.step_core.proofs.Words.{Falling, HaveWholePairs, WritesWord, ◌^◌, ◌≤◌, cost_in}
use Rattle.step_core.proofs.Seen.SeenWords.{HasSeenAtLeast-words, point_at-seen, seen-within}

-- ---- names

same_side : (a b : Bool) → (a ≡ b) ⊎ (a ≢ b)
same_side false false = inl refl
same_side true true = inl refl
same_side a b = inr (λ e. cc)

-- two names are one, or are not
pub same_name : (one other : Word) → (one ≡ other) ⊎ (one ≢ other)
same_name Count Count = inl refl
same_name Best Best = inl refl
same_name (Counter g) (Counter h) = elim (cases_eq g h) [ inl e ↦ inl (ap Counter e) | inr apart ↦ inr (λ e. apart cc) ]
same_name (PointOf n) (PointOf m) = elim (cases_eq n m) [ inl e ↦ inl (ap PointOf e) | inr apart ↦ inr (λ e. apart cc) ]
same_name (ChildOf n side) (ChildOf m other) =
    elim (cases_eq n m) [
      | inr apart ↦ inr (λ e. apart cc)
      | inl e ↦ elim (same_side side other) [
        | inl f ↦ inl (ap (λ k. ChildOf k side) e ∙ ap (ChildOf m) f)
        | inr apart ↦ inr (λ g. apart cc)
      ]
    ]
same_name (TreeOf n) (TreeOf m) = elim (cases_eq n m) [ inl e ↦ inl (ap TreeOf e) | inr apart ↦ inr (λ e. apart cc) ]
same_name (FirstOf n) (FirstOf m) = elim (cases_eq n m) [ inl e ↦ inl (ap FirstOf e) | inr apart ↦ inr (λ e. apart cc) ]
same_name (RecordOf k) (RecordOf m) = elim (cases_eq k m) [ inl e ↦ inl (ap RecordOf e) | inr apart ↦ inr (λ e. apart cc) ]
same_name _ _ = inr (λ e. cc)

-- ---- one word is written, or is seen as it is

-- each tree word that the view sees is one that it saw, or the word now
abbrev pub IsFair : Words → Words → Words → Type 0
IsFair before now after = (n : ℕ) → (after (TreeOf n) ≡ before (TreeOf n)) ⊎ (after (TreeOf n) ≡ now (TreeOf n))

-- the cost in a written tree word does not rise
pub cost_in-falls : (word later : ℕ) → 2 ^ 63 ≤ word → MayBecome Falling word later → cost_in later ≤ cost_in word
cost_in-falls word later written (inl none) = absurd (omega (arith, none, written))
cost_in-falls word later written (inr (inl same)) = omega (arith, ap cost_in same)
cost_in-falls word later written (inr (inr fell)) = omega (arith, fell.1)

-- words of which one is written go on, if that may be
pub AreBehind-write : (name : Word) (x : ℕ) (before after : Words) → WritesWord name x before after → MayBecome (kind_of name) (before name) x
    → AreBehind before after
AreBehind-write name x before after writes may other =
    elim (same_name other name) [
      | inl e ↦ subst (λ n. MayBecome (kind_of n) (before n) (after n)) (sym e) (subst (MayBecome (kind_of name) (before name)) (sym writes.here) may)
      | inr apart ↦ subst (MayBecome (kind_of other) (before other)) (sym (writes.others other apart)) (MayBecome-refl (kind_of other) (before other))
    ]

-- a word more that is written leaves whole pairs, if it is a whole one or is of no pair
pub HaveWholePairs-write :
    {name : Word} {x : ℕ} {before after : Words} → WritesWord name x before after → ((n : ℕ) → TreeOf n ≡ name → (x ≡ 0) ⊎ (2 ^ 63 ≤ x))
    → HaveWholePairs before → HaveWholePairs after
HaveWholePairs-write {name} {x} {before} {after} writes written whole n =
    elim (same_name (TreeOf n) name) [
      | inl e ↦ subst (λ w. (w ≡ 0) ⊎ (2 ^ 63 ≤ w)) (sym (ap after e ∙ writes.here)) (written n e)
      | inr apart ↦ subst (λ w. (w ≡ 0) ⊎ (2 ^ 63 ≤ w)) (sym (writes.others (TreeOf n) apart)) (whole n)
    ]

module _ (name : Word) (x : ℕ) (seen saw now : Words) (writes : WritesWord name x seen saw) (is : now name ≡ x) (behind : AreBehind seen now) where
  -- what is seen may become what is so now,
  pub AreBehind-saw : AreBehind saw now
  AreBehind-saw other =
      elim (same_name other name) [
        | inl e ↦
            subst (λ w. MayBecome (kind_of other) w (now other)) (ap now e ∙ is ∙ sym (ap saw e ∙ writes.here)) (MayBecome-refl (kind_of other) (now other))
        | inr apart ↦ subst (λ w. MayBecome (kind_of other) w (now other)) (sym (writes.others other apart)) (behind other)
      ]

  -- and what was seen may become what is seen.
  pub AreBehind-seen : AreBehind seen saw
  AreBehind-seen = AreBehind-write name x seen saw writes (subst (MayBecome (kind_of name) (seen name)) is (behind name))

  pub HaveWholePairs-saw : HaveWholePairs seen → HaveWholePairs now → HaveWholePairs saw
  HaveWholePairs-saw whole pairs =
      HaveWholePairs-write writes (λ n e. subst (λ w. (w ≡ 0) ⊎ (2 ^ 63 ≤ w)) (ap now e ∙ is) (pairs n)) whole

  pub IsFair-saw : IsFair seen now saw
  IsFair-saw n =
      elim (same_name (TreeOf n) name) [
        | inl e ↦ inr (ap saw e ∙ writes.here ∙ sym (ap now e ∙ is))
        | inr apart ↦ inl (writes.others (TreeOf n) apart)
      ]

-- ---- seen from node 0 on

module _ (sizes : Sizes) (before after : Words) (go : AreBehind before after) where
  abbrev was : SeenTree
  was = seen_tree_of_words sizes before

  abbrev now : SeenTree
  now = seen_tree_of_words sizes after

  pub MayLookAt-more : (name : Word) → MayLookAt was name → MayLookAt now name
  MayLookAt-more (PointOf n) may = IsSeen-more was now (HasSeenAtLeast-words sizes before after go) n may
  MayLookAt-more (ChildOf n side) may = IsSeen-more was now (HasSeenAtLeast-words sizes before after go) n may
  MayLookAt-more (TreeOf n) may = IsSeen-more was now (HasSeenAtLeast-words sizes before after go) n may
  MayLookAt-more name may = tt

  -- If each word that is seen anew is of a seen node or of none, all is seen from node 0 on as before.
  module _ (rooted : IsRooted was) (each : (name : Word) → (after name ≡ before name) ⊎ MayLookAt now name) where
    children_seen : (a n : ℕ) (side : Bool) → now.child a side ≡ Some n → IsSeen now a
    children_seen a n side h =
        elim (each (ChildOf a side)) [
          | inr seen ↦ seen
          | inl same ↦ MayLookAt-more (ChildOf a side) (rooted.children a n side (ap child_of_word (sym same) ∙ h))
        ]

    points_seen : (n : ℕ) → IsPresent now.points n → IsSeen now n
    points_seen n h =
        let within = seen-within sizes after n h in
        elim (each (PointOf n)) [
          | inr seen ↦ seen
          | inl same ↦ MayLookAt-more (PointOf n) (rooted.points n
              (ap is_some (point_at-seen sizes before n within ∙ ap point_of_word (sym same) ∙ sym (point_at-seen sizes after n within)) ∙ h))
        ]

    pairs_seen : (n : ℕ) → IsSome (now.parent_and_cost n) → IsSeen now n
    pairs_seen n h =
        elim (each (TreeOf n)) [
          | inr seen ↦ seen
          | inl same ↦ MayLookAt-more (TreeOf n) (rooted.pairs n (ap (λ w. is_some (tree_of_word w)) (sym same) ∙ h))
        ]

    pub IsRooted-seen : IsRooted now
    IsRooted-seen = record {
      start = IsPresent-stands now.points 0 (point_of was.points 0) ((HasSeenAtLeast-words sizes before after go).places.nodes 0
          (point_of was.points 0) (StandsAt-present was.points 0 rooted.start));
      children = children_seen;
      points = points_seen;
      pairs = pairs_seen;
    }

-- so it is with one word
pub IsRooted-write : (sizes : Sizes) (name : Word) (x : ℕ) (before after : Words) → WritesWord name x before after → AreBehind before after
    → MayLookAt (seen_tree_of_words sizes before) name → IsRooted (seen_tree_of_words sizes before) → IsRooted (seen_tree_of_words sizes after)
IsRooted-write sizes name x before after writes go may rooted = IsRooted-seen sizes before after go rooted (λ other.
    elim (same_name other name) [
      | inl e ↦ inr (MayLookAt-more sizes before after go other (subst (MayLookAt (seen_tree_of_words sizes before)) (sym e) may))
      | inr apart ↦ inl (writes.others other apart)
    ])

-- ---- a look

module _ (name : Word) (words : Words) (before after : SeenWords) (looks : LooksAt name words before after) (behind : AreBehind before.seen words) where
  -- Seen words are behind the words still,
  pub AreBehind-looks : AreBehind after.seen words
  AreBehind-looks = AreBehind-saw name (words name) before.seen after.seen words looks.seen refl behind

  -- and those of before are behind those of now.
  AreBehind-looked : AreBehind before.seen after.seen
  AreBehind-looked = AreBehind-seen name (words name) before.seen after.seen words looks.seen refl behind

  -- the step that last found a child word 0 is as it was, or it is this one, and then no child was seen
  found_now : (n : ℕ) (side : Bool) → (after.found_zero (ChildOf n side) ≡ before.found_zero (ChildOf n side))
      ⊎ ((before.steps < after.found_zero (ChildOf n side)) × (child_of_word (before.seen (ChildOf n side)) ≡ None))
  found_now n side =
      elim (cases_eq (words name) 0) [
        | inr filled ↦ inl (looks.found_none filled (ChildOf n side))
        | inl empty ↦ elim (same_name (ChildOf n side) name) [
          | inr apart ↦ inl ((looks.found empty).others (ChildOf n side) apart)
          | inl e ↦ (
              let step : after.found_zero (ChildOf n side) ≡ before.steps + 1 = ap after.found_zero e ∙ (looks.found empty).here in
              inr (omega (arith, step), was_zero (behind (ChildOf n side)) (ap words e ∙ empty)))
        ]
      ]
    where
      was_zero : MayBecome Once (before.seen (ChildOf n side)) (words (ChildOf n side)) → words (ChildOf n side) ≡ 0
          → child_of_word (before.seen (ChildOf n side)) ≡ None
      was_zero (inl e) none = ap child_of_word e
      was_zero (inr e) none = ap child_of_word (e ∙ none)

  module _ (sizes : Sizes) where
    -- It is a later moment of the same worker.
    pub IsLaterMoment-looks : IsLaterMoment (sight_of_words sizes before) (sight_of_words sizes after)
    IsLaterMoment-looks = record {
      seen = HasSeenAtLeast-words sizes before.seen after.seen AreBehind-looked;
      steps = omega (arith, looks.steps);
      empty = found_now;
    }

    -- What is seen is seen from node 0 on.
    pub IsRooted-looks : MayLookAt (seen_tree_of_words sizes before.seen) name → IsRooted (seen_tree_of_words sizes before.seen)
        → IsRooted (seen_tree_of_words sizes after.seen)
    IsRooted-looks = IsRooted-write sizes name (words name) before.seen after.seen looks.seen AreBehind-looked
