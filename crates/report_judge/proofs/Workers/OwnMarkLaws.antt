-- The marks of a worker between two of its turns, turn by turn; and the first of them that breaks a law.
use Rattle.report_judge.proofs.Words.{◌≡◌, ℕ, ◌+◌, ◌<◌, ◌≤◌, Bool, true, false, List, [], ◌∷◌, ◌++◌, length, length-append, Option, Some, None, arith, refl}
use Rattle.report_judge.proofs.Words.{sym, ap, ◌∙◌, subst, inl, inr, ◌↔◌, IsTrue, IsPermutation, cases_lt, true≢false, get_or_append_left, get_or_default}
use Rattle.report_judge.proofs.Words.{get_or_push, All-push, All-permutation, Contains-permutation, Point, Record, nowhere, numbered_at, Numbered, IsFirstBreak}
use Rattle.report_judge.proofs.Words.{AreMarksBetween, HasNumber, IsFirstSeen, IsMarkBetween, HaveOwnTurns, IsMarkOfTurn}
use Rattle.std.specs.Prelude.{IfNone, IfSome}

-- ---- the list, turn by turn

module _ (records : List Record) (worker from : ℕ) where
  pub AreMarksBetween-none : AreMarksBetween records worker from from []
  AreMarksBetween-none = record {
    each = λ k between. absurd (omega (arith, between.past, between.before));
    only = λ i d low. absurd (omega (arith, low));
  }

  later : (turn k : ℕ) → IsMarkBetween records worker from turn k → IsMarkBetween records worker from (turn + 1) k
  later turn k h = record { entry = h.entry; at = h.at; worker = h.worker; past = h.past; before = omega (arith, h.before) }

  sooner : (turn k : ℕ) (h : IsMarkBetween records worker from (turn + 1) k) → h.entry.turn < turn → IsMarkBetween records worker from turn k
  sooner turn k h low = record { entry = h.entry; at = h.at; worker = h.worker; past = h.past; before = low }

  HasNumber-left : (marks rest : List Numbered) (k : ℕ) → HasNumber marks k → HasNumber (marks ++ rest) k
  HasNumber-left marks rest k h = record {
    position = h.position;
    inside = omega (arith, h.inside, length-append marks rest);
    number = ap (λ (m : Numbered). m.number) (get_or_append_left marks rest nowhere h.position h.inside) ∙ h.number;
  }

  pub AreMarksBetween-more : HaveOwnTurns records → (turn : ℕ) → from ≤ turn → (marks : List Numbered) (o : Option ℕ) (mark : ℕ) (p : Point)
      → AreMarksBetween records worker from turn marks → IsMarkOfTurn records worker turn o → o ≡ Some mark
      → AreMarksBetween records worker from (turn + 1) (marks ++ record { point = p; number = mark } ∷ [])
  AreMarksBetween-more own turn past marks o mark p h told is =
      let here : IsMarkOfTurn records worker turn (Some mark) = subst (IsMarkOfTurn records worker turn) is told in
      let added : Numbered = record { point = p; number = mark } in
      record {
        each = λ k between.
            elim (cases_lt between.entry.turn turn) [
              | inl low ↦ HasNumber-left marks (added ∷ []) k (h.each k (sooner turn k between low))
              | inr high ↦ (
                  let now : between.entry.turn ≡ turn = omega (arith, between.before, high) in
                  let same : k ≡ mark =
                  own k mark between.entry here.0 between.at here.1 (between.worker ∙ sym here.2.worker) (now ∙ sym here.2.turn) in
                  record {
                    position = length marks;
                    inside = omega (arith, length-append marks (added ∷ []));
                    number = ap (λ (m : Numbered). m.number) (get_or_push marks added nowhere (length marks) refl) ∙ sym same;
                  })
            ];
        only =
            All-push (λ (m : Numbered). IsMarkBetween records worker from (turn + 1) m.number) marks added
            (λ i d low. later turn _ (h.only i d low))
            (record { entry = here.0; at = here.1; worker = here.2.worker; past = omega (arith, past, here.2.turn); before = omega (arith, here.2.turn) });
      }

  pub AreMarksBetween-same : (turn : ℕ) (marks : List Numbered) (o : Option ℕ) → AreMarksBetween records worker from turn marks
      → IsMarkOfTurn records worker turn o → o ≡ None → AreMarksBetween records worker from (turn + 1) marks
  AreMarksBetween-same turn marks o h told is =
      let none : IsMarkOfTurn records worker turn None = subst (IsMarkOfTurn records worker turn) is told in
      record {
        each = λ k between.
            elim (cases_lt between.entry.turn turn) [
              | inl low ↦ h.each k (sooner turn k between low)
              | inr high ↦
                  absurd (none k between.entry between.at
                  (record { worker = between.worker; turn = omega (arith, between.before, high) }))
            ];
        only = λ i d low. later turn _ (h.only i d low);
      }

  pub AreMarksBetween-sorted : (to : ℕ) (marks sorted : List Numbered) → AreMarksBetween records worker from to marks → IsPermutation marks sorted
      → AreMarksBetween records worker from to sorted
  AreMarksBetween-sorted to marks sorted h same = record {
    each = λ k between.
        let there = h.each k between in
        let m = numbered_at marks there.position in
        let found = Contains-permutation marks sorted m same (there.position, there.inside, get_or_default marks there.position m nowhere there.inside) in
        record {
          position = found.0;
          inside = found.1;
          number = ap (λ (n : Numbered). n.number) (get_or_default sorted found.0 nowhere m found.1 ∙ found.2) ∙ there.number;
        };
    only = All-permutation (λ (m : Numbered). IsMarkBetween records worker from to m.number) marks sorted same h.only;
  }

  -- each of the list is of such a turn
  pub mark_of : (to : ℕ) (marks : List Numbered) → AreMarksBetween records worker from to marks → (k : ℕ) → HasNumber marks k
      → IsMarkBetween records worker from to k
  mark_of to marks h k there = subst (IsMarkBetween records worker from to) there.number (h.only there.position nowhere there.inside)

  pub mark_among : (to : ℕ) (marks : List Numbered) → AreMarksBetween records worker from to marks → (k : ℕ) → HasNumber marks k
      → IsMarkBetween records worker 0 to k
  mark_among to marks h k there =
      let between = mark_of to marks h k there in
      record { entry = between.entry; at = between.at; worker = between.worker; past = omega arith; before = between.before }

-- ---- the first that breaks a law

module _ (Keeps : ℕ → Type 0) (marks : List Numbered) where
  -- a mark that keeps it, or comes after one that does not
  pub IsFirstSeen-kept : (limit : ℕ) (first : Option ℕ) → IsFirstSeen Keeps marks limit first → Keeps (numbered_at marks limit).number
      → IsFirstSeen Keeps marks (limit + 1) first
  IsFirstSeen-kept limit None h kept = λ j low.
      elim (cases_lt j limit) [
        | inl before ↦ h j before
        | inr past ↦ (let e : limit ≡ j = omega (arith, low, past) in subst (λ i. Keeps (numbered_at marks i).number) e kept)
      ]
  IsFirstSeen-kept limit (Some k) h kept = (
    h.0,
    λ j low less.
        elim (cases_lt j limit) [
          | inl before ↦ h.1 j before less
          | inr past ↦ (let e : limit ≡ j = omega (arith, low, past) in subst (λ i. Keeps (numbered_at marks i).number) e kept)
        ],
    h.2,
  )

  pub IsFirstSeen-later : (limit k : ℕ) → IsFirstSeen Keeps marks limit (Some k) → k ≤ (numbered_at marks limit).number
      → IsFirstSeen Keeps marks (limit + 1) (Some k)
  IsFirstSeen-later limit k h high = (
    h.0,
    λ j low less.
        elim (cases_lt j limit) [
          | inl before ↦ h.1 j before less
          | inr past ↦ (
              let e : j ≡ limit = omega (arith, low, past) in
              absurd (omega (arith, high, less, ap (λ i. (numbered_at marks i).number) e)))
        ],
    h.2,
  )

  -- a mark before the first one so far that breaks it
  pub IsFirstSeen-broken : (limit : ℕ) (first : Option ℕ) → IsFirstSeen Keeps marks limit first → limit < length marks
      → IfSome first (λ k. (numbered_at marks limit).number < k) → ¬ Keeps (numbered_at marks limit).number
      → IsFirstSeen Keeps marks (limit + 1) (Some (numbered_at marks limit).number)
  IsFirstSeen-broken limit first h inside below broken = (
    record { position = limit; inside = inside; number = refl },
    λ j low less.
        elim (cases_lt j limit) [
          | inl before ↦ before_it first h below j before less
          | inr past ↦ (
              let e : j ≡ limit = omega (arith, low, past) in
              absurd (omega (arith, less, ap (λ i. (numbered_at marks i).number) e)))
        ],
    broken,
  )
    where
      before_it : (o : Option ℕ) → IsFirstSeen Keeps marks limit o → IfSome o (λ k. (numbered_at marks limit).number < k) → (j : ℕ) → j < limit
          → (numbered_at marks j).number < (numbered_at marks limit).number → Keeps (numbered_at marks j).number
      before_it None seen low j before less = seen j before
      before_it (Some k) seen low j before less = seen.1 j before (omega (arith, less, low))

  -- by the test whether a mark may be the first
  pub may_come_first : (limit mark : ℕ) (first : Option ℕ) (test : Bool) → mark ≡ (numbered_at marks limit).number → test ≡ true
      → IfSome first (λ k. IsTrue test ↔ (mark < k)) → IfSome first (λ k. (numbered_at marks limit).number < k)
  may_come_first limit mark None test is passes told = tt
  may_come_first limit mark (Some k) test is passes told = omega (arith, is, told.0 passes)

  pub IsFirstSeen-past : (limit mark : ℕ) (first : Option ℕ) (test : Bool) → mark ≡ (numbered_at marks limit).number → test ≡ false
      → IfNone first (IsTrue test) → IfSome first (λ k. IsTrue test ↔ (mark < k)) → IsFirstSeen Keeps marks limit first
      → IsFirstSeen Keeps marks (limit + 1) first
  IsFirstSeen-past limit mark None test is fails none some h = absurd (true≢false (sym none ∙ fails))
  IsFirstSeen-past limit mark (Some k) test is fails none some h =
      elim (cases_lt mark k) [
        | inl less ↦ absurd (true≢false (sym (some.1 less) ∙ fails))
        | inr more ↦ IsFirstSeen-later limit k h (omega (arith, is, more))
      ]

  -- the first of the list is the first of the numbers that the list has
  pub IsFirstBreak-seen : (Other : ℕ → Type 0) (limit : ℕ) (first : Option ℕ) → ((k : ℕ) → HasNumber marks k → k < limit)
      → ((k : ℕ) → (HasNumber marks k → Keeps k) → Other k) → ((k : ℕ) → HasNumber marks k → Other k → Keeps k)
      → IsFirstSeen Keeps marks (length marks) first → IsFirstBreak Other limit first
  IsFirstBreak-seen Other limit None low other back seen = λ k inside.
      other k (λ there. subst Keeps there.number (seen there.position there.inside))
  IsFirstBreak-seen Other limit (Some k) low other back seen = (
    low k seen.0,
    λ j less. other j (λ there. subst Keeps there.number (seen.1 there.position there.inside (omega (arith, less, there.number)))),
    λ kept. seen.2 (back k seen.0 kept),
  )
