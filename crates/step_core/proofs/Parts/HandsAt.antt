-- How many hands hold a mark and have come so far: of a mark in hand it is told by that hand alone.
use Rattle.step_core.proofs.Words.{◌≡◌, ◌≢◌, ◌+◌, ◌≤◌, [], ◌∷◌, ◌∙◌, ◌==◌, ◌&&◌, ℕ, Bool, true, false, List, set, Option, Some, None, refl, sym, ap, inl, inr}
use Rattle.step_core.proofs.Words.{arith, cases_eq, eq-eqb, ne_eqb, sum_by-cons, some, get_elem?, is_claimed, once_if, Word, Words, holds_at, new_hand, holds}
use Rattle.step_core.proofs.Words.{ClaimedMarks, counters, hands_at, holders, is_recorded, Hand, SharedRun, Stage, Claimed, View, IsMoment, Moment, PointOf}
use Rattle.step_core.proofs.Words.{FirstOf, TreeOf, has_point, has_first, has_tree, suc, is_some}
use Rattle.step_core.proofs.Parts.MarksInHand.{once_if-false, once_if-most, in_hand}
use Rattle.step_core.proofs.Parts.Shifts.{IsShift, Shift, at-then, later_views, sum-later}
use Rattle.step_core.proofs.Parts.ViewLists.{sum-one, sum-set, sum-two}

-- ---- one hand

-- a hand that has come so far has the mark
pub holds_at-most : (test : Stage → Bool) (k : ℕ) (hand : Option Hand) → once_if (holds_at test k hand) ≤ once_if (holds k hand)
holds_at-most test k None = omega arith
holds_at-most test k (Some hand) = by_test (hand.mark == k) (test hand.stage)
  where
    by_test : (a b : Bool) → once_if (a && b) ≤ once_if a
    by_test true true = omega arith
    by_test true false = omega arith
    by_test false b = omega arith

-- of its own mark it tells how far it has come
pub holds_at-own : (test : Stage → Bool) (o : Option Hand) (hand : Hand) → o ≡ Some hand → holds_at test hand.mark o ≡ test hand.stage
holds_at-own test o hand e = ap (holds_at test hand.mark) e ∙ ap (λ b. b && test hand.stage) (eq-eqb hand.mark hand.mark refl)

-- and of others nothing
pub holds_at-other : (test : Stage → Bool) (k : ℕ) (o : Option Hand) (hand : Hand) → o ≡ Some hand → k ≢ hand.mark → holds_at test k o ≡ false
holds_at-other test k o hand e apart = ap (holds_at test k) e ∙ ap (λ b. b && test hand.stage) (ne_eqb hand.mark k (λ same. apart (sym same)))

-- if the hand has come on no further in this, it tells the same
pub holds_at-stays :
    (test : Stage → Bool) (o : Option Hand) (hand next : Hand) → o ≡ Some hand → next.mark ≡ hand.mark → test next.stage ≡ test hand.stage → (k : ℕ)
    → holds_at test k (Some next) ≡ holds_at test k o
holds_at-stays test o hand next held same far k =
    ap (λ m. (m == k) && test next.stage) same ∙ ap (λ b. (hand.mark == k) && b) far ∙ sym (ap (holds_at test k) held)

-- a mark that was just claimed has not come far
pub holds_at-new : (test : Stage → Bool) → test Claimed ≡ false → (k j : ℕ) → holds_at test k (Some (new_hand j)) ≡ false
holds_at-new test not_yet k j = ap (λ b. (j == k) && b) not_yet ∙ by_test (j == k)
  where
    by_test : (b : Bool) → (b && false) ≡ false
    by_test true = refl
    by_test false = refl

-- ---- all hands

pub hands_at-most : (test : Stage → Bool) (k : ℕ) (views : List View) → hands_at test k views ≤ holders k views
hands_at-most test k [] = omega arith
hands_at-most test k (view ∷ views) =
    omega (
      arith,
      holds_at-most test k view.hand,
      hands_at-most test k views,
      sum_by-cons (λ u. once_if (holds_at test k u.hand)) view views,
      sum_by-cons (λ u. once_if (holds k u.hand)) view views,
    )

-- As many have come so far by a test as by another that each stage passes which passes the one.
pub hands_at-less :
    (test more : Stage → Bool) → ((stage : Stage) → once_if (test stage) ≤ once_if (more stage)) → (k : ℕ) (views : List View)
    → hands_at test k views ≤ hands_at more k views
hands_at-less test more less k [] = omega arith
hands_at-less test more less k (view ∷ views) =
    omega (
      arith,
      by_hand view.hand,
      hands_at-less test more less k views,
      sum_by-cons (λ u. once_if (holds_at test k u.hand)) view views,
      sum_by-cons (λ u. once_if (holds_at more k u.hand)) view views,
    )
  where
    by_test : (stage : Stage) (b : Bool) → once_if (b && test stage) ≤ once_if (b && more stage)
    by_test stage true = less stage
    by_test stage false = omega arith

    by_hand : (o : Option Hand) → once_if (holds_at test k o) ≤ once_if (holds_at more k o)
    by_hand None = omega arith
    by_hand (Some hand) = by_test hand.stage (hand.mark == k)

module _ (run : SharedRun) (words : Words) (views : List View) (numbers : ClaimedMarks run words views) where
  -- a mark is in one hand at most, and then it is not recorded
  pub holders-most : (k : ℕ) → once_if (is_recorded words k) + holders k views ≤ 1
  holders-most k = omega (arith, numbers.each_once k, once_if-most (is_claimed run.strips (counters words) k))

  -- of a mark in hand it is told by this hand alone
  pub hands_at-held :
      (test : Stage → Bool) (id : ℕ) (view : View) (hand : Hand) → get_elem? views id ≡ some view → view.hand ≡ Some hand
      → hands_at test hand.mark views ≡ once_if (test hand.stage)
  hands_at-held test id view hand at held = omega (arith, others_none, ap once_if (holds_at-own test view.hand hand held))
    where
      without : View
      without = record view { hand = None }

      others_none : hands_at test hand.mark views ≡ once_if (holds_at test hand.mark view.hand)
      others_none =
          let own : once_if (holds hand.mark view.hand) ≡ 1 = ap once_if (ap (holds hand.mark) held ∙ eq-eqb hand.mark hand.mark refl) in
          omega (
            arith,
            sum-set (λ u. once_if (holds_at test hand.mark u.hand)) views id view without at,
            sum-set (λ u. once_if (holds hand.mark u.hand)) views id view without at,
            hands_at-most test hand.mark (set views id without),
            holders-most hand.mark,
            own,
          )

-- ---- a mark in hand

-- The word of a mark that is not recorded is 0 while no hand that has the mark has come so far.
abbrev pub IsBlank : (Stage → Bool) → (ℕ → Word) → Words → List View → Type 0
IsBlank test own words views = (k : ℕ) → is_recorded words k ≡ false → hands_at test k views ≡ 0 → words (own k) ≡ 0

module _ {now : Moment} (is : IsMoment now) {hand : Hand} (held : now.view.hand ≡ Some hand) where
  -- it is not recorded,
  pub unrecorded-held : is_recorded now.words hand.mark ≡ false
  unrecorded-held = ap is_some (in_hand now.run now.words now.views now.id now.view is.world is.at hand held).absent

  -- and nobody else has it.
  pub alone-held : (i : ℕ) (other : View) (own : Hand) → i ≢ now.id → get_elem? now.views i ≡ some other → other.hand ≡ Some own → own.mark ≢ hand.mark
  alone-held i other own apart e has same =
      omega (
        arith,
        sum-two (λ u. once_if (holds hand.mark u.hand)) now.views i now.id other now.view apart e is.at,
        holders-most now.run now.words now.views is.world.numbers hand.mark,
        ap once_if (ap (holds hand.mark) held ∙ eq-eqb hand.mark hand.mark refl),
        ap once_if (ap (holds hand.mark) has ∙ eq-eqb own.mark hand.mark same),
      )

  none_held : (test : Stage → Bool) (own : ℕ → Word) → IsBlank test own now.words now.views → test hand.stage ≡ false → now.words (own hand.mark) ≡ 0
  none_held test own blank not_yet =
      blank hand.mark unrecorded-held
      (hands_at-held now.run now.words now.views is.world.numbers test now.id now.view hand is.at held ∙ ap once_if not_yet)

  -- What is written for its node is not there before the hand has come so far.
  pub blank-held : has_point hand.stage ≡ false → now.words (PointOf (suc hand.mark)) ≡ 0
  blank-held = none_held has_point (λ k. PointOf (suc k)) is.world.hands.blank

  pub first-held : has_first hand.stage ≡ false → now.words (FirstOf (suc hand.mark)) ≡ 0
  first-held = none_held has_first (λ k. FirstOf (suc k)) is.world.pairs.no_first

  pub tree-held : has_tree hand.stage ≡ false → now.words (TreeOf (suc hand.mark)) ≡ 0
  tree-held = none_held has_tree (λ k. TreeOf (suc k)) is.world.pairs.no_tree

-- ---- a step of its view

module _ {s : Shift} (is : IsShift s) (test : Stage → Bool) (own : ℕ → Word) (blank : IsBlank test own s.now.words s.now.views) where
  -- a step by which the hand comes no farther
  pub IsBlank-step :
      ((k : ℕ) → is_recorded s.now.words k ≡ false → hands_at test k s.now.views ≡ 0 → s.after (own k) ≡ s.now.words (own k))
      → ((k : ℕ) → is_recorded s.after k ≡ is_recorded s.now.words k) → ((k : ℕ) → holds_at test k s.then.hand ≡ holds_at test k s.now.view.hand)
      → IsBlank test own s.after (later_views s)
  IsBlank-step stays recorded same k none no_hand =
      let none_before = sym (recorded k) ∙ none in
      let none_held : hands_at test k s.now.views ≡ 0 = omega (arith, no_hand, sum-later is (λ u. once_if (holds_at test k u.hand)), ap once_if (same k)) in
      stays k none_before none_held ∙ blank k none_before none_held

  module _ (hand : Hand) (held : s.now.view.hand ≡ Some hand) where
    -- a record of its mark
    pub IsBlank-recorded :
        s.then.hand ≡ None → ((k : ℕ) → is_recorded s.now.words k ≡ false → hands_at test k s.now.views ≡ 0 → s.after (own k) ≡ s.now.words (own k))
        → is_recorded s.after hand.mark ≡ true → ((k : ℕ) → k ≢ hand.mark → is_recorded s.after k ≡ is_recorded s.now.words k)
        → IsBlank test own s.after (later_views s)
    IsBlank-recorded idle stays now recorded k none no_hand =
        elim (cases_eq k hand.mark) [
          | inl e ↦ (let no = sym none ∙ ap (is_recorded s.after) e ∙ now in cc)
          | inr apart ↦ (
              let none_before = sym (recorded k apart) ∙ none in
              let no_hand_before : hands_at test k s.now.views ≡ 0 = omega (
                arith,
                no_hand,
                sum-later is (λ u. once_if (holds_at test k u.hand)),
                ap once_if (ap (holds_at test k) idle),
                ap once_if (holds_at-other test k s.now.view.hand hand held apart),
              ) in
              stays k none_before no_hand_before ∙ blank k none_before no_hand_before)
        ]

    -- one by which it comes to another stage, with its word as that says
    pub IsBlank-hand :
        (next : Hand) → s.then.hand ≡ Some next → next.mark ≡ hand.mark → ((k : ℕ) → k ≢ hand.mark → s.after (own k) ≡ s.now.words (own k))
        → ((k : ℕ) → is_recorded s.after k ≡ is_recorded s.now.words k) → (test next.stage ≡ false → s.after (own hand.mark) ≡ 0)
        → IsBlank test own s.after (later_views s)
    IsBlank-hand next now same stays recorded none_own k none no_hand =
        elim (cases_eq k hand.mark) [
          | inl e ↦ ap (λ j. s.after (own j)) e ∙ none_own (once_if-false (test next.stage) (omega (
            arith,
            no_hand,
            sum-one (λ u. once_if (holds_at test k u.hand)) (later_views s) s.now.id s.then (at-then is),
            ap once_if (ap (λ j. holds_at test j s.then.hand) (e ∙ sym same) ∙ holds_at-own test s.then.hand next now),
          )))
          | inr apart ↦ stays k apart ∙ blank k (sym (recorded k) ∙ none) (omega (
            arith,
            no_hand,
            sum-later is (λ u. once_if (holds_at test k u.hand)),
            ap once_if (holds_at-other test k s.then.hand next now (λ e. apart (e ∙ same))),
            ap once_if (holds_at-other test k s.now.view.hand hand held apart),
          ))
        ]
