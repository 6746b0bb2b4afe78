-- What seen words say: no more than what they may become says, and so what was seen is true of the tree in the words now.
use Rattle.step_core.proofs.Words.{◌≡◌, ◌+◌, ◌<◌, ◌≤◌, ◌^◌, ◌∙◌, ◌⊎◌, ◌&&◌, ℕ, zero, suc, Bool, true, false, Option, Some, None, refl, arith, sym, ap, inl, inr}
use Rattle.step_core.proofs.Words.{is_some, nat_lt, unwrap_or, cond, cases_lt, cases_Bool, le-ltb, lt-ltb, get_or_past, get_or-map-range_with_len}
use Rattle.step_core.proofs.Words.{length-map-range_with_len, Point, Record, is_placed, point_at, StandsAt, IsPresent, HasSeenAtLeast, KeepsOrLowers}
use Rattle.step_core.proofs.Words.{has_placed, child_of_word, children_of_words, seen_point, whole_record, seen_tree_of_words, MayBecome, AreBehind, Once}
use Rattle.step_core.proofs.Words.{Falling, Words, Count, Counter, PointOf, ChildOf, TreeOf, FirstOf, RecordOf, Sizes, point_of_word, parent_in, cost_in}
use Rattle.step_core.proofs.Words.{tree_of_word, outcome_in, record_in, record_of_word, subst, if◌then◌else◌, point_of, IsSeen, IsRooted, seen_whole, IsTrueOf}
use Rattle.step_core.proofs.Words.{FollowWays, IsPresent-stands, StandsAt-present, whole_pair, not_empty, is_linked, is_linked-child, is_linked-start}
use Rattle.step_core.proofs.Words.{linked_point, linked_points, shared_tree_of_words, Outcome, Placed, Same, Blocked, Skipped, record_at, has_node, FitsWord}
use Rattle.step_core.proofs.Words.{number_of_outcome, record_word, outcome_in-record_word, if_written-set, Apart, Rising, WordKind, ◌≢◌}

-- ---- one word

-- a word that is there once says the same later
once_says : {A : Type 0} (f : ℕ → Option A) (word later : ℕ) (x : A) → f 0 ≡ None → MayBecome Once word later → f word ≡ Some x → f later ≡ Some x
once_says f word later x none (inl e) h = let gone = sym none ∙ ap f (sym e) ∙ h in cc
once_says f word later x none (inr e) h = ap f (sym e) ∙ h

-- a word that is written once is the same later
pub same_once : {word later : ℕ} → MayBecome Once word later → 0 < word → word ≡ later
same_once (inl none) written = absurd (omega (arith, none, written))
same_once (inr same) written = same

-- only 0 may become 0
pub MayBecome-zero : (kind : WordKind) → kind ≢ Apart → (word : ℕ) → MayBecome kind word 0 → word ≡ 0
MayBecome-zero Rising told word may = omega (arith, may)
MayBecome-zero Apart told word may = absurd (told refl)
MayBecome-zero Falling told word (inr (inr fell)) = absurd (omega (arith, fell.0))
MayBecome-zero Falling told word (inr (inl none)) = none
MayBecome-zero kind told word (inl none) = none
MayBecome-zero kind told word (inr none) = none

-- a word that may fall in cost says the same later, or a lower cost
falls_says : (word later : ℕ) (pair : ℕ × ℕ) → MayBecome Falling word later → tree_of_word word ≡ Some pair
    → (now : ℕ × ℕ) × (tree_of_word later ≡ Some now) × ((now ≡ pair) ⊎ (now.1 < pair.1))
falls_says word later pair (inl e) h = let gone = ap tree_of_word (sym e) ∙ h in cc
falls_says word later pair (inr (inl e)) h = (pair, ap tree_of_word (sym e) ∙ h, inl refl)
falls_says word later pair (inr (inr fell)) h = (
  (parent_in later, cost_in later),
  ap (λ b. cond b None (Some (parent_in later, cost_in later))) (le-ltb later (2 ^ 63) fell.0),
  inr (omega (arith, fell.1, cost_was (nat_lt word (2 ^ 63)) h)),
)
  where
    cost_was : (b : Bool) → cond b None (Some (parent_in word, cost_in word)) ≡ Some pair → cost_in word ≡ pair.1
    cost_was true e = cc
    cost_was false e = ap (λ o. (unwrap_or {T = ℕ × ℕ} o pair).1) e

-- ---- a record and its first word

-- the record of a mark that was not placed is in its own word
unplaced_same : (number word first later : ℕ) → is_placed (record_in number word first).outcome ≡ false
    → record_in number word first ≡ record_in number word later
unplaced_same zero word first later none = cc
unplaced_same (suc (suc zero)) word first later none = refl
unplaced_same number word first later none = refl

-- a record that is whole is that of its words,
whole_is : (word first : ℕ) (entry : Record) → whole_record word first ≡ Some entry → record_of_word word first ≡ Some entry
whole_is word first entry h = by_test (has_placed (record_of_word word first) && nat_lt first (2 ^ 63)) h
  where
    by_test : (b : Bool) → cond b None (record_of_word word first) ≡ Some entry → record_of_word word first ≡ Some entry
    by_test true e = cc
    by_test false e = e

-- and beside a first word that is not written it is of no placed mark
whole_unplaced : (word first : ℕ) (entry : Record) → first ≡ 0 → whole_record word first ≡ Some entry → is_placed entry.outcome ≡ false
whole_unplaced word first entry unseen h =
    elim (cases_Bool (is_placed entry.outcome)) [
      | inr none ↦ none
      | inl placed ↦ (
          let low : nat_lt first (2 ^ 63) ≡ true = lt-ltb first (2 ^ 63) (omega (arith, unseen)) in
          let test : (has_placed (record_of_word word first) && nat_lt first (2 ^ 63)) ≡ true =
          ap (λ o. has_placed o && nat_lt first (2 ^ 63)) (whole_is word first entry h) ∙ ap (λ b. b && nat_lt first (2 ^ 63)) placed ∙ low in
          let gone = sym (ap (λ b. cond b None (record_of_word word first)) test) ∙ h in
          cc)
    ]

-- the record of a mark that was not placed does not look at a first word
unplaced_says : (word first later : ℕ) (entry : Record) → is_placed entry.outcome ≡ false → record_of_word word first ≡ Some entry
    → record_of_word word later ≡ Some entry
unplaced_says word first later entry none h = by_test (nat_lt word (2 ^ 63)) h
  where
    by_test : (b : Bool) → cond b None (Some (record_in (outcome_in word) word first)) ≡ Some entry
        → cond b None (Some (record_in (outcome_in word) word later)) ≡ Some entry
    by_test true e = cc
    by_test false e =
        let same : record_in (outcome_in word) word first ≡ entry = ap (λ o. unwrap_or {T = Record} o entry) e in
        sym (ap Some (unplaced_same (outcome_in word) word first later (ap (λ r. is_placed r.outcome) same ∙ none))) ∙ e

-- So a record that is whole says the same beside a first word that was written since,
pub record_says : (word first later : ℕ) (entry : Record) → MayBecome Once first later → whole_record word first ≡ Some entry
    → record_of_word word later ≡ Some entry
record_says word first later entry (inr same) h = ap (record_of_word word) (sym same) ∙ whole_is word first entry h
record_says word first later entry (inl unseen) h =
    unplaced_says word first later entry (whole_unplaced word first entry unseen h) (whole_is word first entry h)

-- and is whole beside it.
whole_says : (word first later : ℕ) (entry : Record) → MayBecome Once first later → whole_record word first ≡ Some entry → whole_record word later ≡ Some entry
whole_says word first later entry (inr same) h = ap (whole_record word) (sym same) ∙ h
whole_says word first later entry (inl unseen) h =
    let none = whole_unplaced word first entry unseen h in
    let says = unplaced_says word first later entry none (whole_is word first entry h) in
    ap (λ b. cond b None (record_of_word word later)) (ap (λ o. has_placed o && nat_lt later (2 ^ 63)) says ∙ ap (λ b. b && nat_lt later (2 ^ 63)) none) ∙ says

-- ---- all words

-- where a node was seen, by the list of points
pub point_at-seen : (sizes : Sizes) (seen : Words) (n : ℕ) → n ≤ sizes.marks → point_at (seen_tree_of_words sizes seen).points n ≡ seen_point seen n
point_at-seen sizes seen n within = get_or-map-range_with_len (seen_point seen) 0 (sizes.marks + 1) n n None (omega (arith, within)) (omega arith)

-- no node was seen past the last mark
pub seen-within : (sizes : Sizes) (seen : Words) (n : ℕ) → IsPresent (seen_tree_of_words sizes seen).points n → n ≤ sizes.marks
seen-within sizes seen n h =
    elim (cases_lt sizes.marks n) [
      | inr within ↦ within
      | inl past ↦ (
          let none = get_or_past (seen_tree_of_words sizes seen).points n None
          (omega (arith, past, length-map-range_with_len (seen_point seen) 0 (sizes.marks + 1))) in
          let gone = sym h ∙ ap is_some none in
          cc)
    ]

module _ (sizes : Sizes) (seen words : Words) (behind : AreBehind seen words) where
  -- a child that was seen is there now
  pub child_says : (n m : ℕ) (side : Bool) → children_of_words seen n side ≡ Some m → children_of_words words n side ≡ Some m
  child_says n m side h = once_says child_of_word (seen (ChildOf n side)) (words (ChildOf n side)) m refl (behind (ChildOf n side)) h

  -- and a point
  pub point_says : (n : ℕ) (p : Point) → StandsAt (seen_tree_of_words sizes seen).points n p → seen_point words n ≡ Some p
  point_says n p h =
      once_says point_of_word (seen (PointOf n)) (words (PointOf n)) p refl (behind (PointOf n))
      (sym (point_at-seen sizes seen n (seen-within sizes seen n (ap is_some h))) ∙ h)

  -- and a parent and a cost, or a lower cost
  pub pair_says : (n : ℕ) → KeepsOrLowers (seen_tree_of_words sizes seen) (seen_tree_of_words sizes words) n
  pair_says n pair h = falls_says (seen (TreeOf n)) (words (TreeOf n)) pair (behind (TreeOf n)) h

  -- and what may be read of a whole record, whatever reads it
  pub record_stays : (f : ℕ → ℕ → Option Record)
      → ((word first later : ℕ) (entry : Record) → MayBecome Once first later → whole_record word first ≡ Some entry → f word later ≡ Some entry)
      → (k : ℕ) (entry : Record) → (seen_tree_of_words sizes seen).record_of k ≡ Some entry → f (words (RecordOf k)) (words (FirstOf (suc k))) ≡ Some entry
  record_stays f says k entry h = by_word (behind (RecordOf k)) (behind (FirstOf (suc k))) h
    where
      by_word : MayBecome Once (seen (RecordOf k)) (words (RecordOf k)) → MayBecome Once (seen (FirstOf (suc k))) (words (FirstOf (suc k)))
          → whole_record (seen (RecordOf k)) (seen (FirstOf (suc k))) ≡ Some entry → f (words (RecordOf k)) (words (FirstOf (suc k))) ≡ Some entry
      by_word (inl unseen) first g = (let gone = sym (ap (λ w. whole_record w (seen (FirstOf (suc k)))) unseen) ∙ g in cc)
      by_word (inr same) first g =
          ap (λ w. f w (words (FirstOf (suc k)))) (sym same) ∙ says (seen (RecordOf k)) (seen (FirstOf (suc k))) (words (FirstOf (suc k))) entry first g

  -- Words say no more than those that they may become.
  pub HasSeenAtLeast-words : HasSeenAtLeast (seen_tree_of_words sizes seen) (seen_tree_of_words sizes words)
  HasSeenAtLeast-words = record {
    places = record {
      children = child_says;
      nodes = λ n p h. point_at-seen sizes words n (seen-within sizes seen n (ap is_some h)) ∙ point_says n p h;
    };
    pairs = pair_says;
    records = record_stays whole_record whole_says;
    counters = λ strip. behind (Counter strip);
    count = behind Count;
  }

-- ---- links

module _ (sizes : Sizes) (words : Words) where
  -- no node stands past the last mark
  pub linked-within : (n : ℕ) → IsPresent (linked_points sizes words) n → n ≤ sizes.marks
  linked-within n h =
      elim (cases_lt sizes.marks n) [
        | inr within ↦ within
        | inl past ↦ (
            let none = get_or_past (linked_points sizes words) n None
            (omega (arith, past, length-map-range_with_len (linked_point sizes words) 0 (sizes.marks + 1))) in
            let gone = sym h ∙ ap is_some none in
            cc)
      ]

  pub point_at-linked : (n : ℕ) → n ≤ sizes.marks → point_at (linked_points sizes words) n ≡ linked_point sizes words n
  point_at-linked n within = get_or-map-range_with_len (linked_point sizes words) 0 (sizes.marks + 1) n n None (omega (arith, within)) (omega arith)

-- ---- true of the tree

module _ (sizes : Sizes) (seen words : Words) (behind : AreBehind seen words) (rooted : IsRooted (seen_tree_of_words sizes seen))
    (follow : FollowWays (children_of_words words) (linked_points sizes words)) where
  -- a node that has a child is one of the run's
  above-within : (a n : ℕ) (side : Bool) → children_of_words words a side ≡ Some n → a ≤ sizes.marks
  above-within a n side h =
      elim (cases_lt sizes.marks a) [
        | inr within ↦ within
        | inl past ↦ absurd (not_empty (children_of_words words) a n side (follow.empty a side (λ p. omega (arith, past, linked-within sizes words a p))) h)
      ]

  -- a node that was seen is linked now
  linked_now : (n : ℕ) → IsSeen (seen_tree_of_words sizes seen) n → is_linked sizes words n ≡ true
  linked_now n (inl start) = ap (is_linked sizes words) start ∙ is_linked-start sizes words
  linked_now n (inr (a, side, link)) =
      let here = child_says sizes seen words behind a n side link in
      is_linked-child sizes words a n side (above-within a n side here) here

  -- where a node was seen, it stands
  stands_now : (n : ℕ) (p : Point) → StandsAt (seen_tree_of_words sizes seen).points n p → StandsAt (linked_points sizes words) n p
  stands_now n p h =
      point_at-linked sizes words n (seen-within sizes seen n (ap is_some h))
      ∙ ap (λ b. if b then point_of_word (words (PointOf n)) else None) (linked_now n (rooted.points n (ap is_some h)))
      ∙ point_says sizes seen words behind n p h

  -- a node that was seen is present, whether or not its point was seen
  present_now : (n : ℕ) → IsSeen (seen_tree_of_words sizes seen) n → IsPresent (linked_points sizes words) n
  present_now n (inl start) =
      let p : Point = point_of (seen_tree_of_words sizes seen).points 0 in
      subst (IsPresent (linked_points sizes words)) (sym start) (IsPresent-stands (linked_points sizes words) 0 p
      (stands_now 0 p (StandsAt-present (seen_tree_of_words sizes seen).points 0 rooted.start)))
  present_now n (inr (a, side, link)) = follow.present a n side (child_says sizes seen words behind a n side link)

  pair_now : (n : ℕ) → KeepsOrLowers (seen_tree_of_words sizes seen) (seen_whole (shared_tree_of_words sizes words)) n
  pair_now n pair h =
      let now = pair_says sizes seen words behind n pair h in
      let whole = whole_pair (shared_tree_of_words sizes words) n (present_now n (rooted.pairs n (ap is_some h))) in
      (now.0, whole ∙ ap Some (fields (words (TreeOf n)) now.0 now.1), now.2)
    where
      fields : (word : ℕ) (pair : ℕ × ℕ) → tree_of_word word ≡ Some pair → (parent_in word, cost_in word) ≡ pair
      fields word pair e = by_test (nat_lt word (2 ^ 63)) e
        where
          by_test : (b : Bool) → cond b None (Some (parent_in word, cost_in word)) ≡ Some pair → (parent_in word, cost_in word) ≡ pair
          by_test true e = cc
          by_test false e = cc

  -- What was seen is true of the tree in the words now.
  pub IsTrueOf-words : IsTrueOf (seen_tree_of_words sizes seen) (shared_tree_of_words sizes words)
  IsTrueOf-words = record {
    places = record { children = child_says sizes seen words behind; nodes = stands_now };
    pairs = pair_now;
    records = record_stays sizes seen words behind record_of_word record_says;
    counters = λ strip. behind (Counter strip);
    count = behind Count;
  }

-- ---- what the own word of a record tells

-- What is told of any record without its first word is told by its own word,
module _ {A : Type 0} (tell : Option Record → A)
    (same : (word first other : ℕ) → tell (Some (record_in 0 word first)) ≡ tell (Some (record_in 0 word other))) where
  pub told-own : (word first other : ℕ) → tell (record_of_word word first) ≡ tell (record_of_word word other)
  told-own word first other = by_test (nat_lt word (2 ^ 63)) (outcome_in word)
    where
      by_test : (b : Bool) (number : ℕ) → tell (cond b None (Some (record_in number word first))) ≡ tell (cond b None (Some (record_in number word other)))
      by_test true number = refl
      by_test false zero = same word first other
      by_test false (suc (suc zero)) = refl
      by_test false number = refl

  -- and stays while that does.
  pub told-kept : (before after : Words) (k : ℕ) → after (RecordOf k) ≡ before (RecordOf k) → tell (record_at after k) ≡ tell (record_at before k)
  told-kept before after k kept =
      ap (λ word. tell (record_of_word word (after (FirstOf (suc k))))) kept
      ∙ told-own (before (RecordOf k)) (after (FirstOf (suc k))) (before (FirstOf (suc k)))

-- So it is with whether a mark was placed,
pub has_node-same : (before after : Words) (k : ℕ) → after (RecordOf k) ≡ before (RecordOf k) → has_node after (suc k) ≡ has_node before (suc k)
has_node-same = told-kept has_placed (λ word first other. refl)

pub has_node-kept : (before after : Words) → ((k : ℕ) → after (RecordOf k) ≡ before (RecordOf k)) → (n : ℕ) → has_node after n ≡ has_node before n
has_node-kept before after records zero = refl
has_node-kept before after records (suc k) = has_node-same before after k (records k)

-- and a packed record says what it is of.
pub has_placed-record_word : (entry : Record) (first : ℕ) → FitsWord entry → has_placed (record_of_word (record_word entry) first) ≡ is_placed entry.outcome
has_placed-record_word entry first fits =
    let word = record_word entry in
    let written : 2 ^ 63 ≤ word = omega arith in
    ap has_placed (if_written-set word (record_in (outcome_in word) word first) written)
    ∙ ap (λ number. is_placed (record_in number word first).outcome) (outcome_in-record_word entry fits) ∙ by_outcome entry.outcome
  where
    by_outcome : (outcome : Outcome) → is_placed (record_in (number_of_outcome outcome) (record_word entry) first).outcome ≡ is_placed outcome
    by_outcome Placed = refl
    by_outcome (Same j) = refl
    by_outcome Blocked = refl
    by_outcome Skipped = refl
