-- Words of a run that are written one after another: nodes, records, and the counters of strips.
use Rattle.grown_runs.proofs.Words.{◌≡◌, ℕ, zero, suc, ◌+◌, ◌<◌, ◌≤◌, ◌%◌, List, Option, Some, None, cond, arith, refl, sym, ap, ◌∙◌, subst, inl, inr, ◌≢◌}
use Rattle.grown_runs.proofs.Words.{◌==◌, slice_get, range_with_len, cases_eq, ne_eqb, length-range_with_len, count_by-le-length, same_Some, Placed, Record}
use Rattle.grown_runs.proofs.Words.{Knot, quota_of, count-more, Word, Words, WritesWord, IsCounter, IsKnotWord, Counter, PointOf, TreeOf, FirstOf, RecordOf}
use Rattle.grown_runs.proofs.Words.{Sizes, point_word, tree_word, record_word, IsKnot, HoldsNode, HoldsRecord, HasKnot, IsWholeRecord, IsWordOfRecords}
use Rattle.grown_runs.proofs.Words.{ChangesNode, ChangesRecord, WritesNodes, WritesRecords, CountsMarks}
use Rattle.std.proofs.lemmas.Bool.{eq-eqb}

-- ---- one node or one record

module _ (n : ℕ) (knot : Knot) (before mid after : Words) (point : WritesWord (PointOf n) (point_word knot.point) before mid)
    (tree : WritesWord (TreeOf n) (tree_word knot.parent knot.cost) mid after) where
  -- a node is written by its point and its tree word
  pub HoldsNode-written : HoldsNode after n knot
  HoldsNode-written = record { point = tree.others (PointOf n) (λ e. cc) ∙ point.here; tree = tree.here }

  pub ChangesNode-written : ChangesNode n before after
  ChangesNode-written name other =
      tree.others name (λ e. other (subst (IsKnotWord (λ node. node ≡ n)) (sym e) refl))
      ∙ point.others name (λ e. other (subst (IsKnotWord (λ node. node ≡ n)) (sym e) refl))

module _ (k : ℕ) (entry : Record) (before mid : Words) (own : WritesWord (RecordOf k) (record_word entry) before mid) where
  -- a record is written by its word, and if it is of a placed mark by the first word of its node
  pub HoldsRecord-unplaced : (entry.outcome ≡ Placed → ⊥) → HoldsRecord mid k entry
  HoldsRecord-unplaced other = record { own = own.here; first = λ placed. absurd (other placed) }

  pub ChangesRecord-unplaced : ChangesRecord k entry before mid
  ChangesRecord-unplaced name other = own.others name (λ e. other (subst (IsWholeRecord k entry) (sym e) refl))

  module _ (after : Words) (placed : entry.outcome ≡ Placed)
      (first : WritesWord (FirstOf (suc k)) (tree_word entry.first_parent entry.first_cost) mid after) where
    pub HoldsRecord-placed : HoldsRecord after k entry
    HoldsRecord-placed = record { own = first.others (RecordOf k) (λ e. cc) ∙ own.here; first = λ is. first.here }

    pub ChangesRecord-placed : ChangesRecord k entry before after
    ChangesRecord-placed name other =
        first.others name (λ e. other (subst (IsWholeRecord k entry) (sym e) (refl, placed))) ∙ ChangesRecord-unplaced name other

-- ---- nodes

module _ (knots : List (Option Knot)) (m : ℕ) (before mid : Words) (so_far : WritesNodes knots m before mid) where
  -- an absent node needs no word
  pub WritesNodes-absent : slice_get knots m ≡ Some None → WritesNodes knots (m + 1) before mid
  WritesNodes-absent none = record {
    hold = λ n knot below own.
        elim (cases_eq n m) [
          | inl e ↦ (let gone = sym own ∙ ap (slice_get knots) e ∙ none in cc)
          | inr apart ↦ so_far.hold n knot (omega (arith, below, apart)) own
        ];
    others = so_far.others;
  }

  module _ (after : Words) (knot : Knot) (own : IsKnot knots m knot) (here : HoldsNode after m knot) (change : ChangesNode m mid after) where
    kept_node : (n : ℕ) (other : Knot) → n ≢ m → HoldsNode mid n other → HoldsNode after n other
    kept_node n other apart held = record {
      point = change (PointOf n) apart ∙ held.point;
      tree = change (TreeOf n) apart ∙ held.tree;
    }

    same_knot : (n : ℕ) (other : Knot) → n ≡ m → IsKnot knots n other → knot ≡ other
    same_knot n other e is =
        let found : Some (Some knot) ≡ Some (Some other) = sym own ∙ ap (slice_get knots) (sym e) ∙ is in cc

    -- its words are words of the list
    of_list : (name : Word) → IsKnotWord (λ node. node ≡ m) name → IsKnotWord (HasKnot knots) name
    of_list (PointOf n) e = subst (HasKnot knots) (sym e) (knot, own)
    of_list (TreeOf n) e = subst (HasKnot knots) (sym e) (knot, own)
    of_list _ h = absurd h

    -- a present one is written
    pub WritesNodes-more : WritesNodes knots (m + 1) before after
    WritesNodes-more = record {
      hold = λ n other below is.
          elim (cases_eq n m) [
            | inl e ↦ (
                subst (λ i. HoldsNode after i other) (sym e) (subst (HoldsNode after m) (same_knot n other e is) here))
            | inr apart ↦ kept_node n other apart (so_far.hold n other (omega (arith, below, apart)) is)
          ];
      others = λ name other. change name (λ is. other (of_list name is)) ∙ so_far.others name other;
    }

-- ---- records

module _
    (records : List Record) (m : ℕ) (before mid after : Words) (so_far : WritesRecords records m before mid) (entry : Record)
    (own : slice_get records m ≡ Some entry) (here : HoldsRecord after m entry) (change : ChangesRecord m entry mid after) where
  kept_record : (k : ℕ) (other : Record) → k < m → HoldsRecord mid k other → HoldsRecord after k other
  kept_record k other less held = record {
    own = change (RecordOf k) (λ e. omega (arith, e, less)) ∙ held.own;
    first = λ placed. change (FirstOf (suc k)) (λ is. omega (arith, is.0, less)) ∙ held.first placed;
  }

  same_record : (k : ℕ) (other : Record) → k ≡ m → slice_get records k ≡ Some other → entry ≡ other
  same_record k other e is = same_Some entry other (sym own ∙ ap (slice_get records) (sym e) ∙ is)

  -- its words are words of the records up to this one
  own_word : (name : Word) → IsWholeRecord m entry name → IsWordOfRecords records (m + 1) name
  own_word (RecordOf k) e = omega (arith, e)
  own_word (FirstOf zero) is = omega (arith, is.0)
  own_word (FirstOf (suc k)) is =
      let same : k ≡ m = omega (arith, is.0) in
      (omega (arith, same), entry, ap (slice_get records) same ∙ own, is.1)
  own_word _ h = absurd h

  -- and so are those of the earlier ones
  earlier_word : (name : Word) → IsWordOfRecords records m name → IsWordOfRecords records (m + 1) name
  earlier_word (RecordOf k) less = omega (arith, less)
  earlier_word (FirstOf zero) h = absurd h
  earlier_word (FirstOf (suc k)) is = (omega (arith, is.0), is.1, is.2, is.3)
  earlier_word _ h = absurd h

  pub WritesRecords-more : WritesRecords records (m + 1) before after
  WritesRecords-more = record {
    hold = λ k other below is.
        elim (cases_eq k m) [
          | inl e ↦ subst (λ i. HoldsRecord after i other) (sym e) (subst (HoldsRecord after m) (same_record k other e is) here)
          | inr apart ↦ kept_record k other (omega (arith, below, apart)) (so_far.hold k other (omega (arith, below, apart)) is)
        ];
    others = λ name other. change name (λ is. other (own_word name is)) ∙ so_far.others name (λ is. other (earlier_word name is));
  }

-- ---- counters

pub quota_of-le : (strips g n : ℕ) → quota_of strips g n ≤ n
quota_of-le strips g n = omega (arith, count_by-le-length (λ k. k % strips == g) (range_with_len 0 n), length-range_with_len 0 n)

module _
    (sizes : Sizes) (m : ℕ) (before mid after : Words) (so_far : CountsMarks sizes m before mid) (strip : m % sizes.strips < sizes.strips)
    (more : WritesWord (Counter (m % sizes.strips)) (mid (Counter (m % sizes.strips)) + 1) mid after) where
  own_more : quota_of sizes.strips (m % sizes.strips) (m + 1) ≡ quota_of sizes.strips (m % sizes.strips) m + 1
  own_more =
      let test = eq-eqb (m % sizes.strips) (m % sizes.strips) refl in
      let passes = ap (λ b. cond {A = ℕ} b 1 0) test in
      let next : suc m ≡ m + 1 = omega arith in
      let step = count-more (λ k. k % sizes.strips == m % sizes.strips) m in
      let same = ap (λ n. quota_of sizes.strips (m % sizes.strips) n) next in
      omega (arith, passes, step, same)

  other_more : (g : ℕ) → g ≢ m % sizes.strips → quota_of sizes.strips g (m + 1) ≡ quota_of sizes.strips g m
  other_more g apart =
      let test = ne_eqb (m % sizes.strips) g (λ e. apart (sym e)) in
      let fails = ap (λ b. cond {A = ℕ} b 1 0) test in
      let next : suc m ≡ m + 1 = omega arith in
      let step = count-more (λ k. k % sizes.strips == g) m in
      let same = ap (λ n. quota_of sizes.strips g n) next in
      omega (arith, fails, step, same)

  -- mark m is counted in its strip
  pub CountsMarks-more : CountsMarks sizes (m + 1) before after
  CountsMarks-more = record {
    counted = λ g below.
        elim (cases_eq g (m % sizes.strips)) [
          | inl e ↦ (
              subst (λ h. after (Counter h) ≡ before (Counter h) + quota_of sizes.strips h (m + 1)) (sym e)
              (omega (arith, more.here, so_far.counted (m % sizes.strips) strip, own_more)))
          | inr apart ↦ (
              let now = more.others (Counter g) (λ e. apart (cc)) in
              omega (arith, now, so_far.counted g below, other_more g apart))
        ];
    others = λ name other. more.others name (λ e. other (subst IsCounter (sym e) tt)) ∙ so_far.others name other;
  }
