-- Words of numbers without a node are cleared, one number after another: at last they are the words as they are cleared at once.
use Rattle.grown_runs.proofs.Words.{◌≡◌, ℕ, ◌<◌, Bool, true, false, List, arith, refl, sym, ◌∙◌, subst, inl, inr, if◌then◌else◌, cases_lt, Word, Words}
use Rattle.grown_runs.proofs.Words.{WritesWord, Count, Best, Counter, PointOf, ChildOf, TreeOf, FirstOf, RecordOf, Sizes, HasWord, has_node, IsBlank, cleared}
use Rattle.grown_runs.proofs.Words.{IsNodeWord, ClearsNode, ClearsNodes}
use Rattle.grown_runs.specs.Table.WordPlaces.{word_at}
use Rattle.grown_runs.proofs.Table.WordReads.{word_at-none}

module _ (n : ℕ) (before one two after : Words) (point : WritesWord (PointOf n) 0 before one) (tree : WritesWord (TreeOf n) 0 one two)
    (first : WritesWord (FirstOf n) 0 two after) where
  -- the three words of a number are cleared
  pub ClearsNode-written : ClearsNode n before after
  ClearsNode-written = record {
    blank = record {
      point = first.others (PointOf n) (λ e. cc) ∙ tree.others (PointOf n) (λ e. cc) ∙ point.here;
      tree = first.others (TreeOf n) (λ e. cc) ∙ tree.here;
      first = first.here;
    };
    others = λ name other.
        first.others name (λ e. other (subst (IsNodeWord (λ node. node ≡ n)) (sym e) refl))
        ∙ tree.others name (λ e. other (subst (IsNodeWord (λ node. node ≡ n)) (sym e) refl))
        ∙ point.others name (λ e. other (subst (IsNodeWord (λ node. node ≡ n)) (sym e) refl));
  }

-- a word that is kept if there is a node
kept_if : (here : Bool) (word now : ℕ) → (here ≡ true → now ≡ word) → (here ≡ false → now ≡ 0) → now ≡ (if here then word else 0)
kept_if true word now kept blank = kept refl
kept_if false word now kept blank = blank refl

-- At last the words are the cleared ones.
pub cleared-all :
    (sizes : Sizes) (items last : List ℕ) (m : ℕ) → sizes.marks < m → ClearsNodes m (word_at sizes items) (word_at sizes last)
    → word_at sizes last ≡ cleared (word_at sizes items)
cleared-all sizes items last m all clears = λ t name. each name t
  where
    -- a number past the marks has no words
    past : (name : Word) → ¬ HasWord sizes name → word_at sizes last name ≡ 0
    past name none = word_at-none sizes last name none

    blank_at : (n : ℕ) → has_node (word_at sizes items) n ≡ false → IsBlank (word_at sizes last) n
    blank_at n none =
        elim (cases_lt n m) [
          | inl less ↦ clears.blank n less none
          | inr beyond ↦ record {
            point = past (PointOf n) (λ within. omega (arith, within, beyond, all));
            tree = past (TreeOf n) (λ within. omega (arith, within, beyond, all));
            first = past (FirstOf n) (λ within. omega (arith, within, beyond, all));
          }
        ]

    -- one that has a node keeps them
    kept_at : (name : Word) (n : ℕ) → has_node (word_at sizes items) n ≡ true → ((n < m) × (has_node (word_at sizes items) n ≡ false) → ⊥)
    kept_at name n here is = let gone = sym here ∙ is.1 in cc

    each : (name : Word) → word_at sizes last name ≡ cleared (word_at sizes items) name
    each (PointOf n) =
        kept_if (has_node (word_at sizes items) n) (word_at sizes items (PointOf n)) (word_at sizes last (PointOf n))
        (λ here. clears.others (PointOf n) (kept_at (PointOf n) n here)) (λ none. (blank_at n none).point)
    each (TreeOf n) =
        kept_if (has_node (word_at sizes items) n) (word_at sizes items (TreeOf n)) (word_at sizes last (TreeOf n))
        (λ here. clears.others (TreeOf n) (kept_at (TreeOf n) n here)) (λ none. (blank_at n none).tree)
    each (FirstOf n) =
        kept_if (has_node (word_at sizes items) n) (word_at sizes items (FirstOf n)) (word_at sizes last (FirstOf n))
        (λ here. clears.others (FirstOf n) (kept_at (FirstOf n) n here)) (λ none. (blank_at n none).first)
    each name = clears.others name (λ h. h)

-- The words of a closed run are cleared already.
pub cleared-blank : (words : Words) → ((n : ℕ) → has_node words n ≡ false → IsBlank words n) → cleared words ≡ words
cleared-blank words blank = λ t name. sym (each name) t
  where
    each : (name : Word) → words name ≡ cleared words name
    each Count = refl
    each Best = refl
    each (Counter g) = refl
    each (ChildOf n side) = refl
    each (RecordOf k) = refl
    each (PointOf n) = kept_if (has_node words n) (words (PointOf n)) (words (PointOf n)) (λ here. refl) (λ none. (blank n none).point)
    each (TreeOf n) = kept_if (has_node words n) (words (TreeOf n)) (words (TreeOf n)) (λ here. refl) (λ none. (blank n none).tree)
    each (FirstOf n) = kept_if (has_node words n) (words (FirstOf n)) (words (FirstOf n)) (λ here. refl) (λ none. (blank n none).first)
