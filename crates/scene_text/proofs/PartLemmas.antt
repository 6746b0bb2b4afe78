-- How far the first part of a text is read.
use Rattle.scene_text.proofs.Words.{◌≡◌, ℕ, ◌+◌, ◌<◌, ◌≤◌, false, List, [], ◌∷◌, ◌++◌, length, drop, refl, sym, ap, subst, ◌∙◌, arith, bytes_eq, length-drop}
use Rattle.scene_text.proofs.Words.{Part, part_text, parts_of, separator, text_of, fault_of_words, supported, lines_of, words_of, first_part, first_part-line}
use Rattle.scene_text.proofs.Words.{later_parts, later_parts-line, lines_of-first, IsPartRefusal, TakesLine, given_by_draft, IsLineRefusal, IsSceneRefusal}
use Rattle.scene_text.proofs.Words.{refusal_at, Draft, LineRefusal}
use Rattle.std.proofs.lemmas.List.{length-append}
use Rattle.scene_text.specs.declared.refusals.LineRefusal.TheVariants as line_refusal
use Rattle.scene_text.proofs.ReaderLemmas.{Reads, Reads-more, Reads-refused}

-- the first part of a text, as a text
abbrev pub head_text : List ℕ → List ℕ
head_text text = part_text (parts_of (lines_of text)) 0

-- So many lines of the first part are read, and the draft stands for them; the rest begins with the others.
pub record ReadsPart (text : List ℕ) (lines : ℕ) (rest : List ℕ) (draft : Draft) : Type 0 where
  pub reads : Reads (head_text text) lines (head_text rest) draft
  pub short : lines + length rest ≤ length text
  pub later : later_parts (lines_of text) ≡ later_parts (lines_of rest)

pub ReadsPart-none : (text : List ℕ) (draft : Draft) → Reads (head_text text) 0 (head_text text) draft → ReadsPart text 0 text draft
ReadsPart-none text draft reads = record { reads = reads; short = omega arith; later = refl }

-- a line of the part
module _ (rest line after : List ℕ) (split : lines_of rest ≡ line ∷ lines_of after) (own : bytes_eq line separator ≡ false) where
  first_is : first_part (lines_of rest) ≡ line ∷ first_part (lines_of after)
  first_is = ap first_part split ∙ first_part-line line (lines_of after) own

  head_split : lines_of (head_text rest) ≡ line ∷ lines_of (head_text after)
  head_split = lines_of-first rest ∙ (first_is ∙ ap (λ (lines : Part). line ∷ lines) (sym (lines_of-first after)))

  head_shorter : length (head_text after) < length (head_text rest)
  head_shorter =
      let long : length (head_text rest) ≡ length (line ++ 10 ∷ head_text after) = ap (λ (part : Part). length (text_of part)) first_is in
      omega (arith, long, length-append line (10 ∷ head_text after))

  later_is : later_parts (lines_of rest) ≡ later_parts (lines_of after)
  later_is = ap later_parts split ∙ later_parts-line line (lines_of after) own

  pub ReadsPart-more : (text : List ℕ) (lines : ℕ) (old new : Draft) → ReadsPart text lines rest old → length after < length rest
      → TakesLine old new (words_of line) → ReadsPart text (lines + 1) after new
  ReadsPart-more text lines old new h shorter takes = record {
    reads = Reads-more (head_text text) lines (head_text rest) old new line (head_text after) h.reads head_split head_shorter takes;
    short = (let short = h.short in omega arith);
    later = h.later ∙ later_is;
  }

  pub ReadsPart-refused : (text : List ℕ) (lines : ℕ) (draft : Draft) (refusal : LineRefusal) → ReadsPart text lines rest draft
      → IsLineRefusal (fault_of_words supported draft.version (given_by_draft draft) (words_of line)) refusal
      → IsSceneRefusal (head_text text) (refusal_at (lines + 1) refusal)
  ReadsPart-refused text lines draft refusal h fault =
      Reads-refused (head_text text) lines (head_text rest) draft line (head_text after) refusal h.reads head_split fault

-- the line of a part's refusal, counted in the whole text
pub IsPartRefusal-at : (before line : ℕ) (part : List ℕ) (refusal : LineRefusal) → IsSceneRefusal part (refusal_at line refusal)
    → IsPartRefusal before part (refusal_at (before + line) refusal)
IsPartRefusal-at before line part (line_refusal.Fault kind) h = (line, refl, h)
IsPartRefusal-at before line part line_refusal.Memory h = tt

-- no line of the part is left
module _ (text : List ℕ) (lines : ℕ) (rest : List ℕ) (draft : Draft) (h : ReadsPart text lines rest draft) (none : first_part (lines_of rest) ≡ []) where
  pub reads_all : Reads (head_text text) lines [] draft
  reads_all = subst (λ (left : List ℕ). Reads (head_text text) lines left draft) (ap text_of none) h.reads

  pub all_lines : lines ≡ length (first_part (lines_of text))
  all_lines =
      let all = reads_all in
      let below = all.below in
      let over : length (drop lines (lines_of (head_text text))) ≡ 0 = ap length all.left in
      let long : length (lines_of (head_text text)) ≡ length (first_part (lines_of text)) = ap length (lines_of-first text) in
      omega (arith, length-drop lines (lines_of (head_text text)))
