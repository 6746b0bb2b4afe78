-- How far a batch is read, from part to part.
use Rattle.scene_text.proofs.Words.{◌≡◌, ◌≢◌, ℕ, ◌+◌, ◌<◌, ◌≤◌, List, [], ◌∷◌, ◌++◌, length, drop, get_or, refl, sym, ap, subst, ◌∙◌, inl, inr, arith, cases_lt}
use Rattle.scene_text.proofs.Words.{drop_more, get_or_append_left, length-drop, get_or-append_seam, MOST_SCENES, Scene, Part, AreSpelledBelow, RefusesBatch}
use Rattle.scene_text.proofs.Words.{SpellsBatch, lines_before, part_text, parts_of, text_of, Refused, Spells, supported, lines_of, first_part, later_parts}
use Rattle.scene_text.proofs.Words.{lines_before-next, parts_of-first, some_part, IsBatchRefusal, IsPartRefusal, SceneRefusal}
use Rattle.std.proofs.lemmas.List.{length-append}
use Rattle.plan_model.specs.declared.text_terms.Kind.TheVariants as kinds
use Rattle.scene_text.specs.declared.refusals.SceneRefusal.TheVariants as scene_refusal
use Rattle.scene_text.proofs.PartLemmas.{head_text}

-- each scene is spelled by the part with its number
abbrev pub AreSpelled : List Part → List Scene → Type 0
AreSpelled parts scenes = (k : ℕ) (d : Scene) → k < length scenes → Spells supported (part_text parts k) (get_or scenes k d)

spelled_below : (parts : List Part) (scenes : List Scene) → AreSpelled parts scenes → AreSpelledBelow supported parts (length scenes)
spelled_below parts [] h = λ k l. absurd (omega arith)
spelled_below parts (scene ∷ scenes) h = λ k l. (get_or (scene ∷ scenes) k scene, h k scene l)

-- so many parts are read before the rest
pub record ReadsParts (text : List ℕ) (scenes : List Scene) (before : ℕ) (rest : List ℕ) : Type 0 where
  pub left : drop (length scenes) (parts_of (lines_of text)) ≡ parts_of (lines_of rest)
  pub few : length scenes < MOST_SCENES
  pub lines : before ≡ lines_before (parts_of (lines_of text)) (length scenes)
  pub short : before + length rest ≤ length text
  pub each : AreSpelled (parts_of (lines_of text)) scenes

-- So many parts are read. What is left begins with the end of the last one of them, or with the line `next` after it, which has this number.
pub record HasRead (text : List ℕ) (scenes : List Scene) (next : ℕ) (rest : List ℕ) : Type 0 where
  pub left : drop (length scenes) (parts_of (lines_of text)) ≡ later_parts (lines_of rest)
  pub within : length scenes ≤ length (parts_of (lines_of text))
  pub few : length scenes ≤ MOST_SCENES
  pub lines : next ≡ lines_before (parts_of (lines_of text)) (length scenes)
  pub short : next + length rest ≤ length text + 1
  pub each : AreSpelled (parts_of (lines_of text)) scenes

longer : (parts : List Part) (k : ℕ) → 0 < length (drop k parts) → k < length parts
longer parts k some = omega (arith, some, length-drop k parts)

head_of_drop : (parts : List Part) (k : ℕ) (first : Part) (rest : List Part) → drop k parts ≡ first ∷ rest
    → (k < length parts) × (get_or parts k [] ≡ first) × (drop (k + 1) parts ≡ rest)
head_of_drop parts k first rest e =
    let long : length (drop k parts) ≡ length rest + 1 = ap length e ∙ omega arith in
    let within : k < length parts = longer parts k (omega (arith, long)) in
    let opened : drop k parts ≡ get_or parts k [] ∷ drop (k + 1) parts = drop_more parts k [] within in
    (within, cc, cc)

module _ (text : List ℕ) (scenes : List Scene) (before : ℕ) (rest : List ℕ) (h : ReadsParts text scenes before rest) where
  here : (length scenes < length (parts_of (lines_of text))) × (get_or (parts_of (lines_of text)) (length scenes) [] ≡ first_part (lines_of rest))
      × (drop (length scenes + 1) (parts_of (lines_of text)) ≡ later_parts (lines_of rest))
  here = head_of_drop (parts_of (lines_of text)) (length scenes) (first_part (lines_of rest)) (later_parts (lines_of rest))
      (h.left ∙ parts_of-first (lines_of rest))

  -- the next part is refused
  pub ReadsParts-refused : (refusal : SceneRefusal) → IsPartRefusal before (head_text rest) refusal → IsBatchRefusal text refusal
  ReadsParts-refused scene_refusal.Memory fault = tt
  ReadsParts-refused (scene_refusal.Fault found) fault =
      let is : text_of (first_part (lines_of rest)) ≡ part_text (parts_of (lines_of text)) (length scenes) = ap text_of (sym here.1) in (
        length scenes,
        here.0,
        spelled_below (parts_of (lines_of text)) scenes h.each,
        inl (
          h.few,
          (
            fault.0,
            fault.1 ∙ ap (λ (n : ℕ). n + fault.0) h.lines,
            subst (λ (part : List ℕ). Refused supported part fault.0 found.kind) is fault.2,
          ),
        ),
      )

  -- One more part is read, and its scene is kept. The rest after it is at its end, or begins with `next`.
  HasRead-more : (scene : Scene) (count : ℕ) (left : List ℕ) → Spells supported (head_text rest) scene
      → count ≡ length (first_part (lines_of rest)) → parts_of (lines_of rest) ≡ first_part (lines_of rest) ∷ later_parts (lines_of left)
      → count + length left ≤ length rest → HasRead text (scenes ++ scene ∷ []) (before + (count + 1)) left
  HasRead-more scene count left spelled counted split shorter =
      let longer : length (scenes ++ scene ∷ []) ≡ length scenes + 1 = omega (arith, length-append scenes (scene ∷ [])) in
      let long : length (get_or (parts_of (lines_of text)) (length scenes) []) ≡ length (first_part (lines_of rest)) =
      ap (λ (part : Part). length part) here.1 in
      let later : later_parts (lines_of rest) ≡ later_parts (lines_of left) = ap (drop 1) split in
      record {
        left = ap (λ (k : ℕ). drop k (parts_of (lines_of text))) longer ∙ (here.2 ∙ later);
        within = omega (arith, here.0, longer);
        few = (let few = h.few in omega arith);
        lines = (let lines = h.lines in omega (arith, lines_before-next (parts_of (lines_of text)) (length scenes) here.0))
            ∙ sym (ap (lines_before (parts_of (lines_of text))) longer);
        short = (let short = h.short in omega arith);
        each = λ k d l.
            elim (cases_lt k (length scenes)) [
              | inl less ↦ subst (Spells supported (part_text (parts_of (lines_of text)) k)) (sym (get_or_append_left scenes (scene ∷ []) d k less))
                  (h.each k d less)
              | inr more ↦
                  let e : length scenes ≡ k = omega (arith, l, longer, more) in
                  let last : get_or (scenes ++ scene ∷ []) k d ≡ scene =
                  subst (λ (m : ℕ). get_or (scenes ++ scene ∷ []) m d ≡ scene) e (get_or-append_seam scenes scene [] d) in
                  let part : head_text rest ≡ part_text (parts_of (lines_of text)) k =
                  ap text_of (sym here.1) ∙ ap (part_text (parts_of (lines_of text))) e in
                  subst (Spells supported (part_text (parts_of (lines_of text)) k)) (sym last)
                  (subst (λ (own : List ℕ). Spells supported own scene) part spelled)
            ];
      }

-- the same, once its scene is pushed
pub HasRead-pushed : {text : List ℕ} {scenes : List Scene} {before : ℕ} {rest : List ℕ} {scene : Scene} {count : ℕ} (left : List ℕ) (items : List Scene)
    → ReadsParts text scenes before rest → items ≡ scenes ++ scene ∷ [] → Spells supported (head_text rest) scene
    → count ≡ length (first_part (lines_of rest)) → parts_of (lines_of rest) ≡ first_part (lines_of rest) ∷ later_parts (lines_of left)
    → count + length left ≤ length rest → HasRead text items (before + (count + 1)) left
HasRead-pushed {text} {scenes} {before} {rest} {scene} {count} left items h pushed spelled counted split shorter =
    subst (λ (all : List Scene). HasRead text all (before + (count + 1)) left) (sym pushed)
    (HasRead-more text scenes before rest h scene count left spelled counted split shorter)

-- ---- after a part

module _ (text : List ℕ) (scenes : List Scene) (next : ℕ) (left : List ℕ) (h : HasRead text scenes next left) where
  -- it was the last one
  pub SpellsBatch-read : parts_of (lines_of left) ≡ [] ∷ [] → SpellsBatch supported text scenes
  SpellsBatch-read end =
      let none : length (drop (length scenes) (parts_of (lines_of text))) ≡ 0 = ap length (h.left ∙ ap (drop 1) end) in
      record {
        count = (let within = h.within in omega (arith, none, length-drop (length scenes) (parts_of (lines_of text))));
        few = h.few;
        each = h.each;
      }

  module _ (after : List ℕ) (split : parts_of (lines_of left) ≡ [] ∷ parts_of (lines_of after)) where
    left_is : drop (length scenes) (parts_of (lines_of text)) ≡ parts_of (lines_of after)
    left_is = h.left ∙ ap (drop 1) split

    -- another one follows
    pub ReadsParts-more : length scenes ≢ MOST_SCENES → length after < length left → ReadsParts text scenes next after
    ReadsParts-more other shorter = record {
      left = left_is;
      few = (let few = h.few in omega (arith, other));
      lines = h.lines;
      short = (let short = h.short in omega (arith, shorter));
      each = h.each;
    }

    -- it was the last that there may be, and another one follows
    pub IsBatchRefusal-many : length scenes ≡ MOST_SCENES → RefusesBatch supported text next kinds.Many
    IsBatchRefusal-many most =
        let long : length (drop (length scenes) (parts_of (lines_of text))) ≡ length (parts_of (lines_of after)) = ap length left_is in
        let within : length scenes < length (parts_of (lines_of text)) =
        longer (parts_of (lines_of text)) (length scenes) (omega (arith, long, some_part (lines_of after))) in
        (length scenes, within, spelled_below (parts_of (lines_of text)) scenes h.each, inr (most, h.lines, refl))
