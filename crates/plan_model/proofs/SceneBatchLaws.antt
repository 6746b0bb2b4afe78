-- A text spells the scenes of one batch, or is refused as a batch at one line and for one kind.
use Rattle.plan_model.proofs.Words.{◌≡◌, ℕ, zero, suc, ◌+◌, ◌<◌, ◌≤◌, ◌⊎◌, inl, inr, List, [], ◌∷◌, ◌++◌, length, get_or, refl, sym, ap, subst, ◌∙◌, arith}
use Rattle.plan_model.proofs.Words.{add-one, cases_order, cases_lt, ext_get_or, get_or_append_left, get_or-append_seam, MOST_SCENES, Scene, Kind, lines_of}
use Rattle.plan_model.proofs.Words.{Format, Spells, Part, parts_of, part_text, lines_before, SpellsBatch, AreSpelledBelow, FailsAtPart, RefusesBatch, Refused}
use Rattle.std.proofs.lemmas.List.{length-append}
use Rattle.plan_model.specs.declared.text_terms.Kind.TheVariants as kinds
use Rattle.plan_model.proofs.Soundness.{Refused-one_line, Refused-one_kind, Spells-not_refused}
use Rattle.plan_model.proofs.SameScenes.{Spells-one_scene}
use Rattle.plan_model.proofs.GivenScenes.{decided, below_or_first}

-- ---- one refusal

-- no batch is refused before a part that spells a scene
not_before : (format : Format) (parts : List Part) (k j number : ℕ) (kind : Kind) → FailsAtPart format parts k number kind
    → AreSpelledBelow format parts j → k < j → j ≤ MOST_SCENES → ⊥
not_before format parts k j number kind (inl here) sound l most =
    let part = here.1 in
    let spelled = sound k l in
    Spells-not_refused format (part_text parts k) spelled.0 part.0 kind spelled.1 part.2
not_before format parts k j number kind (inr many) sound l most = omega (arith, many.0)

at_most : (format : Format) (parts : List Part) (k number : ℕ) (kind : Kind) → FailsAtPart format parts k number kind → k ≤ MOST_SCENES
at_most format parts k number kind (inl here) = omega (arith, here.0)
at_most format parts k number kind (inr many) = omega (arith, many.0)

same_part : (format : Format) (parts : List Part) (k j m n : ℕ) (one other : Kind) → FailsAtPart format parts k m one → FailsAtPart format parts j n other
    → AreSpelledBelow format parts k → AreSpelledBelow format parts j → k ≡ j
same_part format parts k j m n one other p q below_k below_j =
    elim (cases_order k j) [
      | inl e ↦ e
      | inr (inl less) ↦ absurd (not_before format parts k j m one p below_j less (at_most format parts j n other q))
      | inr (inr more) ↦ absurd (not_before format parts j k n other q below_k more (at_most format parts k m one p))
    ]

-- at one part it is refused at one line and for one kind
same_refusal : (format : Format) (parts : List Part) (k m n : ℕ) (one other : Kind) → FailsAtPart format parts k m one
    → FailsAtPart format parts k n other → (m ≡ n) × (one ≡ other)
same_refusal format parts k m n one other (inl here) (inl there) =
    let a = here.1 in
    let b = there.1 in
    let e = Refused-one_line format (part_text parts k) a.0 b.0 one other a.2 b.2 in
    (a.1 ∙ (ap (λ line. lines_before parts k + line) e ∙ sym b.1), Refused-one_kind format (part_text parts k) a.0 b.0 one other a.2 b.2)
same_refusal format parts k m n one other (inl here) (inr many) = absurd (omega (arith, here.0, many.0))
same_refusal format parts k m n one other (inr many) (inl there) = absurd (omega (arith, many.0, there.0))
same_refusal format parts k m n one other (inr many) (inr more) = (many.1 ∙ sym more.1, many.2 ∙ sym more.2)

one_refusal : (format : Format) (text : List ℕ) (m n : ℕ) (one other : Kind) → RefusesBatch format text m one
    → RefusesBatch format text n other → (m ≡ n) × (one ≡ other)
one_refusal format text m n one other p q =
    let parts = parts_of (lines_of text) in
    let e = same_part format parts p.0 q.0 m n one other p.3 q.3 p.2 q.2 in
    same_refusal format parts q.0 m n one other (subst (λ k. FailsAtPart format parts k m one) e p.3) q.3

pub RefusesBatch-one_line : (format : Format) (text : List ℕ) (m n : ℕ) (one other : Kind) → RefusesBatch format text m one
    → RefusesBatch format text n other → m ≡ n
RefusesBatch-one_line format text m n one other p q = (one_refusal format text m n one other p q).0

pub RefusesBatch-one_kind : (format : Format) (text : List ℕ) (m n : ℕ) (one other : Kind) → RefusesBatch format text m one
    → RefusesBatch format text n other → one ≡ other
RefusesBatch-one_kind format text m n one other p q = (one_refusal format text m n one other p q).1

-- ---- one batch

no_failure : (format : Format) (text : List ℕ) (scenes : List Scene) (k number : ℕ) (kind : Kind) → SpellsBatch format text scenes
    → k < length (parts_of (lines_of text)) → FailsAtPart format (parts_of (lines_of text)) k number kind → ⊥
no_failure format text [] k number kind h l fails = let count = h.count in omega arith
no_failure format text (scene ∷ scenes) k number kind h l (inl here) =
    let part = here.1 in
    let within : k < length (scene ∷ scenes) = (let count = h.count in omega arith) in
    Spells-not_refused format (part_text (parts_of (lines_of text)) k) (get_or (scene ∷ scenes) k scene) part.0 kind (h.each k scene within) part.2
no_failure format text (scene ∷ scenes) k number kind h l (inr many) = let count = h.count in let few = h.few in omega (arith, many.0)

pub SpellsBatch-not_refused : (format : Format) (text : List ℕ) (scenes : List Scene) (n : ℕ) (kind : Kind) → SpellsBatch format text scenes
    → RefusesBatch format text n kind → ⊥
SpellsBatch-not_refused format text scenes n kind h r = no_failure format text scenes r.0 n kind h r.1 r.3

pub SpellsBatch-one_batch : (format : Format) (text : List ℕ) (one other : List Scene) → SpellsBatch format text one → SpellsBatch format text other
    → one ≡ other
SpellsBatch-one_batch format text [] [] a b = refl
SpellsBatch-one_batch format text [] (scene ∷ other) a b = absurd (let m = a.count in let n = b.count in omega arith)
SpellsBatch-one_batch format text (scene ∷ one) [] a b = absurd (let m = a.count in let n = b.count in omega arith)
SpellsBatch-one_batch format text (scene ∷ one) (first ∷ other) a b =
    let long : length (scene ∷ one) ≡ length (first ∷ other) = a.count ∙ sym b.count in
    ext_get_or scene (scene ∷ one) (first ∷ other) long (λ k l.
    Spells-one_scene format (part_text (parts_of (lines_of text)) k) (get_or (scene ∷ one) k scene) (get_or (first ∷ other) k scene)
    (a.each k scene l) (b.each k scene (omega (arith, l, long))))

-- ---- each text is decided

-- as many scenes, each spelled by the part with its number
record HasScenes (format : Format) (parts : List Part) (n : ℕ) : Type 0 where
  scenes : List Scene
  count : length scenes ≡ n
  each : (k : ℕ) (d : Scene) → k < n → Spells format (part_text parts k) (get_or scenes k d)

one_scene_more : (format : Format) (parts : List Part) (n : ℕ) → HasScenes format parts n → (scene : Scene) → Spells format (part_text parts n) scene
    → HasScenes format parts (n + 1)
one_scene_more format parts n h scene spelled = record {
  scenes = h.scenes ++ scene ∷ [];
  count = (let count = h.count in omega (arith, length-append h.scenes (scene ∷ [])));
  each = λ k d l.
      elim (cases_lt k n) [
        | inl less ↦ subst (Spells format (part_text parts k))
            (sym (get_or_append_left h.scenes (scene ∷ []) d k (let count = h.count in omega arith))) (h.each k d less)
        | inr more ↦
            let e : length h.scenes ≡ k = (let count = h.count in omega arith) in
            let last : get_or (h.scenes ++ scene ∷ []) k d ≡ scene =
            subst (λ m. get_or (h.scenes ++ scene ∷ []) m d ≡ scene) e (get_or-append_seam h.scenes scene [] d) in
            let at : n ≡ k = sym h.count ∙ e in
            subst (Spells format (part_text parts k)) (sym last) (subst (λ m. Spells format (part_text parts m) scene) at spelled)
      ];
}

has_scenes : (format : Format) (parts : List Part) (n : ℕ) → AreSpelledBelow format parts n → HasScenes format parts n
has_scenes format parts zero sound = record { scenes = []; count = refl; each = λ k d l. absurd (omega arith) }
has_scenes format parts (suc n) sound =
    let before = has_scenes format parts n (λ k l. sound k (omega (arith, l))) in
    let last = sound n (omega arith) in
    subst (HasScenes format parts) (add-one n) (one_scene_more format parts n before last.0 last.1)

-- the first of n parts that is refused, if one is
first_refused : (format : Format) (parts : List Part) (n : ℕ) → AreSpelledBelow format parts n
    ⊎ ((k : ℕ) × (k < n) × AreSpelledBelow format parts k × ((line : ℕ) × (kind : Kind) × Refused format (part_text parts k) line kind))
first_refused format parts =
    below_or_first (λ k. (scene : Scene) × Spells format (part_text parts k) scene)
    (λ k. (line : ℕ) × (kind : Kind) × Refused format (part_text parts k) line kind) (λ k. decided format (part_text parts k))

-- a text spells a batch, or it is refused as one
pub batch_decided : (format : Format) (text : List ℕ)
    → ((scenes : List Scene) × SpellsBatch format text scenes) ⊎ ((number : ℕ) × (kind : Kind) × RefusesBatch format text number kind)
batch_decided format text =
    let parts = parts_of (lines_of text) in
    elim (cases_lt MOST_SCENES (length parts)) [
      | inl many ↦
          elim (first_refused format parts MOST_SCENES) [
            | inl sound ↦ inr (lines_before parts MOST_SCENES, kinds.Many, (MOST_SCENES, many, sound, inr (refl, refl, refl)))
            | inr (k, here, before, stop) ↦
                inr (lines_before parts k + stop.0, stop.1, (k, omega (arith, here, many), before, inl (here, (stop.0, refl, stop.2))))
          ]
      | inr few ↦
          elim (first_refused format parts (length parts)) [
            | inl sound ↦
                let h = has_scenes format parts (length parts) sound in
                let count = h.count in
                inl (h.scenes, record { count = h.count; few = omega (arith, few, count); each = λ k d l. h.each k d (omega (arith, l, count)) })
            | inr (k, here, before, stop) ↦
                inr (lines_before parts k + stop.0, stop.1, (k, here, before, inl (omega (arith, here, few), (stop.0, refl, stop.2))))
          ]
    ]
