-- How far a text is read: the lines so far have no fault, and the draft gives what their statements give.
use Rattle.scene_text.proofs.Words.{◌≡◌, ℕ, ◌+◌, ◌<◌, ◌≤◌, not, Bool, true, false, cond, Option, Some, None, List, [], ◌∷◌, ◌++◌, length, take, drop, get_or}
use Rattle.scene_text.proofs.Words.{refl, is_some, sym, ap, ◌∙◌, subst, inl, inr, arith, append-nil, drop_more, take_more, take_all, length-drop, Scene}
use Rattle.scene_text.proofs.Words.{lines_of, words_of, is_skipped, statements_of, Given, given_by, is_inhabited, version_of, fault_of_version, fault_of_words}
use Rattle.scene_text.proofs.Words.{fault_at_end, AllMayStand, version_given, given_after_version, fault_of_line, fault_of_end, HasFields, IsSoundBelow, Spells}
use Rattle.scene_text.proofs.Words.{supported, given_by-push, statements_of-push, IsSoundGiven-text, IsReadVersion-given, Draft, LineRefusal, refusal_at}
use Rattle.scene_text.proofs.Words.{IsLineRefusal, IsSceneRefusal, given_by_draft, given_after, version_after, IsSoundDraft, TakesLine}
use borrow.Author.Count.{below_more}
use Rattle.scene_text.specs.declared.refusals.LineRefusal.TheVariants as line_refusal

-- ---- what a draft stands for

-- the draft has the version of the statements, which each statement but the first comes after, and gives what they give
pub record StandsFor (draft : Draft) (statements : List (List (List ℕ))) : Type 0 where
  pub version : draft.version ≡ version_given supported.reads statements
  pub known : is_inhabited statements ≡ true → is_some draft.version ≡ true
  pub given : given_by_draft draft ≡ given_after_version statements

-- the statements with those of one more line
abbrev more_statements : Bool → List (List (List ℕ)) → List (List ℕ) → List (List (List ℕ))
more_statements skipped statements words = statements ++ cond (not skipped) (words ∷ []) []

version-more : (skipped : Bool) (statements : List (List (List ℕ))) (words : List (List ℕ)) (old : Option ℕ) → is_skipped words ≡ skipped
    → old ≡ version_given supported.reads statements → (is_inhabited statements ≡ true → is_some old ≡ true)
    → version_after old words ≡ version_given supported.reads (more_statements skipped statements words)
version-more true [] words None s e known = rw s refl
version-more false [] words None s e known = rw s refl
version-more skipped [] words (Some version) s e known = absurd (cc)
version-more skipped (first ∷ before) words None s e known = let none = known refl in absurd (cc)
version-more skipped (first ∷ before) words (Some version) s e known = e

some-version : (found : Option ℕ) → fault_of_version found ≡ None → is_some found ≡ true
some-version None e = absurd (cc)
some-version (Some version) e = refl

known-more : (skipped : Bool) (statements : List (List (List ℕ))) (words : List (List ℕ)) (old : Option ℕ) (given : Given) → is_skipped words ≡ skipped
    → fault_of_words supported old given words ≡ None → (is_inhabited statements ≡ true → is_some old ≡ true)
    → is_inhabited (more_statements skipped statements words) ≡ true → is_some (version_after old words) ≡ true
known-more skipped statements words (Some version) given s sound known more = refl
known-more true [] words None given s sound known more = absurd (cc)
known-more true (first ∷ before) words None given s sound known more = let none = known refl in absurd (cc)
known-more false statements words None given s sound known more =
    let named = rw s at sound in
    rw s (some-version (version_of supported.reads words) named)

given-more : (skipped : Bool) (statements : List (List (List ℕ))) (words : List (List ℕ)) (old : Option ℕ) → is_skipped words ≡ skipped
    → old ≡ version_given supported.reads statements → (is_inhabited statements ≡ true → is_some old ≡ true)
    → given_after old (given_after_version statements) words ≡ given_after_version (more_statements skipped statements words)
given-more true [] words None s e known = refl
given-more false [] words None s e known = refl
given-more skipped [] words (Some version) s e known = absurd (cc)
given-more skipped (first ∷ before) words None s e known = let none = known refl in absurd (cc)
given-more true (first ∷ before) words (Some version) s e known = rw s (ap given_by (sym (append-nil before)))
given-more false (first ∷ before) words (Some version) s e known = rw s (sym (given_by-push before words))

StandsFor-more : (old new : Draft) (statements : List (List (List ℕ))) (words : List (List ℕ)) → StandsFor old statements → TakesLine old new words
    → StandsFor new (more_statements (is_skipped words) statements words)
StandsFor-more old new statements words h takes = record {
  version = takes.version ∙ version-more (is_skipped words) statements words old.version refl h.version h.known;
  known = λ more. ap is_some takes.version
      ∙ known-more (is_skipped words) statements words old.version (given_by_draft old) refl takes.sound h.known more;
  given = takes.given ∙ ap (λ given. given_after old.version given words) h.given
      ∙ given-more (is_skipped words) statements words old.version refl h.version h.known;
}

-- ---- so many lines of a text

-- So many lines are read: none has a fault, the draft stands for their statements, and the rest is left.
pub record Reads (text : List ℕ) (number : ℕ) (rest : List ℕ) (draft : Draft) : Type 0 where
  pub left : drop number (lines_of text) ≡ lines_of rest
  pub below : number ≤ length (lines_of text)
  pub sound : IsSoundBelow supported (lines_of text) number
  pub stands : StandsFor draft (statements_of (take number (lines_of text)))
  pub short : number + length rest ≤ length text

pub Reads-none : (text : List ℕ) (draft : Draft) → draft.version ≡ None → given_by_draft draft ≡ given_by [] → Reads text 0 text draft
Reads-none text draft unread none = record {
  left = refl;
  below = omega arith;
  sound = λ i below. absurd (omega arith);
  stands = record { version = unread; known = λ some. absurd (cc); given = none };
  short = omega arith;
}

-- the line that is next
record IsNext (lines : List (List ℕ)) (number : ℕ) (line : List ℕ) (after : List (List ℕ)) : Type 0 where
  within : number < length lines
  here : get_or lines number [] ≡ line
  left : drop (number + 1) lines ≡ after

IsNext-from_drop : (lines : List (List ℕ)) (number : ℕ) (line : List ℕ) (after : List (List ℕ)) → drop number lines ≡ line ∷ after
    → IsNext lines number line after
IsNext-from_drop lines number line after e =
    let long : length (drop number lines) ≡ length after + 1 = ap length e ∙ omega arith in
    let within : number < length lines = omega (arith, length-drop number lines) in
    let opened : drop number lines ≡ get_or lines number [] ∷ drop (number + 1) lines = drop_more lines number [] within in
    record {
      within = within;
      here = cc;
      left = cc;
    }

-- the fault of the line that is next
fault-next : (draft : Draft) (lines : List (List ℕ)) (number : ℕ) (line : List ℕ) → StandsFor draft (statements_of (take number lines))
    → get_or lines number [] ≡ line → fault_of_line supported lines number ≡ fault_of_words supported draft.version (given_by_draft draft) (words_of line)
fault-next draft lines number line h e =
    let before = statements_of (take number lines) in
    ap (λ bytes. fault_of_words supported (version_given supported.reads before) (given_after_version before) (words_of bytes)) e
    ∙ sym (ap (λ read. fault_of_words supported read (given_by_draft draft) (words_of line)) h.version
    ∙ ap (λ given. fault_of_words supported (version_given supported.reads before) given (words_of line)) h.given)

pub Reads-more : (text : List ℕ) (number : ℕ) (rest : List ℕ) (old new : Draft) (line after : List ℕ) → Reads text number rest old
    → lines_of rest ≡ line ∷ lines_of after → length after < length rest → TakesLine old new (words_of line) → Reads text (number + 1) after new
Reads-more text number rest old new line after h split shorter takes =
    let next = IsNext-from_drop (lines_of text) number line (lines_of after) (h.left ∙ split) in
    let fault = fault-next old (lines_of text) number line h.stands next.here in
    let more : take (number + 1) (lines_of text) ≡ take number (lines_of text) ++ line ∷ [] = take_more (lines_of text) number [] next.within
    ∙ ap (λ l. take number (lines_of text) ++ l ∷ []) next.here in
    record {
      left = next.left;
      below = (let within = next.within in omega arith);
      sound = below_more (λ i. fault_of_line supported (lines_of text) i ≡ None) number h.sound (fault ∙ takes.sound);
      stands = subst (StandsFor new) (sym (ap statements_of more ∙ statements_of-push (take number (lines_of text)) line))
          (StandsFor-more old new (statements_of (take number (lines_of text))) (words_of line) h.stands takes);
      short = (let short = h.short in omega arith);
    }

-- a line with a fault refuses the text
pub Reads-refused : (text : List ℕ) (number : ℕ) (rest : List ℕ) (draft : Draft) (line after : List ℕ) (refusal : LineRefusal)
    → Reads text number rest draft → lines_of rest ≡ line ∷ lines_of after
    → IsLineRefusal (fault_of_words supported draft.version (given_by_draft draft) (words_of line)) refusal
    → IsSceneRefusal text (refusal_at (number + 1) refusal)
Reads-refused text number rest draft line after (line_refusal.Fault kind) h split fault =
    let next = IsNext-from_drop (lines_of text) number line (lines_of after) (h.left ∙ split) in
    (number, refl, h.sound, inl (next.within, fault-next draft (lines_of text) number line h.stands next.here ∙ fault))
Reads-refused text number rest draft line after line_refusal.Memory h split fault = tt

-- ---- the end of a text

-- All lines are read, and the draft stands for all statements.
record ReadsAll (text : List ℕ) (number : ℕ) (draft : Draft) : Type 0 where
  all : number ≡ length (lines_of text)
  sound : IsSoundBelow supported (lines_of text) (length (lines_of text))
  stands : StandsFor draft (statements_of (lines_of text))

ReadsAll-from_end : (text : List ℕ) (number : ℕ) (draft : Draft) → Reads text number [] draft → ReadsAll text number draft
ReadsAll-from_end text number draft h =
    let long : length (drop number (lines_of text)) ≡ 0 = ap length h.left in
    let all : number ≡ length (lines_of text) = (let below = h.below in omega (arith, length-drop number (lines_of text))) in
    record {
      all = all;
      sound = subst (IsSoundBelow supported (lines_of text)) all h.sound;
      stands = subst (λ lines. StandsFor draft (statements_of lines)) (take_all number (lines_of text) (omega arith)) h.stands;
    }

-- the version of the draft is one that is read, and what the draft gives may stand
pub IsSoundDraft-read : (text : List ℕ) (number : ℕ) (draft : Draft) → Reads text number [] draft → IsSoundDraft draft
IsSoundDraft-read text number draft h =
    let all = ReadsAll-from_end text number draft h in
    let statements = statements_of (lines_of text) in
    let read : (version : ℕ) → draft.version ≡ Some version → version_given supported.reads statements
    ≡ Some version = λ version known. sym all.stands.version ∙ known in
    record {
      low = λ version known. (IsReadVersion-given supported.reads statements version (read version known)).low;
      high = λ version known. (IsReadVersion-given supported.reads statements version (read version known)).high;
      stand = λ version known. subst (AllMayStand version) (sym all.stands.given)
          (IsSoundGiven-text supported text version all.sound (read version known)).stand;
    }

-- what is missing is missing in the draft
fault_of_end-draft : (draft : Draft) (statements : List (List (List ℕ))) → StandsFor draft statements
    → fault_of_end supported statements ≡ fault_at_end draft.version (given_by_draft draft)
fault_of_end-draft draft statements h =
    sym (ap (λ read. fault_at_end read (given_by_draft draft)) h.version ∙ ap (fault_at_end (version_given supported.reads statements)) h.given)

-- what is missing refuses the text after its last line
pub Reads-missing : (text : List ℕ) (number : ℕ) (draft : Draft) (refusal : LineRefusal) → Reads text number [] draft
    → IsLineRefusal (fault_at_end draft.version (given_by_draft draft)) refusal → IsSceneRefusal text (refusal_at (number + 1) refusal)
Reads-missing text number draft (line_refusal.Fault kind) h fault =
    let all = ReadsAll-from_end text number draft h in
    (number, refl, h.sound, inr (all.all, fault_of_end-draft draft (statements_of (lines_of text)) all.stands ∙ fault))
Reads-missing text number draft line_refusal.Memory h fault = tt

-- the text spells the scene of its draft
pub Reads-all : (text : List ℕ) (number : ℕ) (draft : Draft) (scene : Scene) → Reads text number [] draft
    → fault_at_end draft.version (given_by_draft draft) ≡ None → HasFields draft.version (given_by_draft draft) scene
    → Spells supported text scene
Reads-all text number draft scene h complete fields =
    let all = ReadsAll-from_end text number draft h in
    record {
      sound = all.sound;
      complete = fault_of_end-draft draft (statements_of (lines_of text)) all.stands ∙ complete;
      fields = subst (λ read. HasFields read (given_after_version (statements_of (lines_of text))) scene) all.stands.version
          (subst (λ given. HasFields draft.version given scene) all.stands.given fields);
    }
