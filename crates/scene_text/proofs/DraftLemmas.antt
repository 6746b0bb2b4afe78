-- The checks of a draft are those of the grammar over what the draft gives.
use Rattle.scene_text.proofs.Words.{◌≡◌, ℕ, ◌||◌, not, Bool, true, false, Option, Some, None, List, [], ◌∷◌, ◌++◌, map, Result, Ok, Err, OnOk, refl, sym, ap}
use Rattle.scene_text.proofs.Words.{◌∙◌, ℤ, true≢false, map-append, Goal, Point, Vertex, is_skipped, value_of, name_of, Check, Given, with_statement}
use Rattle.scene_text.proofs.Words.{stands, is_inhabited, is_repeated, version_of, fault_of_statement, first_failing, is_supported, supported, point_numbers}
use Rattle.scene_text.proofs.Words.{goal_numbers, corner_numbers, Draft, amount_numbers, line_numbers, given_by_draft, given_after, version_after, TakesLine}
use mathlib.Core.Path.{fun_ext}
use Rattle.plan_model.specs.declared.text_terms.Key.TheVariants as keys
use Rattle.plan_model.specs.declared.text_terms.Kind.TheVariants as kinds

-- the checks that pass leave those after them
formed : (built repeated fits many numbers : Bool) (rest : List Check) → built ≡ true → repeated ≡ false → fits ≡ true → many ≡ false → numbers ≡ true
    → first_failing ((built, kinds.Unbuilt) ∷ (not repeated, kinds.Repeat) ∷ (fits, kinds.Words) ∷ (not many, kinds.Many) ∷ (numbers, kinds.Number) ∷ rest)
    ≡ first_failing rest
formed built repeated fits many numbers rest a b c d e = rw (a, b, c, d, e) refl

-- ---- one line

-- a line that is skipped leaves the draft as it is
pub TakesLine-skipped : (draft : Draft) (words : List (List ℕ)) → is_skipped words ≡ true → TakesLine draft draft words
TakesLine-skipped draft words skipped = record {
  sound = rw skipped refl;
  version = version_kept draft.version;
  given = given_kept draft.version (given_by_draft draft);
}
  where
    version_kept : (version : Option ℕ) → version ≡ version_after version words
    version_kept None = rw skipped refl
    version_kept (Some version) = refl

    given_kept : (version : Option ℕ) (given : Given) → given ≡ given_after version given words
    given_kept None given = refl
    given_kept (Some version) given = rw skipped refl

-- that the version was read gives no numbers
pub given-version : (draft : Draft) (read : Option ℕ) → given_by_draft (record draft { version = read }) ≡ given_by_draft draft
given-version draft read =
    fun_ext (elim [ keys.Room ↦ refl | _ ↦ refl ])

-- one more obstacle is what its line gives
pub given-obstacle : (old new : Draft) (words : List (List ℕ)) (corners : List Vertex) → new.obstacles.items ≡ old.obstacles.items ++ corners ∷ []
    → map value_of words ≡ corner_numbers corners
    → given_by_draft (record old { obstacles = new.obstacles }) ≡ with_statement (given_by_draft old) (name_of keys.Obstacle ∷ words)
given-obstacle old new words corners items value =
    fun_ext (elim [
      | keys.Obstacle ↦
          ap (map corner_numbers) items ∙ map-append corner_numbers old.obstacles.items (corners ∷ [])
          ∙ ap (λ zs. map corner_numbers old.obstacles.items ++ zs ∷ []) (sym value)
      | _ ↦ refl
    ])

-- one more goal is what its line gives
pub given-goal : (old new : Draft) (words : List (List ℕ)) (goal : Goal) → new.goals.items ≡ old.goals.items ++ goal ∷ []
    → map value_of words ≡ goal_numbers goal
    → given_by_draft (record old { goals = new.goals }) ≡ with_statement (given_by_draft old) (name_of keys.Goal ∷ words)
given-goal old new words goal items value =
    fun_ext (elim [
      | keys.Goal ↦
          ap (map goal_numbers) items ∙ map-append goal_numbers old.goals.items (goal ∷ [])
          ∙ ap (λ zs. map goal_numbers old.goals.items ++ zs ∷ []) (sym value)
      | _ ↦ refl
    ])

-- one more mark is what its line gives
pub given-mark : (old new : Draft) (words : List (List ℕ)) (p : Point) → new.marks.items ≡ old.marks.items ++ p ∷ []
    → map value_of words ≡ point_numbers p
    → given_by_draft (record old { marks = new.marks }) ≡ with_statement (given_by_draft old) (name_of keys.Mark ∷ words)
given-mark old new words p items value =
    fun_ext (elim [
      | keys.Mark ↦
          ap (map point_numbers) items ∙ map-append point_numbers old.marks.items (p ∷ [])
          ∙ ap (λ zs. map point_numbers old.marks.items ++ zs ∷ []) (sym value)
      | _ ↦ refl
    ])

-- ---- a field of one line

-- the line gives the numbers of the field, if none stood before
once : {A : Type 0} (numbers : A → List ℤ) (before : Option A) (field : A) (zs : List ℤ) (rest : Bool)
    → (is_inhabited (line_numbers numbers before) || rest) ≡ false → zs ≡ numbers field
    → line_numbers numbers (Some field) ≡ line_numbers numbers before ++ zs ∷ []
once numbers None field zs rest fresh value = ap (λ ns. ns ∷ []) (sym value)
once numbers (Some known) field zs rest fresh value = absurd (true≢false fresh)

pub given-room : (version : ℕ) (old : Draft) (words : List (List ℕ)) (point : Point) → is_repeated version (given_by_draft old) keys.Room ≡ false
    → map value_of words ≡ point_numbers point
    → given_by_draft (record old { room = Some point }) ≡ with_statement (given_by_draft old) (name_of keys.Room ∷ words)
given-room version old words point fresh value =
    fun_ext (elim [ keys.Room ↦ once point_numbers old.room point (map value_of words) false fresh value | _ ↦ refl ])

pub given-body : (version : ℕ) (old : Draft) (words : List (List ℕ)) (corners : List Vertex) → is_repeated version (given_by_draft old) keys.Body ≡ false
    → map value_of words ≡ corner_numbers corners
    → given_by_draft (record old { body = Some corners }) ≡ with_statement (given_by_draft old) (name_of keys.Body ∷ words)
given-body version old words corners fresh value =
    fun_ext (elim [ keys.Body ↦ once corner_numbers old.body corners (map value_of words) false fresh value | _ ↦ refl ])

pub given-clearance : (version : ℕ) (old : Draft) (words : List (List ℕ)) (amount : ℕ) → is_repeated version (given_by_draft old) keys.Clearance ≡ false
    → map value_of words ≡ amount_numbers amount
    → given_by_draft (record old { clearance = Some amount }) ≡ with_statement (given_by_draft old) (name_of keys.Clearance ∷ words)
given-clearance version old words amount fresh value =
    fun_ext (elim [ keys.Clearance ↦ once amount_numbers old.clearance amount (map value_of words) false fresh value | _ ↦ refl ])

pub given-start : (version : ℕ) (old : Draft) (words : List (List ℕ)) (point : Point) → is_repeated version (given_by_draft old) keys.Start ≡ false
    → map value_of words ≡ point_numbers point
    → given_by_draft (record old { start = Some point }) ≡ with_statement (given_by_draft old) (name_of keys.Start ∷ words)
given-start version old words point fresh value =
    fun_ext (elim [ keys.Start ↦ once point_numbers old.start point (map value_of words) false fresh value | _ ↦ refl ])

pub given-step : (version : ℕ) (old : Draft) (words : List (List ℕ)) (amount : ℕ) → is_repeated version (given_by_draft old) keys.Step ≡ false
    → map value_of words ≡ amount_numbers amount
    → given_by_draft (record old { step = Some amount }) ≡ with_statement (given_by_draft old) (name_of keys.Step ∷ words)
given-step version old words amount fresh value =
    fun_ext (elim [ keys.Step ↦ once amount_numbers old.step amount (map value_of words) false fresh value | _ ↦ refl ])

pub given-gamma : (version : ℕ) (old : Draft) (words : List (List ℕ)) (amount : ℕ) → is_repeated version (given_by_draft old) keys.Gamma ≡ false
    → map value_of words ≡ amount_numbers amount
    → given_by_draft (record old { gamma = Some amount }) ≡ with_statement (given_by_draft old) (name_of keys.Gamma ∷ words)
given-gamma version old words amount fresh value =
    fun_ext (elim [ keys.Gamma ↦ once amount_numbers old.gamma amount (map value_of words) false fresh value | _ ↦ refl ])

pub given-seed : (version : ℕ) (old : Draft) (words : List (List ℕ)) (amount : ℕ) → is_repeated version (given_by_draft old) keys.Seed ≡ false
    → map value_of words ≡ amount_numbers amount
    → given_by_draft (record old { seed = Some amount }) ≡ with_statement (given_by_draft old) (name_of keys.Seed ∷ words)
given-seed version old words amount fresh value =
    fun_ext (elim [ keys.Seed ↦ once amount_numbers old.seed amount (map value_of words) false fresh value | _ ↦ refl ])

pub given-strips : (version : ℕ) (old : Draft) (words : List (List ℕ)) (amount : ℕ) → is_repeated version (given_by_draft old) keys.Strips ≡ false
    → map value_of words ≡ amount_numbers amount
    → given_by_draft (record old { strips = Some amount }) ≡ with_statement (given_by_draft old) (name_of keys.Strips ∷ words)
given-strips version old words amount fresh value =
    fun_ext (elim [ keys.Strips ↦ once amount_numbers old.strips amount (map value_of words) false fresh value | _ ↦ refl ])

pub given-informed : (version : ℕ) (old : Draft) (words : List (List ℕ)) (amount : ℕ) → is_repeated version (given_by_draft old) keys.Informed ≡ false
    → map value_of words ≡ amount_numbers amount
    → given_by_draft (record old { informed = Some amount }) ≡ with_statement (given_by_draft old) (name_of keys.Informed ∷ words)
given-informed version old words amount fresh value =
    fun_ext (elim [ keys.Informed ↦ once amount_numbers old.informed amount (map value_of words) false fresh value | _ ↦ refl ])

pub given-drawn : (version : ℕ) (old : Draft) (words : List (List ℕ)) (amount : ℕ) → is_repeated version (given_by_draft old) keys.Marks ≡ false
    → map value_of words ≡ amount_numbers amount
    → given_by_draft (record old { drawn = Some amount }) ≡ with_statement (given_by_draft old) (name_of keys.Marks ∷ words)
given-drawn version old words amount fresh value =
    fun_ext (elim [ keys.Marks ↦ once amount_numbers old.drawn amount (map value_of words) (stands (given_by_draft old) keys.Mark) fresh value | _ ↦ refl ])

-- the version gives nothing but that it was read
pub TakesLine-version : (old new : Draft) (words : List (List ℕ)) (version : ℕ) → is_skipped words ≡ false → old.version ≡ None
    → version_of supported.reads words ≡ Some version → new.version ≡ Some version → given_by_draft new ≡ given_by_draft old → TakesLine old new words
TakesLine-version old new words version kept unread named read same = record {
  sound = rw (kept, unread, named) refl;
  version = rw (read, unread, kept, named) refl;
  given = rw (same, unread) refl;
}

-- a statement after the version
pub TakesLine-statement : (old new : Draft) (words : List (List ℕ)) (version : ℕ) → is_skipped words ≡ false → old.version ≡ Some version
    → fault_of_statement is_supported version (given_by_draft old) words ≡ None → new.version ≡ old.version
    → given_by_draft new ≡ with_statement (given_by_draft old) words → TakesLine old new words
TakesLine-statement old new words version kept read sound same given = record {
  sound = rw (kept, read) sound;
  version = rw (same, read) refl;
  given = rw (given, read, kept) refl;
}

-- what three facts that hold on success say
pub OnOk-three : {T E P Q R S : Type 0} (result : Result T E) → (P → Q → R → S) → OnOk result P → OnOk result Q → OnOk result R → OnOk result S
OnOk-three (Ok x) f p q r = f p q r
OnOk-three (Err e) f p q r = tt
