-- The canonical text of a scene spells the scene: the fields are those of its statements.
use Rattle.scene_text.proofs.Words.{◌≡◌, ◌≤◌, ℕ, Bool, true, false, cond, eqb, leb, pos, None, List, [], ◌∷◌, map, refl, sym, ap, ap₂, ◌∙◌, length, subst}
use Rattle.scene_text.proofs.Words.{arith, and_parts, flat_map, line, Goal, Scene, Marks, Drawn, Listed, statements_of, lines_of, MOST_CLEARANCE}
use Rattle.scene_text.proofs.Words.{Format, is_inhabited, corners_from, fault_at_end, point_from, goal_from, number_or, plan_from, first_of, version_given}
use Rattle.scene_text.proofs.Words.{fault_of_end, given_after_version, HasFields, Spells, point_numbers, goal_numbers, corner_numbers, version_statement}
use Rattle.scene_text.proofs.Words.{canonical_text, Covers}
use mathlib.Core.Path.{fun_ext}
use Rattle.scene_text.proofs.StatementTexts.{lines_of-text, statements_of-lines, IsSoundBelow-text}
use Rattle.scene_text.proofs.CanonicalNumbers.{corners_from-numbers}
use Rattle.scene_text.proofs.DraftScenes.{given_back}
use Rattle.scene_text.proofs.CanonicalFaults.{table_of, drawn_of, listed_of, lines_of_scene, canonical-lines, given-table, version_of-statement, sound-lines}
use Rattle.scene_text.proofs.CanonicalFaults.{clean-lines}

-- ---- the fields of a scene are those of its numbers

-- the clearance is 0 if there is no line for it
clearance-back : (first : Bool) (clearance : ℕ) → clearance ≤ cond first 0 MOST_CLEARANCE
    → clearance ≡ number_or 0 (first_of (cond first [] ((pos clearance ∷ []) ∷ [])))
clearance-back true clearance high = omega (arith, high)
clearance-back false clearance high = refl

plan-back : (plan : Marks) → plan ≡ plan_from (drawn_of plan) (listed_of plan)
plan-back (Drawn n) = refl
plan-back (Listed points) = ap Listed (given_back point_numbers point_from (λ p. refl) points)

HasFields-table : (format : Format) (scene : Scene) → Covers format scene → HasFields (version_given format.reads (version_statement scene.version ∷ []))
    (table_of scene) scene
HasFields-table format scene covers = record {
  version = version_of-statement format scene covers;
  room = refl;
  body = sym (corners_from-numbers scene.body);
  obstacles = given_back corner_numbers corners_from (λ vs. sym (corners_from-numbers vs)) scene.obstacles;
  clearance = clearance-back (eqb scene.version 1) scene.clearance scene.clearance_high;
  start = refl;
  goals = given_back goal_numbers goal_from (λ goal. refl) scene.goals;
  step = refl;
  gamma = refl;
  seed = refl;
  strips = refl;
  informed = elim scene.informed as (λ b. b ≡ eqb (number_or 0 (first_of (cond b ((pos 1 ∷ []) ∷ []) []))) 1) [ true ↦ refl | false ↦ refl ];
  plan = plan-back scene.plan;
}

goals-stand : (goals : List Goal) → leb 1 (length goals) ≡ true → is_inhabited (map goal_numbers goals) ≡ true
goals-stand [] some = absurd (cc)
goals-stand (goal ∷ goals) some = refl

complete-lines : (format : Format) (scene : Scene) → Covers format scene
    → fault_of_end format (version_statement scene.version ∷ lines_of_scene scene) ≡ None
complete-lines format scene covers =
    let some = (and_parts (leb 1 (length scene.goals)) _ (and_parts _ _ scene.goals_within).0).0 in
    ap₂ fault_at_end (version_of-statement format scene covers) (fun_ext (given-table scene)) ∙ rw (goals-stand scene.goals some) refl

-- ---- the text

Spells-lines : (format : Format) (scene : Scene) → Covers format scene
    → Spells format (flat_map line (version_statement scene.version ∷ lines_of_scene scene)) scene
Spells-lines format scene covers =
    let lines = version_statement scene.version ∷ lines_of_scene scene in
    let clean = clean-lines format scene covers in
    let statements : statements_of (lines_of (flat_map line lines)) ≡ lines = ap statements_of (lines_of-text lines clean)
    ∙ statements_of-lines lines clean in
    record {
      sound = IsSoundBelow-text format lines clean (sound-lines format scene covers);
      complete = ap (fault_of_end format) statements ∙ complete-lines format scene covers;
      fields = subst (λ read. HasFields (version_given format.reads read) (given_after_version read) scene) (sym statements)
          (subst (λ given. HasFields (version_given format.reads lines) given scene) (sym (fun_ext (given-table scene)))
          (HasFields-table format scene covers));
    }

-- a text that is the canonical one spells the scene
pub Spells-canonical : (format : Format) (scene : Scene) (text : List ℕ) → Covers format scene → text ≡ canonical_text scene → Spells format text scene
Spells-canonical format scene text covers same =
    subst (λ t. Spells format t scene) (sym (same ∙ sym (ap (flat_map line) (canonical-lines scene)))) (Spells-lines format scene covers)
