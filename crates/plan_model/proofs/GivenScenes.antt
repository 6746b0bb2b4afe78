-- A text whose lines have no fault, and in which nothing is missing, spells a scene; any other is refused.
use Rattle.plan_model.proofs.Words.{◌≡◌, ℕ, zero, suc, ◌+◌, ◌<◌, ◌≤◌, ◌&&◌, Bool, true, false, cond, eqb, leb, ℤ, Option, Some, None, ◌⊎◌, inl, inr, List, []}
use Rattle.plan_model.proofs.Words.{◌∷◌, length, map, All, refl, sym, subst, arith, add-one, list_all, and_from, and_parts, le-leb, length-map, All-head, Scene}
use Rattle.plan_model.proofs.Words.{Kind, by_version, is_obstacle, are_obstacles, most_clearance, MOST_GAMMA, MOST_OBSTACLES, MOST_SEED, MOST_STRIPS, lines_of}
use Rattle.plan_model.proofs.Words.{statements_of, Format, Given, is_inhabited, stands, corners_from, fault_at_end, MayStand, AllMayStand, first_of, point_from}
use Rattle.plan_model.proofs.Words.{goal_from, number_or, body_from, plan_from, version_given, given_after_version, fault_of_line, fault_of_end, IsSoundBelow}
use Rattle.plan_model.proofs.Words.{HasFields, Spells, Refused}
use borrow.Author.Count.{below_more}
use Rattle.plan_model.specs.declared.text_terms.Key.TheVariants as keys
use Rattle.plan_model.specs.declared.text_terms.Kind.TheVariants as kinds
use Rattle.plan_model.proofs.SoundStatements.{IsSoundGiven-text}
use Rattle.plan_model.proofs.ReadVersions.{IsReadVersion-given, version-end}
use Rattle.plan_model.proofs.SceneParts.{IsWithin, room-within, start-within, goals-within, step-within, clearance-within, gamma-within, seed-within}
use Rattle.plan_model.proofs.SceneParts.{strips-within, informed-within, informed-by_number, body-within, obstacles-within, plan-within}

-- ---- the scene that lines give

-- what holds of the numbers of each line holds of the first ones, if there is a line
first-given : (P : List ℤ → Type 0) (lists : List (List ℤ)) → is_inhabited lists ≡ true → All P lists → P (first_of lists)
first-given P [] some all = absurd (cc)
first-given P (zs ∷ lists) some all = All-head P zs lists all

-- the keys that each scene needs stand
pub record AreGiven (given : Given) : Type 0 where
  pub room : stands given keys.Room ≡ true
  pub start : stands given keys.Start ≡ true
  pub goal : stands given keys.Goal ≡ true
  pub step : stands given keys.Step ≡ true

-- a scene of the version with the fields of the lines
abbrev GivenScene : ℕ → Given → Type 0
GivenScene version given = (scene : Scene) × HasFields (Some version) given scene

-- there is a line
some_line : {A : Type 0} → (lists : List A) → is_inhabited lists ≡ true → 1 ≤ length lists
some_line [] some = absurd (cc)
some_line (x ∷ lists) some = omega arith

-- what holds of the number without a line, and of each that may stand after the key, holds of that of the lines
number-given : (P : List ℤ → Type 0) (Q : ℕ → Type 0) (default : ℕ) (lists : List (List ℤ)) → Q default
    → ((zs : List ℤ) → P zs → Q (number_or default zs)) → All P lists → Q (number_or default (first_of lists))
number-given P Q default [] none each all = none
number-given P Q default (zs ∷ lists) none each all = each zs (All-head P zs lists all)

-- polygons that may stand are obstacles of a scene, if they are not too many
pub obstacles-given : (version : ℕ) (lists : List (List ℤ)) → All (MayStand version keys.Obstacle) lists → length lists ≤ MOST_OBSTACLES
    → are_obstacles version (map corners_from lists) ≡ true
obstacles-given version lists all few =
    and_from (leb (length (map corners_from lists)) MOST_OBSTACLES) (list_all (is_obstacle version) (map corners_from lists))
    (le-leb (length (map corners_from lists)) MOST_OBSTACLES (omega (arith, length-map lists corners_from))) (obstacles-within version lists all)

scene-given : (version : ℕ) (given : Given) → 1 ≤ version → version ≤ 2 → AllMayStand version given → AreGiven given → GivenScene version given
scene-given version given low high h needed =
    let room = first-given (MayStand version keys.Room) (given keys.Room) needed.room (h.stand keys.Room) in
    let start = first-given (MayStand version keys.Start) (given keys.Start) needed.start (h.stand keys.Start) in
    let step = step-within version (first_of (given keys.Step))
    (first-given (MayStand version keys.Step) (given keys.Step) needed.step (h.stand keys.Step)) in
    let strips = number-given (MayStand version keys.Strips) (IsWithin 1 MOST_STRIPS) 1 (given keys.Strips)
    (record { above = omega arith; below = omega arith }) (strips-within version) (h.stand keys.Strips) in
    let informed = number-given (MayStand version keys.Informed) (λ n. n ≤ by_version version 0 1) 0 (given keys.Informed) (omega arith)
    (informed-within version) (h.stand keys.Informed) in
    let scene : Scene = record {
      version = version;
      room = point_from (first_of (given keys.Room));
      body = body_from (given keys.Body);
      obstacles = map corners_from (given keys.Obstacle);
      clearance = number_or 0 (first_of (given keys.Clearance));
      start = point_from (first_of (given keys.Start));
      goals = map goal_from (given keys.Goal);
      step = number_or 0 (first_of (given keys.Step));
      gamma = number_or 0 (first_of (given keys.Gamma));
      seed = number_or 0 (first_of (given keys.Seed));
      strips = number_or 1 (first_of (given keys.Strips));
      informed = eqb (number_or 0 (first_of (given keys.Informed))) 1;
      plan = plan_from (given keys.Marks) (given keys.Mark);
      version_low = low;
      version_high = high;
      room_within = room-within version (first_of (given keys.Room)) room;
      body_within = body-within version (given keys.Body) (h.stand keys.Body);
      obstacles_within = obstacles-given version (given keys.Obstacle) (h.stand keys.Obstacle) (h.few keys.Obstacle);
      clearance_high = number-given (MayStand version keys.Clearance) (λ n. n ≤ most_clearance version) 0 (given keys.Clearance) (omega arith)
          (clearance-within version) (h.stand keys.Clearance);
      start_within = start-within version (first_of (given keys.Start)) start;
      goals_within = goals-within version (given keys.Goal) (h.stand keys.Goal) (some_line (given keys.Goal) needed.goal) (h.few keys.Goal);
      step_low = step.above;
      step_high = step.below;
      gamma_high = number-given (MayStand version keys.Gamma) (λ n. n ≤ MOST_GAMMA) 0 (given keys.Gamma) (omega arith) (gamma-within version)
          (h.stand keys.Gamma);
      seed_high = number-given (MayStand version keys.Seed) (λ n. n ≤ MOST_SEED) 0 (given keys.Seed) (omega arith) (seed-within version)
          (h.stand keys.Seed);
      strips_low = strips.above;
      strips_high = strips.below;
      informed_within = informed-by_number version (number_or 0 (first_of (given keys.Informed))) informed;
      plan_within = plan-within version (given keys.Marks) (given keys.Mark) (h.stand keys.Marks) (h.stand keys.Mark) (h.few keys.Mark);
    } in (
      scene,
      record {
        version = refl;
        room = refl;
        body = refl;
        obstacles = refl;
        clearance = refl;
        start = refl;
        goals = refl;
        step = refl;
        gamma = refl;
        seed = refl;
        strips = refl;
        informed = refl;
        plan = refl;
      },
    )

-- ---- what is missing at the end

all-given : (room start goal step : Bool) → (room && (start && (goal && (step && true)))) ≡ true
    → (room ≡ true) × (start ≡ true) × (goal ≡ true) × (step ≡ true)
all-given room start goal step e =
    let first = and_parts room (start && (goal && (step && true))) e in
    let second = and_parts start (goal && (step && true)) first.1 in
    let third = and_parts goal (step && true) second.1 in
    (first.0, second.0, third.0, (and_parts step true third.1).0)

none-missing : (all : Bool) → cond all None (Some kinds.Missing) ≡ None → all ≡ true
none-missing true e = refl
none-missing false e = absurd (cc)

-- if nothing is missing, the keys that each scene needs stand
pub AreGiven-end : (read : Option ℕ) (given : Given) → fault_at_end read given ≡ None → AreGiven given
AreGiven-end None given e = absurd (cc)
AreGiven-end (Some version) given e =
    let all = all-given (stands given keys.Room) (stands given keys.Start) (stands given keys.Goal) (stands given keys.Step) (none-missing _ e) in
    record {
      room = all.0;
      start = all.1;
      goal = all.2;
      step = all.3;
    }

-- ---- one of the two

-- a scene that the text spells
abbrev Spelled : Format → List ℕ → Type 0
Spelled format text = (scene : Scene) × Spells format text scene

spelled : (format : Format) (text : List ℕ) → IsSoundBelow format (lines_of text) (length (lines_of text))
    → fault_of_end format (statements_of (lines_of text)) ≡ None → Spelled format text
spelled format text sound complete =
    let statements = statements_of (lines_of text) in
    let given = given_after_version statements in
    let version = version-end (version_given format.reads statements) given complete in
    let known = IsReadVersion-given format.reads statements version.0 version.1 in
    let scene = scene-given version.0 given known.low known.high (IsSoundGiven-text format text version.0 sound version.1).stand
    (AreGiven-end (version_given format.reads statements) given complete) in
    (scene.0, record { sound = sound; complete = complete; fields = subst (λ read. HasFields read given scene.0) (sym version.1) scene.1 })

-- P holds of all numbers below n, or of all before one of them of which Q does
pub below_or_first : (P Q : ℕ → Type 0) → ((i : ℕ) → P i ⊎ Q i) → (n : ℕ)
    → ((i : ℕ) → i < n → P i) ⊎ ((k : ℕ) × (k < n) × ((i : ℕ) → i < k → P i) × Q k)
below_or_first P Q each zero = inl (λ i l. absurd (omega arith))
below_or_first P Q each (suc n) =
    elim (below_or_first P Q each n) [
      | inl all ↦ elim (each n) [
        | inl here ↦ inl (subst (λ m. (i : ℕ) → i < m → P i) (add-one n) (below_more P n all here))
        | inr stop ↦ inr (n, omega arith, all, stop)
      ]
      | inr first ↦ inr (first.0, omega (arith, first.1), first.2, first.3)
    ]

-- a line has no fault, or one of a kind
no_fault_or_some : (fault : Option Kind) → (fault ≡ None) ⊎ ((kind : Kind) × (fault ≡ Some kind))
no_fault_or_some None = inl refl
no_fault_or_some (Some kind) = inr (kind, refl)

-- a text spells a scene, or it is refused
pub decided : (format : Format) (text : List ℕ)
    → ((scene : Scene) × Spells format text scene) ⊎ ((number : ℕ) × (kind : Kind) × Refused format text number kind)
decided format text =
    let lines = lines_of text in
    let stops : ℕ → Type 0 = λ i. (kind : Kind) × (fault_of_line format lines i ≡ Some kind) in
    elim (below_or_first (λ i. fault_of_line format lines i ≡ None) stops (λ i. no_fault_or_some (fault_of_line format lines i)) (length lines)) [
      | inl sound ↦ elim (no_fault_or_some (fault_of_end format (statements_of lines))) [
        | inl complete ↦ inl (spelled format text sound complete)
        | inr missing ↦ inr (length lines + 1, missing.0, (length lines, refl, sound, inr (refl, missing.1)))
      ]
      | inr first ↦ inr (first.0 + 1, first.3.0, (first.0, refl, first.2, inl (first.1, first.3.1)))
    ]
