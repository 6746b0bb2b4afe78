-- The scene that a draft gives: its fields are in their ranges, and are those of the lines.
use Rattle.scene_text.proofs.Words.{◌≡◌, ℕ, ◌≤◌, true, ℤ, Option, Some, None, List, [], ◌∷◌, length, map, All, eqb, refl, sym, ap, ap₂, ◌∙◌, subst, arith}
use Rattle.scene_text.proofs.Words.{unwrap_or, length-map, All-head, Point, Goal, Key, LEAST_SIDE, LEAST_STEP, MOST_GAMMA, MOST_STRIPS, IsBetween, are_goals}
use Rattle.scene_text.proofs.Words.{are_obstacles, is_body, is_plan, may_be_informed, most_clearance, most_side, most_step, is_inhabited, corners_from}
use Rattle.scene_text.proofs.Words.{fault_at_end, MayStand, AllMayStand, first_of, number_or, goal_from, body_from, plan_from, point_numbers, goal_numbers}
use Rattle.scene_text.proofs.Words.{corner_numbers, IsWithin, room-within, body-within, start-within, goals-within, step-within, clearance-within, gamma-within}
use Rattle.scene_text.proofs.Words.{informed-by_number, informed-within, strips-within, plan-within, obstacles-given, Draft, line_numbers, amount_numbers}
use Rattle.scene_text.proofs.Words.{given_by_draft}
use Rattle.plan_model.specs.declared.text_terms.Key.TheVariants as keys
use Rattle.scene_text.proofs.CanonicalNumbers.{corners_from-numbers}

-- ---- one field

-- the numbers of a known field may stand after its key
known-stands : {A : Type 0} (version : ℕ) (key : Key) (numbers : A → List ℤ) (field : Option A) (x : A)
    → All (MayStand version key) (line_numbers numbers field) → field ≡ Some x → MayStand version key (numbers x)
known-stands version key numbers None x all known = absurd (cc)
known-stands version key numbers (Some y) x all known =
    let same : y ≡ x = cc in
    subst (λ z. MayStand version key (numbers z)) same (All-head (MayStand version key) (numbers y) [] all)

-- a known field is read from the numbers of its line
pub known-given : {A : Type 0} (numbers : A → List ℤ) (from : List ℤ → A) (field : Option A) (x : A) → field ≡ Some x → x ≡ from (numbers x)
    → x ≡ from (first_of (line_numbers numbers field))
known-given numbers from field x known again =
    again ∙ ap (λ f. from (first_of (line_numbers numbers f))) (sym known)

-- a number, or the one that holds without its line
pub default-given : (default : ℕ) (field : Option ℕ) → unwrap_or field default ≡ number_or default (first_of (line_numbers amount_numbers field))
default-given default None = refl
default-given default (Some n) = refl

-- what is read from the numbers of values are the values
pub given_back : {A : Type 0} (numbers : A → List ℤ) (from : List ℤ → A) → ((x : A) → x ≡ from (numbers x)) → (xs : List A) → xs ≡ map from (map numbers xs)
given_back numbers from each [] = refl
given_back numbers from each (x ∷ xs) = ap₂ (λ y ys. y ∷ ys) (each x) (given_back numbers from each xs)

-- what is so of numbers that may stand after the key, and of the number without its line, is so of a field
default-stands : (Q : ℕ → Type 0) (version : ℕ) (key : Key) (default : ℕ) (field : Option ℕ) → Q default
    → ((n : ℕ) → MayStand version key (amount_numbers n) → Q n) → All (MayStand version key) (line_numbers amount_numbers field) → Q (unwrap_or field default)
default-stands Q version key default None without each all = without
default-stands Q version key default (Some n) without each all = each n (All-head (MayStand version key) (amount_numbers n) [] all)

-- ---- what is missing

stands-goals : (goals : List Goal) → 1 ≤ length goals → is_inhabited (map goal_numbers goals) ≡ true
stands-goals [] some = absurd (omega arith)
stands-goals (goal ∷ goals) some = refl

-- nothing is missing if the version and what each scene needs are known
pub complete-draft : (draft : Draft) (version : ℕ) (room start : Point) (step : ℕ) → draft.version ≡ Some version → draft.room ≡ Some room
    → draft.start ≡ Some start → draft.step ≡ Some step → 1 ≤ length draft.goals.items → fault_at_end draft.version (given_by_draft draft) ≡ None
complete-draft draft version room start step v r s t some = rw (v, r, s, stands-goals draft.goals.items some, t) refl

-- ---- the fields of a draft

-- each field is in its range, if it is known
pub record AreWithin (version : ℕ) (draft : Draft) : Type 0 where
  pub room : (p : Point) → draft.room ≡ Some p → IsBetween LEAST_SIDE (most_side version) p
  pub body : is_body (body_from (line_numbers corner_numbers draft.body)) ≡ true
  pub obstacles : are_obstacles version draft.obstacles.items ≡ true
  pub clearance : unwrap_or draft.clearance 0 ≤ most_clearance version
  pub start : (p : Point) → draft.start ≡ Some p → IsBetween 0 (most_side version) p
  pub goals : 1 ≤ length draft.goals.items → are_goals version draft.goals.items ≡ true
  pub step : (n : ℕ) → draft.step ≡ Some n → IsWithin LEAST_STEP (most_step version) n
  pub gamma : unwrap_or draft.gamma 0 ≤ MOST_GAMMA
  pub strips : IsWithin 1 MOST_STRIPS (unwrap_or draft.strips 1)
  pub informed : may_be_informed version (eqb (unwrap_or draft.informed 0) 1) ≡ true
  pub plan : is_plan version (plan_from (line_numbers amount_numbers draft.drawn) (map point_numbers draft.marks.items)) ≡ true

-- what may stand gives fields in their ranges
pub AreWithin-draft : (version : ℕ) (draft : Draft) → AllMayStand version (given_by_draft draft) → AreWithin version draft
AreWithin-draft version draft h =
    let polygons = draft.obstacles.items in
    let boxes = draft.goals.items in
    let points = draft.marks.items in
    record {
      room = λ p known. room-within version (point_numbers p) (known-stands version keys.Room point_numbers draft.room p (h.stand keys.Room) known);
      body = body-within version (line_numbers corner_numbers draft.body) (h.stand keys.Body);
      obstacles = ap (are_obstacles version) (given_back corner_numbers corners_from (λ vs. sym (corners_from-numbers vs)) polygons)
          ∙ obstacles-given version (map corner_numbers polygons) (h.stand keys.Obstacle) (h.few keys.Obstacle);
      clearance = default-stands (λ n. n ≤ most_clearance version) version keys.Clearance 0 draft.clearance (omega arith)
          (λ n may. clearance-within version (amount_numbers n) may) (h.stand keys.Clearance);
      start = λ p known. start-within version (point_numbers p) (known-stands version keys.Start point_numbers draft.start p (h.stand keys.Start) known);
      goals = λ some. ap (are_goals version) (given_back goal_numbers goal_from (λ goal. refl) boxes)
          ∙ goals-within version (map goal_numbers boxes) (h.stand keys.Goal) (omega (arith, some, length-map boxes goal_numbers)) (h.few keys.Goal);
      step = λ n known. step-within version (amount_numbers n) (known-stands version keys.Step amount_numbers draft.step n (h.stand keys.Step) known);
      gamma = default-stands (λ n. n ≤ MOST_GAMMA) version keys.Gamma 0 draft.gamma (omega arith)
          (λ n may. gamma-within version (amount_numbers n) may) (h.stand keys.Gamma);
      strips = default-stands (IsWithin 1 MOST_STRIPS) version keys.Strips 1 draft.strips (record { above = omega arith; below = omega arith })
          (λ n may. strips-within version (amount_numbers n) may) (h.stand keys.Strips);
      informed = default-stands (λ n. may_be_informed version (eqb n 1) ≡ true) version keys.Informed 0 draft.informed
          (informed-by_number version 0 (omega arith)) (λ n may. informed-by_number version n (informed-within version (amount_numbers n) may))
          (h.stand keys.Informed);
      plan = plan-within version (line_numbers amount_numbers draft.drawn) (map point_numbers points) (h.stand keys.Marks) (h.stand keys.Mark)
          (h.few keys.Mark);
    }
