-- Scenes with the same version and the same fields are the same, as each fact about them has one proof at most. So a text spells one scene at
-- most, and a scene is converted to one.
use Rattle.plan_model.proofs.Words.{◌≡◌, ℕ, List, Option, Some, ◌≤◌, IsTrue, sym, ◌∙◌, props, Scene, IsBetween, are_goals, are_obstacles, is_body, is_plan}
use Rattle.plan_model.proofs.Words.{may_be_informed, most_clearance, most_side, most_step, LEAST_SIDE, LEAST_STEP, MOST_GAMMA, MOST_SEED, MOST_STRIPS}
use Rattle.plan_model.proofs.Words.{IsConverted, Format, Given, HasFields, Spells}
use mathlib.Core.HLevel.{is_prop→PathP}

-- two scenes have the same version and the same fields
pub record HaveSameParts (one other : Scene) : Type 0 where
  pub version : one.version ≡ other.version
  pub room : one.room ≡ other.room
  pub body : one.body ≡ other.body
  pub obstacles : one.obstacles ≡ other.obstacles
  pub clearance : one.clearance ≡ other.clearance
  pub start : one.start ≡ other.start
  pub goals : one.goals ≡ other.goals
  pub step : one.step ≡ other.step
  pub gamma : one.gamma ≡ other.gamma
  pub seed : one.seed ≡ other.seed
  pub strips : one.strips ≡ other.strips
  pub informed : one.informed ≡ other.informed
  pub plan : one.plan ≡ other.plan

-- so they are the same scene
pub same_parts : (one other : Scene) → HaveSameParts one other → one ≡ other
same_parts one other h = λ i. record {
  version = h.version i;
  room = h.room i;
  body = h.body i;
  obstacles = h.obstacles i;
  clearance = h.clearance i;
  start = h.start i;
  goals = h.goals i;
  step = h.step i;
  gamma = h.gamma i;
  seed = h.seed i;
  strips = h.strips i;
  informed = h.informed i;
  plan = h.plan i;
  version_low = is_prop→PathP (λ j. 1 ≤ h.version j) (λ j. hlevel props) one.version_low other.version_low i;
  version_high = is_prop→PathP (λ j. h.version j ≤ 2) (λ j. hlevel props) one.version_high other.version_high i;
  room_within = is_prop→PathP (λ j. IsBetween LEAST_SIDE (most_side (h.version j)) (h.room j)) (λ j. hlevel props) one.room_within other.room_within i;
  body_within = is_prop→PathP (λ j. IsTrue (is_body (h.body j))) (λ j. hlevel props) one.body_within other.body_within i;
  obstacles_within = is_prop→PathP (λ j. IsTrue (are_obstacles (h.version j) (h.obstacles j)))
      (λ j. hlevel props) one.obstacles_within other.obstacles_within i;
  clearance_high = is_prop→PathP (λ j. h.clearance j ≤ most_clearance (h.version j)) (λ j. hlevel props) one.clearance_high other.clearance_high i;
  start_within = is_prop→PathP (λ j. IsBetween 0 (most_side (h.version j)) (h.start j)) (λ j. hlevel props) one.start_within other.start_within i;
  goals_within = is_prop→PathP (λ j. IsTrue (are_goals (h.version j) (h.goals j))) (λ j. hlevel props) one.goals_within other.goals_within i;
  step_low = is_prop→PathP (λ j. LEAST_STEP ≤ h.step j) (λ j. hlevel props) one.step_low other.step_low i;
  step_high = is_prop→PathP (λ j. h.step j ≤ most_step (h.version j)) (λ j. hlevel props) one.step_high other.step_high i;
  gamma_high = is_prop→PathP (λ j. h.gamma j ≤ MOST_GAMMA) (λ j. hlevel props) one.gamma_high other.gamma_high i;
  seed_high = is_prop→PathP (λ j. h.seed j ≤ MOST_SEED) (λ j. hlevel props) one.seed_high other.seed_high i;
  strips_low = is_prop→PathP (λ j. 1 ≤ h.strips j) (λ j. hlevel props) one.strips_low other.strips_low i;
  strips_high = is_prop→PathP (λ j. h.strips j ≤ MOST_STRIPS) (λ j. hlevel props) one.strips_high other.strips_high i;
  informed_within = is_prop→PathP (λ j. IsTrue (may_be_informed (h.version j) (h.informed j))) (λ j. hlevel props) one.informed_within other.informed_within i;
  plan_within = is_prop→PathP (λ j. IsTrue (is_plan (h.version j) (h.plan j))) (λ j. hlevel props) one.plan_within other.plan_within i;
}

-- ---- the scene of a text

same_version : (read : Option ℕ) (m n : ℕ) → read ≡ Some m → read ≡ Some n → m ≡ n
same_version read m n e f = cc

same_fields : (read : Option ℕ) (given : Given) (one other : Scene) → HasFields read given one → HasFields read given other → one ≡ other
same_fields read given one other a b = same_parts one other (record {
  version = same_version read one.version other.version a.version b.version;
  room = a.room ∙ sym b.room;
  body = a.body ∙ sym b.body;
  obstacles = a.obstacles ∙ sym b.obstacles;
  clearance = a.clearance ∙ sym b.clearance;
  start = a.start ∙ sym b.start;
  goals = a.goals ∙ sym b.goals;
  step = a.step ∙ sym b.step;
  gamma = a.gamma ∙ sym b.gamma;
  seed = a.seed ∙ sym b.seed;
  strips = a.strips ∙ sym b.strips;
  informed = a.informed ∙ sym b.informed;
  plan = a.plan ∙ sym b.plan;
})

pub Spells-one_scene : (format : Format) (text : List ℕ) (one other : Scene) → Spells format text one → Spells format text other → one ≡ other
Spells-one_scene format text one other a b = same_fields _ _ one other a.fields b.fields

-- ---- a scene that is converted to version 2

pub IsConverted-alone : (scene one other : Scene) → IsConverted scene one → IsConverted scene other → one ≡ other
IsConverted-alone scene one other a b = same_parts one other (record {
  version = a.version ∙ sym b.version;
  room = a.room ∙ sym b.room;
  body = a.body ∙ sym b.body;
  obstacles = a.obstacles ∙ sym b.obstacles;
  clearance = a.clearance ∙ sym b.clearance;
  start = a.start ∙ sym b.start;
  goals = a.goals ∙ sym b.goals;
  step = a.step ∙ sym b.step;
  gamma = a.gamma ∙ sym b.gamma;
  seed = a.seed ∙ sym b.seed;
  strips = a.strips ∙ sym b.strips;
  informed = a.informed ∙ sym b.informed;
  plan = a.plan ∙ sym b.plan;
})

-- a scene of version 2 is converted to itself
pub IsConverted-itself : (scene converted : Scene) → scene.version ≡ 2 → IsConverted scene converted → converted ≡ scene
IsConverted-itself scene converted second h = same_parts converted scene (record {
  version = h.version ∙ sym second;
  room = h.room;
  body = h.body;
  obstacles = h.obstacles;
  clearance = h.clearance;
  start = h.start;
  goals = h.goals;
  step = h.step;
  gamma = h.gamma;
  seed = h.seed;
  strips = h.strips;
  informed = h.informed;
  plan = h.plan;
})
