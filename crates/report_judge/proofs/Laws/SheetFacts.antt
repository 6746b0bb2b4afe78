-- What the form of a sheet and the laws that it keeps say of its lists.
use Rattle.report_judge.proofs.Words.{◌≡◌, ℕ, zero, suc, ◌<◌, true, eqb, ltb, arith, List, [], length, Option, Some, None, refl, sym, ◌∙◌, inl, inr, ◌≤◌, subst}
use Rattle.report_judge.proofs.Words.{◌&&◌, slice_get, slice_index_or, and_parts, cases_order, slice_get_within, MOST_MARKS, MOST_NODES, Record, Task, Knot}
use Rattle.report_judge.proofs.Words.{is_placed, is_earlier_record, Setup, setup_of, ClearAt, IsPresent, TreeState, length-marks, KeepsOrder-falls}
use Rattle.report_judge.proofs.Words.{parent-present, state_of_lists, IsKnot-at, FitsEdges, HasFewTurns, KeepsPresence, KeepsTurn, HaveLowTurns, IsSettledList}
use Rattle.report_judge.proofs.Words.{ArePresent, FitFirstCosts, Extent, extent_of, Sheet, HasForm, number_of_mark_line, number_of_node_line, HaveOwnTurns}
use Rattle.report_judge.proofs.Words.{HasOwnTurn, KeepsLaw, KeepsNodeLaw}
use Rattle.report_judge.proofs.Laws.SheetTrees.{IsSettled-sound, KeepsOrder-sound}

-- ---- form

module _ (extent : Extent) (sheet : Sheet) (form : HasForm extent sheet) where
  pub knots_fit : (n : ℕ) (other : Knot) → slice_index_or sheet.knots n None ≡ Some other → FitsEdges other
  knots_fit n other is =
      let fits = form.knots_fit n other (IsKnot-at sheet.knots n other is) in
      record { point = fits.point; cost = fits.cost }

  pub few_turns : (k : ℕ) (entry : Record) → slice_get sheet.records k ≡ Some entry → HasFewTurns entry
  few_turns k entry is =
      let fits = form.records_fit k entry is in
      record { worker = fits.words.word.worker; turn = fits.words.word.turn }

  pub first_costs : FitFirstCosts sheet.records
  first_costs = λ k entry is. (form.records_fit k entry is).words.cost

-- ---- nodes

-- costs that keep the law of nodes are sums, and fall along parents
pub IsSettledList-sound : (setup : Setup) (knots : List (Option Knot)) → ClearAt setup.space setup.start → IsPresent (state_of_lists knots []).points 0
    → ((n : ℕ) → IsPresent (state_of_lists knots []).points n → KeepsNodeLaw setup (state_of_lists knots []) n) → IsSettledList knots
IsSettledList-sound setup knots clear start kept =
    let run : TreeState = state_of_lists knots [] in
    let order = KeepsOrder-sound setup run clear start kept in
    record {
      fall = record {
        start = start;
        parent = λ n here. parent-present setup run order (suc n) here;
        falls = λ n here. KeepsOrder-falls setup run order n here;
      };
      settled = IsSettled-sound setup run clear start kept;
    }

-- ---- turns

module _ (records : List Record) (kept : (k : ℕ) → k < length records → KeepsTurn records k) where
  apart : (j k : ℕ) (one other : Record) → j < k → slice_get records j ≡ Some one → slice_get records k ≡ Some other → one.worker ≡ other.worker
      → one.turn ≡ other.turn → ⊥
  apart j k one other before is also worker turn =
      (kept k (slice_get_within records k other also) other also).once j one before is worker turn

  pub HaveOwnTurns-kept : HaveOwnTurns records
  HaveOwnTurns-kept j k one other is also worker turn =
      elim (cases_order j k) [
        | inl e ↦ e
        | inr (inl before) ↦ absurd (apart j k one other before is also worker turn)
        | inr (inr past) ↦ absurd (apart k j other one past also is (sym worker) (sym turn))
      ]

  pub HaveLowTurns-kept : HaveLowTurns records
  HaveLowTurns-kept k entry is = (kept k (slice_get_within records k entry is) entry is).below

-- ---- presence

placed_record : (entry : Record) (o : Option Record) → is_earlier_record entry o ≡ true → (other : Record) × (o ≡ Some other) × (is_placed other.outcome ≡ true)
placed_record entry None h = absurd (cc)
placed_record entry (Some other) h = (other, refl, (and_parts (is_placed other.outcome) (eqb other.worker entry.worker && ltb other.turn entry.turn) h).0)

pub ArePresent-kept : (knots : List (Option Knot)) (records : List Record) → IsPresent (state_of_lists knots records).points 0
    → ((k : ℕ) → k < length records → KeepsPresence knots records k) → ArePresent (state_of_lists knots records)
ArePresent-kept knots records start kept entry zero h = start
ArePresent-kept knots records start kept entry (suc k) h =
    let found = placed_record entry (slice_get records k) h in
    kept k (slice_get_within records k found.0 found.1) found.0 found.1 ∙ found.2

-- ---- laws kept line by line

module _ (task : Task) (sheet : Sheet) (form : HasForm (extent_of task) sheet) where
  pub few_records : length sheet.records ≤ MOST_MARKS
  few_records = omega (arith, form.all_marks, length-marks task)

  pub few_knots : length sheet.knots ≤ MOST_NODES
  few_knots = omega (arith, form.numbers, length-marks task)

  pub numbers : length sheet.knots ≡ suc (length sheet.records)
  numbers = omega (arith, form.numbers, form.all_marks)

  -- the law of nodes does not depend on the records
  listed_law : (records : List Record) (n : ℕ) → KeepsNodeLaw (setup_of task.scene) (state_of_lists sheet.knots records) n
      → KeepsNodeLaw (setup_of task.scene) (state_of_lists sheet.knots []) n
  listed_law records zero h = record { stands = h.stands; parent = h.parent; cost = h.cost }
  listed_law records (suc n) h = record { alone = h.alone; present = h.present; other = h.other; edge = h.edge; exact = h.exact }

  pub settled_of_law : ClearAt (setup_of task.scene).space task.scene.start → KeepsLaw task sheet 2 → IsSettledList sheet.knots
  settled_of_law clear kept =
      IsSettledList-sound (setup_of task.scene) sheet.knots clear form.start
      (λ n here. listed_law sheet.records n ((kept (number_of_node_line sheet n)).node refl n here refl))

  pub turns_of_law : KeepsLaw task sheet 3 → (k : ℕ) → k < length sheet.records → KeepsTurn sheet.records k
  turns_of_law kept k low entry is =
      subst (λ m. HasOwnTurn m (slice_get sheet.records) k entry) (sym form.all_marks) ((kept (number_of_mark_line sheet k)).turn refl k entry is refl)

  pub presence_of_law : KeepsLaw task sheet 4 → (k : ℕ) → k < length sheet.records → KeepsPresence sheet.knots sheet.records k
  presence_of_law kept k low entry is = (kept (number_of_mark_line sheet k)).presence refl k entry is refl
