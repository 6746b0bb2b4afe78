-- The first line that breaks a law of nodes or marks is that of the first node or mark that does.
use Rattle.report_judge.proofs.Words.{◌≡◌, ℕ, suc, ◌<◌, ◌≤◌, cond, List, length, take, Option, Some, None, arith, refl, subst, inl, inr, is_some, count_by}
use Rattle.report_judge.proofs.Words.{slice_get, cases_lt, slice_get_within, Record, Task, Knot, mark_at, IsLawfulRecord, setup_of, IsPresent, IsFirstBreak}
use Rattle.report_judge.proofs.Words.{KeepsHead, KeepsPresence, extent_of, Sheet, SpellsSheet, head_lines, state_of_sheet, number_of_node_line}
use Rattle.report_judge.proofs.Words.{number_of_mark_line, KeepsNodeLaw, HasOwnTurn, KeepsLawAt, KeepsLaw, best_priced_path, tally_of, BreaksLawFirst, IsLawful}
use Rattle.report_judge.proofs.Words.{ap, sum_by-take-le, take-take, ◌≢◌, ◌⊎◌}

-- nothing is asked of a law by another number
apart : {A : Type 0} {m n : ℕ} → m ≢ n → m ≡ n → A
apart other is = absurd (other is)

module _ (task : Task) (sheet : Sheet) where
  -- what the law of nodes asks, by the number of a node
  abbrev pub KeepsNodes : ℕ → Type 0
  KeepsNodes n = IsPresent (state_of_sheet sheet).points n → KeepsNodeLaw (setup_of task.scene) (state_of_sheet sheet) n

  -- what the law of turns asks, by the number of a mark
  abbrev pub KeepsTurns : ℕ → Type 0
  KeepsTurns k = (entry : Record) → slice_get sheet.records k ≡ Some entry → HasOwnTurn (length task.marks) (slice_get sheet.records) k entry

  -- what the law of records asks, by the number of a mark
  abbrev pub KeepsRecords : ℕ → Type 0
  KeepsRecords k = (entry : Record) → slice_get sheet.records k ≡ Some entry
      → IsLawfulRecord (setup_of task.scene) (state_of_sheet sheet) k (mark_at task.marks k) entry

  -- the lines that the head should have
  abbrev pub KeepsHeads : ℕ → Type 0
  KeepsHeads =
      KeepsHead sheet.path sheet.tally (best_priced_path task.scene (length task.marks) (state_of_sheet sheet))
      (tally_of task.scene (length task.marks) (state_of_sheet sheet))

  abbrev head_count : ℕ
  head_count = length (head_lines sheet.path sheet.tally)

  -- a law is kept at a line if the node, the mark or the line of the head that it is asked of keeps it
  law_at : (law line : ℕ) → (law ≡ 2 → (n : ℕ) → line ≡ number_of_node_line sheet n → KeepsNodes n)
      → (law ≡ 3 → (k : ℕ) → line ≡ number_of_mark_line sheet k → KeepsTurns k)
      → (law ≡ 4 → (k : ℕ) → line ≡ number_of_mark_line sheet k → KeepsPresence sheet.knots sheet.records k)
      → (law ≡ 5 → (k : ℕ) → line ≡ number_of_mark_line sheet k → KeepsRecords k)
      → (law ≡ 6 → (i : ℕ) → i < head_count → line ≡ suc i → KeepsHeads i) → KeepsLawAt task sheet law line
  law_at law line node turn presence lawful head = record {
    node = λ is n h at. node is n at h;
    turn = λ is k entry h at. turn is k at entry h;
    presence = λ is k entry h at. presence is k at entry h;
    lawful = λ is k entry h at. lawful is k at entry h;
    head = head;
  }

  -- no line is asked for a law below that of nodes, or above that of the head
  KeepsLaw-other : (law : ℕ) → (law < 2) ⊎ (6 < law) → KeepsLaw task sheet law
  KeepsLaw-other law out line =
      law_at law line (apart (omega (arith, out))) (apart (omega (arith, out))) (apart (omega (arith, out))) (apart (omega (arith, out)))
      (apart (omega (arith, out)))

  -- ---- laws of marks

  -- the law is asked of the lines of marks alone, and says this of them
  pub record IsMarkLaw (law : ℕ) (Keeps : ℕ → Type 0) : Type 0 where
    pub at : (line : ℕ) → ((k : ℕ) → line ≡ number_of_mark_line sheet k → Keeps k) → KeepsLawAt task sheet law line
    pub only : (k : ℕ) → KeepsLawAt task sheet law (number_of_mark_line sheet k) → Keeps k
    pub past : (k : ℕ) → length sheet.records ≤ k → Keeps k

  pub turns_law : IsMarkLaw 3 KeepsTurns
  turns_law = record {
    at = λ line keeps. law_at 3 line (apart (omega arith)) (λ is. keeps) (apart (omega arith)) (apart (omega arith)) (apart (omega arith));
    only = λ k kept entry h. kept.turn refl k entry h refl;
    past = λ k past entry h. absurd (omega (arith, past, slice_get_within sheet.records k entry h));
  }

  pub presence_law : IsMarkLaw 4 (KeepsPresence sheet.knots sheet.records)
  presence_law = record {
    at = λ line keeps. law_at 4 line (apart (omega arith)) (apart (omega arith)) (λ is. keeps) (apart (omega arith)) (apart (omega arith));
    only = λ k kept entry h. kept.presence refl k entry h refl;
    past = λ k past entry h. absurd (omega (arith, past, slice_get_within sheet.records k entry h));
  }

  pub records_law : IsMarkLaw 5 KeepsRecords
  records_law = record {
    at = λ line keeps. law_at 5 line (apart (omega arith)) (apart (omega arith)) (apart (omega arith)) (λ is. keeps) (apart (omega arith));
    only = λ k kept entry h. kept.lawful refl k entry h refl;
    past = λ k past entry h. absurd (omega (arith, past, slice_get_within sheet.records k entry h));
  }

  -- a law that each mark keeps is kept at each line
  pub KeepsLaw-marks : {law : ℕ} {Keeps : ℕ → Type 0} → IsMarkLaw law Keeps → IsFirstBreak Keeps (length sheet.records) None → KeepsLaw task sheet law
  KeepsLaw-marks own none line =
      own.at line (λ k same. elim (cases_lt k (length sheet.records)) [
        | inl low ↦ none k low
        | inr high ↦ own.past k high
      ])

  -- ---- lesser laws

  lesser_more : (law : ℕ) → ((other : ℕ) → other < law → KeepsLaw task sheet other) → KeepsLaw task sheet law → (other : ℕ) → other < suc law
      → KeepsLaw task sheet other
  lesser_more law lesser own other low =
      elim (cases_lt other law) [
        | inl less ↦ lesser other less
        | inr more ↦ (let e : law ≡ other = omega (arith, low, more) in subst (KeepsLaw task sheet) e own)
      ]

  lesser_two : (other : ℕ) → other < 2 → KeepsLaw task sheet other
  lesser_two other low = KeepsLaw-other other (inl low)

  pub lesser_three : KeepsLaw task sheet 2 → (other : ℕ) → other < 3 → KeepsLaw task sheet other
  lesser_three = lesser_more 2 lesser_two

  pub lesser_four : KeepsLaw task sheet 2 → KeepsLaw task sheet 3 → (other : ℕ) → other < 4 → KeepsLaw task sheet other
  lesser_four two = lesser_more 3 (lesser_three two)

  pub lesser_five : KeepsLaw task sheet 2 → KeepsLaw task sheet 3 → KeepsLaw task sheet 4 → (other : ℕ) → other < 5 → KeepsLaw task sheet other
  lesser_five two three = lesser_more 4 (lesser_four two three)

  module _ (report : List ℕ) (spelled : SpellsSheet (extent_of task) report sheet) where
    -- the line of the first mark that breaks a law is the first line that does
    pub BreaksLawFirst-marks : {law : ℕ} {Keeps : ℕ → Type 0} → IsMarkLaw law Keeps → ((other : ℕ) → other < law → KeepsLaw task sheet other) → (k : ℕ)
        → IsFirstBreak Keeps (length sheet.records) (Some k) → BreaksLawFirst task report law (number_of_mark_line sheet k)
    BreaksLawFirst-marks own lesser k first = record {
      sheet = sheet;
      spelled = spelled;
      lesser = lesser;
      before = λ i low. own.at i (λ j same. first.1 j (omega (arith, low, same)));
      broken = λ kept. first.2 (own.only k kept);
    }

  -- ---- the law of nodes

  nodes_at : (line : ℕ) → ((n : ℕ) → line ≡ number_of_node_line sheet n → KeepsNodes n) → KeepsLawAt task sheet 2 line
  nodes_at line keeps = law_at 2 line (λ is. keeps) (apart (omega arith)) (apart (omega arith)) (apart (omega arith)) (apart (omega arith))

  -- a node's line comes after those of the nodes with lesser numbers
  node_line-le : (m n : ℕ) → m ≤ n → number_of_node_line sheet m ≤ number_of_node_line sheet n
  node_line-le m n low =
      let fewer = sum_by-take-le (λ (o : Option Knot). cond {A = ℕ} (is_some o) 1 0) (take n sheet.knots) m in
      omega (arith, fewer, ap (count_by is_some) (take-take m n sheet.knots low))

  pub KeepsLaw-nodes : ((n : ℕ) → IsPresent (state_of_sheet sheet).points n → n < length sheet.knots)
      → IsFirstBreak KeepsNodes (length sheet.knots) None → KeepsLaw task sheet 2
  KeepsLaw-nodes within none line = nodes_at line (λ n at h. none n (within n h) h)

  pub BreaksLawFirst-nodes : (report : List ℕ) → SpellsSheet (extent_of task) report sheet → (n : ℕ)
      → IsFirstBreak KeepsNodes (length sheet.knots) (Some n) → BreaksLawFirst task report 2 (number_of_node_line sheet n)
  BreaksLawFirst-nodes report spelled n first = record {
    sheet = sheet;
    spelled = spelled;
    lesser = lesser_two;
    before = λ i low. nodes_at i (λ m at. elim (cases_lt m n) [
      | inl less ↦ first.1 m less
      | inr more ↦ absurd (omega (arith, low, at, node_line-le n m more))
    ]);
    broken = λ kept. first.2 (λ h. kept.node refl n h refl);
  }

  -- ---- the law of the head

  heads_at : (line : ℕ) → ((i : ℕ) → i < head_count → line ≡ suc i → KeepsHeads i) → KeepsLawAt task sheet 6 line
  heads_at line keeps = law_at 6 line (apart (omega arith)) (apart (omega arith)) (apart (omega arith)) (apart (omega arith)) (λ is. keeps)

  pub KeepsLaw-heads : IsFirstBreak KeepsHeads head_count None → KeepsLaw task sheet 6
  KeepsLaw-heads none line = heads_at line (λ i within at. none i within)

  module _
      (report : List ℕ) (spelled : SpellsSheet (extent_of task) report sheet) (two : KeepsLaw task sheet 2) (three : KeepsLaw task sheet 3)
      (four : KeepsLaw task sheet 4) (five : KeepsLaw task sheet 5) where
    lesser_six : (other : ℕ) → other < 6 → KeepsLaw task sheet other
    lesser_six = lesser_more 5 (lesser_five two three four) five

    -- the first line of the head that is another breaks its law first
    pub BreaksLawFirst-heads : (i : ℕ) → IsFirstBreak KeepsHeads head_count (Some i) → BreaksLawFirst task report 6 (suc i)
    BreaksLawFirst-heads i first = record {
      sheet = sheet;
      spelled = spelled;
      lesser = lesser_six;
      before = λ line low. heads_at line (λ j within at. first.1 j (omega (arith, low, at)));
      broken = λ kept. first.2 (kept.head refl i first.0 refl);
    }

    -- a sheet that keeps the six laws is lawful
    pub IsLawful-six : KeepsLaw task sheet 6 → IsLawful task report
    IsLawful-six six = record {
      sheet = sheet;
      spelled = spelled;
      kept = λ law.
          elim (cases_lt law 7) [
            | inl less ↦ lesser_more 6 lesser_six six law less
            | inr more ↦ KeepsLaw-other law (inr more)
          ];
    }
