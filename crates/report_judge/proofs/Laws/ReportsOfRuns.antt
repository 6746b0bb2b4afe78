-- The full report of a settled run that is closed over all marks is a sheet that keeps every law.
use Rattle.report_judge.proofs.Words.{◌≡◌, ℕ, zero, suc, ◌-◌, ◌<◌, ◌≤◌, ◌^◌, Bool, true, false, List, length, map, get_or, Option, Some, None, arith, refl, sym}
use Rattle.report_judge.proofs.Words.{ap, ◌∙◌, subst, inl, inr, All, count_by, is_some, option_map, unwrap_or, reverse, slice_get, slice_index_or}
use Rattle.report_judge.proofs.Words.{range_with_len, cases_lt, length-map, length-reverse, get_or_past, get_or-reverse, All-map, get_or-map-range_with_len}
use Rattle.report_judge.proofs.Words.{length-map-range_with_len, length-range_with_len, count_by-le-length, slice_get-get_or, slice_get_past, slice_get_within}
use Rattle.report_judge.proofs.Words.{get_or_from_slice_get, Point, Blocked, Record, Ending, Steered, Reached, NewNode, SameNode, NoWay, SkippedBy, ending_of}
use Rattle.report_judge.proofs.Words.{Task, Knot, Twig, IsBounded, full_report, path_to, IsClosed, has_outcome, mark_at, is_placed, is_same, is_blocked}
use Rattle.report_judge.proofs.Words.{is_skipped, HasLawfulEnding, ReachesLawfully, Setup, setup_of, unplaced_record, best_node, goals_of, chain_within}
use Rattle.report_judge.proofs.Words.{without_costs, IsPresent, node_count, point_at, point_of, TreeState, AreSameRuns, IsSettled, chain_in, IsPresent-goal}
use Rattle.report_judge.proofs.Words.{best_node-some, numbers-closed, length-marks, IsPresent-stands, StandsAt-present, point_of-stands, node_count-length}
use Rattle.report_judge.proofs.Words.{sum_in-parent, start-present, parent-present, report_text-same, IsClosed-same_run, IsSettled-same, times-once, turn-below}
use Rattle.report_judge.proofs.Words.{IsKnot, kept_cost_of, state_of_lists, FitsRecord-closed, IsBounded-closed, kept-low, present-closed, point_at-lists}
use Rattle.report_judge.proofs.Words.{parent_of-lists, FitsKnot, FitsEntry, FitsTally, FitsSkipped, EndsWithin, ReachesWithin, extent_of, Sheet}
use Rattle.report_judge.proofs.Words.{FitsOptionalPath, HasForm, HasOwnTurn, KeepsNodeLaw, KeepsLaw, best_priced_path, path_by, skipped_of, tally_of}
use Rattle.report_judge.proofs.Words.{IsReportOfRun, IsLawful}
use Rattle.report_judge.proofs.Laws.LawfulSheets.{length-without_costs}
use Rattle.report_judge.proofs.Laws.ListedNodes.{informed_by_goal}
use Rattle.report_judge.proofs.Texts.SheetTexts.{lines_text-sheet}

-- ---- any run as lists

-- a value that is there
some_unwrapped : (o : Option Record) (other : Record) → is_some o ≡ true → Some (unwrap_or o other) ≡ o
some_unwrapped None other h = cc
some_unwrapped (Some entry) other h = refl

-- a chain has at most so many members
length-chain : (most : ℕ) (parents : ℕ → ℕ) (n : ℕ) → length (chain_within most parents n) ≤ most
length-chain zero parents n = omega arith
length-chain (suc most) parents zero = omega arith
length-chain (suc most) parents (suc n) = omega (arith, length-chain most parents (parents (suc n)))

module _
    (task : Task) (state : TreeState) (closed : IsClosed (setup_of task.scene) task.marks (length task.marks) state) (settled : IsSettled state) where
  abbrev limit : ℕ
  limit = length task.marks

  abbrev setup : Setup
  setup = setup_of task.scene

  abbrev knot_by : ℕ → Option Point → Option Knot
  knot_by n None = None
  knot_by n (Some p) = Some (record { point = p; parent = state.parent n; cost = state.cost n })

  knots : List (Option Knot)
  knots = map (λ n. knot_by n (point_at state.points n)) (range_with_len 0 (suc limit))

  abbrev none_yet : Record
  none_yet = unplaced_record 0 0 0 Blocked

  records : List Record
  records = map (λ k. unwrap_or (state.record_of k) none_yet) (range_with_len 0 limit)

  abbrev run : TreeState
  run = state_of_lists knots records

  length-knots : length knots ≡ suc limit
  unfolding knots
  length-knots = length-map-range_with_len (λ n. knot_by n (point_at state.points n)) 0 (suc limit)

  length-records : length records ≡ limit
  unfolding records
  length-records = length-map-range_with_len (λ k. unwrap_or (state.record_of k) none_yet) 0 limit

  knot-below : (n : ℕ) → n < suc limit → slice_index_or knots n None ≡ knot_by n (point_at state.points n)
  unfolding knots
  knot-below n low = get_or-map-range_with_len (λ i. knot_by i (point_at state.points i)) 0 (suc limit) n n None low (omega arith)

  knot-past : (n : ℕ) (o : Option Point) → point_at state.points n ≡ o → suc limit ≤ n → slice_index_or knots n None ≡ knot_by n o
  knot-past n None e past = get_or_past knots n None (omega (arith, past, length-knots))
  knot-past n (Some p) e past = absurd (omega (arith, past, numbers-closed setup task.marks limit state closed n (ap is_some e)))

  knot_at : (n : ℕ) → slice_index_or knots n None ≡ knot_by n (point_at state.points n)
  knot_at n =
      elim (cases_lt n (suc limit)) [
        | inl low ↦ knot-below n low
        | inr past ↦ knot-past n (point_at state.points n) refl past
      ]

  -- the point of a node of the list
  abbrev point_in : Option Knot → Option Point
  point_in o = option_map (λ (knot : Knot). knot.point) o

  point_in-knot_by : (n : ℕ) (o : Option Point) → point_in (knot_by n o) ≡ o
  point_in-knot_by n None = refl
  point_in-knot_by n (Some p) = refl

  abbrev own_knot : ℕ → Knot
  own_knot n = record { point = point_of state.points n; parent = state.parent n; cost = state.cost n }

  knot-present : (n : ℕ) → IsPresent state.points n → slice_index_or knots n None ≡ Some (own_knot n)
  knot-present n h = knot_at n ∙ ap (knot_by n) (StandsAt-present state.points n h)

  record-here : (k : ℕ) → k < limit → slice_get records k ≡ state.record_of k
  unfolding records
  record-here k low =
      slice_get-get_or records k none_yet (omega (arith, low, length-records))
      ∙ ap Some (get_or-map-range_with_len (λ i. unwrap_or (state.record_of i) none_yet) 0 limit k k none_yet low (omega arith))
      ∙ some_unwrapped (state.record_of k) none_yet (closed.records.recorded k low)

  record-same : (k : ℕ) → slice_get records k ≡ state.record_of k
  record-same k =
      elim (cases_lt k limit) [
        | inl low ↦ record-here k low
        | inr past ↦ slice_get_past records k (omega (arith, past, length-records)) ∙ sym (closed.records.none_else k past)
      ]

  -- the lists are the run
  same : AreSameRuns state run
  same = record {
    points = λ n. point_at-lists knots n ∙ ap point_in (knot_at n) ∙ point_in-knot_by n (point_at state.points n);
    parents = λ n h. parent_of-lists knots n (own_knot n) (knot-present n h);
    costs = λ n h. ap kept_cost_of (knot-present n h);
    records = record-same;
  }

  again : IsClosed setup task.marks limit run
  again = IsClosed-same_run setup task.marks limit state run closed same

  settled_again : IsSettled run
  settled_again = IsSettled-same setup state run closed.order same settled

  -- ---- its form

  abbrev sheet : Sheet
  sheet = record { path = best_priced_path task.scene limit run; tally = tally_of task.scene limit run; knots = knots; records = records }

  few_nodes : node_count run.points ≤ suc limit
  few_nodes =
      omega (
        arith,
        node_count-length run.points,
        length-map (without_costs knots) (option_map (λ (node : Twig). node.point)),
        length-without_costs knots,
        length-knots,
      )

  knot_fits : (n : ℕ) (knot : Knot) → IsKnot knots n knot → FitsKnot limit n knot
  knot_fits n knot is =
      let at : slice_index_or knots n None ≡ Some knot = get_or_from_slice_get knots n (Some knot) None is in
      let stands : point_at run.points n ≡ Some knot.point = point_at-lists knots n ∙ ap point_in at in
      let present : IsPresent run.points n = ap is_some stands in
      let up = present-closed task limit run again (run.parent n) (parent-present setup run again.order n present) in
      record {
        number = present-closed task limit run again n present;
        point = subst IsBounded (point_of-stands run.points n knot.point stands) (IsBounded-closed task limit run again n present);
        parent = omega (arith, up, parent_of-lists knots n knot at);
        cost = omega (arith, kept-low task limit run again n present, ap kept_cost_of at);
      }

  record_fits : (k : ℕ) (entry : Record) → slice_get records k ≡ Some entry → FitsEntry (extent_of task) entry
  record_fits k entry is = record {
    words = FitsRecord-closed task limit run again k entry is;
    ended = ended (ending_of entry) (again.lawful k entry is);
  }
    where
      reached : (m : ℕ) (to : Reached) (p : Point) → ReachesLawfully setup run k entry m to p → ReachesWithin limit to
      reached m (NewNode first) p h = present-closed task limit run again first.parent h.by_tree.hangs.present
      reached m (SameNode j) p h = present-closed task limit run again j (IsPresent-stands run.points j p h)
      reached m NoWay p h = tt

      ended : (ending : Ending) → HasLawfulEnding setup run k (mark_at task.marks k) entry ending → EndsWithin (extent_of task) ending
      ended (Steered m to) h = (present-closed task limit run again m h.present, reached m to _ h.outcome)
      ended (SkippedBy g) h = (
        present-closed task limit run again g (IsPresent-goal setup.goals (point_at run.points g) h.goal),
        informed_by_goal task.scene.informed task.scene.goals (point_at run.points g) h.goal,
      )

  count-within : (test : ℕ → Bool) → count_by test (range_with_len 0 limit) < 2 ^ 64
  count-within test = omega (arith, count_by-le-length test (range_with_len 0 limit), length-range_with_len 0 limit, length-marks task)

  skipped_fits : (informed : Bool) → FitsSkipped informed (skipped_of informed limit run)
  skipped_fits false = tt
  skipped_fits true = count-within (λ k. has_outcome is_skipped (run.record_of k))

  tally_fits : FitsTally task.scene.informed (tally_of task.scene limit run)
  tally_fits = record {
    nodes = omega (arith, few_nodes, length-marks task);
    placed = count-within (λ k. has_outcome is_placed (run.record_of k));
    same = count-within (λ k. has_outcome is_same (run.record_of k));
    blocked = count-within (λ k. has_outcome is_blocked (run.record_of k));
    skipped = skipped_fits task.scene.informed;
  }

  -- the points along a chain are bounded
  chain_bounded : (most n : ℕ) → IsPresent run.points n → (k d : ℕ) → k < length (chain_within most run.parent n)
      → IsBounded (point_of run.points (get_or (chain_within most run.parent n) k d))
  chain_bounded zero n h k d low = absurd (omega (arith, low))
  chain_bounded (suc most) zero h zero d low = IsBounded-closed task limit run again 0 h
  chain_bounded (suc most) zero h (suc k) d low = absurd (omega (arith, low))
  chain_bounded (suc most) (suc n) h zero d low = IsBounded-closed task limit run again (suc n) h
  chain_bounded (suc most) (suc n) h (suc k) d low =
      chain_bounded most (run.parent (suc n)) (again.order.hangs n h).present k d (omega (arith, low))

  path_bounded : (n : ℕ) → IsPresent run.points n → All IsBounded (path_to run n)
  path_bounded n h =
      All-map IsBounded (point_of run.points) (reverse (chain_in run n))
      (λ k d low.
      let within : k < length (chain_in run n) = omega (arith, low, length-reverse (chain_in run n)) in
      let back = get_or-reverse (chain_in run n) k d within in
      subst (λ m. IsBounded (point_of run.points m)) (sym back)
      (chain_bounded (node_count run.points) n h (length (chain_in run n) - 1 - k) d (omega (arith, within))))

  path_fits : (o : Option ℕ) → best_node (goals_of task.scene) limit run ≡ o → FitsOptionalPath (path_by run o)
  path_fits None e = tt
  path_fits (Some n) e =
      let best = best_node-some (goals_of task.scene) limit run n (numbers-closed setup task.marks limit run again) e in
      let present = IsPresent-goal (goals_of task.scene) (point_at run.points n) best.member in
      record {
        few =
            omega (
              arith,
              length-map (reverse (chain_in run n)) (point_of run.points),
              length-reverse (chain_in run n),
              length-chain (node_count run.points) run.parent n,
              few_nodes,
              length-marks task,
            );
        cost = omega (arith, kept-low task limit run again n present, settled_again n present);
        points = path_bounded n present;
      }

  form : HasForm (extent_of task) sheet
  form = record {
    numbers = length-knots;
    start = start-present setup run again.order;
    counted = refl;
    all_marks = length-records;
    path_fits = path_fits (best_node (goals_of task.scene) limit run) refl;
    tally_fits = tally_fits;
    knots_fit = knot_fits;
    records_fit = record_fits;
  }

  -- ---- its laws

  node_kept : (n : ℕ) → IsPresent run.points n → KeepsNodeLaw setup run n
  node_kept zero h = record { stands = again.order.start_stands; parent = again.order.start_parent; cost = again.order.start_cost }
  node_kept (suc n) h =
      let below = again.order.hangs n h in
      record {
        alone = λ m low stands.
            let e = again.order.distinct m (suc n) (point_of run.points (suc n)) stands (StandsAt-present run.points (suc n) h) in
            omega (arith, low, e);
        present = below.present;
        other = below.other;
        edge = below.edge;
        exact =
            omega (
              arith,
              settled_again (suc n) h,
              settled_again (run.parent (suc n)) below.present,
              sum_in-parent setup run again.order n h,
            );
      }

  turn_kept : (k : ℕ) (entry : Record) → slice_get records k ≡ Some entry → HasOwnTurn limit (slice_get records) k entry
  turn_kept k entry is =
      let low : k < limit = omega (arith, slice_get_within records k entry is, length-records) in
      record {
        once = λ j other before g worker turn.
            let also : j < limit = omega (arith, before, low) in
            let e = times-once run.record_of limit again.turns entry.worker entry.turn j k other entry also low g is worker turn refl refl in
            omega (arith, before, e);
        below = turn-below run.record_of limit again.turns k entry low is;
      }

  kept : (law : ℕ) → KeepsLaw task sheet law
  kept law line = record {
    node = λ is n h at. node_kept n h;
    turn = λ is k entry h at. turn_kept k entry h;
    presence = λ is k entry h at. again.placed k ∙ ap (has_outcome is_placed) h;
    lawful = λ is k entry h at. again.lawful k entry h;
    head = λ is i low at. refl;
  }

  pub IsLawful-run : (report : List ℕ) → report ≡ full_report task.scene limit state → IsLawful task report
  IsLawful-run report text = record {
    sheet = sheet;
    spelled = record {
      form = form;
      text =
          text ∙ sym (report_text-same setup state run closed.order same task.scene limit true)
          ∙ sym (lines_text-sheet task.scene limit sheet settled_again length-knots length-records refl);
    };
    kept = kept;
  }

-- The report of a run breaks no law.
pub IsLawful-report : (task : Task) (report : List ℕ) → IsReportOfRun task report → IsLawful task report
IsLawful-report task report of_run = IsLawful-run task of_run.state of_run.closed of_run.settled report of_run.text
