-- One mark of a textbook run: a run that was closed before the mark is closed with it.
use Rattle.plan_model.proofs.Words.{◌≡◌, ℕ, suc, ◌+◌, ◌<◌, ◌≤◌, true, false, List, [], ◌∷◌, ◌++◌, length, get_or, Some, None, arith, refl, sym, ap, ◌∙◌, subst}
use Rattle.plan_model.proofs.Words.{inl, inr, All, Contains, slice_get, All-weaker, All-contains, slice_get-get_or, Point, MOST_WORKERS}
use Rattle.plan_model.proofs.Words.{Outcome, Placed, Same, Blocked, Skipped, Record, NewNode, ending_as, ending_of, first_hanging, Clear, cost_of}
use Rattle.plan_model.proofs.Words.{squared_distance, point_at, HasLawfulEnding, point_of, points_of, sum_of, TreeState, GrowsInto, state_of, KeepsOrder}
use Rattle.plan_model.proofs.Words.{is_placed, mark_at, IsClosed, Nodes, Setup, near_new, EndsSteered, Ends, Handles, is_of_worker, turns_of}
use Rattle.std.proofs.Common.{length-append}
use Rattle.std.proofs.lemmas.Bool.{eq-eqb}
use Rattle.plan_model.proofs.CostLaws.{cost_of-swap}
use Rattle.plan_model.proofs.SegmentLaws.{Clear-back}
use Rattle.plan_model.proofs.CountsBelow.{count-all}
use Rattle.plan_model.proofs.DistinctPoints.{length-ends}
use Rattle.plan_model.proofs.NewNodes.{IsPresent-stands, point_of-stands}
use Rattle.plan_model.proofs.TreeStateLaws.{IsPresent-grows, point_of-grows, GrowsInto-trans}
use Rattle.plan_model.proofs.AddedNodes.{AddsNode, GrowsInto-adds, KeepsOrder-adds, KeepsFirstCosts-adds}
use Rattle.plan_model.proofs.ClosedLaws.{KeepsFirstCosts-closed}
use Rattle.plan_model.proofs.NearNodes.{squared_distance-swap, IsReachable, near_new-reachable}
use Rattle.plan_model.proofs.NextRecords.{new_or_recorded}
use Rattle.plan_model.proofs.NextMarks.{EndsLawfully, IsClosed-next, EndsLawfully-unplaced, same_lawfully, blocked_lawfully, skipped_lawfully}
use Rattle.plan_model.proofs.PlacedMarks.{ChoosesParent, LeavesPlaced, parent-reachable, parent-allowed, EndsLawfully-placed}
use Rattle.plan_model.proofs.TextbookStates.{RecordsNext, RecordsMark-push, AddsRecord-unplaced, PlacesNode, sum-placed, AddsNode-placed}
use Rattle.plan_model.proofs.TextbookRewiring.{MayRewire, IsReached, Relaxes, Relaxes-all, AreReached-all}

-- ---- runs so far

-- record j is of worker 0 in its turn j
abbrev pub AreNumbered : List Record → Type 0
AreNumbered records = (j : ℕ) (own : Record) → slice_get records j ≡ Some own → (own.worker ≡ 0) × (own.turn ≡ j)

-- A textbook run that has come to mark k: it is closed there, and each of its records is of worker 0 in its turn.
pub record IsTextbookSoFar (setup : Setup) (marks : List Point) (k : ℕ) (tree : Nodes) (records : List Record) : Type 0 where
  pub next : RecordsNext tree records k
  pub closed : IsClosed setup marks k (state_of tree records)
  pub numbered : AreNumbered records

-- What the end of mark k leaves: a number more in the tree, and a lawful record of worker 0 in its turn k.
pub record EndsInTurn (setup : Setup) (k : ℕ) (tree : Nodes) (records : List Record) (mark : Point) (entry : Record) (after : Nodes)
    : Type 0 where
  pub nodes : length after ≡ suc (suc k)
  pub worker : entry.worker ≡ 0
  pub turn : entry.turn ≡ k
  pub lawfully : EndsLawfully setup (state_of tree records) (state_of after (records ++ entry ∷ [])) k mark entry

module _
    (setup : Setup) (marks : List Point) (k : ℕ) (tree : Nodes) (records : List Record) (entry : Record) (after : Nodes)
    (so_far : IsTextbookSoFar setup marks k tree records) where
  abbrev before_mark : TreeState
  before_mark = state_of tree records

  abbrev after_mark : TreeState
  after_mark = state_of after (records ++ entry ∷ [])

  -- ---- closing

  -- the turn of mark k is the next of worker 0
  next_turn : entry.worker ≡ 0 → entry.turn ≡ k → entry.turn ≡ turns_of (slice_get records) k entry.worker
  next_turn worker turn = turn ∙ sym (count-all (λ j. is_of_worker entry.worker (slice_get records j)) k all)
    where
      all : (j : ℕ) → j < k → is_of_worker entry.worker (slice_get records j) ≡ true
      all j below =
          let own : Record = get_or records j entry in
          let here : slice_get records j ≡ Some own = slice_get-get_or records j entry (omega (arith, below, so_far.next.marks)) in
          ap (is_of_worker entry.worker) here ∙ eq-eqb own.worker entry.worker ((so_far.numbered j own here).0 ∙ sym worker)

  -- The run has come to the next mark.
  IsTextbookSoFar-more :
      (mark : Point) → k < length marks → mark ≡ mark_at marks k → EndsInTurn setup k tree records mark entry after
      → IsTextbookSoFar setup marks (suc k) after (records ++ entry ∷ [])
  IsTextbookSoFar-more mark below at ends =
      let lawfully = subst (λ q. EndsLawfully setup before_mark after_mark k q entry) at ends.lawfully in
      let most : 0 < MOST_WORKERS = omega arith in
      record {
        next = record { nodes = ends.nodes; marks = omega (arith, length-append records (entry ∷ []), so_far.next.marks) };
        closed =
            IsClosed-next setup marks k before_mark so_far.closed after_mark entry lawfully (next_turn ends.worker ends.turn) below
            (omega (arith, most, ends.worker));
        numbered = λ j own h.
            elim (new_or_recorded (slice_get records) (slice_get (records ++ entry ∷ [])) k entry ends.lawfully.records j own h) [
              | inl new ↦ (ap (λ r. r.worker) new.1 ∙ ends.worker, ap (λ r. r.turn) new.1 ∙ ends.turn ∙ sym new.0)
              | inr old ↦ so_far.numbered j own old
            ];
      }

  -- ---- marks that are not placed

  -- A mark that is not placed ends in its turn.
  EndsInTurn-unplaced :
      (mark : Point) (outcome : Outcome) → Handles setup tree k mark entry after → after ≡ tree ++ None ∷ [] → entry.outcome ≡ outcome
      → is_placed outcome ≡ false → HasLawfulEnding setup after_mark k mark entry (ending_as entry outcome)
      → EndsInTurn setup k tree records mark entry after
  EndsInTurn-unplaced mark outcome handled added e unplaced lawful = record {
    nodes = omega (arith, length-ends setup tree k mark (ending_of entry) after handled.ends, so_far.next.nodes);
    worker = handled.worker;
    turn = handled.turn;
    lawfully =
        EndsLawfully-unplaced setup marks k before_mark so_far.closed after_mark entry mark
        (AddsRecord-unplaced tree records k entry so_far.next after added) outcome e unplaced lawful;
  }

  -- ---- placed marks

  module _ (mark : Point) (ends : EndsSteered setup tree k mark entry.nearest (NewNode (first_hanging entry)) after) where
    abbrev p : Point
    p = ends.point

    abbrev f : ℕ
    f = entry.first_parent

    abbrev with_node : Nodes
    with_node = tree ++ Some (record { point = ends.point; parent = entry.first_parent }) ∷ []

    abbrev with_state : TreeState
    with_state = state_of (tree ++ Some (record { point = ends.point; parent = entry.first_parent }) ∷ []) (records ++ entry ∷ [])

    chooses : ChoosesParent setup before_mark mark entry p
    chooses = record {
      cheaper = ends.cheaper;
      steers = ends.steers;
      clear = ends.reaches.clear;
      parent = ends.reaches.parent;
      cost = ends.reaches.cost;
      of_class = ends.reaches.of_class;
    }

    -- ---- the new node

    places : PlacesNode setup tree k f p entry
    places = record {
      free = ends.reaches.free;
      parent = (parent-reachable setup marks k before_mark after_mark mark entry p so_far.closed chooses).present;
      edge = parent-allowed setup marks k before_mark after_mark mark entry p so_far.closed chooses;
      cost = chooses.cost;
    }

    adds : AddsNode setup before_mark with_state (suc k) f p
    adds = AddsNode-placed setup tree records k f p entry so_far.next so_far.closed.order places

    order_with : KeepsOrder setup with_state
    order_with = KeepsOrder-adds setup before_mark with_state (suc k) f p adds so_far.closed.order

    grows_with : GrowsInto before_mark with_state
    grows_with = GrowsInto-adds setup before_mark with_state (suc k) f p adds

    new_point : point_of (points_of with_node) (suc k) ≡ p
    new_point = point_of-stands (points_of with_node) (suc k) p adds.stands

    new_sum : sum_of with_node (suc k) ≡ entry.first_cost
    new_sum = sum-placed setup tree records k f p entry so_far.next so_far.closed.order places ∙ sym chooses.cost

    -- ---- the near nodes

    abbrev near_nodes : List ℕ
    near_nodes = near_new setup (points_of tree) ends.point

    near_reachable : All (IsReachable (points_of tree) p setup.step) near_nodes
    near_reachable = near_new-reachable setup (points_of tree) p

    may_rewire : (i : ℕ) → IsReachable (points_of tree) p setup.step i → MayRewire setup (points_of with_node) (suc k) i
    may_rewire i h =
        let here = point_of-grows before_mark with_state grows_with i h.present in
        let from = ap (λ a. squared_distance a (point_of (points_of with_node) i)) new_point in
        let to = ap (squared_distance p) here in
        record {
          present = IsPresent-grows before_mark with_state grows_with i h.present;
          parent = IsPresent-stands (points_of with_node) (suc k) p adds.stands;
          short = omega (arith, h.short, from, to, squared_distance-swap p (point_of (points_of tree) i));
        }

    all_may_rewire : All (MayRewire setup (points_of with_node) (suc k)) near_nodes
    all_may_rewire =
        All-weaker (IsReachable (points_of tree) p setup.step) (MayRewire setup (points_of with_node) (suc k)) may_rewire near_nodes near_reachable

    relaxes : Relaxes setup with_node after (records ++ entry ∷ [])
    relaxes = Relaxes-all setup with_node (records ++ entry ∷ []) (suc k) near_nodes after order_with all_may_rewire ends.reaches.rewired

    all_reached : All (IsReached setup (points_of with_node) (sum_of after) (sum_of with_node (suc k)) (suc k)) near_nodes
    all_reached = AreReached-all setup with_node (records ++ entry ∷ []) (suc k) near_nodes after order_with all_may_rewire ends.reaches.rewired

    -- no near node with a clear edge is dearer than by way of the new one
    reached : (i : ℕ) → Contains near_nodes i → Clear setup.space (point_of (points_of tree) i) p
        → sum_of after i ≤ entry.first_cost + cost_of (point_of (points_of tree) i) p
    reached i near clear =
        let point : Point = point_of (points_of tree) i in
        let present = (All-contains (IsReachable (points_of tree) p setup.step) near_nodes i near_reachable near).present in
        let other : point_of (points_of with_node) i ≡ point = point_of-grows before_mark with_state grows_with i present in
        let Q : ℕ → Type 0 = IsReached setup (points_of with_node) (sum_of after) (sum_of with_node (suc k)) (suc k) in
        let own : Q i = All-contains Q near_nodes i all_reached near in
        let back : Clear setup.space p point = Clear-back setup.space point p clear in
        let way : Clear setup.space (point_of (points_of with_node) (suc k)) (point_of (points_of with_node) i) =
        subst (λ a. Clear setup.space a (point_of (points_of with_node) i)) (sym new_point) (subst (Clear setup.space p) (sym other) back) in
        let edge = ap (λ a. cost_of a (point_of (points_of with_node) i)) new_point ∙ ap (cost_of p) other ∙ cost_of-swap p point in
        omega (arith, own way, edge, new_sum)

    -- ---- the mark

    leaves : LeavesPlaced setup before_mark after_mark k entry p
    leaves = record {
      records = RecordsMark-push tree records k entry so_far.next;
      order = relaxes.order;
      grows = GrowsInto-trans before_mark with_state after_mark grows_with relaxes.grows;
      firsts =
          relaxes.firsts
          (KeepsFirstCosts-adds setup before_mark with_state (suc k) f p adds (KeepsFirstCosts-closed setup marks k before_mark so_far.closed));
      stands = relaxes.grows.nodes (suc k) p adds.stands;
      elsewhere = λ i apart. ap (λ points. point_at points i) relaxes.points ∙ adds.elsewhere i apart;
      reached = reached;
    }

    -- A placed mark ends in its turn.
    EndsInTurn-placed : Handles setup tree k mark entry after → entry.outcome ≡ Placed → EndsInTurn setup k tree records mark entry after
    EndsInTurn-placed handled placed = record {
      nodes = omega (arith, length-ends setup tree k mark (ending_of entry) after handled.ends, so_far.next.nodes);
      worker = handled.worker;
      turn = handled.turn;
      lawfully = EndsLawfully-placed setup marks k before_mark after_mark mark entry p so_far.closed chooses leaves placed;
    }

  -- ---- each mark

  -- Each mark ends in its turn.
  EndsInTurn-textbook :
      (mark : Point) → Handles setup tree k mark entry after → (outcome : Outcome) → entry.outcome ≡ outcome
      → Ends setup tree k mark (ending_as entry outcome) after → EndsInTurn setup k tree records mark entry after
  EndsInTurn-textbook mark handled Placed e ends = EndsInTurn-placed mark ends handled e
  EndsInTurn-textbook mark handled (Same j) e ends =
      EndsInTurn-unplaced mark (Same j) handled ends.reaches.1 e refl
      (same_lawfully setup marks k before_mark so_far.closed after_mark entry mark
      (AddsRecord-unplaced tree records k entry so_far.next after ends.reaches.1) ends.point entry.nearest ends.cheaper ends.steers j ends.reaches.0)
  EndsInTurn-textbook mark handled Blocked e ends =
      EndsInTurn-unplaced mark Blocked handled ends.reaches.1 e refl
      (blocked_lawfully setup marks k before_mark so_far.closed after_mark entry mark
      (AddsRecord-unplaced tree records k entry so_far.next after ends.reaches.1) ends.point entry.nearest ends.cheaper ends.steers ends.reaches.0)
  EndsInTurn-textbook mark handled Skipped e ends =
      EndsInTurn-unplaced mark Skipped handled ends.added e refl
      (skipped_lawfully setup marks k before_mark so_far.closed after_mark entry mark
      (AddsRecord-unplaced tree records k entry so_far.next after ends.added) entry.nearest (record { goal = ends.best.member; within = ends.within }))

  -- So the run comes to the next mark.
  pub IsTextbookSoFar-ends :
      (mark : Point) → k < length marks → mark ≡ mark_at marks k → Handles setup tree k mark entry after
      → IsTextbookSoFar setup marks (suc k) after (records ++ entry ∷ [])
  IsTextbookSoFar-ends mark below at handled =
      IsTextbookSoFar-more mark below at (EndsInTurn-textbook mark handled entry.outcome refl handled.ends)
