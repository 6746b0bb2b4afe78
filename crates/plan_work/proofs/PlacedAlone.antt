-- A pass that works alone places a node, or finds one at its point: the mark is handled as in the textbook.
use Rattle.plan_work.proofs.Words.{◌≡◌, ℕ, suc, ◌+◌, ◌<◌, ◌≤◌, ◌^◌, Some, None, [], ◌∷◌, ◌++◌, length, arith, refl, sym, ap, ◌∙◌, subst, inl, inr, All}
use Rattle.plan_work.proofs.Words.{Contains, List, Option, cases_lt, All-cons, All-contains, Contains-get_or, Clear}
use Rattle.plan_work.proofs.Words.{ClearAt, mark_at, space_of, IsFirstLeast, IsOpenTo, IsFree, IsPresent, node_count, point_at, point_of, class_of, Handles}
use Rattle.plan_work.proofs.Words.{IsBestParent, Nodes, Rewires, Setup, SteersTo, near_new, cost_through, points_of, NewNode, SameNode, ending_of, Point}
use Rattle.plan_work.proofs.Words.{Record, candidate-reachable, IsPresent-stands, PlacesNode, Contains-after, Contains-first, ConfigurationSpace}
use Rattle.plan_work.proofs.Words.{cost_in-tree_word, parent_in-tree_word, FirstOf, PointOf, RecordOf, TreeOf, best_word, cost_in, parent_in}
use Rattle.plan_work.proofs.Words.{point_of_word, tree_word, numbers_of, HasPostedGoals-more, HasPostedGoals-step, lies-at, HasPostedGoals, PassState}
use Rattle.plan_work.proofs.Words.{SharedState, turn_of, worker_of, Contains-cases, point_at-seen, has_link, SeesPoint, run_sizes, sees, setup_in, tree_seen}
use Rattle.plan_work.proofs.Words.{SeesGoal, HasRecorded, IsTried, KeepsRecords, MayPlace, hung_by, given_by, own_placed, own_unplaced, placed_hand}
use Rattle.plan_work.proofs.Words.{IsNotSkippedIn, SeesTextbook, WorksAlone, IsFilledWhole, IsSteeredWhole, IsTriedWhole, Hanging, Hand, SharedRun, View}
use Rattle.plan_work.proofs.Words.{stands_later, Mirrors, IsInReach, NamesLoweredOrPoint, SeesAnew, seen_cost_through}
use Rattle.kd_shared.specs.declared.placing.Placing.TheVariants.{Placed, Same}
use Rattle.plan_model.specs.declared.records.Outcome.TheVariants.{Same as SameMark}
use Rattle.plan_work.proofs.AloneMarks.{KeepsRun, SeesTextbook-recorded, WorksAlone-recorded}
use Rattle.plan_work.proofs.EqualPoints.{count-same, near_new-same}
use Rattle.plan_work.proofs.LoneRuns.{point_at-seen_past}
use Rattle.plan_work.proofs.MirroredTrees.{IsBestParent-mirrored, Mirrors-absent, Mirrors-placed, Mirrors-still, SeesNewNode, SteersTo-mirrored}
use Rattle.plan_work.proofs.MirroredTrees.{seen_cost_through-mirrored, point_of-mirrored}
use Rattle.plan_work.proofs.TextbookSteps.{Handles-steered, KeepsOrder-run, RecordsNext-run}
use Rattle.plan_work.proofs.SkippedAlone.{MayBeCheaper-mirrored}
use Rattle.plan_work.proofs.SkippedMarks.{has_first-placed, held_on}

-- where a node is seen goes by its own word
point_kept : (before after : View) → after.run ≡ before.run → (n : ℕ) → sees after (PointOf n) ≡ sees before (PointOf n)
    → point_at (tree_seen after).points n ≡ point_at (tree_seen before).points n
point_kept before after run n same =
    let marks = ap (λ r. (run_sizes r).marks) run in
    elim (cases_lt (length before.run.marks) n) [
      | inr within ↦
          point_at-seen (run_sizes after.run) (sees after) n (omega (arith, within, marks)) ∙ ap point_of_word same
          ∙ sym (point_at-seen (run_sizes before.run) (sees before) n within)
      | inl past ↦
          point_at-seen_past (run_sizes after.run) (sees after) n (omega (arith, past, marks))
          ∙ sym (point_at-seen_past (run_sizes before.run) (sees before) n past)
    ]

-- ---- a node at the point

module _
    (shared : SharedState) (before tried done : PassState) (k m j : ℕ) (p : Point) (hanging : Hanging) (entry : Record)
    (may : MayPlace shared before k m p) (keeps : KeepsRecords shared before tried) (is_tried : IsTried before tried may.hand (Same j) hanging)
    (whole : IsTriedWhole (space_of shared.task.scene) before.view tried.view k p m (numbers_of before.lists.search.found) (Same j) hanging)
    (recorded : HasRecorded shared tried done entry) (is : entry ≡ own_unplaced tried.view m (SameMark j))
    (steers : IsSteeredWhole before.view k m p) (alone : WorksAlone before.view k) (book : SeesTextbook before.view k)
    (cheaper : IsNotSkippedIn before.view k) where
  same_run : KeepsRun before.view tried.view k
  same_run = record {
    run = keeps.goes_on.later.run;
    crew = keeps.crew;
    records = keeps.records;
    firsts = λ i apart. (whole.others (suc i)).first;
  }

  same_mirrors : Mirrors tried.view book.tree
  same_mirrors =
      Mirrors-still before.view tried.view keeps.goes_on.later.run (λ n. (whole.others n).point) (λ n. (whole.others n).tree) book.tree book.nodes

  same_posted : HasPostedGoals tried.view
  same_posted =
      HasPostedGoals-step before.view tried.view keeps.goes_on.later (λ n. (whole.others n).point)
      (λ n goal changed. absurd (changed (whole.others n).tree)) book.best

  same_handles : Handles (setup_in before.view.run) book.tree k (mark_at before.view.run.marks k) entry (book.tree ++ None ∷ [])
  same_handles =
      let crew : tried.view.crew ≡ record { worker = 0; turn = k } ∷ [] = keeps.crew ∙ alone.crew in
      Handles-steered (setup_in before.view.run) book.tree k m (mark_at before.view.run.marks k) p entry (SameNode j) (book.tree ++ None ∷ [])
      (MayBeCheaper-mirrored before.view book.tree book.nodes k cheaper)
      (SteersTo-mirrored before.view book.tree book.nodes (mark_at before.view.run.marks k) p m steers)
      (recorded.worker ∙ ap worker_of crew) (recorded.turn ∙ ap turn_of crew) (ap ending_of is)
      (sym (same_mirrors.points j) ∙ subst (SeesPoint tried.view j) may.pointed.point is_tried.came.stands, refl)

  pub AloneNext-same : WorksAlone done.view (suc k) × SeesTextbook done.view (suc k)
  AloneNext-same = (
    WorksAlone-recorded shared before.view tried done (hung_by may.hand hanging) k entry recorded is_tried.came.unchanged may.mark same_run alone,
    SeesTextbook-recorded shared before.view tried done (hung_by may.hand hanging) k entry recorded is_tried.came.unchanged may.mark same_run book
        (book.tree ++ None ∷ []) same_handles (Mirrors-absent tried.view book.tree same_mirrors) same_posted,
  )

-- ---- a node that is placed

-- the best of some candidates is the best of a list of the same ones
IsFirstLeast-of : (space : ConfigurationSpace) (points : List (Option Point)) (p : Point) (key : ℕ → ℕ) (m f : ℕ) (one other : List ℕ)
    → ((n : ℕ) → Contains one n → Contains other n) → ((n : ℕ) → Contains other n → Contains one n)
    → IsFirstLeast key (IsOpenTo space points p (m ∷ one)) f → IsFirstLeast key (IsOpenTo space points p (m ∷ other)) f
IsFirstLeast-of space points p key m f one other to back h = record {
  member = record { among = moved one other to f h.member.among; clear = h.member.clear };
  not_above = λ i own. h.not_above i (record { among = moved other one back i own.among; clear = own.clear });
}
  where
    moved : (ms ns : List ℕ) → ((n : ℕ) → Contains ms n → Contains ns n) → (n : ℕ) → Contains (m ∷ ms) n → Contains (m ∷ ns) n
    moved ms ns within n on = elim (Contains-cases m n ms on) [
      | inl same ↦ subst (Contains (m ∷ ns)) same (Contains-first m ns)
      | inr more ↦ Contains-after m ns n (within n more)
    ]

module _
    (shared : SharedState) (before tried : PassState) (k m : ℕ) (p : Point) (hanging : Hanging) (may : MayPlace shared before k m p)
    (keeps : KeepsRecords shared before tried) (is_tried : IsTried before tried may.hand Placed hanging)
    (whole : IsTriedWhole (space_of shared.task.scene) before.view tried.view k p m (numbers_of before.lists.search.found) Placed hanging)
    (reach : All (IsInReach before.view p) (numbers_of before.lists.search.found)) (steers : IsSteeredWhole before.view k m p)
    (filled : IsFilledWhole before.view p hanging.class before.lists.search.found) (book : SeesTextbook before.view k)
    (start_clear : ClearAt (setup_in before.view.run).space before.view.run.start) where
  abbrev tree : Nodes
  tree = book.tree

  abbrev setup : Setup
  setup = setup_in before.view.run

  abbrev f : ℕ
  f = hanging.parent.node

  abbrev counted_hand : Hand
  counted_hand = placed_hand tried.view (hung_by may.hand hanging)

  space : space_of shared.task.scene ≡ setup.space
  space = ap (λ (r : SharedRun). (setup_in r).space) (sym may.belongs.run)

  stands : SeesPoint tried.view (suc k) p
  stands =
      subst (λ q. SeesPoint tried.view (suc k) q) may.pointed.point
      (subst (λ n. SeesPoint tried.view (suc n) may.hand.point) may.mark is_tried.came.stands)

  -- no node stood there: it would be the new one, which had not been seen
  free : IsFree (points_of tree) p
  free j own =
      let seen : SeesPoint before.view j p = book.nodes.points j ∙ own in
      let new : j ≡ suc k = keeps.goes_on.lawful.distinct j (suc k) p (stands_later before.view tried.view keeps.goes_on j p seen) stands in
      let number : j ≡ suc may.hand.mark = omega (arith, new, may.mark) in
      let present : IsPresent (tree_seen before.view).points (suc may.hand.mark) =
      subst (IsPresent (tree_seen before.view).points) number (IsPresent-stands (tree_seen before.view).points j p seen) in
      keeps.goes_on.was_lawful.unseen may.hand may.held (ap has_link may.pointed.stage)
      (keeps.goes_on.was_lawful.tree.rooted.points (suc may.hand.mark) present)

  steers_tree : SteersTo setup (points_of tree) (mark_at before.view.run.marks k) m p
  steers_tree = SteersTo-mirrored before.view tree book.nodes (mark_at before.view.run.marks k) p m steers

  pub near_is : near_new setup (tree_seen before.view).points p ≡ near_new setup (points_of tree) p
  near_is = near_new-same (tree_seen before.view).points (points_of tree) book.nodes.points setup p

  -- the best of those found is the best of the near ones
  least_near : IsFirstLeast (seen_cost_through before.view p) (IsOpenTo setup.space (tree_seen before.view).points p (m ∷ near_new setup (points_of tree) p)) f
  least_near =
      subst (λ ns. IsFirstLeast (seen_cost_through before.view p) (IsOpenTo setup.space (tree_seen before.view).points p (m ∷ ns)) f) near_is
      (IsFirstLeast-of setup.space (tree_seen before.view).points p (seen_cost_through before.view p) m f (numbers_of before.lists.search.found)
      (near_new setup (tree_seen before.view).points p) filled.found_is.only filled.found_is.all
      (subst (λ s. IsFirstLeast (seen_cost_through before.view p)
      (IsOpenTo s (tree_seen before.view).points p (m ∷ numbers_of before.lists.search.found)) f) space whole.best.least))

  near_present : All (IsPresent (tree_seen before.view).points) (near_new setup (points_of tree) p)
  near_present =
      subst (All (IsPresent (tree_seen before.view).points)) near_is
      (λ i d below.
      (All-contains (IsInReach before.view p) (numbers_of before.lists.search.found) _ reach
      (filled.found_is.all _ (Contains-get_or (near_new setup (tree_seen before.view).points p) i d below))).present)

  parent : IsBestParent setup tree m p f
  parent =
      IsBestParent-mirrored before.view tree book.nodes p m f (near_new setup (points_of tree) p) refl
      (All-cons (IsPresent (tree_seen before.view).points) m (near_new setup (points_of tree) p) steers.nearest.member near_present) least_near

  f_present : IsPresent (points_of tree) f
  f_present = (candidate-reachable setup (points_of tree) (mark_at before.view.run.marks k) m p f steers_tree parent.member).present

  cost_is : hanging.parent.cost ≡ cost_through tree p f
  cost_is = whole.best.cost ∙ seen_cost_through-mirrored before.view tree book.nodes p f f_present

  clear_tree : Clear setup.space (point_of (points_of tree) m) p
  clear_tree =
      subst (λ s. Clear s (point_of (points_of tree) m) p) space
      (subst (λ a. Clear (space_of shared.task.scene) a p) (point_of-mirrored before.view tree book.nodes m) may.clear)

  places : (entry : Record) → entry.first_cost ≡ cost_through tree p f → PlacesNode setup tree k f p entry
  places entry cost = record {
    free = free;
    parent = f_present;
    edge = record {
      clear = parent.member.clear;
      short = (candidate-reachable setup (points_of tree) (mark_at before.view.run.marks k) m p f steers_tree parent.member).short;
    };
    cost = cost;
  }

  new_node : SeesNewNode before.view tried.view k f p (cost_through tree p f)
  new_node =
      let fits = keeps.goes_on.lawful.pair_fits counted_hand is_tried.came.counted
      (has_first-placed tried.view.run.goals may.hand.point) in
      let word : sees tried.view (TreeOf (suc k)) ≡ tree_word f hanging.parent.cost =
      ap (λ n. sees tried.view (TreeOf (suc n))) (sym may.mark) ∙ is_tried.came.pair in
      record {
        stands = stands;
        written = omega (arith, word);
        parent = ap parent_in word ∙ parent_in-tree_word f hanging.parent.cost fits.0;
        cost_is = ap cost_in word ∙ cost_in-tree_word f hanging.parent.cost fits.0 fits.1 ∙ cost_is;
        points = λ n apart. point_kept before.view tried.view keeps.goes_on.later.run n (whole.others n apart).point;
        trees = λ n apart. (whole.others n apart).tree;
      }

  below : k < length before.view.run.marks
  below = omega (arith, keeps.goes_on.was_lawful.mark may.hand may.held, may.mark)

  -- the tree with the new node is mirrored
  pub Mirrors-tried : Mirrors tried.view (book.tree ++ Some (record { point = p; parent = hanging.parent.node }) ∷ [])
  Mirrors-tried =
      let entry : Record = own_placed before.view m hanging in
      let within : k ≤ length before.view.run.marks = omega (arith, below) in
      Mirrors-placed setup before.view tried.view tree book.records k f p entry book.nodes
      (RecordsNext-run setup before.view.run.marks k tree book.records within book.run)
      (KeepsOrder-run setup before.view.run.marks k tree book.records within book.run start_clear) (places entry cost_is) new_node

  -- each goal node is posted: the new one by its post, the others were before
  pub HasPostedGoals-tried : HasPostedGoals tried.view
  HasPostedGoals-tried =
      HasPostedGoals-more before.view tried.view keeps.goes_on.later (suc k) (λ n apart. (whole.others n apart).point)
      (λ n apart. (whole.others n apart).tree) new_posted book.best
    where
      fits : (hanging.parent.node < 2 ^ 18) × (hanging.parent.cost < 2 ^ 44)
      fits = keeps.goes_on.lawful.pair_fits counted_hand is_tried.came.counted (has_first-placed tried.view.run.goals may.hand.point)

      word : sees tried.view (TreeOf (suc k)) ≡ tree_word f hanging.parent.cost
      word = ap (λ n. sees tried.view (TreeOf (suc n))) (sym may.mark) ∙ is_tried.came.pair

      new_posted : SeesGoal tried.view (suc k) → tried.view.best ≤ best_word (cost_in (sees tried.view (TreeOf (suc k)))) (suc k)
      new_posted goal =
          let lies = lies-at tried.view (suc k) may.hand.point (subst (λ q. SeesPoint tried.view (suc k) q) (sym may.pointed.point) stands) goal in
          let cost : cost_in (sees tried.view (TreeOf (suc k))) ≡ hanging.parent.cost =
          ap cost_in word ∙ cost_in-tree_word f hanging.parent.cost fits.0 fits.1 in
          omega (arith, is_tried.came.posted lies, cost, may.mark)

  -- ---- rewired and recorded

  module _
      (after done : PassState) (entry : Record) (seen : SeesAnew NamesLoweredOrPoint tried.view after.view) (now : Nodes)
      (rewired : Rewires (space_of shared.task.scene) (book.tree ++ Some (record { point = p; parent = hanging.parent.node }) ∷ []) (suc k)
      (near_new (setup_in before.view.run) (tree_seen before.view).points p) now)
      (mirrors : Mirrors after.view now) (recorded : HasRecorded shared after done entry) (is : entry ≡ own_placed after.view m hanging)
      (alone : WorksAlone before.view k) (cheaper : IsNotSkippedIn before.view k) (posted : HasPostedGoals after.view) where
    crew : after.view.crew ≡ record { worker = 0; turn = k } ∷ []
    crew = seen.kept.crew ∙ keeps.crew ∙ alone.crew

    run_kept : KeepsRun before.view after.view k
    run_kept = record {
      run = seen.goes_on.later.run ∙ keeps.goes_on.later.run;
      crew = seen.kept.crew ∙ keeps.crew;
      records = λ j. seen.others (RecordOf j) (λ no. no) ∙ keeps.records j;
      firsts = λ j apart.
          seen.others (FirstOf (suc j)) (λ no. no)
          ∙ (whole.others (suc j) (λ e. apart (omega (arith, e)))).first;
    }

    class_is : hanging.class ≡ class_of (node_count (points_of tree))
    class_is = filled.class_is ∙ ap class_of (count-same (tree_seen before.view).points (points_of tree) book.nodes.points)

    handles : Handles (setup_in before.view.run) book.tree k (mark_at before.view.run.marks k) entry now
    handles =
        Handles-steered setup tree k m (mark_at before.view.run.marks k) p entry (NewNode (given_by hanging)) now
        (MayBeCheaper-mirrored before.view tree book.nodes k cheaper) steers_tree (recorded.worker ∙ ap worker_of crew) (recorded.turn ∙ ap turn_of crew)
        (ap ending_of is) record {
          free = free;
          clear = clear_tree;
          parent = parent;
          cost = cost_is;
          of_class = class_is;
          rewired =
              subst (λ ns. Rewires setup.space (tree ++ Some (record { point = p; parent = f }) ∷ []) (suc k) ns now) near_is
              (subst (λ s. Rewires s (tree ++ Some (record { point = p; parent = f }) ∷ []) (suc k) (near_new setup (tree_seen before.view).points p) now)
              space rewired);
        }

    held : after.view.hand ≡ Some counted_hand
    held = held_on tried.view after.view (hung_by may.hand hanging) is_tried.came.counted seen.kept.hand seen.goes_on

    pub AloneNext-placed : WorksAlone done.view (suc k) × SeesTextbook done.view (suc k)
    AloneNext-placed = (
      WorksAlone-recorded shared before.view after done counted_hand k entry recorded held may.mark run_kept alone,
      SeesTextbook-recorded shared before.view after done counted_hand k entry recorded held may.mark run_kept book now handles mirrors posted,
    )
