-- The node of the mark in hand: its point, its first word and its tree word are written, it is linked, and it is counted. Later the cost of a node
-- is lowered. Each step keeps the law of worlds.
use Rattle.step_core.proofs.Words.{◌≡◌, ◌≢◌, ◌+◌, ◌<◌, ◌≤◌, ◌^◌, ◌∷◌, ◌∙◌, ◌⊎◌, ◌==◌, ℕ, zero, suc, Bool, true, false, List, length, set, Option, Some, None}
use Rattle.step_core.proofs.Words.{refl, sym, ap, subst, inl, inr, arith, is_some, some, get_elem?, IsBounded, mark_at, GrowsInto, EndsBelow, Point}
use Rattle.step_core.proofs.Words.{children_of_words, is_linked, AreBehind, Word, Words, WritesWord, Best, ChildOf, Count, Counter, FirstOf, PointOf, RecordOf}
use Rattle.step_core.proofs.Words.{TreeOf, place_of, point_of_word, point_word, tree_word, point_of_word-packed, AreBehind-trans, IsLater, IsLoaded}
use Rattle.step_core.proofs.Words.{IsUnskipped, linked_points, has_count, has_first, has_link, has_point, has_tree, counted, half, linked, pair_in_hand}
use Rattle.step_core.proofs.Words.{place_in, pointed, stepped, steps_then, treed, IsSteered, LeadsTo, MayHang, SeesPoint, SeesTree, IsViewOf, holds, run_sizes}
use Rattle.step_core.proofs.Words.{sees, share, IsNodeWord, Hands, IsFirstOf, IsTold, IsWorld, counters, state_in, Hand, Note, SharedRun, Claimed, Counted}
use Rattle.step_core.proofs.Words.{Half, Linked, Pointed, Posted, Treed, View, IsMoment, Moment, IsSome, MayBecome, Falling, HasWord, cost_in, tree_of_word}
use Rattle.step_core.proofs.Words.{cost_in-tree_word, lowered, MayLower, SeesNode, is_recorded}
use Rattle.step_core.proofs.Parts.HandsAt.{holds_at-stays, blank-held, first-held, tree-held}
use Rattle.step_core.proofs.Parts.HungNodes.{IsFirstOf-hang, IsLowered, IsLowered-seen}
use Rattle.step_core.proofs.OneView.LaterViews.{IsLater-linked, IsLater-saw}
use Rattle.step_core.proofs.OneView.LawfulSights.{EndsBelow-leads, IsBounded-steered, is_linked-seen, tree_of_word-written}
use Rattle.step_core.proofs.Parts.LinkedStates.{few_nodes, unlinked-childless}
use Rattle.step_core.proofs.OneView.LinkedViews.{AreBehind-linked, AreBehind-shown, AreInHand, HaveWholePairs-linked, IsFair-linked, IsViewOf-linked, MayShow}
use Rattle.step_core.proofs.OneView.LinkedViews.{MayShow-behind, WritesWord-look_linked, WritesWord-zero_linked, sees-linked, ShowsNode, by_shown}
use Rattle.step_core.proofs.Seen.Looks.{same_name, AreBehind-write, HaveWholePairs-write}
use Rattle.step_core.proofs.OneView.SeenTreesOfViews.{SeesTree-linked, SeesTree-on, SeesTree-pointed, SeesTree-lowered}
use Rattle.step_core.proofs.Parts.WorldBests.{FollowsHand, FollowsHand-stage, KeepsBest, FollowsHand-refl}
use Rattle.step_core.proofs.Parts.WorldCopies.{Copies-linked, Copies-untold, Copies-seen}
use Rattle.step_core.proofs.Parts.NotedSteps.{KeepsNotes-kept, KeepsNotes-linked, KnowsAsBefore-table, LeavesNotes-none, LeavesNotes-one, shown-none, shown-one}
use Rattle.step_core.proofs.Parts.Shifts.{IsShift, Shift, shift_at}
use Rattle.step_core.proofs.Parts.WorldNotes.{IsWrittenTree, SeesAsItIs, last_zero-saw}
use Rattle.step_core.proofs.Parts.WorldHands.{Hands-on, Hands-pointed, Hands-step}
use Rattle.step_core.proofs.Parts.WorldLinks.{KeepsLinks, LinkedTree-counted, LinkedTree-kept, LinkedTree-linked, is_linked-others, unlinked-held, LinksNode}
use Rattle.step_core.proofs.Parts.WorldPairs.{IsFirstOf-grows, IsFirstOf-stage, Pairs-hand, Pairs-same}
use Rattle.step_core.proofs.Parts.WorldParts.{is_recorded-kept, KeepsRecords, SeesOn, SeesOn-same, SeesOn-saw}
use Rattle.step_core.proofs.Steps.WorldSteps.{IsWorld-leaves, KeepsMarks, follow, grows_kept, live, numbers_kept, seen_within, tree}
use Rattle.step_core.proofs.Parts.WorldTrees.{Trees-kept, Trees-linked, Trees-lowered}
use Rattle.step_core.proofs.Parts.MarksInHand.{in_hand}
use Rattle.step_core.proofs.Seen.SeenByViews.{IsViewOf-saw, WritesWord-looked, WritesWord-saw}

-- ---- the mark in hand

-- its point was not written before
pub AreBehind-pointed :
    {now : Moment} → IsMoment now → {hand : Hand} → now.view.hand ≡ Some hand → hand.stage ≡ Claimed → (p : Point) (after : Words)
    → WritesWord (PointOf (suc hand.mark)) (point_word p) now.words after → AreBehind now.words after
AreBehind-pointed {now} is {hand} held stage p after writes =
    AreBehind-write (PointOf (suc hand.mark)) (point_word p) now.words after writes (inl (blank-held is held (ap has_point stage)))

module _ (run : SharedRun) (words after : Words) (views : List View) (id : ℕ) (view : View) (world : IsWorld run words views)
    (at : get_elem? views id ≡ some view) (own : view.run ≡ run) (hand : Hand) (held : view.hand ≡ Some hand) where
  abbrev node : ℕ
  node = suc hand.mark

  moment : IsMoment (record { run = run; words = words; views = views; id = id; view = view })
  moment = record { world = world; at = at; own = own }

  some_share : (then : View) → then.crew ≡ view.crew → share then ≡ 0 → then.hand ≡ None
  some_share then crew none = (let no = sym held ∙ world.shares.idle id view at (sym (ap (λ l. length l) crew) ∙ none) in cc)

  -- it is in the hand of a view with a share
  has_share : 0 < share view
  has_share = by_share (share view) refl
    where
      by_share : (n : ℕ) → share view ≡ n → 0 < n
      by_share zero none = let no = sym held ∙ world.shares.idle id view at none in cc
      by_share (suc n) some_members = omega arith

  low : hand.mark < length run.marks
  low = (in_hand run words views id view world at hand held).low

  same_hold : (next : Hand) → next.mark ≡ hand.mark → (k : ℕ) → holds k (Some next) ≡ holds k view.hand
  same_hold next same k = ap (λ m. m == k) same ∙ sym (ap (holds k) held)

  behind_now : AreBehind (sees view) words
  behind_now = world.seen.behind id view at

  tree_now : SeesTree view
  tree_now = tree run words views id view world at own

  -- a view with one step more, another hand and other notes
  more_steps : (next : Option Hand) (notes : List Note) → IsViewOf run (record (stepped view) { hand = next; notes = notes })
  more_steps next notes =
      let of_run = live run words views id view world at own in
      record {
        run_is = of_run.run_is;
        seen = of_run.seen;
        looked = of_run.looked;
        found_zero = of_run.found_zero;
        looks = λ name. omega (arith, of_run.looks name);
        zero_looks = λ name. omega (arith, of_run.zero_looks name);
      }

  -- a node in hand that is not linked is no linked node, and no seen one
  not_linked : has_link hand.stage ≡ false → is_linked (run_sizes run) words node ≡ false
  not_linked not_yet = unlinked-held world id view at hand held not_yet

  apart : has_link hand.stage ≡ false → (n : ℕ) → is_linked (run_sizes run) words n ≡ true → n ≢ node
  apart not_yet n linked e = let no = sym (not_linked not_yet) ∙ ap (is_linked (run_sizes run) words) (sym e) ∙ linked in cc

  seen_apart : has_link hand.stage ≡ false → (n : ℕ) (p : Point) → SeesPoint view n p → n ≢ node
  seen_apart not_yet n p stands =
      apart not_yet n (subst (λ r. is_linked (run_sizes r) words n ≡ true) own
      (is_linked-seen view words behind_now tree_now (follow run words views id view world at own) n (tree_now.rooted.points n (ap is_some stands))))

  -- the best word stays, and so does the best in hand
  leaves_best : (then : View) (next : Hand) → then.best ≡ view.best → then.hand ≡ Some next → next.best ≡ hand.best → next.stage ≢ Posted
      → after Best ≡ words Best → KeepsBest words after view then
  leaves_best then next seen now best apart word = record {
    word = word;
    seen = seen;
    hand = subst (FollowsHand view.hand) (sym now) (FollowsHand-stage view.hand hand next held best apart);
  }

  -- a step that looks at no word is one, whatever the hand is then, and whatever it notes
  is_shift :
      (next : Option Hand) (notes : List Note) → AreBehind words after → after Best ≡ words Best
      → IsShift (shift_at run words views id view (record (stepped view) { hand = next; notes = notes }) after)
  is_shift next notes go best = record {
    moment = moment;
    of_run = more_steps next notes;
    one_more = refl;
    go = go;
    best = omega (arith, best);
  }

  -- it keeps marks, if the words do
  keeps_marks :
      (next : Hand) (notes : List Note) → next.mark ≡ hand.mark → KeepsRecords words after → ((g : ℕ) → after (Counter g) ≡ words (Counter g))
      → KeepsMarks (shift_at run words views id view (record (stepped view) { hand = Some next; notes = notes }) after)
  keeps_marks next notes same records counters = record {
    records = records;
    counters = counters;
    crew = refl;
    most = refl;
    holds = same_hold next same;
    idle = some_share (record (stepped view) { hand = Some next; notes = notes }) refl;
    seen_records = λ k. refl;
  }

  -- A store to a word of the node's own, by a hand that has not linked it: nobody else sees that word.
  module _ (own_word : Word) (x : ℕ) (writes : WritesWord own_word x words after) (of_node : IsNodeWord (λ n. n ≡ node) own_word) (next : Hand)
      (same : next.mark ≡ hand.mark) (best : next.best ≡ hand.best) (not_yet : has_link hand.stage ≡ false) (not_then : has_link next.stage ≡ false)
      (uncounted : has_count next.stage ≡ has_count hand.stage) where
    abbrev stored : View
    stored = record (stepped view) { hand = Some next }

    other : (name : Word) → ¬ IsNodeWord (λ n. n ≡ node) name → after name ≡ words name
    other name off = writes.others name (λ e. off (subst (IsNodeWord (λ n. n ≡ node)) (sym e) of_node))

    untold : (name : Word) → IsNodeWord (λ n. n ≡ node) name → ¬ IsTold run words name
    untold (PointOf n) is told = apart not_yet n told is
    untold (TreeOf n) is told = apart not_yet n told is
    untold (FirstOf n) is told = apart not_yet n told is
    untold name is told = absurd is

    -- Of what it leaves to the hand it is asked that its words are as far as the hand says, and it has nothing to note.
    IsWorld-stored :
        AreBehind words after → ((n : ℕ) → TreeOf n ≡ own_word → (x ≡ 0) ⊎ (2 ^ 63 ≤ x))
        → (IsShift (shift_at run words views id view stored after) → ((k : ℕ) → is_recorded after k ≡ is_recorded words k) → Hands after (set views id stored))
        → (GrowsInto (state_in run words) (state_in run after) → has_first next.stage ≡ true → IsFirstOf run after next)
        → (has_tree next.stage ≡ true → after (TreeOf (suc next.mark)) ≡ pair_in_hand next) → (has_first next.stage ≡ false → after (FirstOf node) ≡ 0)
        → (has_tree next.stage ≡ false → after (TreeOf node) ≡ 0) → SeesTree stored
        → ((name : Word) → IsLoaded run name → (after name ≡ words name) ⊎ IsWrittenTree words after name)
        → ((n : ℕ) → words (TreeOf n) ≢ 0 → after (FirstOf n) ≡ words (FirstOf n)) → IsWorld run after (set views id stored)
    IsWorld-stored go whole hands first tree none_first none_tree sees_tree loaded firsts =
        let same_best : after Best ≡ words Best = other Best (λ h. h) in
        let is = is_shift (Some next) view.notes go same_best in
        let keeps = keeps_marks next view.notes same (λ k. other (RecordOf k) (λ h. h)) (λ g. other (Counter g) (λ h. h)) in
        let on = SeesOn-same is refl refl (HaveWholePairs-write writes whole world.seen.pairs) in
        let recorded = is_recorded-kept words after keeps.records in
        let keeps_links : KeepsLinks (run_sizes run) words after =
        record { children = λ n side. other (ChildOf n side) (λ h. h); points = λ n linked. other (PointOf n) (apart not_yet n linked) } in
        let links = LinkedTree-kept is keeps_links keeps.records (other Count (λ h. h))
        (holds_at-stays has_link view.hand hand next held same (not_then ∙ sym not_yet)) (holds_at-stays has_count view.hand hand next held same uncounted) in
        IsWorld-leaves is keeps on links (leaves_best stored next refl refl best (λ e. let no = sym not_then ∙ ap has_link e in cc) same_best)
        (Trees-kept is (numbers_kept is keeps) links keeps_links (λ n linked. other (TreeOf n) (apart not_yet n linked))
        (λ n linked. other (FirstOf n) (apart not_yet n linked))) (hands is recorded)
        (Pairs-hand is (grows_kept is keeps on links) hand held next refl same (λ n off. other (FirstOf n) off) (λ n off. other (TreeOf n) off) recorded
        (first (grows_kept is keeps on links)) (λ far not_yet. tree far) none_first none_tree) sees_tree
        (Copies-untold is on (λ part. part) own_word x writes keeps_links (untold own_word of_node))
        (KeepsNotes-kept is (LeavesNotes-none is refl loaded firsts (shown-none is (λ name. refl) (λ name. refl) refl)) keeps_links.children
        (λ n side some_child. refl))

  -- The point is written.
  module _ (stage : hand.stage ≡ Claimed) (p : Point) (writes : WritesWord (PointOf node) (point_word p) words after) where
    go_pointed : AreBehind words after
    go_pointed = AreBehind-pointed moment held stage p after writes

    module _ (m : ℕ) (step : IsSteered view hand.mark m p) where
      pub IsWorld-pointed : IsUnskipped view hand → IsWorld run after (set views id (pointed view hand m p))
      IsWorld-pointed unskipped =
          let next : Hand = record hand { stage = Pointed; nearest = m; point = p } in
          IsWorld-stored (PointOf node) (point_word p) writes refl next refl refl (ap has_link stage) refl (sym (ap has_count stage)) go_pointed
          (λ n e. cc) (λ is. Hands-pointed is hand held next refl refl refl writes) (λ grows far. cc) (λ far. cc)
          (λ none. writes.others (FirstOf node) (λ e. cc) ∙ first-held moment held (ap has_first stage))
          (λ none. writes.others (TreeOf node) (λ e. cc) ∙ tree-held moment held (ap has_tree stage))
          (SeesTree-pointed view tree_now hand m p step (seen_apart (ap has_link stage) m step.from step.seen) unskipped)
          (λ name told. inl (writes.others name (λ e. subst (IsLoaded run) e told))) (λ n seen. writes.others (FirstOf n) (λ e. cc))

  -- The first word is written.
  module _ (stage : hand.stage ≡ Pointed) (word : ℕ) (writes : WritesWord (FirstOf node) word words after) where
    pub AreBehind-half : AreBehind words after
    AreBehind-half = AreBehind-write (FirstOf node) word words after writes (inl (first-held moment held (ap has_first stage)))

  module _ (stage : hand.stage ≡ Pointed) (parent cost : ℕ) (may : MayHang view hand parent cost)
      (writes : WritesWord (FirstOf node) (tree_word parent cost) words after) where
    pub IsWorld-half : IsWorld run after (set views id (half view hand parent cost))
    IsWorld-half =
        IsWorld-stored (FirstOf node) (tree_word parent cost) writes refl (record hand { stage = Half; parent = parent; cost = cost }) refl refl
        (ap has_link stage) refl (sym (ap has_count stage)) (AreBehind-half stage (tree_word parent cost) writes) (λ n e. cc)
        (λ is. Hands-on is held refl refl refl (ap has_point stage) refl (λ n. writes.others (PointOf n) (λ e. cc)))
        (λ grows far. first_word grows) (λ far. cc) (λ none. cc) (λ none. writes.others (TreeOf node) (λ e. cc) ∙ tree-held moment held (ap has_tree stage))
        (SeesTree-on view tree_now held Half parent cost view.notes (λ on. ap has_point stage) (λ on. cc) (λ e. cc))
        (λ name told. inl (writes.others name (λ e. subst (IsLoaded run) e told)))
        (λ n seen. writes.others (FirstOf n) (λ e.
        let same : n ≡ node = cc in seen (ap (λ m. words (TreeOf m)) same ∙ tree-held moment held (ap has_tree stage))))
      where
        first_word : GrowsInto (state_in run words) (state_in run after) → IsFirstOf run after (record hand { stage = Half; parent = parent; cost = cost })
        first_word grows =
            subst (λ r. IsWorld r words views → GrowsInto (state_in r words) (state_in r after)
            → IsFirstOf r after (record hand { stage = Half; parent = parent; cost = cost })) own (λ here grows_here.
            IsFirstOf-hang view words (here.seen.behind id view at) tree_now here.links.ways here.run_is here.trees (here.seen_pairs id view at refl)
            (few_nodes view.run words here.run_is) after hand parent cost may
            (seen_apart (ap has_link stage) parent may.below.from may.below.seen.stands) grows_here writes.here)
            world grows

  -- The tree word is written.
  module _ (stage : hand.stage ≡ Half) (word : ℕ) (writes : WritesWord (TreeOf node) word words after) where
    pub AreBehind-treed : AreBehind words after
    AreBehind-treed = AreBehind-write (TreeOf node) word words after writes (inl (tree-held moment held (ap has_tree stage)))

  module _ (stage : hand.stage ≡ Half) (writes : WritesWord (TreeOf node) (pair_in_hand hand) words after) where
    pub IsWorld-treed : IsWorld run after (set views id (treed view hand))
    IsWorld-treed =
        IsWorld-stored (TreeOf node) (pair_in_hand hand) writes refl (record hand { stage = Treed }) refl refl (ap has_link stage) refl
        (sym (ap has_count stage)) (AreBehind-treed stage (pair_in_hand hand) writes) (λ n e. inr (omega arith))
        (λ is. Hands-on is held refl refl refl (ap has_point stage) refl (λ n. writes.others (PointOf n) (λ e. cc)))
        (λ grows far. IsFirstOf-stage run after hand Treed hand.best (IsFirstOf-grows run words after hand grows (firsts node) first_then))
        (λ far. writes.here) (λ none. cc) (λ none. cc)
        (SeesTree-on view tree_now held Treed hand.parent hand.cost view.notes (λ on. ap has_point stage) (λ on. cc) (λ e. cc)) written (λ n seen. firsts n)
      where
        firsts : (n : ℕ) → after (FirstOf n) ≡ words (FirstOf n)
        firsts n = writes.others (FirstOf n) (λ e. cc)

        first_then : IsFirstOf run words hand
        first_then = world.pairs.first id view at hand held (ap has_first stage)

        written : (name : Word) → IsLoaded run name → (after name ≡ words name) ⊎ IsWrittenTree words after name
        written name told =
            elim (same_name name (TreeOf node)) [
              | inl e ↦ inr (node, e, tree-held moment held (ap has_tree stage), writes.here ∙ sym (firsts node ∙ first_then.word))
              | inr off ↦ inl (writes.others name off)
            ]

  -- The node is linked.
  module _ (stage : hand.stage ≡ Treed) (n : ℕ) (side : Bool) (leads : LeadsTo view hand.point n side) (empty : words (ChildOf n side) ≡ 0) where
    n_within : n ≤ length run.marks
    n_within = seen_within run words views id view world at own n (tree_now.rooted.points n (ap is_some leads.stands))

    bounded : IsBounded hand.point
    bounded =
        IsBounded-steered view hand.mark hand.nearest hand.point (subst (λ r. IsBounded (mark_at r.marks hand.mark)) (sym own) (world.run_is.points hand.mark))
        ((tree_now.holds hand held).steered_from (ap has_point stage))

    first : IsFirstOf run words hand
    first = world.pairs.first id view at hand held (ap has_first stage)

    -- it has no children yet
    childless : (right : Bool) → words (ChildOf node right) ≡ 0
    childless right = unlinked-childless run words views world.links node (not_linked (ap has_link stage)) right

    own_words : AreInHand hand words
    own_words = record {
      point = world.hands.written id view at hand held (ap has_point stage);
      tree = world.pairs.tree id view at hand held (ap has_tree stage) (ap has_link stage);
      first = first.word;
    }

    may_show : MayShow n side hand (sees view)
    may_show = MayShow-behind n side hand (sees view) words behind_now empty own_words

    pub IsLater-link : (steps : List ℕ) → IsLater view (linked view hand n side steps)
    IsLater-link = IsLater-linked run view (live run words views id view world at own) hand n side n_within low may_show

    module _ (writes : WritesWord (ChildOf n side) node words after) where
      go : AreBehind words after
      go = AreBehind-write (ChildOf n side) node words after writes (inl empty)

      own_after : AreInHand hand after
      own_after = record {
        point = writes.others (PointOf node) (λ e. cc) ∙ own_words.point;
        tree = writes.others (TreeOf node) (λ e. cc) ∙ own_words.tree;
        first = writes.others (FirstOf node) (λ e. cc) ∙ own_words.first;
      }

      -- what it looked at is as it left it, and so are the words of its node; of all others it knows what it did
      pub shown_linked : (steps : List ℕ) (name : Word) → SeesAsItIs (shift_at run words views id view (linked view hand n side steps) after) name
      shown_linked steps =
          let of_run = live run words views id view world at own in
          let then : View = linked view hand n side steps in
          let shows : ShowsNode n side hand (sees view) (sees then) = sees-linked run view of_run hand n side n_within low in
          let looks = WritesWord-look_linked run view of_run hand n side n_within low in
          by_shown shows (SeesAsItIs (shift_at run words views id view then after)) (inr (shows.child ∙ sym writes.here))
          (inr (shows.point ∙ sym own_after.point)) (inr (shows.tree ∙ sym own_after.tree)) (inr (shows.first ∙ sym own_after.first))
          (λ name off same. inl (KnowsAsBefore-table view then name (looks.others name off) same refl))

      pub IsWorld-linked : IsWorld run after (set views id (linked view hand n side (steps_then views id view)))
      IsWorld-linked =
          let steps : List ℕ = steps_then views id view in
          let then : View = linked view hand n side steps in
          let next : Hand = record hand { stage = Linked } in
          let of_run = live run words views id view world at own in
          let shows : ShowsNode n side hand (sees view) (sees then) = sees-linked run view of_run hand n side n_within low in
          let trees : (m : ℕ) → after (TreeOf m) ≡ words (TreeOf m) = λ m. writes.others (TreeOf m) (λ e. cc) in
          let firsts : (m : ℕ) → after (FirstOf m) ≡ words (FirstOf m) = λ m. writes.others (FirstOf m) (λ e. cc) in
          let s : Shift = shift_at run words views id view then after in
          let is : IsShift s = record {
            moment = moment;
            of_run = IsViewOf-linked run view of_run hand n side n_within low steps;
            one_more = refl;
            go = go;
            best = omega (arith, writes.others Best (λ e. cc));
          } in
          let keeps : KeepsMarks s = record {
            records = λ k. writes.others (RecordOf k) (λ e. cc);
            counters = λ g. writes.others (Counter g) (λ e. cc);
            crew = refl;
            most = refl;
            holds = same_hold next refl;
            idle = some_share then refl;
            seen_records = λ k. shows.others (RecordOf k) (λ e. cc) (λ e. cc) (λ e. cc) (λ e. cc);
          } in
          let on : SeesOn s = record {
            took = refl;
            behind = AreBehind-linked shows after (AreBehind-trans (sees view) words after behind_now go) writes.here own_after;
            more = AreBehind-shown shows may_show;
            pairs = HaveWholePairs-write writes (λ m e. cc) world.seen.pairs;
            whole = HaveWholePairs-linked shows (world.seen.pairs_seen id view at);
            fair = IsFair-linked shows after own_after.tree;
          } in
          let ends : EndsBelow (children_of_words words) (linked_points (run_sizes run) words) hand.point leads.depth n leads.at =
          subst (λ r. EndsBelow (children_of_words words) (linked_points (run_sizes r) words) hand.point leads.depth n leads.at) own
          (EndsBelow-leads view words behind_now tree_now (follow run words views id view world at own) hand.point n side leads empty) in
          let puts : LinksNode (run_sizes run) words after hand.point hand.mark = record {
            above = leads.at;
            n = n;
            depth = leads.depth;
            ways = world.links.ways;
            ends = ends;
            low = low;
            unlinked = not_linked (ap has_link stage);
            written = ap point_of_word own_words.point ∙ point_of_word-packed hand.point bounded;
            empty = ap (λ s. words (ChildOf n s)) leads.side_is ∙ empty;
            writes = subst (λ s. WritesWord (ChildOf n s) node words after) (sym leads.side_is) writes;
          } in
          let links = LinkedTree-linked is held next refl refl puts refl (sym (ap has_count stage)) in
          let stays : KeepsBest words after view then = leaves_best then next refl refl refl (λ e. cc) (writes.others Best (λ e. cc)) in
          let recorded = is_recorded-kept words after keeps.records in
          let grows = grows_kept is keeps on links in
          let place : place_in view (ChildOf n side) ≡ place_of (run_sizes run) (ChildOf n side) = ap (λ r. place_of (run_sizes r) (ChildOf n side)) own in
          IsWorld-leaves is keeps on links stays
          (Trees-linked is (numbers_kept is keeps) links puts bounded own_words.point hand.parent hand.cost first.fits.0 first.fits.1 own_words.tree first.word
          first.hangs first.bounded)
          (Hands-on is held refl refl refl (ap has_point stage) refl (λ m. writes.others (PointOf m) (λ e. cc)) recorded)
          (Pairs-hand is grows hand held next refl refl (λ m off. firsts m)
          (λ m off. trees m) recorded (λ far. IsFirstOf-stage run after hand Linked hand.best (IsFirstOf-grows run words after hand grows (firsts node) first))
          (λ far not_yet. cc) (λ not_yet. cc) (λ not_yet. cc))
          (SeesTree-linked run view of_run tree_now hand held stage low bounded n side n_within leads may_show steps)
          (Copies-linked is on (λ part. part) hand n side writes has_share shows own_after childless (is_linked-others puts))
          (KeepsNotes-linked is n side node
          (LeavesNotes-one is (ChildOf n side) n_within node writes (ap (λ p. record { place = p; word = node; steps = steps } ∷ view.notes) place)
          (shown_linked steps)) writes (record { place = place_in view (ChildOf n side); word = node; steps = steps }) (inl refl) place refl
          (λ m right apart. (WritesWord-zero_linked run view of_run hand n side n_within low).others (ChildOf m right) apart))

  -- The node is counted.
  module _ (stage : hand.stage ≡ Linked) (writes : WritesWord Count (words Count + 1) words after) where
    pub AreBehind-counted : AreBehind words after
    AreBehind-counted = AreBehind-write Count (words Count + 1) words after writes (omega arith)

    pub IsWorld-counted : IsWorld run after (set views id (counted view hand (words Count + 1) (steps_then views id view)))
    IsWorld-counted =
        let then : View = counted view hand (words Count + 1) (steps_then views id view) in
        let next : Hand = record hand { stage = Counted } in
        let trees : (n : ℕ) → after (TreeOf n) ≡ words (TreeOf n) = λ n. writes.others (TreeOf n) (λ e. cc) in
        let firsts : (n : ℕ) → after (FirstOf n) ≡ words (FirstOf n) = λ n. writes.others (FirstOf n) (λ e. cc) in
        let same_best : after Best ≡ words Best = writes.others Best (λ e. cc) in
        let is = is_shift (Some next) then.notes AreBehind-counted same_best in
        let keeps = keeps_marks next then.notes refl (λ k. writes.others (RecordOf k) (λ e. cc)) (λ g. writes.others (Counter g) (λ e. cc)) in
        let on = SeesOn-same is refl refl (HaveWholePairs-write writes (λ n e. cc) world.seen.pairs) in
        let keeps_links : KeepsLinks (run_sizes run) words after =
        record { children = λ n side. writes.others (ChildOf n side) (λ e. cc); points = λ n linked. writes.others (PointOf n) (λ e. cc) } in
        let links = LinkedTree-counted is held next refl refl low (sym (ap has_link stage)) (ap has_count stage) refl writes in
        let stays : KeepsBest words after view then = leaves_best then next refl refl refl (λ e. cc) same_best in
        let recorded = is_recorded-kept words after keeps.records in
        let grows = grows_kept is keeps on links in
        IsWorld-leaves is keeps on links stays
        (Trees-kept is (numbers_kept is keeps) links keeps_links (λ n linked. trees n) (λ n linked. firsts n))
        (Hands-on is held refl refl refl (ap has_point stage) refl (λ n. writes.others (PointOf n) (λ e. cc)) recorded)
        (Pairs-hand is grows hand held next refl refl (λ n off. firsts n)
        (λ n off. trees n) recorded (λ far. IsFirstOf-stage run after hand Counted hand.best (IsFirstOf-grows run words after hand grows (firsts node)
        (world.pairs.first id view at hand held (ap has_first stage)))) (λ far not_yet. cc) (λ not_yet. cc) (λ not_yet. cc))
        (SeesTree-on view tree_now held Counted hand.parent hand.cost then.notes (λ on. ap has_point stage) (λ on. ap has_link stage) (λ e. cc))
        (Copies-untold is on (λ part. part) Count (words Count + 1) writes keeps_links (λ told. told))
        (KeepsNotes-kept is (LeavesNotes-one is Count tt (words Count + 1) writes refl (shown-none is (λ name. refl) (λ name. refl) refl))
        keeps_links.children (λ n side some_child. refl))

-- ---- a cost is lowered

-- the tree word of a seen node is written
pub tree-written :
    (run : SharedRun) (words : Words) (views : List View) (id : ℕ) (view : View) → IsWorld run words views → get_elem? views id ≡ some view
    → view.run ≡ run → (n : ℕ) → SeesNode view n → 2 ^ 63 ≤ words (TreeOf n)
tree-written run words views id view world at own n seen =
    let linked = subst (λ r. is_linked (run_sizes r) words n ≡ true) own
    (is_linked-seen view words (world.seen.behind id view at) (tree run words views id view world at own)
    (follow run words views id view world at own) n seen) in
    omega (arith, (world.trees.written n linked).tree)

pub IsSome-seen_tree :
    (run : SharedRun) (words : Words) (views : List View) (id : ℕ) (view : View) → IsWorld run words views → get_elem? views id ≡ some view
    → view.run ≡ run → (n : ℕ) → SeesNode view n → IsSome (tree_of_word (words (TreeOf n)))
IsSome-seen_tree run words views id view world at own n seen =
    ap is_some (tree_of_word-written (words (TreeOf n)) (tree-written run words views id view world at own n seen))

-- a lower that finds another word than was seen finds a lower cost
pub lower-found :
    (run : SharedRun) (words : Words) (views : List View) (id : ℕ) (view : View) → IsWorld run words views → get_elem? views id ≡ some view → (n : ℕ)
    → 2 ^ 63 ≤ sees view (TreeOf n) → words (TreeOf n) ≢ sees view (TreeOf n)
    → (2 ^ 63 ≤ words (TreeOf n)) × (cost_in (words (TreeOf n)) < cost_in (sees view (TreeOf n)))
lower-found run words views id view world at n written other =
    elim (world.seen.behind id view at (TreeOf n)) [
      | inl none ↦ absurd (omega (arith, none, written))
      | inr falls ↦ elim falls [
        | inl same ↦ absurd (other (sym same))
        | inr fell ↦ fell
      ]
    ]

module _ (run : SharedRun) (words : Words) (views : List View) (id : ℕ) (view : View) (world : IsWorld run words views)
    (at : get_elem? views id ≡ some view) (own : view.run ≡ run) (n parent cost : ℕ) (may : MayLower view n parent cost)
    (as_seen : words (TreeOf n) ≡ sees view (TreeOf n)) where
  lowers : IsLowered run words n parent cost
  lowers =
      subst (λ r. IsWorld r words views → IsLowered r words n parent cost) own (λ here. IsLowered-seen view words (here.seen.behind id view at)
      (here.sights id view at refl) here.links.ways here.run_is here.trees (here.seen_pairs id view at refl) (few_nodes view.run words here.run_is)
      n parent cost may) world

  new_cost : cost_in (tree_word parent cost) ≡ cost
  new_cost = cost_in-tree_word parent cost lowers.fits.0 lowers.fits.1

  -- the cost falls
  cheaper : cost < cost_in (words (TreeOf n))
  cheaper = omega (arith, may.cheaper, may.seen.cost_is, ap cost_in as_seen)

  falls : MayBecome Falling (words (TreeOf n)) (tree_word parent cost)
  falls = inr (inr (omega arith, omega (arith, new_cost, cheaper)))

  here : HasWord (run_sizes run) (TreeOf n)
  here = seen_within run words views id view world at own n ((tree run words views id view world at own).rooted.points n (ap is_some may.seen.stands))

  seen_falls : MayBecome Falling (sees view (TreeOf n)) (tree_word parent cost)
  seen_falls = subst (λ w. MayBecome Falling w (tree_word parent cost)) as_seen falls

  -- The view is a later one then,
  pub IsLater-lowered : (steps : List ℕ) → IsLater view (lowered view n parent cost steps)
  IsLater-lowered steps =
      let of_run = live run words views id view world at own in
      let then = IsLater-saw run view of_run (TreeOf n) here (sees view (TreeOf n)) (tree_word parent cost) seen_falls (λ e. e) in
      record { run = then.run; seen = then.seen; best = then.best; steps = then.steps; looked = then.looked; zero_found = then.zero_found }

  module _ (after : Words) (writes : WritesWord (TreeOf n) (tree_word parent cost) words after) where
    -- the words go on,
    pub AreBehind-lowered : AreBehind words after
    AreBehind-lowered = AreBehind-write (TreeOf n) (tree_word parent cost) words after writes falls

    -- and the law holds.
    pub IsWorld-lowered : 0 < share view → IsWorld run after (set views id (lowered view n parent cost (steps_then views id view)))
    IsWorld-lowered part =
        let x : ℕ = tree_word parent cost in
        let steps : List ℕ = steps_then views id view in
        let then : View = lowered view n parent cost steps in
        let of_run = live run words views id view world at own in
        let saw_it = WritesWord-saw run view of_run (TreeOf n) here (sees view (TreeOf n)) x in
        let v = IsViewOf-saw run view of_run (TreeOf n) here (sees view (TreeOf n)) x in
        let s : Shift = shift_at run words views id view then after in
        let is : IsShift s = record {
          moment = record { world = world; at = at; own = own };
          of_run = record { run_is = v.run_is; seen = v.seen; looked = v.looked; found_zero = v.found_zero; looks = v.looks; zero_looks = v.zero_looks };
          one_more = refl;
          go = AreBehind-lowered;
          best = omega (arith, writes.others Best (λ e. cc));
        } in
        let keeps : KeepsMarks s = record {
          records = λ k. writes.others (RecordOf k) (λ e. cc);
          counters = λ g. writes.others (Counter g) (λ e. cc);
          crew = refl;
          most = refl;
          holds = λ k. refl;
          idle = world.shares.idle id view at;
          seen_records = λ k. saw_it.others (RecordOf k) (λ e. cc);
        } in
        let on = SeesOn-saw is (TreeOf n) x saw_it writes.here refl (HaveWholePairs-write writes (λ m e. inr (omega arith)) world.seen.pairs) in
        let keeps_links : KeepsLinks (run_sizes run) words after =
        record { children = λ m side. writes.others (ChildOf m side) (λ e. cc); points = λ m h. writes.others (PointOf m) (λ e. cc) } in
        let links = LinkedTree-kept is keeps_links keeps.records (writes.others Count (λ e. cc)) (λ k. refl) (λ k. refl) in
        IsWorld-leaves is keeps on links (record { word = writes.others Best (λ e. cc); seen = refl; hand = FollowsHand-refl view.hand })
        (Trees-lowered is (numbers_kept is keeps) links n parent cost writes lowers.linked lowers.fits.0 lowers.fits.1 lowers.present lowers.hangs cheaper)
        (Hands-step is (λ m. writes.others (PointOf m) (λ e. cc)) (is_recorded-kept words after keeps.records)
        (world.hands.written id view at) (λ k. refl))
        (Pairs-same is (grows_kept is keeps on links) (λ m. writes.others (FirstOf m) (λ e. cc))
        (λ m unlinked. writes.others (TreeOf m) (λ e.
        let same : m ≡ n = cc in
        let no = sym unlinked ∙ ap (is_linked (run_sizes run) words) same ∙ lowers.linked in
        cc)) (is_recorded-kept words after keeps.records) refl) (SeesTree-lowered run view of_run (tree run words views id view world at own) n parent cost here
        ((tree run words views id view world at own).rooted.points n (ap is_some may.seen.stands)) seen_falls steps)
        (Copies-seen is on (λ had. had) (TreeOf n) x writes keeps_links part saw_it.here)
        (KeepsNotes-kept is (LeavesNotes-one is (TreeOf n) here x writes
        (ap (λ r. record { place = place_of (run_sizes r) (TreeOf n); word = x; steps = steps } ∷ view.notes) own)
        (shown-one is (TreeOf n) (λ e. cc) (view.steps + 1) x (WritesWord-looked run view of_run (TreeOf n) here (sees view (TreeOf n)) x) saw_it writes.here
        refl)) keeps_links.children (λ m side some_child. last_zero-saw run view of_run (TreeOf n) here (sees view (TreeOf n)) x (ChildOf m side) (λ e. cc)))
