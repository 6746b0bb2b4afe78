-- A view still sees its tree after a step of its own: from node 0 on, with the nodes that it has placed, and the node in its hand.
use Rattle.step_core.proofs.Words.{◌≡◌, ◌≢◌, ◌+◌, ◌<◌, ◌≤◌, ◌^◌, [], ◌∙◌, ℕ, suc, Bool, true, List, length, Some, None, refl, sym, ap, subst, inl, inr, arith}
use Rattle.step_core.proofs.Words.{is_some, same_Some, IsBounded, is_placed, IsPresent, Point, Record, has_node, has_placed, MayLookAt, AreBehind, MayBecome}
use Rattle.step_core.proofs.Words.{Falling, Word, Words, WritesWord, Count, Best, Counter, PointOf, TreeOf, FirstOf, RecordOf, HasWord, FitsWord, point_of_word}
use Rattle.step_core.proofs.Words.{record_of_word, record_word, tree_word, point_of_word-packed, AreBehind-refl, IsUnskipped, MayBeRecorded, has_link}
use Rattle.step_core.proofs.Words.{has_point, claimed, finished, linked, loaded, looker, lowered, mark_of, new_hand, parted, pointed, second_alone, stepped}
use Rattle.step_core.proofs.Words.{unlooked, without_second, worker_apart, SeesHand, IsSteered, LeadsTo, MayLoad, SeesNode, SeesTree, IsViewOf, run_sizes, sees}
use Rattle.step_core.proofs.Words.{tree_seen, Hand, Member, Note, SharedRun, Stage, Linked, Pointed, Posted, Treed, View, ◌⊎◌, point_of, IsRooted, IsSeen}
use Rattle.step_core.proofs.Words.{SeenTree, IsPresent-stands, StandsAt-present, IsSeen-more, child_of_word, seen_tree_of_words, kind_of, ChildOf, Sizes}
use Rattle.step_core.proofs.Words.{tree_of_word, joined, words_of_run, zero, IsSome, cases_Bool, Task, IsOnWay, goes_right, last_step, not_empty, way_start}
use Rattle.step_core.proofs.Words.{HoldRun, children_of_words, points_of_words, run_words, sizes_of, has_node-present, point_of_word-stands, present-within}
use Rattle.step_core.proofs.Words.{node_present, newcomer, run_of}
use Rattle.step_core.proofs.OneView.LinkedViews.{AreBehind-shown, MayShow, ShowsNode, sees-linked, IsRooted-shown}
use Rattle.step_core.proofs.Seen.Looks.{same_name, AreBehind-write, IsRooted-write}
use Rattle.step_core.proofs.Seen.SeenWords.{has_node-same, has_placed-record_word, point_at-seen, HasSeenAtLeast-words, seen-within}
use Rattle.step_core.proofs.Seen.SeenByViews.{WritesWord-saw}
use Rattle.step_core.proofs.OneView.SeenViews.{SeesHand-later, IsPresent-later, SeesPoint-later, first-later}
use Rattle.step_core.proofs.Seen.LaterWords.{later_word-either, word_at-merged}

-- ---- a step on one word

-- what may be loaded may be looked at
MayLookAt-load : (view : View) (name : Word) → MayLoad view name → MayLookAt (tree_seen view) name
MayLookAt-load view Count may = tt
MayLookAt-load view (Counter g) may = tt
MayLookAt-load view Best may = absurd may
MayLookAt-load view (FirstOf n) may = absurd may
MayLookAt-load view (RecordOf k) may = absurd may
MayLookAt-load view name may = may

-- no record may be loaded
no_record : (view : View) (name : Word) → MayLoad view name → (k : ℕ) → RecordOf k ≢ name
no_record view name may k e = subst (MayLoad view) (sym e) may

-- a record word that stays as it was seen says of the same node that it is placed
placed_still :
    (view then : View) → then.run ≡ view.run → AreBehind (sees view) (sees then) → SeesTree view → (k : ℕ)
    → sees then (RecordOf k) ≡ sees view (RecordOf k) → has_node (sees then) (suc k) ≡ true → IsPresent (tree_seen then).points (suc k)
placed_still view then run go tree k same h = IsPresent-later view then run go (suc k) (tree.placed k (sym (has_node-same (sees view) (sees then) k same) ∙ h))

first_still :
    (view then : View) → then.run ≡ view.run → AreBehind (sees view) (sees then) → SeesTree view → (k : ℕ)
    → sees then (RecordOf k) ≡ sees view (RecordOf k) → has_node (sees then) (suc k) ≡ true → 2 ^ 63 ≤ sees then (FirstOf (suc k))
first_still view then run go tree k same h = first-later view then run go (suc k) (tree.placed_first k (sym (has_node-same (sees view) (sees then) k same) ∙ h))

-- After a load of a word of the run a view sees its tree.
pub SeesTree-loaded : (run : SharedRun) (view : View) (words : Words) → IsViewOf run view → AreBehind (sees view) words → SeesTree view
    → (name : Word) → HasWord (run_sizes run) name → MayLoad view name → SeesTree (loaded view name (words name))
SeesTree-loaded run view words of_run behind tree name here may =
    let then : View = loaded view name (words name) in
    let writes : WritesWord name (words name) (sees view) (sees then) = WritesWord-saw run view of_run name here (words name) (words name) in
    let go = AreBehind-write name (words name) (sees view) (sees then) writes (behind name) in
    record {
      rooted = IsRooted-write (run_sizes view.run) name (words name) (sees view) (sees then) writes go (MayLookAt-load view name may) tree.rooted;
      placed = λ k. placed_still view then refl go tree k (writes.others (RecordOf k) (no_record view name may k));
      placed_first = λ k. first_still view then refl go tree k (writes.others (RecordOf k) (no_record view name may k));
      holds = λ hand held. SeesHand-later view then refl go hand (tree.holds hand held);
    }

-- After the tree word of a seen node was lowered a view sees its tree.
pub SeesTree-lowered : (run : SharedRun) (view : View) → IsViewOf run view → SeesTree view → (n parent cost : ℕ) → n ≤ length run.marks → SeesNode view n
    → MayBecome Falling (sees view (TreeOf n)) (tree_word parent cost) → (steps : List ℕ) → SeesTree (lowered view n parent cost steps)
SeesTree-lowered run view of_run tree n parent cost within seen_node may steps =
    let then : View = lowered view n parent cost steps in
    let here : HasWord (run_sizes run) (TreeOf n) = within in
    let word : ℕ = tree_word parent cost in
    let writes : WritesWord (TreeOf n) word (sees view) (sees then) = WritesWord-saw run view of_run (TreeOf n) here (sees view (TreeOf n)) word in
    let go = AreBehind-write (TreeOf n) word (sees view) (sees then) writes may in
    record {
      rooted = IsRooted-write (run_sizes view.run) (TreeOf n) word (sees view) (sees then) writes go seen_node tree.rooted;
      placed = λ k. placed_still view then refl go tree k (writes.others (RecordOf k) (λ e. cc));
      placed_first = λ k. first_still view then refl go tree k (writes.others (RecordOf k) (λ e. cc));
      holds = λ hand held. SeesHand-later view then refl go hand (tree.holds hand held);
    }

-- ---- a mark in hand

-- a view with this one mark in hand holds it
holds_one : (then : View) (own : Hand) → SeesHand then own → (hand : Hand) → Some own ≡ Some hand → SeesHand then hand
holds_one then own node hand e = subst (SeesHand then) (same_Some own hand e) node

-- After a claim there is nothing to hold.
pub SeesTree-claimed : (run : SharedRun) (view : View) (words : Words) → IsViewOf run view → AreBehind (sees view) words → SeesTree view
    → (g c limit : ℕ) → g < run.strips → words (Counter g) ≡ c → (steps : List ℕ) → SeesTree (claimed view g c limit steps)
SeesTree-claimed run view words of_run behind tree g c limit strip is steps =
    let then : View = claimed view g c limit steps in
    let here : HasWord (run_sizes run) (Counter g) = strip in
    let writes : WritesWord (Counter g) (c + 1) (sees view) (sees then) = WritesWord-saw run view of_run (Counter g) here c (c + 1) in
    let go = AreBehind-write (Counter g) (c + 1) (sees view) (sees then) writes (omega (arith, behind (Counter g), is)) in
    record {
      rooted = IsRooted-write (run_sizes view.run) (Counter g) (c + 1) (sees view) (sees then) writes go tt tree.rooted;
      placed = λ k. placed_still view then refl go tree k (writes.others (RecordOf k) (λ e. cc));
      placed_first = λ k. first_still view then refl go tree k (writes.others (RecordOf k) (λ e. cc));
      holds = holds_one then (new_hand (mark_of view.run g c)) record {
        steered_from = λ on. cc;
        other = λ on. cc;
        unskipped = λ on. cc;
        shown = λ on. cc;
        first_shown = λ on. cc;
        posted = λ is. cc;
      };
    }

-- After its point is written it holds that: its mark is not skipped.
pub SeesTree-pointed : (view : View) → SeesTree view → (hand : Hand) (m : ℕ) (p : Point) → IsSteered view hand.mark m p → m ≢ suc hand.mark
    → IsUnskipped view hand → SeesTree (pointed view hand m p)
SeesTree-pointed view tree hand m p step apart unskipped =
    let then : View = pointed view hand m p in
    record {
      rooted = tree.rooted;
      placed = tree.placed;
      placed_first = tree.placed_first;
      holds = holds_one then (record hand { stage = Pointed; nearest = m; point = p }) record {
        steered_from = λ on. record { from = step.from; seen = step.seen; reached = step.reached };
        other = λ on. apart;
        unskipped = λ on. unskipped;
        shown = λ on. cc;
        first_shown = λ on. cc;
        posted = λ is. cc;
      };
    }

-- After a step that looks at no word, for a hand that comes to another stage, if not farther than it held, with another parent and cost, it holds that.
pub SeesTree-on :
    (view : View) → SeesTree view → {hand : Hand} → view.hand ≡ Some hand → (stage : Stage) (parent cost : ℕ) (notes : List Note)
    → (has_point stage ≡ true → has_point hand.stage ≡ true) → (has_link stage ≡ true → has_link hand.stage ≡ true) → stage ≢ Posted
    → SeesTree (record (stepped view) { hand = Some (record hand { stage = stage; parent = parent; cost = cost }); notes = notes })
SeesTree-on view tree {hand} held stage parent cost notes point link off =
    let next : Hand = record hand { stage = stage; parent = parent; cost = cost } in
    let then : View = record (stepped view) { hand = Some next; notes = notes } in
    let node = SeesHand-later view then refl (AreBehind-refl (sees view)) hand (tree.holds hand held) in
    record {
      rooted = tree.rooted;
      placed = tree.placed;
      placed_first = tree.placed_first;
      holds = holds_one then next record {
        steered_from = λ on. node.steered_from (point on);
        other = λ on. node.other (point on);
        unskipped = λ on. node.unskipped (point on);
        shown = λ on. node.shown (link on);
        first_shown = λ on. node.first_shown (link on);
        posted = λ is. absurd (off is);
      };
    }

-- ---- a record

-- A record empties the hand. If it says that the mark was placed, its node is seen.
pub SeesTree-finished :
    (run : SharedRun) (view : View) → IsViewOf run view → SeesTree view → (hand : Hand) → view.hand ≡ Some hand → hand.mark < length run.marks
    → sees view (RecordOf hand.mark) ≡ 0 → (entry : Record) → FitsWord entry → MayBeRecorded hand.stage entry.outcome
    → SeesTree (finished view hand.mark (record_word entry))
SeesTree-finished run view of_run tree hand held low none entry fits may =
    let then : View = finished view hand.mark (record_word entry) in
    let word : ℕ = record_word entry in
    let here : HasWord (run_sizes run) (RecordOf hand.mark) = low in
    let writes : WritesWord (RecordOf hand.mark) word (sees view) (sees then) = WritesWord-saw run view of_run (RecordOf hand.mark) here word word in
    let go = AreBehind-write (RecordOf hand.mark) word (sees view) (sees then) writes (inl none) in
    record {
      rooted = IsRooted-write (run_sizes view.run) (RecordOf hand.mark) word (sees view) (sees then) writes go tt tree.rooted;
      placed = λ k h.
          elim (same_name (RecordOf k) (RecordOf hand.mark)) [
            | inr apart ↦ placed_still view then refl go tree k (writes.others (RecordOf k) apart) h
            | inl e ↦ (
                let stands = (tree.holds hand held).shown (linked_now k e h) in
                let own : k ≡ hand.mark = cc in
                subst (λ m. IsPresent (tree_seen then).points (suc m)) (sym own)
                (ap is_some (SeesPoint-later view then refl go (suc hand.mark) hand.point stands)))
          ];
      placed_first = λ k h.
          elim (same_name (RecordOf k) (RecordOf hand.mark)) [
            | inr apart ↦ first_still view then refl go tree k (writes.others (RecordOf k) apart) h
            | inl e ↦ (
                let written = (tree.holds hand held).first_shown (linked_now k e h) in
                let own : k ≡ hand.mark = cc in
                subst (λ m. 2 ^ 63 ≤ sees then (FirstOf (suc m))) (sym own) (first-later view then refl go (suc hand.mark) written))
          ];
      holds = λ other e. cc;
    }
  where
    placed_here : (k : ℕ) → RecordOf k ≡ RecordOf hand.mark → has_node (sees (finished view hand.mark (record_word entry))) (suc k) ≡ true
        → is_placed entry.outcome ≡ true
    placed_here k e h =
        let then : View = finished view hand.mark (record_word entry) in
        let here : HasWord (run_sizes run) (RecordOf hand.mark) = low in
        let writes = WritesWord-saw run view of_run (RecordOf hand.mark) here (record_word entry) (record_word entry) in
        sym (has_placed-record_word entry (sees then (FirstOf (suc k))) fits)
        ∙ ap (λ w. has_placed (record_of_word w (sees then (FirstOf (suc k))))) (sym (ap (sees then) e ∙ writes.here)) ∙ h

    linked_now : (k : ℕ) → RecordOf k ≡ RecordOf hand.mark → has_node (sees (finished view hand.mark (record_word entry))) (suc k) ≡ true
        → has_link hand.stage ≡ true
    linked_now k e h = sym may.linked ∙ placed_here k e h

-- ---- a link

-- After a link the node is seen too, if what was seen allows it.
pub SeesTree-linked :
    (run : SharedRun) (view : View) → IsViewOf run view → SeesTree view → (hand : Hand) → view.hand ≡ Some hand → hand.stage ≡ Treed
    → hand.mark < length run.marks → IsBounded hand.point → (n : ℕ) (side : Bool) → n ≤ length run.marks → LeadsTo view hand.point n side
    → MayShow n side hand (sees view) → (noted : List ℕ) → SeesTree (linked view hand n side noted)
SeesTree-linked run view of_run tree hand held stage low bounded n side within leads may noted =
    let then : View = linked view hand n side noted in
    let m : ℕ = suc hand.mark in
    let shows : ShowsNode n side hand (sees view) (sees then) = sees-linked run view of_run hand n side within low in
    let go = AreBehind-shown shows may in
    let node = SeesHand-later view then refl go hand (tree.holds hand held) in
    record {
      rooted = IsRooted-shown shows (run_sizes view.run) go tree.rooted (tree.rooted.points n (ap is_some leads.stands));
      placed = λ k. placed_still view then refl go tree k (shows.others (RecordOf k) (λ e. cc) (λ e. cc) (λ e. cc) (λ e. cc));
      placed_first = λ k. first_still view then refl go tree k (shows.others (RecordOf k) (λ e. cc) (λ e. cc) (λ e. cc) (λ e. cc));
      holds = holds_one then (record hand { stage = Linked }) record {
        steered_from = λ on.
            let step = node.steered_from (ap has_point stage) in
            record { from = step.from; seen = step.seen; reached = step.reached };
        other = λ on. node.other (ap has_point stage);
        unskipped = λ on. node.unskipped (ap has_point stage);
        shown = λ on.
            point_at-seen (run_sizes then.run) (sees then) m (subst (λ r. m ≤ length r.marks) (sym of_run.run_is) (omega (arith, low)))
            ∙ ap point_of_word shows.point ∙ point_of_word-packed hand.point bounded;
        first_shown = λ on. omega (arith, shows.first);
        posted = λ is. cc;
      };
    }

-- ---- splits

-- One that has seen as much, and has the same hand or none, sees its tree.
SeesTree-crew : (view : View) (crew : List Member) → SeesTree view → SeesTree (record (stepped view) { crew = crew })
SeesTree-crew view crew tree = record {
  rooted = tree.rooted;
  placed = tree.placed;
  placed_first = tree.placed_first;
  holds = λ hand held. SeesHand-later view (record (stepped view) { crew = crew }) refl (AreBehind-refl (sees view)) hand (tree.holds hand held);
}

SeesTree-new : (view : View) (crew : List Member) → SeesTree view → SeesTree (record (unlooked view) { crew = crew; hand = None })
SeesTree-new view crew tree = record { rooted = tree.rooted; placed = tree.placed; placed_first = tree.placed_first; holds = λ hand held. cc }

module _ (view : View) (tree : SeesTree view) where
  pub SeesTree-stepped : SeesTree (stepped view)
  SeesTree-stepped = SeesTree-crew view view.crew tree

  pub SeesTree-parted : SeesTree (parted view)
  SeesTree-parted = SeesTree-crew view (without_second view.crew) tree

  pub SeesTree-looker : SeesTree (looker view)
  SeesTree-looker = SeesTree-new view [] tree

  pub SeesTree-apart : SeesTree (worker_apart view)
  SeesTree-apart = SeesTree-new view (second_alone view.crew) tree

-- ---- what two views have seen

-- each word is as the one or the other table has it
abbrev pub AreOfEither : Words → Words → Words → Type 0
AreOfEither one other both = (name : Word) → (both name ≡ one name) ⊎ (both name ≡ other name)

module _ (sizes : Sizes) (one other both : Words) (first : AreBehind one both) (second : AreBehind other both) (either : AreOfEither one other both)
    (own : IsRooted (seen_tree_of_words sizes one)) (also : IsRooted (seen_tree_of_words sizes other)) where
  abbrev all : SeenTree
  all = seen_tree_of_words sizes both

  seen_first : (n : ℕ) → IsSeen (seen_tree_of_words sizes one) n → IsSeen all n
  seen_first = IsSeen-more (seen_tree_of_words sizes one) all (HasSeenAtLeast-words sizes one both first)

  seen_second : (n : ℕ) → IsSeen (seen_tree_of_words sizes other) n → IsSeen all n
  seen_second = IsSeen-more (seen_tree_of_words sizes other) all (HasSeenAtLeast-words sizes other both second)

  children_seen : (a n : ℕ) (side : Bool) → all.child a side ≡ Some n → IsSeen all a
  children_seen a n side h =
      elim (either (ChildOf a side)) [
        | inl e ↦ seen_first a (own.children a n side (ap child_of_word (sym e) ∙ h))
        | inr e ↦ seen_second a (also.children a n side (ap child_of_word (sym e) ∙ h))
      ]

  points_seen : (n : ℕ) → IsPresent all.points n → IsSeen all n
  points_seen n h =
      let within = seen-within sizes both n h in
      let here = sym (ap is_some (point_at-seen sizes both n within)) ∙ h in
      elim (either (PointOf n)) [
        | inl e ↦ seen_first n (own.points n (ap is_some (point_at-seen sizes one n within) ∙ ap (λ w. is_some (point_of_word w)) (sym e) ∙ here))
        | inr e ↦ seen_second n (also.points n (ap is_some (point_at-seen sizes other n within) ∙ ap (λ w. is_some (point_of_word w)) (sym e) ∙ here))
      ]

  -- What each saw from node 0 on, both see so.
  IsRooted-either : IsRooted all
  IsRooted-either = record {
    start =
        let was = (seen_tree_of_words sizes one).points in
        IsPresent-stands all.points 0 (point_of was 0)
        ((HasSeenAtLeast-words sizes one both first).places.nodes 0 (point_of was 0) (StandsAt-present was 0 own.start));
    children = children_seen;
    points = points_seen;
    pairs = λ n h.
        elim (either (TreeOf n)) [
          | inl e ↦ seen_first n (own.pairs n (ap (λ w. is_some (tree_of_word w)) (sym e) ∙ h))
          | inr e ↦ seen_second n (also.pairs n (ap (λ w. is_some (tree_of_word w)) (sym e) ∙ h))
        ];
  }

module _ (view other : View) (same : other.run ≡ view.run) where
  abbrev both : View
  both = joined view other

  pub sees-either : AreOfEither (sees view) (sees other) (sees both)
  sees-either name =
      let merged = word_at-merged (run_sizes view.run) view.seen other.seen name in
      let theirs = ap (λ run. words_of_run run other.seen name) (sym same) in
      elim (later_word-either (kind_of name) (sees view name) (words_of_run view.run other.seen name)) [
        | inl e ↦ inl (merged ∙ e)
        | inr e ↦ inr (merged ∙ e ∙ theirs)
      ]

  -- After a join, with no hand, a view sees what either saw, and so its tree.
  pub SeesTree-joined : AreBehind (sees view) (sees both) → AreBehind (sees other) (sees both) → view.hand ≡ None → SeesTree view → SeesTree other
      → SeesTree both
  SeesTree-joined first second idle tree also = record {
    rooted =
        IsRooted-either (run_sizes view.run) (sees view) (sees other) (sees both) first second sees-either tree.rooted
        (subst (λ run. IsRooted (seen_tree_of_words (run_sizes run) (sees other))) same also.rooted);
    placed = λ k h.
        elim (sees-either (RecordOf k)) [
          | inl e ↦ IsPresent-later view both refl first (suc k) (tree.placed k (sym (has_node-same (sees view) (sees both) k e) ∙ h))
          | inr e ↦ IsPresent-later other both (sym same) second (suc k) (also.placed k (sym (has_node-same (sees other) (sees both) k e) ∙ h))
        ];
    placed_first = λ k h.
        elim (sees-either (RecordOf k)) [
          | inl e ↦ first-later view both refl first (suc k) (tree.placed_first k (sym (has_node-same (sees view) (sees both) k e) ∙ h))
          | inr e ↦ first-later other both (sym same) second (suc k) (also.placed_first k (sym (has_node-same (sees other) (sees both) k e) ∙ h))
        ];
    holds = λ hand held. (let none = sym idle ∙ held in cc);
  }

-- ---- the first view of a run

module _ (task : Task) (limit : ℕ) (words : Words) (held : HoldRun task limit words) where
  abbrev sizes : Sizes
  sizes = sizes_of task

  abbrev held_tree : SeenTree
  held_tree = seen_tree_of_words sizes words

  -- a node is shown at its point
  point_held : (n : ℕ) → has_node words n ≡ true → IsPresent held_tree.points n
  point_held n h =
      let points = points_of_words sizes words in
      let here = node_present task limit words held n h in
      ap is_some (point_at-seen sizes words n (present-within sizes words n here)
      ∙ point_of_word-stands sizes words n (point_of points n) (StandsAt-present points n here))

  -- and is the child that its way comes to
  seen_on_way : (q : Point) (depth n : ℕ) → IsOnWay (children_of_words words) (points_of_words sizes words) q depth n → IsSeen held_tree n
  seen_on_way q zero n way = inl (way_start (children_of_words words) (points_of_words sizes words) q n way)
  seen_on_way q (suc depth) n way =
      let step = last_step (children_of_words words) (points_of_words sizes words) q depth n way in
      inr (step.node, goes_right depth step.point q, step.link)

  node_held : (n : ℕ) → has_node words n ≡ true → IsSeen held_tree n
  node_held n h =
      let points = points_of_words sizes words in
      let way = held.ways.on_way n (point_of points n) (StandsAt-present points n (node_present task limit words held n h)) in
      seen_on_way (point_of points n) way.0 n way.1

  -- a number without a node has nothing to be seen
  children_held : (a n : ℕ) (side : Bool) → held_tree.child a side ≡ Some n → IsSeen held_tree a
  children_held a n side h =
      elim (cases_Bool (has_node words a)) [
        | inl node ↦ node_held a node
        | inr gone ↦ (
            let none = held.ways.empty a side (λ here. let no = sym gone ∙ has_node-present sizes words a here in cc) in
            absurd (not_empty (children_of_words words) a n side none h))
      ]

  points_held : (n : ℕ) → IsPresent held_tree.points n → IsSeen held_tree n
  points_held n h =
      elim (cases_Bool (has_node words n)) [
        | inl node ↦ node_held n node
        | inr gone ↦ (
            let none = point_at-seen sizes words n (seen-within sizes words n h) ∙ ap point_of_word (held.blank n gone).point in
            let no = sym h ∙ ap is_some none in
            cc)
      ]

  pairs_held : (n : ℕ) → IsSome (held_tree.parent_and_cost n) → IsSeen held_tree n
  pairs_held n h =
      elim (cases_Bool (has_node words n)) [
        | inl node ↦ node_held n node
        | inr gone ↦ (let no = sym h ∙ ap (λ w. is_some (tree_of_word w)) (held.blank n gone).tree in cc)
      ]

-- All of a closed run is seen from node 0 on, and so the first view sees its tree.
pub SeesTree-started : (task : Task) (limit workers : ℕ) (items : List ℕ) → HoldRun task limit (run_words task items)
    → SeesTree (newcomer (run_of task workers limit) items)
SeesTree-started task limit workers items held =
    let words : Words = run_words task items in
    record {
      rooted = record {
        start = point_held task limit words held 0 refl;
        children = children_held task limit words held;
        points = points_held task limit words held;
        pairs = pairs_held task limit words held;
      };
      placed = λ k. point_held task limit words held (suc k);
      placed_first = λ k h. omega (arith, (held.written (suc k) (node_present task limit words held (suc k) h)).first);
      holds = λ hand e. cc;
    }
