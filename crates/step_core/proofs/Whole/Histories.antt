-- No word that tells of the run goes back, whatever step a view makes. A place that a step found empty was empty, and so no node stood at a
-- point whose way leads there, by what the view sees at any later moment.
-- A word that others load is told as it is by each step that says to have looked at it, and was so at some moment since.
use Rattle.step_core.proofs.Words.{◌≡◌, ◌≢◌, ◌<◌, ◌≤◌, ◌∙◌, ◌⊎◌, ℕ, Bool, true, List, Option, None, length, set, refl, sym, ap, subst, inl, inr, arith}
use Rattle.step_core.proofs.Words.{slice_index, cases_Bool, cases_eq, cases_order, some, some-injective, get_elem?, IsFree, StandsAt, point_at, EndsSince}
use Rattle.step_core.proofs.Words.{Children, FillsPlaces, FollowWays, IsOnWay, goes_right, Point, StandsAt-unique, IsOnWay-true, IsOnWay-unique, earlier_step}
use Rattle.step_core.proofs.Words.{not_empty, way_stops, IsOnWay-fills, child_of_word, children_of_words, is_linked, AreBehind, MayBecome, kind_of, Word, Words}
use Rattle.step_core.proofs.Words.{Best, ChildOf, TreeOf, cost_in, MayBecome-trans, IsLater, FillsNoPlace, HasNoted, IsNoted, IsNoteOf, linked_points}
use Rattle.step_core.proofs.Words.{shared_tree_of_words, loaded, LeadsTo, sight_in, last_zero, run_sizes, sees, tree_seen, IsTold, IsWorld, Note, SharedRun}
use Rattle.step_core.proofs.Words.{View, GoesTo, IsLoaded, NotesAsSeen, SeesSome, SomeNote, last_seen, best_loaded, hand_with_best, IsViewOf, last_look, suc}
use Rattle.step_core.proofs.Words.{Some, is_some, WritesWord, AreBehind-refl, AreBehind-trans, HasCome, WasFree, WasSo, steps, linked, steps_then}
use Rattle.step_core.proofs.Words.{Hand, Treed}
use Rattle.step_core.proofs.OneView.LawfulSights.{IsTrueOf-seen}
use Rattle.step_core.proofs.Parts.LinkedStates.{GrowsInto-behind, unlinked-childless}
use Rattle.step_core.proofs.Parts.ViewLists.{at-after_set, at-set, at-set_other, same-at}
use Rattle.step_core.proofs.Seen.Looks.{cost_in-falls, AreBehind-write}
use Rattle.step_core.proofs.Seen.SeenByViews.{WritesWord-zero, WritesWord-look_best, WritesWord-looked, WritesWord-saw}
use Rattle.step_core.proofs.Steps.WorldSteps.{follow, live, tree, seen_within}
use Rattle.step_core.proofs.Parts.WorldNotes.{GoesTo-both, GoesTo-now, HasWord-loaded, last_look-spent, last_seen-table, last_zero-spent}
use Rattle.step_core.specs.Histories.HasCome.{begins, goes_on}
use Rattle.step_core.proofs.OneView.LinkedViews.{WritesWord-zero_linked}
use Rattle.step_core.proofs.Steps.WorldNodes.{IsWorld-linked, shown_linked}
use Rattle.step_core.proofs.Parts.MarksInHand.{in_hand}

-- ---- one step, of whichever kind

module _ (run : SharedRun) (words after : Words) (views : List View) (id : ℕ) (view then : View) (world : IsWorld run words views)
    (at : get_elem? views id ≡ some view) (next : IsWorld run after (set views id then)) where
  then_at : get_elem? (set views id then) id ≡ some then
  then_at = at-set views id view then at

  module _ (later : IsLater view then) where
    -- What tells of the run is seen as it is by some view: that still is behind the words, or it is the one that made the step.
    pub MayBecome-told : (name : Word) → IsTold run words name → MayBecome (kind_of name) (words name) (after name)
    MayBecome-told name told =
        let copy = world.copies name told in
        elim (same-at views copy.id id copy.view view copy.at at) [
          | inl (same, is) ↦
              subst (λ w. MayBecome (kind_of name) w (after name)) (ap (λ u. sees u name) (sym is) ∙ copy.same)
              (MayBecome-trans (kind_of name) (sees view name) (sees then name) (after name) (later.seen name) (next.seen.behind id then then_at name))
          | inr apart ↦
              subst (λ w. MayBecome (kind_of name) w (after name)) copy.same
              (next.seen.behind copy.id copy.view (at-set_other views id copy.id then apart ∙ copy.at) name)
        ]

    -- So no cost rises.
    pub cost-falls : (n : ℕ) → is_linked (run_sizes run) words n ≡ true → cost_in (after (TreeOf n)) ≤ cost_in (words (TreeOf n))
    cost-falls n linked =
        cost_in-falls (words (TreeOf n)) (after (TreeOf n)) (omega (arith, (world.trees.written n linked).tree)) (MayBecome-told (TreeOf n) linked)

    -- nor does the best word
    pub best-falls : after Best ≤ words Best
    best-falls =
        let copy = world.best_copy in
        elim (same-at views copy.id id copy.view view copy.at at) [
          | inl (same, is) ↦ (
              let own : then.run ≡ run = later.run ∙ ap (λ u. u.run) (sym is) ∙ copy.run_is in
              omega (arith, (next.bests id then then_at own).falls, later.best, ap (λ u. u.best) is, copy.same))
          | inr apart ↦ omega (arith, (next.bests copy.id copy.view (at-set_other views id copy.id then apart ∙ copy.at) copy.run_is).falls, copy.same)
        ]

  -- what is noted then was noted before, or by the view that made the step
  pub was-noted : (note : Note) → IsNoted (set views id then) note → IsNoted views note ⊎ HasNoted then note
  was-noted note now =
      elim (at-after_set views id now.id then now.view now.at) [
        | inr other ↦ inl (record { id = now.id; view = now.view; at = other.1; has = now.has })
        | inl own ↦ inr (subst (λ u. HasNoted u note) (sym own.1) now.has)
      ]

  -- what was noted tells of no more steps of the view than it had made
  pub made-before : view.run ≡ run → (note : Note) → IsNoted views note → slice_index note.steps id ≤ view.steps
  made-before own note now =
      elim (world.notes.made note now id) [
        | inl none ↦ omega (arith, none)
        | inr (u, there, most) ↦
            let is : u ≡ view = some-injective u view (sym there ∙ at) in
            omega (arith, most (ap (λ v. v.run) is ∙ own), ap (λ v. v.steps) is)
      ]

  -- A place that the view has found empty by this step is empty after it, if the view notes no place of a child.
  pub empty-after :
      view.run ≡ run → FillsNoPlace view then → (n : ℕ) (side : Bool) → view.steps < last_zero then (ChildOf n side) → after (ChildOf n side) ≡ 0
  empty-after own fills n side found =
      elim (cases_eq (after (ChildOf n side)) 0) [
        | inl none ↦ none
        | inr some_child ↦ elim (next.empties n side some_child id then then_at) [
          | inl never ↦ absurd (omega (arith, found, never))
          | inr told ↦ absurd (omega (
            arith,
            found,
            told.same,
            made-before own told.note (elim (was-noted told.note told.is_noted) [
              | inl old ↦ old
              | inr has ↦
                  let of = subst (λ r. IsNoteOf r (ChildOf n side) told.note) (sym own) told.of_word in
                  record { id = id; view = view; at = at; has = fills n side told.note has of }
            ]),
          ))
        ]
      ]

  -- And so it was before.
  pub empty-before :
      IsLater view then → view.run ≡ run → FillsNoPlace view then → (n : ℕ) (side : Bool) → view.steps < last_zero then (ChildOf n side)
      → words (ChildOf n side) ≡ 0
  empty-before later own fills n side found =
      elim (cases_Bool (is_linked (run_sizes run) words n)) [
        | inl linked ↦ elim (MayBecome-told later (ChildOf n side) linked) [
          | inl none ↦ none
          | inr same ↦ same ∙ empty-after own fills n side found
        ]
        | inr not_linked ↦ unlinked-childless run words views world.links n not_linked side
      ]

-- So no load may tell of a place that is filled that it has found it empty.
pub filled-not_found :
    (run : SharedRun) (words : Words) (views : List View) (id : ℕ) (view : View) → IsWorld run words views → get_elem? views id ≡ some view → view.run ≡ run
    → (n : ℕ) (side : Bool) → n ≤ length run.marks → words (ChildOf n side) ≢ 0 → ¬ IsWorld run words (set views id (loaded view (ChildOf n side) 0))
filled-not_found run words views id view world at own n side within some_child next =
    let now = (WritesWord-zero run view (live run words views id view world at own) (ChildOf n side) within 0).here in
    some_child (empty-after run words words views id view (loaded view (ChildOf n side) 0) world at next own (λ m right note has of. has) n side
    (omega (arith, now)))

-- ---- with the way at a later moment

module _ (child later : Children) (points points_later : List (Option Point)) (fills : FillsPlaces child later points points_later)
    (ways : FollowWays child points) where
  -- A way of a later moment that comes to a place which is empty now: no node stands at its point now.
  pub IsFree-later :
      (q : Point) (depth n : ℕ) (p : Point) → IsOnWay later points_later q depth n → StandsAt points_later n p → p ≢ q
      → child n (goes_right depth p q) ≡ None → IsFree points q
  IsFree-later q depth n p way stands other empty j here =
      let own = ways.on_way j q here in
      let then = IsOnWay-fills child later points points_later fills q own.0 j own.1 in
      let here_then = fills.nodes j q here in
      elim (cases_order depth own.0) [
        | inl e ↦ (
            let same : n ≡ j = IsOnWay-unique later points_later q own.0 n j (subst (λ d. IsOnWay later points_later q d n) e way) then in
            other (StandsAt-unique points_later j p q (ap (point_at points_later) (sym same) ∙ stands) here_then))
        | inr (inl before) ↦ (
            let found = earlier_step child points q own.0 j own.1 depth before in
            let step = found.1 in
            let same : step.node ≡ n =
            IsOnWay-unique later points_later q depth step.node n (IsOnWay-fills child later points points_later fills q depth step.node step.on_way) way in
            let point : step.point ≡ p =
            StandsAt-unique points_later n step.point p (ap (point_at points_later) (sym same) ∙ fills.nodes step.node step.point step.stands) stands in
            let place : child step.node (goes_right depth step.point q) ≡ child n (goes_right depth p q) =
            ap (λ a. child a (goes_right depth step.point q)) same ∙ ap (λ r. child n (goes_right depth r q)) point in
            not_empty child n found.0 (goes_right depth p q) empty (sym place ∙ step.link))
        | inr (inr after) ↦ way_stops later points_later q own.0 j then here_then depth n (omega (arith, after)) way
      ]

-- no child and no node goes
pub FillsPlaces-behind :
    (run : SharedRun) (words later : Words) (views lasts : List View) → IsWorld run words views → IsWorld run later lasts → AreBehind words later
    → FillsPlaces (children_of_words words) (children_of_words later) (linked_points (run_sizes run) words) (linked_points (run_sizes run) later)
FillsPlaces-behind run words later views lasts world last go = record {
  children = λ n m side h.
      elim (go (ChildOf n side)) [
        | inl none ↦ (let no = sym (ap child_of_word none) ∙ h in cc)
        | inr same ↦ ap child_of_word (sym same) ∙ h
      ];
  nodes = (GrowsInto-behind run words later views lasts world.numbers world.links last.numbers last.links world.trees go).nodes;
}

-- While the place to which the way of q leads by what a view sees later was empty, no node stood at q.
pub IsFree-since :
    (run : SharedRun) (words later : Words) (views lasts : List View) (id : ℕ) (view : View) → IsWorld run words views → IsWorld run later lasts
    → AreBehind words later → get_elem? lasts id ≡ some view → view.run ≡ run → (q : Point) (n : ℕ) (side : Bool) → LeadsTo view q n side
    → words (ChildOf n side) ≡ 0 → IsFree (linked_points (run_sizes run) words) q
IsFree-since run words later views lasts id view world last go at own q n side leads empty =
    let behind = last.seen.behind id view at in
    let sees_tree = tree run later lasts id view last at own in
    let true_now = IsTrueOf-seen view later behind sees_tree (follow run later lasts id view last at own) in
    let way : IsOnWay (children_of_words later) (linked_points (run_sizes run) later) q leads.depth n =
    subst (λ r. IsOnWay (children_of_words later) (linked_points (run_sizes r) later) q leads.depth n) own
    (IsOnWay-true (tree_seen view) (shared_tree_of_words (run_sizes view.run) later) true_now q leads.depth n leads.on_way) in
    let stands : StandsAt (linked_points (run_sizes run) later) n leads.at =
    subst (λ r. StandsAt (linked_points (run_sizes r) later) n leads.at) own (true_now.places.nodes n leads.at leads.stands) in
    IsFree-later (children_of_words words) (children_of_words later) (linked_points (run_sizes run) words) (linked_points (run_sizes run) later)
    (FillsPlaces-behind run words later views lasts world last go) world.links.ways q leads.depth n leads.at way stands leads.apart
    (ap (children_of_words words n) leads.side_is ∙ ap child_of_word empty)

-- ---- both

-- If a step has found a place empty to which the way of q leads by what the view sees later, no node stood at q by that step.
pub IsFree-found :
    (run : SharedRun) (words after later : Words) (views lasts : List View) (id : ℕ) (view then last : View) → IsWorld run words views
    → get_elem? views id ≡ some view → IsWorld run after (set views id then) → view.run ≡ run → FillsNoPlace view then → IsWorld run later lasts
    → AreBehind after later → get_elem? lasts id ≡ some last → last.run ≡ run → (q : Point) (n : ℕ) (side : Bool) → LeadsTo last q n side
    → view.steps < last_zero then (ChildOf n side) → IsFree (linked_points (run_sizes run) after) q
IsFree-found run words after later views lasts id view then last world at next own fills world_last go at_last own_last q n side leads found =
    IsFree-since run after later (set views id then) lasts id last next world_last go at_last own_last q n side leads
    (empty-after run words after views id view then world at next own fills n side found)

-- What a view has swept since some of its steps has such a place.
pub LeadsTo-ends :
    (view : View) (since : ℕ) (q : Point) → EndsSince (sight_in view) since q
    → (n : ℕ) × (side : Bool) × LeadsTo view q n side × (since < last_zero view (ChildOf n side))
LeadsTo-ends view since q ends = (
  ends.node,
  goes_right ends.depth ends.point q,
  record { depth = ends.depth; at = ends.point; on_way = ends.on_way; stands = ends.stands; apart = ends.other; side_is = refl },
  ends.empty,
)

-- ---- words that others load

module _ (run : SharedRun) (words after : Words) (views : List View) (id : ℕ) (view then : View) (world : IsWorld run words views)
    (at : get_elem? views id ≡ some view) (own : view.run ≡ run) (next : IsWorld run after (set views id then)) where
  there : get_elem? (set views id then) id ≡ some then
  there = at-set views id view then at

  -- it has looked at a word, so it is not spent
  still_live : (name : Word) → view.steps < last_look then name → then.run ≡ run
  still_live name looked =
      elim (next.of_run id then there) [
        | inr of_run ↦ of_run.run_is
        | inl gone ↦ absurd (omega (arith, looked, ap (λ v. last_look v name) gone, last_look-spent name))
      ]

  -- If it were otherwise, what the word is would be noted: by this step it is what is seen, and what was noted before is not more than what is seen.
  pub seen-as_it_is :
      (name : Word) → IsLoaded run name → view.steps < last_look then name → NotesAsSeen view then name → SeesSome then name → last_seen then name ≡ after name
  seen-as_it_is name may looked notes some_seen =
      elim (cases_eq (last_seen then name) (after name)) [
        | inl is ↦ is
        | inr differs ↦ elim (next.notes.noted id then there of_then name may differs) [
          | inl (n, tree, none, placed) ↦ absurd (some_seen n tree (subst (λ m. last_seen then m ≡ 0) (sym tree) none))
          | inr told ↦ elim (was-noted run words after views id view then world at next told.note told.is_noted) [
            | inl old ↦ before told old
            | inr has ↦ elim (notes told.note has (subst (λ r. IsNoteOf r name told.note) (sym own) told.of_word)) [
              | inl had ↦ before told (record { id = id; view = view; at = at; has = had })
              | inr as_seen ↦ absurd (differs (sym as_seen ∙ told.same))
            ]
          ]
        ]
      ]
    where
      of_then : then.run ≡ run
      of_then = still_live name looked

      before :
          (told : SomeNote run (set views id then) name (λ note. note.word ≡ after name)) → IsNoted views told.note → last_seen then name ≡ after name
      before told old =
          let low = made-before run words after views id view then world at next own told.note old in
          let on = next.notes.fresh id then there of_then told.note told.is_noted name may told.of_word (omega (arith, low, looked)) in
          GoesTo-both name (after name) (last_seen then name) (subst (λ w. GoesTo name w (last_seen then name)) told.same on)
          (GoesTo-now run after (set views id then) next id then there of_then name)

module _ (run : SharedRun) (words : Words) (views : List View) (id : ℕ) (view : View) (world : IsWorld run words views)
    (at : get_elem? views id ≡ some view) (own : view.run ≡ run) where
  of_run : IsViewOf run view
  of_run = live run words views id view world at own

  -- A load tells the word as it is.
  pub load-not_stale :
      (name : Word) → IsLoaded run name → name ≢ Best → (word : ℕ) → word ≢ words name → SeesSome (loaded view name word) name
      → ¬ IsWorld run words (set views id (loaded view name word))
  load-not_stale name may off word stale some_seen next =
      let then : View = loaded view name word in
      let here = HasWord-loaded run name may in
      let looked = (WritesWord-looked run view of_run name here word word).here in
      let is = seen-as_it_is run words words views id view then world at own next name may (omega (arith, looked)) (λ note has of. inl has) some_seen in
      stale (sym (WritesWord-saw run view of_run name here word word).here ∙ sym (last_seen-table then name off) ∙ is)

  -- So does a load of the best word.
  pub best-not_stale : (word : ℕ) → word ≢ words Best → ¬ IsWorld run words (set views id (best_loaded view word))
  best-not_stale word stale next =
      let looked = (WritesWord-look_best run view of_run word (hand_with_best view.hand word) view.notes).here in
      stale (seen-as_it_is run words words views id view (best_loaded view word) world at own next Best tt (omega (arith, looked)) (λ note has of. inl has)
      (λ n e. cc))

-- ---- the time of a call

module _ (run : SharedRun) (id : ℕ) (words : Words) (views : List View) (world : IsWorld run words views) where
  -- the law holds all the while
  world_now : (last : Words) (lasts : List View) → HasCome run id words views last lasts → IsWorld run last lasts
  world_now last lasts begins = world
  world_now last lasts (steps now after here next view then come at own is holds go later fills knows) = holds
  world_now last lasts (goes_on now after here next view then come at at_then holds go same knows) = holds

  -- and the words go on
  behind_now : (last : Words) (lasts : List View) → HasCome run id words views last lasts → AreBehind words last
  behind_now last lasts begins = AreBehind-refl words
  behind_now last lasts (steps now after here next view then come at own is holds go later fills knows) =
      AreBehind-trans words now after (behind_now now here come) go
  behind_now last lasts (goes_on now after here next view then come at at_then holds go same knows) =
      AreBehind-trans words now after (behind_now now here come) go

  -- what was so by then was so by now
  WasSo-on : (now after : Words) (name : Word) (word : ℕ) → AreBehind now after → WasSo run words now name word → WasSo run words after name word
  WasSo-on now after name word go was = record {
    words = was.words;
    views = was.views;
    world = was.world;
    since = was.since;
    until = AreBehind-trans was.words now after was.until go;
    so = was.so;
  }

  -- and so was what is so
  so_now :
      (last : Words) (lasts : List View) (name : Word) (word : ℕ) → HasCome run id words views last lasts → last name ≡ word
      → WasSo run words last name word
  so_now last lasts name word come is = record {
    words = last;
    views = lasts;
    world = world_now last lasts come;
    since = behind_now last lasts come;
    until = AreBehind-refl last;
    so = is;
  }

  module _ (first : View) (at_first : get_elem? views id ≡ some first) (n : ℕ) (side : Bool) where
    -- the first view has found it empty by none of the steps to come
    found_before : last_zero first (ChildOf n side) ≤ first.steps
    found_before =
        elim (world.of_run id first at_first) [
          | inl gone ↦ omega (arith, ap (λ v. last_zero v (ChildOf n side)) gone, last_zero-spent (ChildOf n side))
          | inr live ↦ live.zero_looks (ChildOf n side)
        ]

    pub WasSo-found_empty :
        (last : Words) (lasts : List View) → HasCome run id words views last lasts → (end : View) → get_elem? lasts id ≡ some end
        → first.steps < last_zero end (ChildOf n side) → WasSo run words last (ChildOf n side) 0
    WasSo-found_empty last lasts begins end at_end found =
        let same : end ≡ first = some-injective end first (sym at_end ∙ at_first) in
        absurd (omega (arith, found, ap (λ v. last_zero v (ChildOf n side)) same, found_before))
    WasSo-found_empty last lasts (steps now after here next view then come at own is holds go later fills knows) end at_end found =
        let same : end ≡ then = some-injective end then (sym at_end ∙ ap (λ l. get_elem? l id) is ∙ at-set here id view then at) in
        let looked = ap (λ v. last_zero v (ChildOf n side)) same in
        elim (later.zero_found (ChildOf n side) (λ e. cc)) [
          | inl as_before ↦
              WasSo-on now after (ChildOf n side) 0 go (WasSo-found_empty now here come view at (omega (arith, found, looked, as_before)))
          | inr anew ↦
              so_now after next (ChildOf n side) 0 (steps now after here next view then come at own is holds go later fills knows)
              (empty-after run now after here id view then (world_now now here come) at (subst (IsWorld run after) is holds) own fills n side anew.0)
        ]
    WasSo-found_empty last lasts (goes_on now after here next view then come at at_then holds go same knows) end at_end found =
        elim (cases_eq (now (ChildOf n side)) 0) [
          | inl none ↦ WasSo-on now after (ChildOf n side) 0 go (so_now now here (ChildOf n side) 0 come none)
          | inr some_child ↦ (
              let is : end ≡ then = some-injective end then (sym at_end ∙ at_then) in
              WasSo-on now after (ChildOf n side) 0 go (WasSo-found_empty now here come view at
              (omega (arith, found, ap (λ v. last_zero v (ChildOf n side)) is, same n side some_child))))
        ]

-- So what a view sees last of a word at which it has looked since was so at some moment since.
module _ (run : SharedRun) (id : ℕ) (words : Words) (views : List View) (world : IsWorld run words views) (first : View)
    (at_first : get_elem? views id ≡ some first) (name : Word) (may : IsLoaded run name) where
  pub WasSo-looked :
      (last : Words) (lasts : List View) → HasCome run id words views last lasts → (end : View) → get_elem? lasts id ≡ some end
      → first.steps < last_look end name → SeesSome end name → WasSo run words last name (last_seen end name)
  WasSo-looked last lasts begins end at_end looked some_seen =
      let same : end ≡ first = some-injective end first (sym at_end ∙ at_first) in
      let top : last_look first name ≤ first.steps = elim (world.of_run id first at_first) [
        | inl gone ↦ omega (arith, ap (λ v. last_look v name) gone, last_look-spent name)
        | inr live ↦ live.looks name
      ] in
      absurd (omega (arith, looked, ap (λ v. last_look v name) same, top))
  WasSo-looked last lasts (steps now after here next view then come at own is holds go later fills knows) end at_end looked some_seen =
      let same : end ≡ then = some-injective end then (sym at_end ∙ ap (λ l. get_elem? l id) is ∙ at-set here id view then at) in
      let found = subst (λ v. first.steps < last_look v name) same looked in
      let some = subst (λ v. SeesSome v name) same some_seen in
      subst (λ v. WasSo run words after name (last_seen v name)) (sym same) (elim (knows name may) [
        | inl as_before ↦
            subst (WasSo run words after name) (sym as_before.1) (WasSo-on run id words views world now after name (last_seen view name) go
            (WasSo-looked now here come view at (omega (arith, found, as_before.0)) (λ n e none. some n e (as_before.1 ∙ none))))
        | inr anew ↦
            so_now run id words views world after next name (last_seen then name)
            (steps now after here next view then come at own is holds go later fills knows)
            (sym (seen-as_it_is run now after here id view then (world_now run id words views world now here come) at own
            (subst (IsWorld run after) is holds) name may anew.0 anew.1 some))
      ])
  WasSo-looked last lasts (goes_on now after here next view then come at at_then holds go same knows) end at_end looked some_seen =
      let is : end ≡ then = some-injective end then (sym at_end ∙ at_then) in
      let seen : last_seen end name ≡ last_seen then name = ap (λ v. last_seen v name) is in
      subst (WasSo run words after name) (sym seen) (elim (knows name may) [
        | inr so ↦
            so_now run id words views world after next name (last_seen then name)
            (goes_on now after here next view then come at at_then holds go same knows) (sym so)
        | inl as_before ↦
            subst (WasSo run words after name) (sym as_before.1) (WasSo-on run id words views world now after name (last_seen view name) go
            (WasSo-looked now here come view at (omega (arith, looked, ap (λ v. last_look v name) is, as_before.0))
            (λ n e none. some_seen n e (seen ∙ as_before.1 ∙ none))))
      ])

-- Each point that a view has swept since a moment, and at which it sees no node, was free at some moment since.
pub WasFree-swept :
    (run : SharedRun) (id : ℕ) (words last : Words) (views lasts : List View) (first end : View) → IsWorld run words views
    → get_elem? views id ≡ some first → HasCome run id words views last lasts → get_elem? lasts id ≡ some end → end.run ≡ run → (q : Point)
    → EndsSince (sight_in end) first.steps q → WasFree run words last q
WasFree-swept run id words last views lasts first end world at come at_end own q ends =
    let (n, side, leads, found) = LeadsTo-ends end first.steps q ends in
    let was = WasSo-found_empty run id words views world first at n side last lasts come end at_end found in
    record {
      words = was.words;
      views = was.views;
      world = was.world;
      since = was.since;
      until = was.until;
      free =
          IsFree-since run was.words last was.views lasts id end was.world (world_now run id words views world last lasts come) was.until at_end own q n
          side leads was.so;
    }

-- ---- kinds of steps

-- The world comes further by a link, which finds no other place empty,
pub HasCome-linked :
    (run : SharedRun) (id : ℕ) (words now after : Words) (views here : List View) (view : View) → IsWorld run words views
    → HasCome run id words views now here → get_elem? here id ≡ some view → view.run ≡ run → (hand : Hand) → view.hand ≡ Some hand → hand.stage ≡ Treed
    → (n : ℕ) (side : Bool) → LeadsTo view hand.point n side → now (ChildOf n side) ≡ 0 → WritesWord (ChildOf n side) (suc hand.mark) now after
    → HasCome run id words views after (set here id (linked view hand n side (steps_then here id view)))
HasCome-linked run id words now after views here view world come at own hand held stage n side leads empty writes =
    let noted : List ℕ = steps_then here id view in
    let then : View = linked view hand n side noted in
    let holds = world_now run id words views world now here come in
    let within = seen_within run now here id view holds at own n ((tree run now here id view holds at own).rooted.points n (ap is_some leads.stands)) in
    let low = (in_hand run now here id view holds at hand held).low in
    let zeros = WritesWord-zero_linked run view (live run now here id view holds at own) hand n side within low in
    goes_on now after here (set here id then) view then come at (at-set here id view then at)
    (IsWorld-linked run now after here id view holds at own hand held stage n side leads empty writes)
    (AreBehind-write (ChildOf n side) (suc hand.mark) now after writes (inl empty))
    (λ m right some_child. zeros.others (ChildOf m right) (λ e. some_child (ap now e ∙ empty)))
    (λ name told. shown_linked run now after here id view holds at own hand held stage n side leads empty writes noted name)

-- and by a step of another view.
pub HasCome-other :
    (run : SharedRun) (id j : ℕ) (words now after : Words) (views here : List View) (view then : View) → HasCome run id words views now here
    → get_elem? here id ≡ some view → j ≢ id → IsWorld run after (set here j then) → AreBehind now after → HasCome run id words views after (set here j then)
HasCome-other run id j words now after views here view then come at apart holds go =
    goes_on now after here (set here j then) view view come at (at-set_other here j id then (λ e. apart (sym e)) ∙ at) holds go (λ m right some_child. refl)
    (λ name told. inl (refl, refl))
