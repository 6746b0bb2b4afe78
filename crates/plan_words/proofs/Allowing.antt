-- The steps of a seat, as the table asks for them: whatever its words are then, the law of worlds holds after the step.
use Rattle.plan_words.proofs.Words.{◌≡◌, ℕ, suc, ◌+◌, ◌%◌, ◌<◌, ◌≤◌, ◌^◌, Bool, true, false, List, ◌∷◌, length, set, Some, None, refl, sym, ap, ◌∙◌, subst}
use Rattle.plan_words.proofs.Words.{arith, ◌≢◌, ◌==◌, cond, min, slice_index, slice_set, eqb-false, eqb-true, length-set, set-get_or, same_Some, State, Me, Act}
use Rattle.plan_words.proofs.Words.{step, Valid, carried_after, Allows, Splits, Joins, keeps, Aim, FindsGoalNode, Claims, Counts, FindsAsSeen, FindsCount}
use Rattle.plan_words.proofs.Words.{FindsPoint, FindsTree, FindsWholeCount, Finishes, Links, Loads, LoadsBest, Lowers, Posts, TellsHand, WritesFirst}
use Rattle.plan_words.proofs.Words.{WritesPoint, WritesTree, exchanged_at, GoesOn, HasWholeShare, HoldsWorld, IsLater, IsUnskipped, MayPost, MayRecord}
use Rattle.plan_words.proofs.Words.{MayBeRecorded, best_loaded, best_with, hand_with_best, hand_with_post, posted, claimed, counted, finished, finished_at}
use Rattle.plan_words.proofs.Words.{IsTableOf, Opening, TableId, WordPlaces, run_of_opening, half, joined, last_note, linked, linked_at, loaded, looker}
use Rattle.plan_words.proofs.Words.{lowered, mark_of, pair_in_hand, live, noting, parted, place_in, pointed, saw_at, steps_then, treed, worker_apart, IsSteered}
use Rattle.plan_words.proofs.Words.{LeadsTo, MayHang, MayLoad, MayLower, run_sizes, sees, share, spent, words_of_run, IsWorld, IsTurnWord-packed}
use Rattle.plan_words.proofs.Words.{IsWorld-recorded, in_hand, IsLater-claimed, IsLater-finished, IsLater-loaded, IsLawfulView-world, own_count-most, at-set}
use Rattle.plan_words.proofs.Words.{IsWorld-joined, IsCut-looker, IsCut-parted, IsWorld-cut, count-most, IsLater-lowered, IsWorld-lowered, lower-found}
use Rattle.plan_words.proofs.Words.{tree-written, IsLater-link, IsWorld-counted, IsWorld-half, IsWorld-linked, IsWorld-pointed, IsWorld-treed, IsLater-counted}
use Rattle.plan_words.proofs.Words.{IsLater-half, IsLater-pointed, IsLater-treed, HasWord-load, IsWorld-claimed, IsWorld-loaded, seen_within, IsLater-best}
use Rattle.plan_words.proofs.Words.{IsWorld-best_loaded, IsWorld-posted, Word, Words, WritesWord, Best, ChildOf, Count, Counter, FirstOf, PointOf, RecordOf}
use Rattle.plan_words.proofs.Words.{TreeOf, HasWord, place_of, Point, Record, FitsWord, best_cost_in, best_node_in, best_word, no_best, cost_in, parent_in}
use Rattle.plan_words.proofs.Words.{point_word, record_word, tree_word, WritesWord-set, word-found, Hand, Member, SharedRun, Claimed, Half, Linked, Pointed}
use Rattle.plan_words.proofs.Words.{Treed, View}
use mathlib.Core.Option.{none, some}
use prog.Atomic.{either}
use lib.ListN.{get_elem?}
use Rattle.atomic_table.specs.Table.{stepped}
use Rattle.step_core.specs.ViewSteps.{stepped as one_step}
use Rattle.plan_words.proofs.WholeViews.{best-as_seen, best-whole, word_count-whole, words-whole}
use Rattle.plan_words.proofs.WrittenPoints.{written-seen}

-- the rule of a table of this run
abbrev Holds : SharedRun → State Aim View → Type 0
Holds run s = HoldsWorld run s.words s.views

-- the rule by what the table was told
abbrev pub Kept : Opening → State Aim View → Type 0
Kept key s = HoldsWorld (run_of_opening key) s.words s.views

-- what a step owes that leaves this word and this view
abbrev Owes : Opening → (slots id : ℕ) → Me Aim View → State Aim View → ℕ → ℕ → (Me Aim View → Type 0) → Type 0
Owes key slots id me s place x tells =
    (w : View) × (a : Act Aim) × Valid s.homes me.1 a × Kept key (stepped s place x id me.1 w a) × tells (w, carried_after me.1 a)

module _ (table : TableId) (key : Opening) (run : SharedRun) (places : WordPlaces) (is_table : IsTableOf table key run places) where
  -- the rule is that of the run
  in_run : (s : State Aim View) → Kept key s → Holds run s
  in_run s kept = subst (λ r. Holds r s) is_table.key_is kept

  as_told : (words : List ℕ) (views : List View) → HoldsWorld run words views → HoldsWorld (run_of_opening key) words views
  as_told words views holds = subst (λ r. HoldsWorld r words views) (sym is_table.key_is) holds

  -- the table keeps its words, but for one, and the view of the seat is another
  owes :
      (slots id place x : ℕ) (me : Me Aim View) (s : State Aim View) (view : View) (tells : Me Aim View → Type 0) → Holds run s
      → IsWorld run (words_of_run run (slice_set s.words place x)) (set s.views id view) → tells (view, me.1) → Owes key slots id me s place x tells
  owes slots id place x me s view tells holds world told =
      (view, keeps, tt, as_told _ _ (record { sized = length-set s.words place x ∙ holds.sized; world = world }), told)

  -- the view goes on by a step that keeps the law
  goes_on :
      (words after : Words) (views : List View) (id : ℕ) (view then : View) → IsWorld run words views → get_elem? views id ≡ some view
      → view.run ≡ run → IsWorld run after (set views id then) → IsLater view then → GoesOn view then
  goes_on words after views id view then world at own world_then later = record {
    was_lawful = IsLawfulView-world run words views id view world at own;
    later = later;
    lawful = IsLawfulView-world run after (set views id then) id then world_then (at-set views id view then at) (later.run ∙ own);
  }

  -- ---- loads

  -- the word is found as it is
  module _ (s : State Aim View) (name : Word) (here : HasWord (run_sizes run) name) where
    found_is : slice_index s.words (place_of (run_sizes run) name) ≡ words_of_run run s.words name
    found_is = word-found (run_sizes run) s.words (place_of (run_sizes run) name) name here refl

    same_list : (place : ℕ) → slice_set s.words place (slice_index s.words place) ≡ s.words
    same_list place = set-get_or s.words place 0

  -- it is seen as it was found
  module _
      (slots id place : ℕ) (me : Me Aim View) (name : Word) (here : HasWord (run_sizes run) name) (at_place : place ≡ place_of (run_sizes run) name)
      (own : me.0.run ≡ run) (s : State Aim View) (holds : Holds run s) (at : get_elem? s.views id ≡ some me.0) (may : MayLoad me.0 name) where
    abbrev found : ℕ
    found = slice_index s.words place

    abbrev words : Words
    words = words_of_run run s.words

    same_view : loaded me.0 name (words name) ≡ saw_at me.0 place found found
    same_view =
        let is : found ≡ words name = ap (slice_index s.words) at_place ∙ found_is s name here in
        let own_place : place ≡ place_in me.0 name = at_place ∙ ap (λ r. place_of (run_sizes r) name) (sym own) in
        ap (λ n. saw_at me.0 n (words name) (words name)) (sym own_place) ∙ ap (λ n. saw_at me.0 place n n) (sym is)

    world_loaded : IsWorld run words (set s.views id (saw_at me.0 place found found))
    world_loaded = subst (λ v. IsWorld run words (set s.views id v)) same_view (IsWorld-loaded run words s.views id me.0 holds.world at own name may)

    goes_on_loaded : GoesOn me.0 (saw_at me.0 place found found)
    goes_on_loaded =
        goes_on words words s.views id me.0 (saw_at me.0 place found found) holds.world at own world_loaded
        (subst (IsLater me.0) same_view (IsLater-loaded run words s.views id me.0 holds.world at own name may))

    world_kept : IsWorld run (words_of_run run (slice_set s.words place found)) (set s.views id (saw_at me.0 place found found))
    world_kept =
        subst (λ items. IsWorld run (words_of_run run items) (set s.views id (saw_at me.0 place found found))) (sym (same_list s name here place))
        world_loaded

    finds_point : FindsPoint me.0 place found
    finds_point n seen is =
        let there = seen_within run words s.views id me.0 holds.world at own n seen in
        let same : found ≡ words (PointOf n) =
        ap (slice_index s.words) (is ∙ ap (λ r. place_of (run_sizes r) (PointOf n)) own) ∙ found_is s (PointOf n) there in
        omega (arith, same, written-seen run words s.views id me.0 holds.world at own n seen)

    finds_tree : FindsTree me.0 place found
    finds_tree n seen is =
        let there = seen_within run words s.views id me.0 holds.world at own n seen in
        let same : found ≡ words (TreeOf n) =
        ap (slice_index s.words) (is ∙ ap (λ r. place_of (run_sizes r) (TreeOf n)) own) ∙ found_is s (TreeOf n) there in
        omega (arith, same, tree-written run words s.views id me.0 holds.world at own n seen)

    finds_count : FindsCount me.0 place found
    finds_count is entry =
        let same : found ≡ words Count =
        ap (slice_index s.words) (is ∙ ap (λ r. place_of (run_sizes r) Count) own) ∙ found_is s Count tt in
        omega (arith, same, own_count-most run words s.views id me.0 holds.world at own entry)

    finds_as_seen : FindsAsSeen me.0 place found
    finds_as_seen whole other apart may_too is =
        let there = HasWord-load run words s.views id me.0 holds.world at own other may_too in
        ap (slice_index s.words) (is ∙ ap (λ r. place_of (run_sizes r) other) own) ∙ found_is s other there
        ∙ words-whole run words s.views id me.0 holds.world at own whole other apart may_too

    finds_whole_count : FindsWholeCount me.0 place found
    finds_whole_count whole done is =
        ap (slice_index s.words) (is ∙ ap (λ r. place_of (run_sizes r) Count) own) ∙ found_is s Count tt
        ∙ word_count-whole run words s.views id me.0 holds.world at own whole done

  pub may_load :
      (slots id place : ℕ) (me : Me Aim View) (name : Word) → HasWord (run_sizes run) name → place ≡ place_of (run_sizes run) name → me.0.run ≡ run
      → MayLoad me.0 name → Allows (Kept key) slots id me place (λ x. x) (Loads (step slots place 0 0 none) me)
  may_load slots id place me name here at_place own may s kept homes at fits =
      let holds : Holds run s = in_run s kept in
      let x : ℕ = slice_index s.words place in
      owes slots id place x me s (saw_at me.0 place x x) (Loads (step slots place 0 0 none) me x) holds
      (world_kept slots id place me name here at_place own s holds at may) record {
        told = record {
          view_is = refl;
          goes_on = goes_on_loaded slots id place me name here at_place own s holds at may;
          slots = refl;
        };
        point = finds_point slots id place me name here at_place own s holds at may;
        tree = finds_tree slots id place me name here at_place own s holds at may;
        count = finds_count slots id place me name here at_place own s holds at may;
        whole = finds_as_seen slots id place me name here at_place own s holds at may;
        whole_count = finds_whole_count slots id place me name here at_place own s holds at may;
      }

  -- ---- claims

  pub may_claim :
      (slots id place g c limit : ℕ) (me : Me Aim View) → place ≡ place_of (run_sizes run) (Counter g) → me.0.run ≡ run → 0 < share me.0 → me.0.hand ≡ None
      → g < run.strips → mark_of run g c < limit → limit ≤ length run.marks
      → Allows (Kept key) slots id me place (λ x. either (x == c) (c + 1) x)
      (Claims (step slots place c (c + 1) (some (record { strip = g; limit = limit }))) me)
  may_claim slots id place g c limit me at_place own part idle strip low most s kept homes at fits =
      pick (slice_index s.words place == c) refl
    where
      holds : Holds run s
      holds = in_run s kept

      words : Words
      words = words_of_run run s.words

      is : slice_index s.words place ≡ words (Counter g)
      is = ap (slice_index s.words) at_place ∙ found_is s (Counter g) strip

      may : MayLoad me.0 (Counter g)
      may = subst (λ r. g < r.strips) (sym own) strip

      tells : ℕ → Me Aim View → Type 0
      tells found = Claims (step slots place c (c + 1) (some (record { strip = g; limit = limit }))) me found

      pick :
          (b : Bool) → (slice_index s.words place == c) ≡ b
          → Owes key slots id me s place (either b (c + 1) (slice_index s.words place)) (tells (slice_index s.words place))
      pick true e =
          let found : slice_index s.words place ≡ c = eqb-true (slice_index s.words place) c e in
          let then : View = claimed me.0 g c limit (steps_then s.views id me.0) in
          let after : Words = words_of_run run (slice_set s.words place (c + 1)) in
          let counts : WritesWord (Counter g) (c + 1) words after =
          WritesWord-set (run_sizes run) s.words place (c + 1) (c + 1) (Counter g) holds.sized strip at_place refl in
          let world = IsWorld-claimed run words s.views id me.0 holds.world at own after g c limit part idle strip (sym is ∙ found) low most counts in
          let later = IsLater-claimed run words s.views id me.0 holds.world at own g c limit strip (sym is ∙ found) (steps_then s.views id me.0) in
          let view_is : then ≡ cond (slice_index s.words place == c) then (saw_at me.0 place (slice_index s.words place) (slice_index s.words place)) =
          ap (λ b. cond b then (saw_at me.0 place (slice_index s.words place) (slice_index s.words place))) (sym e) in
          owes slots id place (c + 1) me s then (tells (slice_index s.words place)) holds world
          record {
            told = record {
              view_is = view_is;
              goes_on = subst (GoesOn me.0) view_is (goes_on words after s.views id me.0 then holds.world at own world later);
              slots = refl;
            };
            whole = finds_as_seen slots id place me (Counter g) strip at_place own s holds at may;
          }
      pick false e =
          let x : ℕ = slice_index s.words place in
          let then : View = saw_at me.0 place x x in
          let view_is : then ≡ cond (x == c) (claimed me.0 g c limit (last_note then)) then =
          ap (λ b. cond b (claimed me.0 g c limit (last_note then)) then) (sym e) in
          owes slots id place x me s then (tells x) holds (world_kept slots id place me (Counter g) strip at_place own s holds at may)
          record {
            told = record {
              view_is = view_is;
              goes_on = subst (GoesOn me.0) view_is (goes_on_loaded slots id place me (Counter g) strip at_place own s holds at may);
              slots = refl;
            };
            whole = finds_as_seen slots id place me (Counter g) strip at_place own s holds at may;
          }

  -- ---- records

  pub may_finish :
      (slots id place x : ℕ) (me : Me Aim View) (hand : Hand) (member : Member) (crew : List Member) (entry : Record)
      → place ≡ place_of (run_sizes run) (RecordOf hand.mark) → me.0.run ≡ run → me.0.hand ≡ Some hand → me.0.crew ≡ member ∷ crew → FitsWord entry
      → entry.worker ≡ member.worker → entry.turn ≡ member.turn → MayBeRecorded hand.stage entry.outcome → MayRecord me.0 hand entry
      → x ≡ record_word entry
      → Allows (Kept key) slots id me place (λ y. x) (λ y. Finishes (step slots place x 0 none) me x)
  may_finish slots id place x me hand member crew entry at_place own held crew_is fits worker turn stage may is s kept homes at low =
      let holds : Holds run s = in_run s kept in
      let words : Words = words_of_run run s.words in
      let after : Words = words_of_run run (slice_set s.words place x) in
      let mark = in_hand run words s.views id me.0 holds.world at hand held in
      let own_place : place_in me.0 (RecordOf hand.mark) ≡ place = ap (λ r. place_of (run_sizes r) (RecordOf hand.mark)) own ∙ sym at_place in
      let same : finished me.0 hand.mark (record_word entry) ≡ finished_at me.0 place x =
      ap (λ n. finished_at me.0 n (record_word entry)) own_place ∙ ap (finished_at me.0 place) (sym is) in
      let writes : WritesWord (RecordOf hand.mark) (record_word entry) words after =
      WritesWord-set (run_sizes run) s.words place x (record_word entry) (RecordOf hand.mark) holds.sized mark.low at_place is in
      let world : IsWorld run after (set s.views id (finished me.0 hand.mark (record_word entry))) =
      IsWorld-recorded run words after s.views id me.0 holds.world at own hand held member crew crew_is entry fits worker turn stage may writes in
      let written = (IsTurnWord-packed entry fits).written in
      owes slots id place x me s (finished_at me.0 place x) (Finishes (step slots place x 0 none) me x) holds
      (subst (λ v. IsWorld run after (set s.views id v)) same world)
      record {
        view_is = refl;
        goes_on = subst (GoesOn me.0) same (goes_on words after s.views id me.0 (finished me.0 hand.mark (record_word entry)) holds.world at own world
            (IsLater-finished run words s.views id me.0 holds.world at own hand held (record_word entry) written));
        slots = refl;
      }

  -- ---- nodes

  -- a step for the mark in hand tells of that hand alone
  of_hand : (me : Me Aim View) (after : View) (view : Hand → View) (hand : Hand) → me.0.hand ≡ Some hand → after ≡ view hand
      → GoesOn me.0 after → TellsHand me view (after, me.1)
  of_hand me after view hand held is on own own_held =
      let same : hand ≡ own = same_Some hand own (sym held ∙ own_held) in
      let view_is : after ≡ view own = is ∙ ap view same in
      record { view_is = view_is; goes_on = subst (GoesOn me.0) view_is on; slots = refl }

  pub may_point :
      (slots id place x : ℕ) (me : Me Aim View) (hand : Hand) (m : ℕ) (p : Point) → place ≡ place_of (run_sizes run) (PointOf (suc hand.mark))
      → me.0.run ≡ run → me.0.hand ≡ Some hand → hand.stage ≡ Claimed → IsSteered me.0 hand.mark m p → IsUnskipped me.0 hand → x ≡ point_word p
      → Allows (Kept key) slots id me place (λ y. x) (λ y. WritesPoint m p (step slots place x 0 none) me x)
  may_point slots id place x me hand m p at_place own held stage steered unskipped is s kept homes at low =
      let holds : Holds run s = in_run s kept in
      let words : Words = words_of_run run s.words in
      let after : Words = words_of_run run (slice_set s.words place x) in
      let mark = in_hand run words s.views id me.0 holds.world at hand held in
      let here : suc hand.mark ≤ length run.marks = omega (arith, mark.low) in
      let writes : WritesWord (PointOf (suc hand.mark)) (point_word p) words after =
      WritesWord-set (run_sizes run) s.words place x (point_word p) (PointOf (suc hand.mark)) holds.sized here at_place is in
      let then : View = pointed me.0 hand m p in
      let world = IsWorld-pointed run words after s.views id me.0 holds.world at own hand held stage p writes m steered unskipped in
      owes slots id place x me s then (WritesPoint m p (step slots place x 0 none) me x) holds world
      (of_hand me then (λ h. pointed me.0 h m p) hand held refl
      (goes_on words after s.views id me.0 then holds.world at own world (IsLater-pointed me.0 hand m p)))

  pub may_first :
      (slots id place x : ℕ) (me : Me Aim View) (hand : Hand) (parent cost : ℕ) → place ≡ place_of (run_sizes run) (FirstOf (suc hand.mark))
      → me.0.run ≡ run → me.0.hand ≡ Some hand → hand.stage ≡ Pointed → MayHang me.0 hand parent cost → x ≡ tree_word parent cost → parent ≡ parent_in x
      → cost ≡ cost_in x → Allows (Kept key) slots id me place (λ y. x) (λ y. WritesFirst (step slots place x 0 none) me x)
  may_first slots id place x me hand parent cost at_place own held stage may is is_parent is_cost s kept homes at low =
      let holds : Holds run s = in_run s kept in
      let words : Words = words_of_run run s.words in
      let after : Words = words_of_run run (slice_set s.words place x) in
      let mark = in_hand run words s.views id me.0 holds.world at hand held in
      let here : suc hand.mark ≤ length run.marks = omega (arith, mark.low) in
      let writes : WritesWord (FirstOf (suc hand.mark)) (tree_word parent cost) words after =
      WritesWord-set (run_sizes run) s.words place x (tree_word parent cost) (FirstOf (suc hand.mark)) holds.sized here at_place is in
      let then : View = half me.0 hand parent cost in
      let world = IsWorld-half run words after s.views id me.0 holds.world at own hand held stage parent cost may writes in
      owes slots id place x me s then (WritesFirst (step slots place x 0 none) me x) holds world
      (of_hand me then (λ h. half me.0 h (parent_in x) (cost_in x)) hand held
      (ap (λ p. half me.0 hand p cost) is_parent ∙ ap (half me.0 hand (parent_in x)) is_cost)
      (goes_on words after s.views id me.0 then holds.world at own world (IsLater-half me.0 hand parent cost)))

  pub may_tree :
      (slots id place x : ℕ) (me : Me Aim View) (hand : Hand) → place ≡ place_of (run_sizes run) (TreeOf (suc hand.mark)) → me.0.run ≡ run
      → me.0.hand ≡ Some hand → hand.stage ≡ Half → x ≡ pair_in_hand hand
      → Allows (Kept key) slots id me place (λ y. x) (λ y. WritesTree (step slots place x 0 none) me x)
  may_tree slots id place x me hand at_place own held stage is s kept homes at low =
      let holds : Holds run s = in_run s kept in
      let words : Words = words_of_run run s.words in
      let after : Words = words_of_run run (slice_set s.words place x) in
      let mark = in_hand run words s.views id me.0 holds.world at hand held in
      let here : suc hand.mark ≤ length run.marks = omega (arith, mark.low) in
      let writes : WritesWord (TreeOf (suc hand.mark)) (pair_in_hand hand) words after =
      WritesWord-set (run_sizes run) s.words place x (pair_in_hand hand) (TreeOf (suc hand.mark)) holds.sized here at_place is in
      let then : View = treed me.0 hand in
      let world = IsWorld-treed run words after s.views id me.0 holds.world at own hand held stage writes in
      owes slots id place x me s then (WritesTree (step slots place x 0 none) me x) holds world
      (of_hand me then (λ h. treed me.0 h) hand held refl
      (goes_on words after s.views id me.0 then holds.world at own world (IsLater-treed me.0 hand)))

  pub may_lower :
      (slots id place seen word n parent cost : ℕ) (me : Me Aim View) → n ≤ length run.marks → place ≡ place_of (run_sizes run) (TreeOf n) → me.0.run ≡ run
      → 0 < share me.0 → MayLower me.0 n parent cost → MayLoad me.0 (TreeOf n) → seen ≡ sees me.0 (TreeOf n) → word ≡ tree_word parent cost
      → Allows (Kept key) slots id me place (λ x. either (x == seen) word x) (Lowers (step slots place seen word none) me)
  may_lower slots id place seen word n parent cost me within at_place own part may may_load_it seen_is word_is s kept homes at fits =
      pick (slice_index s.words place == seen) refl
    where
      holds : Holds run s
      holds = in_run s kept

      words : Words
      words = words_of_run run s.words

      own_place : place ≡ place_in me.0 (TreeOf n)
      own_place = at_place ∙ ap (λ r. place_of (run_sizes r) (TreeOf n)) (sym own)

      is : slice_index s.words place ≡ words (TreeOf n)
      is = ap (slice_index s.words) at_place ∙ found_is s (TreeOf n) within

      leaves : ℕ → List ℕ → View
      leaves found steps = exchanged_at me.0 place seen word found steps

      pick :
          (b : Bool) → (slice_index s.words place == seen) ≡ b
          → Owes key slots id me s place (either b word (slice_index s.words place)) (Lowers (step slots place seen word none) me (slice_index s.words place))
      pick true e =
          let x : ℕ = slice_index s.words place in
          let same : x ≡ seen = eqb-true x seen e in
          let as_seen : words (TreeOf n) ≡ sees me.0 (TreeOf n) = sym is ∙ same ∙ seen_is in
          let after : Words = words_of_run run (slice_set s.words place word) in
          let writes : WritesWord (TreeOf n) (tree_word parent cost) words after =
          WritesWord-set (run_sizes run) s.words place word (tree_word parent cost) (TreeOf n) holds.sized within at_place word_is in
          let steps : List ℕ = steps_then s.views id me.0 in
          let then : View = lowered me.0 n parent cost steps in
          let world = IsWorld-lowered run words s.views id me.0 holds.world at own n parent cost may as_seen after writes part in
          let later = IsLater-lowered run words s.views id me.0 holds.world at own n parent cost may as_seen steps in
          let view_is : then ≡ leaves x steps =
          ap (λ i. noting (saw_at me.0 i (sees me.0 (TreeOf n)) (tree_word parent cost)) i (tree_word parent cost) steps) (sym own_place)
          ∙ ap (λ f. noting (saw_at me.0 place f (tree_word parent cost)) place (tree_word parent cost) steps) (sym seen_is)
          ∙ ap (λ w. noting (saw_at me.0 place seen w) place w steps) (sym word_is)
          ∙ ap (λ b. cond b (noting (saw_at me.0 place seen word) place word steps) (saw_at me.0 place x x)) (sym e) in
          owes slots id place word me s then (Lowers (step slots place seen word none) me x) holds world
          record {
            told = record {
              view_is = view_is;
              goes_on = subst (GoesOn me.0) view_is (goes_on words after s.views id me.0 then holds.world at own world later);
              slots = refl;
            };
            fell = λ other. absurd (other same);
            whole = λ all. same;
          }
      pick false e =
          let x : ℕ = slice_index s.words place in
          let other : x ≢ seen = eqb-false x seen e in
          let then : View = saw_at me.0 place x x in
          let view_is : then ≡ leaves x (last_note then) =
          ap (λ b. cond b (noting (saw_at me.0 place seen word) place word (last_note then)) then) (sym e) in
          let less = lower-found run words s.views id me.0 holds.world at n (seen_written may) (λ same. other (is ∙ same ∙ sym seen_is)) in
          owes slots id place x me s then (Lowers (step slots place seen word none) me x) holds
          (world_kept slots id place me (TreeOf n) within at_place own s holds at may_load_it)
          record {
            told = record {
              view_is = view_is;
              goes_on = subst (GoesOn me.0) view_is (goes_on_loaded slots id place me (TreeOf n) within at_place own s holds at may_load_it);
              slots = refl;
            };
            fell = λ off. record {
              written = omega (arith, is, less.0);
              less = omega (arith, ap cost_in is, ap cost_in seen_is, less.1);
            };
            whole = λ all. is ∙ words-whole run words s.views id me.0 holds.world at own all (TreeOf n) (λ e. cc) may_load_it ∙ sym seen_is;
          }
        where
          seen_written : MayLower me.0 n parent cost → 2 ^ 63 ≤ sees me.0 (TreeOf n)
          seen_written m = m.seen.written

  pub may_link :
      (slots id place number : ℕ) (me : Me Aim View) (hand : Hand) (n : ℕ) (side : Bool) → n ≤ length run.marks
      → place ≡ place_of (run_sizes run) (ChildOf n side)
      → me.0.run ≡ run → me.0.hand ≡ Some hand → hand.stage ≡ Treed → LeadsTo me.0 hand.point n side → MayLoad me.0 (ChildOf n side)
      → number ≡ hand.mark + 1 → Allows (Kept key) slots id me place (λ x. either (x == 0) number x) (Links (step slots place 0 number none) me)
  may_link slots id place number me hand n side within at_place own held stage leads may is s kept homes at fits =
      pick (slice_index s.words place == 0) refl
    where
      holds : Holds run s
      holds = in_run s kept

      words : Words
      words = words_of_run run s.words

      own_place : place ≡ place_in me.0 (ChildOf n side)
      own_place = at_place ∙ ap (λ r. place_of (run_sizes r) (ChildOf n side)) (sym own)

      leaves : ℕ → List ℕ → Hand → View
      leaves found noted h = cond (found == 0) (linked_at me.0 h place noted) (saw_at me.0 place found found)

      pick :
          (b : Bool) → (slice_index s.words place == 0) ≡ b
          → Owes key slots id me s place (either b number (slice_index s.words place))
          (Links (step slots place 0 number none) me (slice_index s.words place))
      pick true e =
          let x : ℕ = slice_index s.words place in
          let after : Words = words_of_run run (slice_set s.words place number) in
          let empty : words (ChildOf n side) ≡ 0 = sym (ap (slice_index s.words) at_place ∙ found_is s (ChildOf n side) within) ∙ eqb-true x 0 e in
          let writes : WritesWord (ChildOf n side) (suc hand.mark) words after =
          WritesWord-set (run_sizes run) s.words place number (suc hand.mark) (ChildOf n side) holds.sized within at_place (omega (arith, is)) in
          let noted : List ℕ = steps_then s.views id me.0 in
          let then : View = linked me.0 hand n side noted in
          let world = IsWorld-linked run words after s.views id me.0 holds.world at own hand held stage n side leads empty writes in
          let later = IsLater-link run words after s.views id me.0 holds.world at own hand held stage n side leads empty noted in
          let view_is : then ≡ leaves x noted hand =
          ap (λ i. linked_at me.0 hand i noted) (sym own_place) ∙ ap (λ b. cond b (linked_at me.0 hand place noted) (saw_at me.0 place x x)) (sym e) in
          owes slots id place number me s then (Links (step slots place 0 number none) me x) holds world
          record {
            told = of_hand me then (leaves x noted) hand held view_is (goes_on words after s.views id me.0 then holds.world at own world later);
            whole = finds_as_seen slots id place me (ChildOf n side) within at_place own s holds at may;
          }
      pick false e =
          let x : ℕ = slice_index s.words place in
          let then : View = saw_at me.0 place x x in
          owes slots id place x me s then (Links (step slots place 0 number none) me x) holds
          (world_kept slots id place me (ChildOf n side) within at_place own s holds at may)
          record {
            told = of_hand me then (leaves x (last_note me.0)) hand held
                (ap (λ b. cond b (linked_at me.0 hand place (last_note me.0)) (saw_at me.0 place x x)) (sym e))
                (goes_on_loaded slots id place me (ChildOf n side) within at_place own s holds at may);
            whole = finds_as_seen slots id place me (ChildOf n side) within at_place own s holds at may;
          }

  pub may_count :
      (slots id place : ℕ) (me : Me Aim View) (hand : Hand) → place ≡ place_of (run_sizes run) Count → me.0.run ≡ run → me.0.hand ≡ Some hand
      → hand.stage ≡ Linked → Allows (Kept key) slots id me place (λ x. (x + 1) % 2 ^ 64) (Counts (step slots place 1 0 none) me)
  may_count slots id place me hand at_place own held stage s kept homes at fits =
      let holds : Holds run s = in_run s kept in
      let x : ℕ = slice_index s.words place in
      let words : Words = words_of_run run s.words in
      let is : x ≡ words Count = ap (slice_index s.words) at_place ∙ found_is s Count tt in
      let most = count-most run words s.views holds.world.numbers holds.world.links in
      let fit : (x + 1) % 2 ^ 64 ≡ x + 1 = omega (arith, is, most, holds.world.run_is.marks) in
      let after : Words = words_of_run run (slice_set s.words place ((x + 1) % 2 ^ 64)) in
      let writes : WritesWord Count (words Count + 1) words after =
      WritesWord-set (run_sizes run) s.words place ((x + 1) % 2 ^ 64) (words Count + 1) Count holds.sized tt at_place (fit ∙ ap (λ n. n + 1) is) in
      let noted : List ℕ = steps_then s.views id me.0 in
      let then : View = counted me.0 hand (words Count + 1) noted in
      let world = IsWorld-counted run words after s.views id me.0 holds.world at own hand held stage writes in
      owes slots id place ((x + 1) % 2 ^ 64) me s then (Counts (step slots place 1 0 none) me x) holds world
      (of_hand me then (λ h. counted me.0 h (words Count + 1) noted) hand held refl
      (goes_on words after s.views id me.0 then holds.world at own world (IsLater-counted me.0 hand (words Count + 1) noted)))

  -- ---- the best word

  pub may_best :
      (slots id place : ℕ) (me : Me Aim View) → place ≡ place_of (run_sizes run) Best → me.0.run ≡ run
      → Allows (Kept key) slots id me place (λ x. x) (LoadsBest (step slots place 0 0 none) me)
  may_best slots id place me at_place own s kept homes at fits =
      let holds : Holds run s = in_run s kept in
      let x : ℕ = slice_index s.words place in
      let words : Words = words_of_run run s.words in
      let is : x ≡ words Best = ap (slice_index s.words) at_place ∙ found_is s Best tt in
      let then : View = best_loaded me.0 x in
      let same : best_loaded me.0 (words Best) ≡ then = ap (best_loaded me.0) (sym is) in
      let world : IsWorld run words (set s.views id then) =
      subst (λ v. IsWorld run words (set s.views id v)) same (IsWorld-best_loaded run words s.views id me.0 holds.world at own) in
      let falls = (holds.world.bests id me.0 at own).falls in
      let of_run = live run words s.views id me.0 holds.world at own in
      let later = IsLater-best run me.0 of_run x (hand_with_best me.0.hand x) me.0.notes (omega (arith, is, falls)) in
      owes slots id place x me s then (LoadsBest (step slots place 0 0 none) me x) holds
      (subst (λ items. IsWorld run (words_of_run run items) (set s.views id then)) (sym (same_list s Best tt place)) world) record {
        told = record { view_is = refl; goes_on = goes_on words words s.views id me.0 then holds.world at own world later; slots = refl };
        same = λ whole. is ∙ best-as_seen run words s.views id me.0 holds.world at own whole;
        whole =
            subst (λ w. HasWholeShare me.0 → w ≢ no_best → FindsGoalNode me.0 (best_node_in w, best_cost_in w)) (sym is)
            (λ whole. best-whole run words s.views id me.0 holds.world at own whole);
      }

  pub may_post :
      (slots id place x n : ℕ) (me : Me Aim View) → place ≡ place_of (run_sizes run) Best → me.0.run ≡ run → MayPost me.0 n
      → x ≡ best_word (cost_in (sees me.0 (TreeOf n))) n → best_node_in x ≡ n
      → Allows (Kept key) slots id me place (λ y. min y x) (Posts (step slots place x 0 none) me)
  may_post slots id place x n me at_place own may is_pair node s kept homes at fits =
      let holds : Holds run s = in_run s kept in
      let y : ℕ = slice_index s.words place in
      let words : Words = words_of_run run s.words in
      let is : y ≡ words Best = ap (slice_index s.words) at_place ∙ found_is s Best tt in
      let after : Words = words_of_run run (slice_set s.words place (min y x)) in
      let left : min y x ≡ best_with me.0 n (words Best) = ap (λ m. min m x) is ∙ ap (min (words Best)) is_pair in
      let writes : WritesWord Best (best_with me.0 n (words Best)) words after =
      WritesWord-set (run_sizes run) s.words place (min y x) (best_with me.0 n (words Best)) Best holds.sized tt at_place left in
      let steps : List ℕ = steps_then s.views id me.0 in
      let then : View = posted me.0 n y steps in
      let same : posted me.0 n (words Best) steps ≡ then = ap (λ w. posted me.0 n w steps) (sym is) in
      let world : IsWorld run after (set s.views id then) =
      subst (λ v. IsWorld run after (set s.views id v)) same (IsWorld-posted run words after s.views id me.0 holds.world at own n may writes) in
      let falls = (holds.world.bests id me.0 at own).falls in
      let of_run = live run words s.views id me.0 holds.world at own in
      let later = IsLater-best run me.0 of_run (best_with me.0 n y) (hand_with_post me.0.hand n) then.notes (omega (arith, is, falls)) in
      owes slots id place (min y x) me s then (Posts (step slots place x 0 none) me y) holds world record {
        told = record {
          view_is = ap (λ m. posted me.0 m y steps) (sym node);
          goes_on = subst (λ m. GoesOn me.0 (posted me.0 m y steps)) (sym node) (goes_on words after s.views id me.0 then holds.world at own world later);
          slots = refl;
        };
        same = λ whole. is ∙ best-as_seen run words s.views id me.0 holds.world at own whole;
      }

  -- ---- splits and joins

  pub may_hand_on : (id : ℕ) (view : View) → view.run ≡ run → Splits (Kept key) id view (parted view) (worker_apart view)
  may_hand_on id view own s kept at = as_told _ _ (record {
    sized = (in_run s kept).sized;
    world = IsWorld-cut run (words_of_run run s.words) s.views id view (parted view) (worker_apart view) (in_run s kept).world at own (IsCut-parted view);
  })

  pub may_look : (id : ℕ) (view : View) → view.run ≡ run → Splits (Kept key) id view (one_step view) (looker view)
  may_look id view own s kept at = as_told _ _ (record {
    sized = (in_run s kept).sized;
    world = IsWorld-cut run (words_of_run run s.words) s.views id view (one_step view) (looker view) (in_run s kept).world at own (IsCut-looker view);
  })

  pub may_take_over :
      (id : ℕ) (view : View) (j : ℕ) (other : View) → view.run ≡ run → other.run ≡ run → view.hand ≡ None
      → other.hand ≡ None → Joins (Kept key) id view j other (joined view other) spent
  may_take_over id view j other own own_too idle idle_too s kept at apart there = as_told _ _ (record {
    sized = (in_run s kept).sized;
    world = IsWorld-joined run (words_of_run run s.words) s.views id view j other (in_run s kept).world at own own_too apart there idle idle_too;
  })
