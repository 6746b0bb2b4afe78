-- A view after steps of its own is a later one, and the law of worlds says of each view alone what `IsLawfulView` says.
use Rattle.step_core.proofs.Words.{◌<◌, ◌≤◌, ◌∷◌, ◌∙◌, ℕ, Bool, List, length, Option, Some, refl, ap, inl, inr, arith, Point, ChildOf, Count, AreBehind-refl}
use Rattle.step_core.proofs.Words.{IsLater, counted, half, linked, place_in, pointed, stepped, treed, IsViewOf, last_look, last_zero, sees, Hand, Member, Note}
use Rattle.step_core.proofs.Words.{SharedRun, Counted, Half, Pointed, Treed, View, ◌≡◌, ◌+◌, ◌^◌, ◌≢◌, ◌⊎◌, suc, true, sym, subst, le_refl, le_trans, get_elem?}
use Rattle.step_core.proofs.Words.{some, cases_Bool, cases_eq, IsPresent-goal, best_node_in, point_at, is_of_worker, turns_of, count-same, IsBounded}
use Rattle.step_core.proofs.Words.{FollowWays, children_of_words, is_linked, record_at, point_word, record_of_word, AreBehind, MayBecome, kind_of, Once, Apart}
use Rattle.step_core.proofs.Words.{Word, Words, WritesWord, Best, Counter, FirstOf, RecordOf, HasWord, AreBehind-trans, linked_points, MayLoad, SeesTree}
use Rattle.step_core.proofs.Words.{HasLooked, IsLawfulView, claimed, finished, joined, loaded, parted, saw, without_second, IsSharedRun, run_sizes, share}
use Rattle.step_core.proofs.Words.{IsWorld, greatest_limit}
use Rattle.step_core.proofs.OneView.LinkedViews.{AreBehind-shown, MayShow, WritesWord-look_linked, WritesWord-zero_linked, sees-linked}
use Rattle.step_core.proofs.Seen.Looks.{same_name, AreBehind-write}
use Rattle.step_core.proofs.OneView.LawfulSights.{IsSeenPair-lawful, AreDistinct-seen, FollowSeenWays-seen, SeesNode-within, SeesPoint-start, is_linked-seen}
use Rattle.step_core.proofs.Parts.LinkedStates.{few_nodes, first_cost-linked, linked-present}
use Rattle.step_core.proofs.Parts.MarksInHand.{greatest_limit-most, in_hand}
use Rattle.step_core.proofs.Seen.SeenWords.{linked-within, told-own, MayBecome-zero}
use Rattle.step_core.proofs.Seen.SeenByViews.{WritesWord-looked, WritesWord-saw, WritesWord-zero, last_zero-other}
use Rattle.step_core.proofs.Parts.ViewLists.{sum-one}
use Rattle.step_core.proofs.Whole.WholeCopies.{turn-below, worker-below, KeepsOrder-whole}
use Rattle.step_core.proofs.Parts.WorldParts.{quota-most, record_word-none}
use Rattle.step_core.proofs.Steps.WorldJoins.{AreBehind-joined}
use Rattle.step_core.proofs.Parts.WorldLinks.{count-most, unlinked-held}
use Rattle.step_core.proofs.Steps.WorldSteps.{HasWord-load, follow, live, tree}

-- ---- steps on the node in hand

-- a step that looks at no word, whatever it makes of the crew and the hand, and whatever it notes
pub IsLater-on :
    (view : View) (crew : List Member) (next : Option Hand) (notes : List Note)
    → IsLater view (record (stepped view) { crew = crew; hand = next; notes = notes })
IsLater-on view crew next notes = record {
  run = refl;
  seen = AreBehind-refl (sees view);
  best = omega arith;
  steps = omega arith;
  looked = λ name. inl refl;
  zero_found = λ name told. inl refl;
}

pub IsLater-pointed : (view : View) (hand : Hand) (m : ℕ) (p : Point) → IsLater view (pointed view hand m p)
IsLater-pointed view hand m p = IsLater-on view view.crew (Some (record hand { stage = Pointed; nearest = m; point = p })) view.notes

pub IsLater-half : (view : View) (hand : Hand) (parent cost : ℕ) → IsLater view (half view hand parent cost)
IsLater-half view hand parent cost = IsLater-on view view.crew (Some (record hand { stage = Half; parent = parent; cost = cost })) view.notes

pub IsLater-treed : (view : View) (hand : Hand) → IsLater view (treed view hand)
IsLater-treed view hand = IsLater-on view view.crew (Some (record hand { stage = Treed })) view.notes

pub IsLater-counted : (view : View) (hand : Hand) (count : ℕ) (steps : List ℕ) → IsLater view (counted view hand count steps)
IsLater-counted view hand count steps =
    let note : Note = record { place = place_in view Count; word = count; steps = steps } in
    IsLater-on view view.crew (Some (record hand { stage = Counted })) (note ∷ view.notes)

-- if no child was seen where the node is linked, and no other words of it
pub IsLater-linked :
    (run : SharedRun) (view : View) → IsViewOf run view → (hand : Hand) (n : ℕ) (side : Bool) → n ≤ length run.marks → hand.mark < length run.marks
    → MayShow n side hand (sees view) → (noted : List ℕ) → IsLater view (linked view hand n side noted)
IsLater-linked run view of_run hand n side within low may noted =
    let then : View = linked view hand n side noted in
    let looks = WritesWord-look_linked run view of_run hand n side within low in
    let zeros = WritesWord-zero_linked run view of_run hand n side within low in
    record {
      run = refl;
      seen = AreBehind-shown (sees-linked run view of_run hand n side within low) may;
      best = omega arith;
      steps = omega arith;
      looked = λ name.
          elim (same_name name (ChildOf n side)) [
            | inl e ↦ inr (omega (arith, ap (last_look then) e, looks.here))
            | inr apart ↦ inl (looks.others name apart)
          ];
      zero_found = λ name told.
          elim (same_name name (ChildOf n side)) [
            | inl e ↦ inr (omega (arith, ap (last_zero then) e, zeros.here), ap (sees view) e ∙ may.child)
            | inr apart ↦ inl (zeros.others name apart)
          ];
    }

-- ---- later views

pub IsLater-refl : (view : View) → IsLater view view
IsLater-refl view = record {
  run = refl;
  seen = AreBehind-refl (sees view);
  best = le_refl view.best;
  steps = le_refl view.steps;
  looked = λ name. inl refl;
  zero_found = λ name told. inl refl;
}

pub IsLater-trans : (before mid after : View) → IsLater before mid → IsLater mid after → IsLater before after
IsLater-trans before mid after first then = record {
  run = then.run ∙ first.run;
  seen = AreBehind-trans (sees before) (sees mid) (sees after) first.seen then.seen;
  best = le_trans then.best first.best;
  steps = le_trans first.steps then.steps;
  looked = λ name.
      elim (then.looked name) [
        | inr since ↦ inr (omega (arith, since, first.steps))
        | inl same ↦ elim (first.looked name) [
          | inl was ↦ inl (same ∙ was)
          | inr since ↦ inr (omega (arith, same, since))
        ]
      ];
  zero_found = λ name told.
      elim (then.zero_found name told) [
        | inr since ↦
            inr (
              omega (arith, since.0, first.steps),
              MayBecome-zero (kind_of name) told (sees before name) (subst (MayBecome (kind_of name) (sees before name)) since.1 (first.seen name)),
            )
        | inl same ↦ elim (first.zero_found name told) [
          | inl was ↦ inl (same ∙ was)
          | inr since ↦ inr (omega (arith, same, since.0), since.1)
        ]
      ];
}

-- what was looked at since, where it is seen otherwise, by each of two, was so by both
pub HasLooked-trans : (before mid after : View) → IsLater before mid → IsLater mid after → HasLooked before mid → HasLooked mid after → HasLooked before after
HasLooked-trans before mid after first then by_first by_then name =
    elim (by_then name) [
      | inr since ↦ inr (omega (arith, since, first.steps))
      | inl same ↦ elim (by_first name) [
        | inl was ↦ inl (same ∙ was)
        | inr since ↦ elim (then.looked name) [
          | inl kept ↦ inr (omega (arith, kept, since))
          | inr anew ↦ inr (omega (arith, anew, first.steps))
        ]
      ]
    ]

-- a step on one word
module _ (run : SharedRun) (view : View) (of_run : IsViewOf run view) (name : Word) (here : HasWord (run_sizes run) name) (found left : ℕ)
    (may : MayBecome (kind_of name) (sees view name) left) (unseen : found ≡ 0 → sees view name ≡ 0) where
  zero_saw : (other : Word) → (last_zero (saw view name found left) other ≡ last_zero view other)
      ⊎ ((view.steps < last_zero (saw view name found left) other) × (sees view other ≡ 0))
  zero_saw other =
      elim (cases_eq found 0) [
        | inr some_word ↦ inl (ap (λ z. z other) (last_zero-other run view of_run name here found left some_word))
        | inl none ↦ (
            let writes : WritesWord name (view.steps + 1) (last_zero view) (last_zero (saw view name found left)) =
            subst (λ n. WritesWord name (view.steps + 1) (last_zero view) (last_zero (saw view name n left))) (sym none)
            (WritesWord-zero run view of_run name here left) in
            elim (same_name other name) [
              | inl e ↦ inr (omega (arith, ap (last_zero (saw view name found left)) e, writes.here), ap (sees view) e ∙ unseen none)
              | inr apart ↦ inl (writes.others other apart)
            ])
      ]

  pub IsLater-saw : IsLater view (saw view name found left)
  IsLater-saw =
      let looks = WritesWord-looked run view of_run name here found left in
      record {
        run = refl;
        seen = AreBehind-write name left (sees view) (sees (saw view name found left)) (WritesWord-saw run view of_run name here found left) may;
        best = le_refl view.best;
        steps = omega arith;
        looked = λ other.
            elim (same_name other name) [
              | inl e ↦ inr (omega (arith, ap (last_look (saw view name found left)) e, looks.here))
              | inr apart ↦ inl (looks.others other apart)
            ];
        zero_found = λ other told. zero_saw other;
      }

-- ---- each kind of step

module _ (run : SharedRun) (words : Words) (views : List View) (id : ℕ) (view : View) (world : IsWorld run words views)
    (at : get_elem? views id ≡ some view) (own : view.run ≡ run) where
  of_run : IsViewOf run view
  of_run = live run words views id view world at own

  -- the best word is loaded by a step of its own
  loads-kind : (loader : View) (name : Word) → MayLoad loader name → kind_of name ≢ Apart
  loads-kind loader Best may = absurd may
  loads-kind loader name may = λ e. cc

  -- a load
  pub IsLater-loaded : (name : Word) → MayLoad view name → IsLater view (loaded view name (words name))
  IsLater-loaded name may =
      let here = HasWord-load run words views id view world at own name may in
      IsLater-saw run view of_run name here (words name) (words name) (world.seen.behind id view at name)
      (λ none. MayBecome-zero (kind_of name) (loads-kind view name may) (sees view name)
      (subst (MayBecome (kind_of name) (sees view name)) none (world.seen.behind id view at name)))

  -- a claim
  pub IsLater-claimed : (g c limit : ℕ) → g < run.strips → words (Counter g) ≡ c → (steps : List ℕ) → IsLater view (claimed view g c limit steps)
  IsLater-claimed g c limit strip is steps =
      let seen = world.seen.behind id view at (Counter g) in
      let here : HasWord (run_sizes run) (Counter g) = strip in
      let then = IsLater-saw run view of_run (Counter g) here c (c + 1) (omega (arith, seen, is)) (λ none. omega (arith, seen, is, none)) in
      record { run = then.run; seen = then.seen; best = then.best; steps = then.steps; looked = then.looked; zero_found = then.zero_found }

  -- a record
  pub IsLater-finished : (hand : Hand) → view.hand ≡ Some hand → (x : ℕ) → 2 ^ 63 ≤ x → IsLater view (finished view hand.mark x)
  IsLater-finished hand held x written =
      let mark = in_hand run words views id view world at hand held in
      let none : sees view (RecordOf hand.mark) ≡ 0 =
      MayBecome-zero Once (λ e. cc) (sees view (RecordOf hand.mark))
      (subst (MayBecome Once (sees view (RecordOf hand.mark))) (record_word-none (words (RecordOf hand.mark)) (words (FirstOf (suc hand.mark)))
      (world.numbers.packed hand.mark) mark.absent) (world.seen.behind id view at (RecordOf hand.mark))) in
      let here : HasWord (run_sizes run) (RecordOf hand.mark) = mark.low in
      let then = IsLater-saw run view of_run (RecordOf hand.mark) here x x (inl none) (λ gone. absurd (omega (arith, written, gone))) in
      record { run = then.run; seen = then.seen; best = then.best; steps = then.steps; looked = then.looked; zero_found = then.zero_found }

  -- ---- one view alone

  counter_within : (g : ℕ) → g < run.strips → sees view (Counter g) ≤ length run.marks
  counter_within g strip =
      let top = greatest_limit-most run words views world.run_is.strips.0 world.numbers in
      omega (arith, world.seen.behind id view at (Counter g), world.numbers.quotas g strip, quota-most run.strips g (greatest_limit views), top)

  -- the records of a member's worker are seen as they are, and no others are seen as its own
  own_records : (i : ℕ) (member : Member) → get_elem? view.crew i ≡ some member → (k : ℕ)
      → is_of_worker member.worker (record_at (sees view) k) ≡ is_of_worker member.worker (record_at words k)
  own_records i member e k =
      let own = world.turns.members id view at i member e in
      elim (world.seen.behind id view at (RecordOf k)) [
        | inr same ↦
            ap (λ w. is_of_worker member.worker (record_of_word w (sees view (FirstOf (suc k))))) same
            ∙ told-own (is_of_worker member.worker) (λ word first other. refl) (words (RecordOf k)) (sees view (FirstOf (suc k))) (words (FirstOf (suc k)))
        | inl unseen ↦
            ap (λ w. is_of_worker member.worker (record_of_word w (sees view (FirstOf (suc k))))) unseen
            ∙ elim (cases_Bool (is_of_worker member.worker (record_at words k))) [
              | inr other ↦ sym other
              | inl of ↦ (
                  let none : words (RecordOf k) ≡ 0 = sym (own.own k of) ∙ unseen in
                  let gone = sym of ∙ ap (λ w. is_of_worker member.worker (record_of_word w (words (FirstOf (suc k))))) none in
                  cc)
            ]
      ]

  own_turn : (i : ℕ) (member : Member) → get_elem? view.crew i ≡ some member → member.turn ≡ turns_of (record_at (sees view)) (length run.marks) member.worker
  own_turn i member e =
      (world.turns.members id view at i member e).turn
      ∙ sym (count-same (λ k. is_of_worker member.worker (record_at (sees view) k)) (λ k. is_of_worker member.worker (record_at words k)) (length run.marks)
      (λ k low. own_records i member e k))

  pub IsLawfulView-world : IsLawfulView view
  IsLawfulView-world = record {
    run = subst IsSharedRun (sym own) world.run_is;
    of_run = subst (λ r. IsViewOf r view) (sym own) of_run;
    most = subst (λ r. view.most ≤ length r.marks) (sym own) (world.numbers.limits id view at);
    crew = omega (arith, sum-one share views id view at, here.shares.add_up);
    idle = world.shares.idle id view at;
    mark = λ hand held. subst (λ r. hand.mark < length r.marks) (sym own) (in_hand run words views id view world at hand held).low;
    worker = λ i member e. subst (λ r. member.worker < r.workers) (sym own) (worker-below run words views id view world at i member e);
    turn = λ hand i member held e. subst (λ r. member.turn < length r.marks) (sym own) (turn-below run words views id view world at hand i member held e);
    own_turn = λ i member e. subst (λ r. member.turn ≡ turns_of (record_at (sees view)) (length r.marks) member.worker) (sym own) (own_turn i member e);
    took = world.seen.took id view at;
    tree = sees_tree;
    ways = FollowSeenWays-seen view words behind sees_tree ways;
    distinct = AreDistinct-seen view words behind sees_tree ways;
    within = SeesNode-within view words behind sees_tree ways;
    unseen = λ hand held not_yet seen.
        let here = is_linked-seen view words behind sees_tree ways (suc hand.mark) seen in
        let linked = subst (λ r. is_linked (run_sizes r) words (suc hand.mark) ≡ true) own here in
        let no = sym (unlinked-held world id view at hand held not_yet) ∙ linked in
        cc;
    start = SeesPoint-start view words behind sees_tree ways (world.links.start ∙ sym (ap (λ r. point_word r.start) own))
        (subst (λ r. IsBounded r.start) (sym own) world.run_is.start);
    pair_fits = λ hand held far. (world.pairs.first id view at hand held far).fits;
    pairs = λ n written. IsSeenPair-lawful view words behind sees_tree ways here.run_is here.trees (here.seen_pairs id view at refl)
        (first_cost-linked view.run words views here.numbers here.links here.trees.start_first) (linked-present (run_sizes view.run) words)
        (few_nodes view.run words here.run_is) n written;
    count = subst (λ r. sees view Count ≤ length r.marks + 1) (sym own)
        (le_trans (world.seen.behind id view at Count) (count-most run words views world.numbers world.links));
    counter = λ g strip. subst (λ r. sees view (Counter g) ≤ length r.marks) (sym own) (counter_within g (subst (λ r. g < r.strips) own strip));
    best = (world.bests id view at own).placed;
    best_node = λ some_pair. subst (λ r. best_node_in view.best ≤ length r.marks) (sym own) (linked-within (run_sizes run) words (best_node_in view.best)
        (IsPresent-goal run.goals (point_at (linked_points (run_sizes run) words) (best_node_in view.best)) ((world.bests id view at own).pair some_pair).0));
    taken = (world.bests id view at own).taken;
    order = λ all. KeepsOrder-whole view.run words views id view here at all;
  }
    where
      sees_tree : SeesTree view
      sees_tree = tree run words views id view world at own

      behind : AreBehind (sees view) words
      behind = world.seen.behind id view at

      ways : FollowWays (children_of_words words) (linked_points (run_sizes view.run) words)
      ways = follow run words views id view world at own

      here : IsWorld view.run words views
      here = subst (λ r. IsWorld r words views) (sym own) world

-- ---- splits and joins

pub IsLater-stepped : (view : View) → IsLater view (stepped view)
IsLater-stepped view = IsLater-on view view.crew view.hand view.notes

pub IsLater-parted : (view : View) → IsLater view (parted view)
IsLater-parted view = IsLater-on view (without_second view.crew) view.hand view.notes

pub IsLater-joined : (view other : View) → IsLater view (joined view other)
IsLater-joined view other = record {
  run = refl;
  seen = AreBehind-joined view other;
  best = omega arith;
  steps = omega arith;
  looked = λ name. inl refl;
  zero_found = λ name told. inl refl;
}
