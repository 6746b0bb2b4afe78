-- The list of the tree words that a pass has seen, after each kind of step.
use Rattle.plan_words.proofs.Words.{◌≡◌, ◌≢◌, ℕ, suc, ◌+◌, ◌<◌, ◌≤◌, ◌^◌, Bool, true, false, List, [], ◌∷◌, length, Option, Some, refl, sym, ap, ◌∙◌, subst}
use Rattle.plan_words.proofs.Words.{inl, inr, arith, ◌==◌, IfSome, cond, is_some, slice_index, slice_set, cases_eq, get_or-set_other, get_or-set_same}
use Rattle.plan_words.proofs.Words.{length-set, Me, Point, cost_of-short, Word, ChildOf, Counter, RecordOf, TreeOf, HasWord, WritesWord, parent_in, tree_word}
use Rattle.plan_words.proofs.Words.{Tells, exchanged_at, HasPairs, HasRoom, IsTied, first_member, turned, Aim, IsLawfulView, claimed, finished_at, linked}
use Rattle.plan_words.proofs.Words.{linked_at, loaded, lowered, noting, one_turn_more, pair_in_hand, place_in, saw, saw_at, IsCostBelow, run_sizes, sees}
use Rattle.plan_words.proofs.Words.{sees-linked, WritesWord-saw, Hand, Member, View}

-- if no tree word is seen anew, the list stays
pub HasPairs-kept :
    (view then : View) (pairs : List ℕ) → then.run ≡ view.run → ((n : ℕ) → sees then (TreeOf n) ≡ sees view (TreeOf n)) → HasPairs view pairs
    → HasPairs then pairs
HasPairs-kept view then pairs run same has = record {
  for_each = has.for_each ∙ ap (λ r. length r.marks + 1) (sym run);
  seen = λ n within. has.seen n (subst (λ r. n ≤ length r.marks) run within) ∙ sym (same n);
}

-- a step on another word
pub HasPairs-saw :
    (view then : View) (pairs : List ℕ) (name : Word) (place found x : ℕ) → IsLawfulView view → HasWord (run_sizes view.run) name
    → place ≡ place_in view name → then ≡ saw_at view place found x → ((n : ℕ) → TreeOf n ≢ name) → HasPairs view pairs → HasPairs then pairs
HasPairs-saw view then pairs name place found x lawful here at_place is other has =
    HasPairs-kept view then pairs (ap (λ v. v.run) is)
    (λ n.
    ap (λ v. sees v (TreeOf n)) (is ∙ ap (λ i. saw_at view i found x) at_place)
    ∙ (WritesWord-saw view.run view lawful.of_run name here found x).others (TreeOf n) (other n)) has

-- of all tree words that of node m alone is seen anew
pub HasPairs-wrote :
    (view then : View) (pairs : List ℕ) (m x : ℕ) → then.run ≡ view.run → m ≤ length view.run.marks → WritesWord (TreeOf m) x (sees view) (sees then)
    → HasPairs view pairs → HasPairs then (slice_set pairs m x)
HasPairs-wrote view then pairs m x run here writes has = record {
  for_each = length-set pairs m x ∙ has.for_each ∙ ap (λ r. length r.marks + 1) (sym run);
  seen = λ n within.
      let low = subst (λ r. n ≤ length r.marks) run within in
      elim (cases_eq n m) [
        | inl e ↦
            ap (slice_index (slice_set pairs m x)) e ∙ get_or-set_same pairs m x 0 (omega (arith, has.for_each, here))
            ∙ sym (ap (λ i. sees then (TreeOf i)) e ∙ writes.here)
        | inr apart ↦ get_or-set_other pairs m n x 0 apart ∙ has.seen n low ∙ sym (writes.others (TreeOf n) (λ e. apart cc))
      ];
}

-- a step on the tree word of node m
pub HasPairs-set :
    (view then : View) (pairs : List ℕ) (m place found x : ℕ) → IsLawfulView view → m ≤ length view.run.marks → place ≡ place_in view (TreeOf m)
    → then ≡ saw_at view place found x → HasPairs view pairs → HasPairs then (slice_set pairs m x)
HasPairs-set view then pairs m place found x lawful here at_place is =
    HasPairs-wrote view then pairs m x (ap (λ v. v.run) is) here
    (subst (λ v. WritesWord (TreeOf m) x (sees view) (sees v)) (sym (is ∙ ap (λ i. saw_at view i found x) at_place))
    (WritesWord-saw view.run view lawful.of_run (TreeOf m) here found x))

-- what a pass keeps
abbrev pub Keeps : Me Aim View → Option Member → Option Hand → ℕ → ℕ → ℕ → ℕ → List ℕ → Type 0
Keeps me member hand for_spots for_near for_around for_waiting pairs =
    (me.1 ≡ []) × IsTied me.0 member hand × HasRoom me.0.run for_spots for_near for_around for_waiting × HasPairs me.0 pairs

-- it keeps that after a step that leaves it so
pub keeps_view :
    (me after : Me Aim View) (view : View) (member own : Option Member) (hand next : Option Hand) (for_spots for_near for_around for_waiting : ℕ)
    (pairs now : List ℕ)
    → Tells me view after → Keeps me member hand for_spots for_near for_around for_waiting pairs → view.run ≡ me.0.run → own ≡ first_member view.crew
    → next ≡ view.hand
    → (HasPairs me.0 pairs → HasPairs view now) → Keeps after own next for_spots for_near for_around for_waiting now
keeps_view me after view member own hand next for_spots for_near for_around for_waiting pairs now told (none, tied, room, has) run member_is hand_is
    pairs_then = (
      told.slots ∙ none,
      record {
        member_is = member_is ∙ ap (λ v. first_member v.crew) (sym told.view_is);
        hand_is = hand_is ∙ ap (λ v. v.hand) (sym told.view_is);
        lawful = subst IsLawfulView (sym told.view_is) told.goes_on.lawful;
      },
      subst (λ r. HasRoom r for_spots for_near for_around for_waiting) (sym (ap (λ v. v.run) told.view_is ∙ run)) room,
      subst (λ v. HasPairs v now) (sym told.view_is) (pairs_then has),
    )

-- a step on a word of another kind
pub keeps_saw :
    (me after : Me Aim View) (member : Option Member) (hand : Option Hand) (for_spots for_near for_around for_waiting : ℕ) (pairs : List ℕ) (name : Word)
    (place found x : ℕ) → Tells me (saw_at me.0 place found x) after → (kept : Keeps me member hand for_spots for_near for_around for_waiting pairs)
    → HasWord (run_sizes me.0.run) name → place ≡ place_in me.0 name → ((n : ℕ) → TreeOf n ≢ name)
    → Keeps after member hand for_spots for_near for_around for_waiting pairs
keeps_saw me after member hand for_spots for_near for_around for_waiting pairs name place found x told kept here at_place other =
    keeps_view me after (saw_at me.0 place found x) member member hand hand for_spots for_near for_around for_waiting pairs pairs told kept refl
    kept.1.member_is
    kept.1.hand_is (HasPairs-saw me.0 (saw_at me.0 place found x) pairs name place found x kept.1.lawful here at_place refl other)

-- one on a tree word, if the list has that
pub keeps_pair :
    (me after : Me Aim View) (member : Option Member) (hand : Option Hand) (for_spots for_near for_around for_waiting : ℕ) (pairs : List ℕ)
    (m place found x : ℕ)
    → Tells me (saw_at me.0 place found x) after → (kept : Keeps me member hand for_spots for_near for_around for_waiting pairs) → m ≤ length me.0.run.marks
    → place ≡ place_in me.0 (TreeOf m) → Keeps after member hand for_spots for_near for_around for_waiting (slice_set pairs m x)
keeps_pair me after member hand for_spots for_near for_around for_waiting pairs m place found x told kept here at_place =
    keeps_view me after (saw_at me.0 place found x) member member hand hand for_spots for_near for_around for_waiting pairs (slice_set pairs m x) told kept refl
    kept.1.member_is kept.1.hand_is (HasPairs-set me.0 (saw_at me.0 place found x) pairs m place found x kept.1.lawful here at_place refl)

-- one for the mark in hand by which no tree word is seen anew
pub keeps_hand :
    (me after : Me Aim View) (view : View) (member : Option Member) (hand : Option Hand) (next : Hand) (for_spots for_near for_around for_waiting : ℕ)
    (pairs : List ℕ)
    → Tells me view after → (kept : Keeps me member hand for_spots for_near for_around for_waiting pairs) → view.run ≡ me.0.run → view.crew ≡ me.0.crew
    → view.hand ≡ Some next → ((n : ℕ) → sees view (TreeOf n) ≡ sees me.0 (TreeOf n))
    → Keeps after member (Some next) for_spots for_near for_around for_waiting pairs
keeps_hand me after view member hand next for_spots for_near for_around for_waiting pairs told kept run crew held seen =
    keeps_view me after view member member hand (Some next) for_spots for_near for_around for_waiting pairs pairs told kept run
    (kept.1.member_is ∙ ap first_member (sym crew)) (sym held) (HasPairs-kept me.0 view pairs run seen)

-- a word that the list has after a step has its parent on the list
pub keeps_parent :
    (after : Me Aim View) (member : Option Member) (hand : Option Hand) (for_spots for_near for_around for_waiting : ℕ) (pairs : List ℕ) (m x : ℕ)
    → Keeps after member hand for_spots for_near for_around for_waiting (slice_set pairs m x) → m < length pairs → 2 ^ 63 ≤ x → parent_in x < length pairs
keeps_parent after member hand for_spots for_near for_around for_waiting pairs m x (none, tied, room, has) low written =
    let sized = length-set pairs m x in
    let within : m ≤ length after.0.run.marks = omega (arith, has.for_each, sized, low) in
    let same = sym (get_or-set_same pairs m x 0 low) ∙ has.seen m within in
    let parent = (tied.lawful.pairs m (subst (λ w. 2 ^ 63 ≤ w) same written)).within in
    omega (arith, has.for_each, sized, parent, ap parent_in same)

-- ---- a step by step look at some kinds

-- what is said of the hand holds if it does of the one that there is
pub if_hand : (has : Hand → Type 0) (o : Option Hand) (hand : Hand) → o ≡ Some hand → has hand → IfSome o has
if_hand has o hand is own = subst (λ h. IfSome h has) (sym is) own

-- a record is stored
pub HasPairs-finished :
    (view : View) (pairs : List ℕ) (k place x : ℕ) → IsLawfulView view → k < length view.run.marks → place ≡ place_in view (RecordOf k)
    → HasPairs view pairs → HasPairs (finished_at view place x) pairs
HasPairs-finished view pairs k place x lawful low at_place has =
    HasPairs-kept (saw_at view place x x) (finished_at view place x) pairs refl (λ n. refl)
    (HasPairs-saw view (saw_at view place x x) pairs (RecordOf k) place x x lawful low at_place refl (λ n e. cc) has)

pub turned-first : (crew : List Member) → turned (first_member crew) ≡ first_member (one_turn_more crew)
turned-first [] = refl
turned-first (member ∷ crew) = refl

-- a mark is claimed
pub HasPairs-claimed :
    (view : View) (pairs : List ℕ) (g c limit : ℕ) (steps : List ℕ) → IsLawfulView view → g < view.run.strips → HasPairs view pairs
    → HasPairs (claimed view g c limit steps) pairs
HasPairs-claimed view pairs g c limit steps lawful strip has =
    HasPairs-kept (saw view (Counter g) c (c + 1)) (claimed view g c limit steps) pairs refl (λ n. refl)
    (HasPairs-saw view (saw view (Counter g) c (c + 1)) pairs (Counter g) (place_in view (Counter g)) c (c + 1) lawful strip refl refl (λ n e. cc) has)

-- a node is linked, and its tree word is seen
pub HasPairs-linked :
    (view : View) (hand : Hand) (n : ℕ) (side : Bool) (place : ℕ) (steps pairs : List ℕ) (x : ℕ) → IsLawfulView view → view.hand ≡ Some hand
    → n ≤ length view.run.marks → place ≡ place_in view (ChildOf n side) → x ≡ pair_in_hand hand → HasPairs view pairs
    → HasPairs (linked_at view hand place steps) (slice_set pairs (hand.mark + 1) x)
HasPairs-linked view hand n side place steps pairs x lawful held within at_place is has =
    let low = lawful.mark hand held in
    let shows = sees-linked view.run view lawful.of_run hand n side within low in
    let then : View = linked_at view hand place steps in
    let same : then ≡ linked view hand n side steps = ap (λ i. linked_at view hand i steps) at_place in
    record {
      for_each = length-set pairs (hand.mark + 1) x ∙ has.for_each;
      seen = λ m here.
          elim (cases_eq m (hand.mark + 1)) [
            | inl e ↦
                ap (slice_index (slice_set pairs (hand.mark + 1) x)) e
                ∙ get_or-set_same pairs (hand.mark + 1) x 0 (omega (arith, has.for_each, low)) ∙ is
                ∙ sym (ap (λ i. sees then (TreeOf i)) (omega (arith, e)) ∙ ap (λ v. sees v (TreeOf (suc hand.mark))) same ∙ shows.tree)
            | inr apart ↦
                get_or-set_other pairs (hand.mark + 1) m x 0 apart ∙ has.seen m here
                ∙ sym (ap (λ v. sees v (TreeOf m)) same
                ∙ shows.others (TreeOf m) (λ e. cc) (λ e. cc) (λ e. let own : m ≡ suc hand.mark = cc in apart (omega (arith, own))) (λ e. cc))
          ];
    }

-- a cost is lowered, or another word is found
pub lower_view :
    (view then : View) (n parent cost place expected word found : ℕ) (steps : List ℕ) → place ≡ place_in view (TreeOf n) → expected ≡ sees view (TreeOf n)
    → word ≡ tree_word parent cost → then ≡ exchanged_at view place expected word found steps
    → then ≡ cond (found == expected) (lowered view n parent cost steps) (loaded view (TreeOf n) found)
lower_view view then n parent cost place expected word found steps at_place expected_is word_is is = is ∙ by_test (found == expected)
  where
    by_test :
        (b : Bool)
        → cond b (noting (saw_at view place expected word) place word steps) (saw_at view place found found)
        ≡ cond b (lowered view n parent cost steps) (loaded view (TreeOf n) found)
    by_test true =
        ap (λ i. noting (saw_at view i expected word) i word steps) at_place
        ∙ ap (λ f. noting (saw view (TreeOf n) f word) (place_in view (TreeOf n)) word steps) expected_is
        ∙ ap (λ w. noting (saw view (TreeOf n) (sees view (TreeOf n)) w) (place_in view (TreeOf n)) w steps) word_is
    by_test false = ap (λ i. saw_at view i found found) at_place

-- a parent and a cost that may be written fit a word
pub fits_word :
    (view : View) (p : Point) (parent cost : ℕ) → IsLawfulView view → IsCostBelow view p parent cost → (parent < 2 ^ 18) × (cost < 2 ^ 44)
fits_word view p parent cost lawful below =
    let within = lawful.within parent (lawful.tree.rooted.points parent (ap is_some below.seen.stands)) in
    let low = (lawful.pairs parent below.seen.written).low in (
      omega (arith, within, lawful.run.marks),
      omega (arith, below.cost_is, below.seen.cost_is, low, cost_of-short below.from p view.run.step below.edge.short, lawful.run.step),
    )
