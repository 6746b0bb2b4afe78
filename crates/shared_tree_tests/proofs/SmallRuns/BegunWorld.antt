-- A run in which nothing is claimed, and two passes that see it as it is.
use Rattle.shared_tree_tests.proofs.Words.{◌≡◌, ℕ, zero, suc, ◌<◌, ◌≤◌, ◌^◌, Bool, true, false, None, [], ◌∷◌, arith, refl, sym, ap, ◌∙◌, subst, inl, inr}
use Rattle.shared_tree_tests.proofs.Words.{◌⊎◌, IsSome, is_some, nat_lt, sum_by, cases_Bool, le-ltb, ne_eqb, Point, IsBounded, mark_at}
use Rattle.shared_tree_tests.proofs.Words.{is_claimed, ClearAt, once_if, times_of, turns_of, AreSeenLawfully, IsRooted, IsSeen, FollowWays}
use Rattle.shared_tree_tests.proofs.Words.{IsPresent, StandsAt, at, no_goal_node, IsPresent-stands, Clear-first}
use Rattle.shared_tree_tests.proofs.Words.{is_claimed-past, FollowWays-start, IsWritten, child_of_word, children_of_words, has_placed, is_linked, record_at}
use Rattle.shared_tree_tests.proofs.Words.{seen_tree_of_words, AreBehind, HaveWholePairs, Word, Words, Best, ChildOf, Count, Counter, FirstOf, PointOf}
use Rattle.shared_tree_tests.proofs.Words.{RecordOf, TreeOf, HasWord, Sizes, point_of_word, tree_of_word, record_at-unwritten, in_child, IsStartWord}
use Rattle.shared_tree_tests.proofs.Words.{AreBehind-refl, word_at-none, linked_points, SeesTree, IsViewOf, run_sizes, sees, setup_in, share, spent}
use Rattle.shared_tree_tests.proofs.Words.{times, took_over, tree_seen, Agree, EachView, IsMember, IsWorld, SeesBest, Trees, counters, state_in, IsPresent-seen}
use Rattle.shared_tree_tests.proofs.Words.{linked-present, point_at-seen, last_seen, last_seen-table, HasNoted, same_name, seen-within, zero-read, IsWrittenFor}
use Rattle.shared_tree_tests.proofs.Words.{AreBehind-nothing, HasFirst, HasTree, AreSeenLawfully-all, IsNoted, Member, Note, View, never}
use Rattle.shared_tree_tests.proofs.Words.{small_run, start_table, view_with, worker_at}
use Rattle.shared_tree_tests.proofs.SmallRuns.MarkEdge.{both, clear}
use mathlib.Core.Option.{some, some-injective, some-ne-none}
use lib.ListN.{get_elem?}
use Rattle.grown_runs.specs.Table.WordPlaces.{word_at}

abbrev sizes : Sizes
sizes = run_sizes small_run

abbrev words : Words
words = word_at sizes start_table

past : (name : Word) → ¬ HasWord sizes name → words name ≡ 0
past name none = word_at-none sizes start_table name none

-- only the words of the start are written, and that there is no best
abbrev IsFirstWord : Word → Type 0
IsFirstWord Best = Unit {0}
IsFirstWord name = IsStartWord name

pub blank : (name : Word) → ¬ IsFirstWord name → words name ≡ 0
unfolding word_at
blank Count other = absurd (other tt)
blank Best other = absurd (other tt)
blank (Counter zero) other = refl
blank (Counter (suc g)) other = past (Counter (suc g)) (λ low. omega (arith, low))
blank (PointOf zero) other = absurd (other refl)
blank (PointOf (suc zero)) other = refl
blank (PointOf (suc (suc n))) other = past (PointOf (suc (suc n))) (λ low. omega (arith, low))
blank (ChildOf zero false) other = refl
blank (ChildOf zero true) other = refl
blank (ChildOf (suc zero) false) other = refl
blank (ChildOf (suc zero) true) other = refl
blank (ChildOf (suc (suc n)) side) other = past (ChildOf (suc (suc n)) side) (λ low. omega (arith, low))
blank (TreeOf zero) other = absurd (other refl)
blank (TreeOf (suc zero)) other = refl
blank (TreeOf (suc (suc n))) other = past (TreeOf (suc (suc n))) (λ low. omega (arith, low))
blank (FirstOf zero) other = absurd (other refl)
blank (FirstOf (suc zero)) other = refl
blank (FirstOf (suc (suc n))) other = past (FirstOf (suc (suc n))) (λ low. omega (arith, low))
blank (RecordOf zero) other = refl
blank (RecordOf (suc k)) other = past (RecordOf (suc k)) (λ low. omega (arith, low))

pub no_record : (k : ℕ) → record_at words k ≡ None
no_record k = record_at-unwritten words k (blank (RecordOf k) (λ h. h))

pub no_child : (n : ℕ) (side : Bool) → words (ChildOf n side) ≡ 0
no_child n side = blank (ChildOf n side) (λ h. h)

pub unlinked : (k : ℕ) → is_linked sizes words (suc k) ≡ false
unlinked k =
    elim (cases_Bool (is_linked sizes words (suc k))) [
      | inr gone ↦ gone
      | inl here ↦ (let link = in_child sizes words k here in absurd (omega (arith, link.holds, no_child link.node link.side)))
    ]

pub absent : (k : ℕ) → ¬ IsPresent (linked_points sizes words) (suc k)
absent k h = let gone = sym (linked-present sizes words (suc k) h) ∙ unlinked k in cc

-- what is so of the start is so of each node that is linked
at_start : (has : ℕ → Type 0) → has 0 → (n : ℕ) → IsPresent (linked_points sizes words) n → has n
at_start has start zero here = start
at_start has start (suc k) here = absurd (absent k here)

alone : (n : ℕ) (q : Point) → StandsAt (linked_points sizes words) n q → n ≡ 0
alone n q h = at_start (λ m. m ≡ 0) refl n (IsPresent-stands (linked_points sizes words) n q h)

pub ways : FollowWays (children_of_words words) (linked_points sizes words)
ways = FollowWays-start (children_of_words words) (linked_points sizes words) (λ n side. ap child_of_word (no_child n side)) alone

-- ---- the two views

-- that of a pass with this worker
abbrev seer : ℕ → View
seer w = view_with (worker_at w 0) 0 None start_table never []

-- what is so of each such view is so of the two
each : (has : View → Type 0) → ((w : ℕ) → has (seer w)) → EachView (seer 0 ∷ seer 1 ∷ []) has
each has all = both has (all 0) (all 1)

bounded_mark : (k : ℕ) → IsBounded (mark_at small_run.marks k)
bounded_mark zero = record { right = omega arith; top = omega arith }
bounded_mark (suc k) = record { right = omega arith; top = omega arith }

zero_looks : (name : Word) → word_at sizes never name ≤ 3
zero_looks name = omega (arith, zero-read sizes 14 name)

IsViewOf-seer : (w : ℕ) → IsViewOf small_run (seer w)
IsViewOf-seer w = record { run_is = refl; seen = refl; looked = refl; found_zero = refl; looks = zero_looks; zero_looks = zero_looks }

no_counter : (g : ℕ) → g < 1 → words (Counter g) ≡ 0
no_counter g low = blank (Counter g) (λ h. h)

each_once : (k : ℕ) → 0 ≡ once_if (is_claimed 1 (counters words) k)
each_once k = sym (ap once_if (is_claimed-past 1 (omega arith) (counters words) 0 no_counter k (omega arith)))

whole_pairs : (n : ℕ) → (words (TreeOf n) ≡ 0) ⊎ (2 ^ 63 ≤ words (TreeOf n))
unfolding word_at
whole_pairs zero = inr (omega arith)
whole_pairs (suc n) = inl (blank (TreeOf (suc n)) (λ h. omega (arith, h)))

turns : (worker turn : ℕ) → times_of (record_at words) 1 worker turn ≡ once_if (nat_lt turn (turns_of (record_at words) 1 worker))
unfolding word_at
turns worker turn = sym (ap once_if (le-ltb turn 0 (omega arith)))

crew : (w : ℕ) → sum_by (λ view. times w view.crew) (seer 0 ∷ seer 1 ∷ []) ≡ once_if (nat_lt w 2)
crew zero = refl
crew (suc zero) = refl
crew (suc (suc w)) =
    rw (ne_eqb 0 (suc (suc w)) (λ e. omega (arith, e)), ne_eqb 1 (suc (suc w)) (λ e. omega (arith, e)), le-ltb (suc (suc w)) 2 (omega arith)) refl

start_clear : ClearAt small_run.space (at 5 5)
start_clear = Clear-first small_run.space (at 5 5) (at 8 9) clear

-- ---- what they see

rooted : IsRooted (seen_tree_of_words sizes words)
unfolding word_at
rooted = record {
  start = refl;
  children = λ a n side e. (let gone = sym e ∙ ap child_of_word (no_child a side) in cc);
  points = points;
  pairs = pairs;
}
  where
    points : (n : ℕ) → IsPresent (seen_tree_of_words sizes words).points n → IsSeen (seen_tree_of_words sizes words) n
    points zero h = inl refl
    points (suc k) h =
        let none = point_at-seen sizes words (suc k) (seen-within sizes words (suc k) h) ∙ ap point_of_word (blank (PointOf (suc k)) (λ e. omega (arith, e))) in
        let gone = sym h ∙ ap is_some none in
        cc

    pairs : (n : ℕ) → IsSome ((seen_tree_of_words sizes words).parent_and_cost n) → IsSeen (seen_tree_of_words sizes words) n
    pairs zero h = inl refl
    pairs (suc k) h = let gone = sym h ∙ ap (λ w. is_some (tree_of_word w)) (blank (TreeOf (suc k)) (λ e. omega (arith, e))) in cc

SeesTree-seer : (w : ℕ) → SeesTree (seer w)
SeesTree-seer w = record {
  rooted = rooted;
  placed = λ k h. (let gone = sym h ∙ ap has_placed (no_record k) in cc);
  placed_first = λ k h. (let gone = sym h ∙ ap has_placed (no_record k) in cc);
  holds = λ hand e. cc;
}

trees : Trees small_run words
unfolding word_at
trees = record {
  order = record {
    distinct = λ i j p here there. alone i p here ∙ sym (alone j p there);
    start_stands = refl;
    start_clear = start_clear;
    start_parent = refl;
    start_cost = refl;
    hangs = λ n here. absurd (absent n here);
    bounded = at_start _ (omega arith);
  };
  first_costs = record { kept = at_start _ (omega arith); bounded = at_start _ (omega arith) };
  written = written;
  start_first = refl;
}
  where
    written : (n : ℕ) → is_linked sizes words n ≡ true → IsWritten words n
    written zero here = record { point = refl; tree = refl; first = refl }
    written (suc n) here = let gone = sym here ∙ unlinked n in cc

members : (w i : ℕ) (member : Member) → get_elem? (worker_at w 0) i ≡ some member → IsMember small_run words (seer w) member
unfolding word_at
members w zero member e =
    subst (IsMember small_run words (seer w)) (some-injective (record { worker = w; turn = 0 }) member e) (record { turn = refl; own = λ k of. refl })
members w (suc i) member e = absurd (some-ne-none member (sym e))

-- there is no goal, and no best word
saw_none : (w : ℕ) → SeesBest small_run words (seer w)
unfolding word_at
saw_none w = record {
  pair = λ some_node. absurd (some_node refl);
  falls = omega arith;
  placed = λ n node goal. absurd (no_goal_node (tree_seen (seer w)).points n goal);
  taken_pair = λ hand word e. cc;
  taken = λ hand word e. cc;
  posted = λ hand e. cc;
}

-- nothing is noted, and each word is seen as it is
none_noted : (note : Note) → ¬ IsNoted (seer 0 ∷ seer 1 ∷ []) note
none_noted note now = each (λ u. ¬ HasNoted u note) (λ w has. has) now.id now.view now.at now.has

as_it_is : (name : Word) (w : ℕ) → last_seen (seer w) name ≡ words name
unfolding word_at
as_it_is name w =
    elim (same_name name Best) [
      | inl is ↦ rw is refl
      | inr off ↦ last_seen-table (seer w) name off
    ]

pub IsWorld-begun : IsWorld small_run words (seer 0 ∷ seer 1 ∷ [])
unfolding word_at
IsWorld-begun = record {
  run_is = record {
    strips = (omega arith, omega arith);
    marks = omega arith;
    points = bounded_mark;
    start = record { right = omega arith; top = omega arith };
    step = omega arith;
    workers = (omega arith, omega arith);
    opening = omega arith;
  };
  of_run = each (λ u. (u ≡ spent) ⊎ IsViewOf small_run u) (λ w. inr (IsViewOf-seer w));
  numbers = record {
    quotas = λ g low. omega (arith, no_counter g low);
    each_once = λ k. omega (arith, each_once k, ap (λ o. once_if (is_some o)) (no_record k));
    limits = each (λ u. u.most ≤ 1) (λ w. omega arith);
    packed = λ k. inl (blank (RecordOf k) (λ h. h));
  };
  turns = record {
    workers = record { each = turns };
    members = each (λ u. (i : ℕ) (member : Member) → get_elem? u.crew i ≡ some member → IsMember small_run words u member) members;
    in_one_crew = crew;
  };
  shares = record { add_up = refl; idle = each (λ u. share u ≡ 0 → u.hand ≡ None) (λ w e. refl) };
  seen = record {
    behind = each (λ u. AreBehind (sees u) words) (λ w. AreBehind-refl words);
    took = each (λ u. AreBehind (took_over u) (sees u)) (λ w. AreBehind-nothing sizes words);
    pairs = whole_pairs;
    pairs_seen = each (λ u. HaveWholePairs (sees u)) (λ w. whole_pairs);
    agree = each (λ u. EachView (seer 0 ∷ seer 1 ∷ []) (λ v. Agree (sees u) (sees v)))
        (λ w. each (λ v. Agree (sees (seer w)) (sees v)) (λ v n a b e. refl));
  };
  links = record {
    start = refl;
    ways = ways;
    linked = λ k. omega (arith, ap once_if (unlinked k), ap (λ o. once_if (has_placed o)) (no_record k));
    count = refl;
  };
  trees = trees;
  hands = record {
    written = each (IsWrittenFor words) (λ w hand e. cc);
    blank = λ k none no_hand. blank (PointOf (suc k)) (λ e. omega (arith, e));
  };
  pairs = record {
    first = each (HasFirst small_run words) (λ w hand e. cc);
    tree = each (HasTree words) (λ w hand e. cc);
    no_first = λ k none no_hand. blank (FirstOf (suc k)) (λ e. omega (arith, e));
    no_tree = λ k none no_hand. blank (TreeOf (suc k)) (λ e. omega (arith, e));
  };
  seen_pairs = each (λ u. u.run ≡ small_run → AreSeenLawfully (setup_in small_run) (tree_seen u) (state_in small_run words))
      (λ w of. AreSeenLawfully-all small_run words trees (seer w) (λ n. refl) (SeesTree-seer w)
      (IsPresent-seen (seer w) words (AreBehind-refl words) (SeesTree-seer w) ways));
  records = record {
    lawful = λ k entry e. (let gone = sym e ∙ no_record k in cc);
    workers = λ k entry e. (let gone = sym e ∙ no_record k in cc);
    own_workers = λ k entry e low. (let gone = sym e ∙ no_record k in cc);
  };
  sights = each (λ u. u.run ≡ small_run → SeesTree u) (λ w of. SeesTree-seer w);
  copies = λ name told. record { id = 0; view = seer 0; at = refl; run_is = refl; part = omega arith; same = refl };
  best_copy = record { id = 0; view = seer 0; at = refl; run_is = refl; part = omega arith; same = refl };
  notes = record {
    made = λ note now. absurd (none_noted note now);
    still = λ note now. absurd (none_noted note now);
    fresh = λ i u e live note now. absurd (none_noted note now);
    noted = λ i u e live name may differs. absurd (differs (each (λ v. last_seen v name ≡ words name) (as_it_is name) i u e));
  };
  empties = λ n side some_child. absurd (some_child (no_child n side));
  best = record { pair = λ some_node. absurd (some_node refl); placed = λ n node goal. absurd (no_goal_node (linked_points sizes words) n goal) };
  bests = each (λ u. u.run ≡ small_run → SeesBest small_run words u) (λ w of. saw_none w);
}
