-- A join keeps the law of worlds: shares are added, and what either has seen is seen.
use Rattle.step_core.proofs.Words.{◌≡◌, ◌≢◌, ◌<◌, ◌≤◌, ◌^◌, [], ◌∷◌, ◌++◌, ◌∙◌, ◌⊎◌, ◌==◌, ℕ, zero, suc, max, Bool, true, false, List, length, length-append}
use Rattle.step_core.proofs.Words.{set, Some, None, refl, sym, ap, subst, inl, inr, arith, zero-le, cond, cases_eq, eqb-true, eqb-false, ne_eqb, sum_by-append}
use Rattle.step_core.proofs.Words.{some, some-ne-none, get_elem?, once_if, AreSeenLawfully, AreSeenLawfully-either, has_node, AreBehind, HaveWholePairs}
use Rattle.step_core.proofs.Words.{MayBecome, WordKind, kind_of, later_word, Rising, Once, Falling, Apart, Word, Words, Best, TreeOf, RecordOf, Sizes}
use Rattle.step_core.proofs.Words.{word_count, cost_in, tree_of_word, min-either, has_count, has_first, has_link, has_point, has_tree, holds_at, joined}
use Rattle.step_core.proofs.Words.{last_seen, IsAtMostPlaced, SeesTree, IsViewOf, holds, no_run, run_sizes, sees, setup_in, share, spent, times, took_over}
use Rattle.step_core.proofs.Words.{tree_seen, words_of_run, Agree, EachView, IsBestWord, IsMember, IsWorld, SeesBest, greatest_limit, hands_at, limit_of}
use Rattle.step_core.proofs.Words.{state_in, Member, SharedRun, Stage, View, SomeSharer}
use Rattle.grown_runs.specs.Table.WordPlaces.{word_at}
use Rattle.step_core.proofs.Seen.LaterWords.{IsWholePair-later, MayBecome-later, MayBecome-other_to_later, MayBecome-to_later, length-merged, word_at-merged}
use Rattle.step_core.proofs.Parts.ViewLists.{at-set, at-set_other, each-set, maximum-most, maximum-one, same-at, sum-set}
use Rattle.step_core.proofs.OneView.SeenTreesOfViews.{SeesTree-joined, sees-either}
use Rattle.step_core.proofs.Seen.SeenWords.{has_node-same}
use Rattle.step_core.proofs.Parts.WorldBests.{goal-seen_before, same_first_cost}
use Rattle.step_core.proofs.Parts.WorldCopies.{same-later, told-kind}
use Rattle.step_core.proofs.Parts.WorldNotes.{Empties-joined, GoesTo-seen, Notes-joined, zero-read}
use Rattle.step_core.proofs.Parts.WorldHands.{Hands-views, IsWrittenFor}
use Rattle.step_core.proofs.Parts.WorldLinks.{LinkedTree-views}
use Rattle.step_core.proofs.Parts.WorldPairs.{HasFirst, HasFirst-none, HasTree, HasTree-none, Pairs-views}
use Rattle.step_core.proofs.Parts.WorldParts.{agree-set, quotas-kept}
use Rattle.step_core.proofs.Steps.WorldSteps.{live}
use Rattle.step_core.proofs.Parts.MarksInHand.{limit_of-most}

-- ---- nothing seen

may_begin : (kind : WordKind) (word : ℕ) → MayBecome kind 0 word
may_begin Rising word = zero-le
may_begin Once word = inl refl
may_begin Falling word = inl refl
may_begin Apart word = tt

-- and so it is behind all words
pub AreBehind-nothing : (sizes : Sizes) (words : Words) → AreBehind (word_at sizes []) words
AreBehind-nothing sizes words name = subst (λ w. MayBecome (kind_of name) w (words name)) (sym (zero-read sizes 0 name)) (may_begin (kind_of name) (words name))

-- a spent view has seen nothing
sees-spent : (name : Word) → sees spent name ≡ 0
sees-spent name = zero-read (run_sizes no_run) 0 name

AreBehind-spent : (words : Words) → AreBehind (sees spent) words
AreBehind-spent words = AreBehind-nothing (run_sizes no_run) words

-- ---- limits

limit_of-joined : (view other : View) → max (limit_of view) (limit_of other) ≤ limit_of (joined view other)
limit_of-joined view other =
    elim (cases_eq (share (joined view other)) 0) [
      | inl e ↦ (
          let a : share view ≡ 0 = omega (arith, length-append view.crew other.crew, e) in
          let b : share other ≡ 0 = omega (arith, length-append view.crew other.crew, e) in
          rw a (rw b (omega arith)))
      | inr some_share ↦
          subst (λ t. max (limit_of view) (limit_of other) ≤ cond t 0 (max view.most other.most)) (sym (ne_eqb (share (joined view other)) 0 some_share))
          (omega (arith, limit_of-most view, limit_of-most other))
    ]

crew_at : (mine theirs : List Member) (i : ℕ) (member : Member) → get_elem? (mine ++ theirs) i ≡ some member
    → ((j : ℕ) × (get_elem? mine j ≡ some member)) ⊎ ((j : ℕ) × (get_elem? theirs j ≡ some member))
crew_at [] theirs i member e = inr (i, e)
crew_at (first ∷ mine) theirs zero member e = inl (0, e)
crew_at (first ∷ mine) theirs (suc i) member e =
    elim (crew_at mine theirs i member e) [
      | inl own ↦ inl (suc own.0, own.1)
      | inr other ↦ inr other
    ]

-- ---- the join

-- what the one had seen may become what is seen by both, whatever the other had seen
pub AreBehind-joined : (view other : View) → AreBehind (sees view) (sees (joined view other))
AreBehind-joined view other name =
    subst (MayBecome (kind_of name) (sees view name)) (sym (word_at-merged (run_sizes view.run) view.seen other.seen name))
    (MayBecome-to_later (kind_of name) (sees view name) (word_at (run_sizes view.run) other.seen name))

module _ (run : SharedRun) (words : Words) (views : List View) (id : ℕ) (view : View) (j : ℕ) (other : View) (world : IsWorld run words views)
    (at : get_elem? views id ≡ some view) (own : view.run ≡ run) (own_too : other.run ≡ run) (was : get_elem? views j ≡ some other) where
  abbrev both : View
  both = joined view other

  abbrev middle : List View
  middle = set views id both

  abbrev after : List View
  after = set middle j spent

  -- ---- what is seen by both

  sees_other : (name : Word) → word_at (run_sizes view.run) other.seen name ≡ sees other name
  sees_other name = ap (λ r. words_of_run r other.seen name) (own ∙ sym own_too)

  sees_both : (name : Word) → sees both name ≡ later_word (kind_of name) (sees view name) (sees other name)
  sees_both name = word_at-merged (run_sizes view.run) view.seen other.seen name ∙ ap (later_word (kind_of name) (sees view name)) (sees_other name)

  behind_both : AreBehind (sees both) words
  behind_both name =
      subst (λ w. MayBecome (kind_of name) w (words name)) (sym (sees_both name))
      (MayBecome-later (kind_of name) (sees view name) (sees other name) (words name) (world.seen.behind id view at name) (world.seen.behind j other was name))

  -- what the other had seen may become what both see
  plain :
      (name : Word) → (kind_of name ≡ Falling → ⊥) → MayBecome (kind_of name) (sees other name) (later_word (kind_of name) (sees view name) (sees other name))
  plain name no_pair =
      MayBecome-other_to_later (kind_of name) (sees view name) (sees other name) (words name) (world.seen.behind id view at name)
      (world.seen.behind j other was name) (λ e. absurd (no_pair e)) (λ e. absurd (no_pair e)) (λ e. absurd (no_pair e))

  to_later : (name : Word) → MayBecome (kind_of name) (sees other name) (later_word (kind_of name) (sees view name) (sees other name))
  to_later (TreeOf n) =
      MayBecome-other_to_later Falling (sees view (TreeOf n)) (sees other (TreeOf n)) (words (TreeOf n)) (world.seen.behind id view at (TreeOf n))
      (world.seen.behind j other was (TreeOf n)) (λ e. world.seen.pairs_seen id view at n)
      (λ e written also same. world.seen.agree id view at j other was n written also same) (λ e. world.seen.pairs_seen j other was n)
  to_later name = plain name (λ e. cc)

  pub AreBehind-other : AreBehind (sees other) (sees both)
  AreBehind-other name = subst (MayBecome (kind_of name) (sees other name)) (sym (sees_both name)) (to_later name)

  -- each word that both see is one that one of them saw,
  of_one : (name : Word) → (sees both name ≡ sees view name) ⊎ (sees both name ≡ sees other name)
  of_one = sees-either view other (own_too ∙ sym own)

  -- and so is the best word
  last_of_one : (name : Word) → (last_seen both name ≡ last_seen view name) ⊎ (last_seen both name ≡ last_seen other name)
  last_of_one Best = min-either (λ best. (best ≡ view.best) ⊎ (best ≡ other.best)) view.best other.best (inl refl) (inr refl)
  last_of_one name = of_one name

  agree_both : (i : ℕ) (u : View) → get_elem? views i ≡ some u → Agree (sees both) (sees u)
  agree_both i u e n written also same =
      elim (of_one (TreeOf n)) [
        | inl mine ↦ mine ∙ world.seen.agree id view at i u e n (subst (λ w. 2 ^ 63 ≤ w) mine written) also (ap cost_in (sym mine) ∙ same)
        | inr theirs ↦ theirs ∙ world.seen.agree j other was i u e n (subst (λ w. 2 ^ 63 ≤ w) theirs written) also (ap cost_in (sym theirs) ∙ same)
      ]

  -- ---- the parts

  module _ (apart : j ≢ id) (there : get_elem? middle j ≡ some other) (idle_too : view.hand ≡ None) (idle : other.hand ≡ None) where
    here : get_elem? after id ≡ some both
    here = at-set_other middle j id spent (λ e. apart (sym e)) ∙ at-set views id view both at

    each : (has : View → Type 0) → EachView views has → has both → has spent → EachView after has
    each has all mine last = each-set middle j spent has (λ i u off e. each-set views id both has (λ n v off_too f. all n v f) mine i u e) last

    of_run_both : IsViewOf run both
    of_run_both =
        let mine = live run words views id view world at own in
        let count : word_count (run_sizes view.run) ≡ word_count (run_sizes run) = ap (λ r. word_count (run_sizes r)) own in
        record {
          run_is = own;
          seen = length-merged (run_sizes view.run) view.seen other.seen ∙ count;
          looked = mine.looked;
          found_zero = mine.found_zero;
          looks = λ name. omega (arith, mine.looks name);
          zero_looks = λ name. omega (arith, mine.zero_looks name);
        }

    all_limits : greatest_limit views ≤ greatest_limit after
    all_limits = maximum-most limit_of views (greatest_limit after) (λ i u e.
        let top = maximum-one limit_of after id both here in
        elim (same-at views i id u view e at) [
          | inl (same, is) ↦ omega (arith, ap limit_of is, limit_of-joined view other, top)
          | inr off ↦ elim (same-at views i j u other e was) [
            | inl (same, is) ↦ omega (arith, ap limit_of is, limit_of-joined view other, top)
            | inr off_too ↦ maximum-one limit_of after i u (at-set_other middle j i spent off_too ∙ at-set_other views id i both off ∙ e)
          ]
        ])

    -- a record that one of them saw as it is, both see so
    own_record : (k : ℕ) → (sees view (RecordOf k) ≡ words (RecordOf k)) ⊎ (sees other (RecordOf k) ≡ words (RecordOf k))
        → sees both (RecordOf k) ≡ words (RecordOf k)
    own_record k one = sees_both (RecordOf k) ∙ by_test (sees view (RecordOf k) == 0) refl one
      where
        by_test :
            (t : Bool) → (sees view (RecordOf k) == 0) ≡ t → (sees view (RecordOf k) ≡ words (RecordOf k)) ⊎ (sees other (RecordOf k) ≡ words (RecordOf k))
            → cond t (sees other (RecordOf k)) (sees view (RecordOf k)) ≡ words (RecordOf k)
        by_test true e (inr theirs) = theirs
        by_test true e (inl mine) =
            let none : sees view (RecordOf k) ≡ 0 = eqb-true (sees view (RecordOf k)) 0 e in
            elim (world.seen.behind j other was (RecordOf k)) [
              | inl unseen ↦ unseen ∙ sym none ∙ mine
              | inr is ↦ is
            ]
        by_test false e (inl mine) = mine
        by_test false e (inr theirs) =
            elim (world.seen.behind id view at (RecordOf k)) [
              | inl unseen ↦ absurd (eqb-false (sees view (RecordOf k)) 0 e unseen)
              | inr is ↦ is
            ]

    members_both : (i : ℕ) (member : Member) → get_elem? both.crew i ≡ some member → IsMember run words both member
    members_both i member e =
        elim (crew_at view.crew other.crew i member e) [
          | inl mine ↦ (
              let old = world.turns.members id view at mine.0 member mine.1 in
              record { turn = old.turn; own = λ k of. own_record k (inl (old.own k of)) })
          | inr theirs ↦ (
              let old = world.turns.members j other was theirs.0 member theirs.1 in
              record { turn = old.turn; own = λ k of. own_record k (inr (old.own k of)) })
        ]

    IsWorld-after : IsWorld run words after
    IsWorld-after = record {
      run_is = world.run_is;
      of_run = each (λ u. (u ≡ spent) ⊎ IsViewOf run u) world.of_run (inr of_run_both) (inl refl);
      numbers = record {
        quotas = quotas-kept run words words views after world.numbers (λ g within. refl) all_limits;
        each_once = λ k. omega (
          arith,
          world.numbers.each_once k,
          sum-set (λ u. once_if (holds k u.hand)) views id view both at,
          sum-set (λ u. once_if (holds k u.hand)) middle j other spent there,
          ap (λ h. once_if (holds k h)) idle,
        );
        limits = each (λ u. u.most ≤ length run.marks) world.numbers.limits
            (omega (arith, world.numbers.limits id view at, world.numbers.limits j other was)) (omega arith);
        packed = world.numbers.packed;
      };
      turns = record {
        workers = world.turns.workers;
        members = each (λ u. (i : ℕ) (member : Member) → get_elem? u.crew i ≡ some member → IsMember run words u member) world.turns.members members_both
            (λ i member e. absurd (some-ne-none member (sym e)));
        in_one_crew = λ w. omega (
          arith,
          world.turns.in_one_crew w,
          sum-set (λ u. times w u.crew) views id view both at,
          sum-set (λ u. times w u.crew) middle j other spent there,
          sum_by-append (λ m. cond (m.worker == w) 1 0) view.crew other.crew,
        );
      };
      shares = record {
        add_up = omega (
          arith,
          world.shares.add_up,
          sum-set share views id view both at,
          sum-set share middle j other spent there,
          length-append view.crew other.crew,
        );
        idle = each (λ u. share u ≡ 0 → u.hand ≡ None) world.shares.idle
            (λ none. world.shares.idle id view at (omega (arith, length-append view.crew other.crew, none))) (λ none. refl);
      };
      seen = record {
        behind = each (λ u. AreBehind (sees u) words) world.seen.behind behind_both (AreBehind-spent words);
        took = each (λ u. AreBehind (took_over u) (sees u)) world.seen.took
            (λ name. subst (λ w. MayBecome (kind_of name) w (sees both name)) (sym (sees_other name)) (AreBehind-other name)) (AreBehind-spent (sees spent));
        pairs = world.seen.pairs;
        pairs_seen = each (λ u. HaveWholePairs (sees u)) world.seen.pairs_seen (λ n.
            subst (λ w. (w ≡ 0) ⊎ (2 ^ 63 ≤ w)) (sym (sees_both (TreeOf n))) (IsWholePair-later (sees view (TreeOf n)) (sees other (TreeOf n))
            (world.seen.pairs_seen id view at n) (world.seen.pairs_seen j other was n))) (λ n. inl (sees-spent (TreeOf n)));
        agree = agree-set middle j spent (agree-set views id both world.seen.agree (λ i u off e. agree_both i u e))
            (λ i u off e n written also same. absurd (omega (arith, written, sees-spent (TreeOf n))));
      };
      links = LinkedTree-views run words views after world.links (hands_both has_link) (hands_both has_count);
      hands = Hands-views words views after world.hands
          (each (IsWrittenFor words) world.hands.written (λ hand held. world.hands.written id view at hand held) (λ hand held. cc)) (hands_both has_point);
      trees = world.trees;
      pairs = Pairs-views run words views after world.pairs
          (each (HasFirst run words) world.pairs.first (λ hand held. world.pairs.first id view at hand held) (HasFirst-none run words spent refl))
          (each (HasTree words) world.pairs.tree (λ hand held. world.pairs.tree id view at hand held) (HasTree-none words spent refl))
          (hands_both has_first) (hands_both has_tree);
      seen_pairs = each (λ u. u.run ≡ run → AreSeenLawfully (setup_in run) (tree_seen u) (state_in run words)) world.seen_pairs
          (λ of. AreSeenLawfully-either (setup_in run) (tree_seen view) (tree_seen other) (tree_seen both) (state_in run words) pair_seen
          (world.seen_pairs id view at own) (world.seen_pairs j other was own_too)) (λ of. absurd (live_spent of));
      records = world.records;
      sights = each (λ u. u.run ≡ run → SeesTree u) world.sights
          (λ of. SeesTree-joined view other (own_too ∙ sym own) (AreBehind-joined view other) AreBehind-other idle_too (world.sights id view at own)
          (world.sights j other was own_too)) (λ of. absurd (live_spent of));
      copies = λ name told. sharer_after (λ u. sees u name ≡ words name)
          (same-later name (told-kind run words name told) (sees view) (sees both) words (AreBehind-joined view other) behind_both)
          (same-later name (told-kind run words name told) (sees other) (sees both) words AreBehind-other behind_both) (world.copies name told);
      best_copy = sharer_after (λ u. u.best ≡ words Best) (λ saw. omega (arith, saw, (world.bests j other was own_too).falls))
          (λ saw. omega (arith, saw, (world.bests id view at own).falls)) world.best_copy;
      notes = Notes-joined run words views id view j other both at was apart there own own_too live_spent refl (omega arith) refl world.notes (λ name. refl)
          (λ name. GoesTo-seen view both name (AreBehind-joined view other name) (omega arith)) last_of_one;
      empties = Empties-joined run words views id view j other both at was apart there own own_too live_spent refl (omega arith) refl world.empties
          (λ name. refl);
      best = world.best;
      bests = each (λ u. u.run ≡ run → SeesBest run words u) world.bests (λ of. best_both) (λ of. absurd (live_spent of));
    }
      where
        -- who has something to tell is still there, or has come into both
        sharer_after : (has : View → Type 0) → (has view → has both) → (has other → has both) → SomeSharer run views has → SomeSharer run after has
        sharer_after has mine theirs copy =
            elim (same-at views copy.id id copy.view view copy.at at) [
              | inl (same, is) ↦ of_both (omega (arith, ap share is, copy.part, length-append view.crew other.crew)) (mine (subst has is copy.same))
              | inr off ↦ elim (same-at views copy.id j copy.view other copy.at was) [
                | inl (same, is) ↦ of_both (omega (arith, ap share is, copy.part, length-append view.crew other.crew)) (theirs (subst has is copy.same))
                | inr off_too ↦ record {
                  id = copy.id;
                  view = copy.view;
                  at = at-set_other middle j copy.id spent off_too ∙ at-set_other views id copy.id both off ∙ copy.at;
                  run_is = copy.run_is;
                  part = copy.part;
                  same = copy.same;
                }
              ]
            ]
          where
            of_both : 0 < share both → has both → SomeSharer run after has
            of_both part same = record { id = id; view = both; at = here; run_is = own; part = part; same = same }

        hands_both : (test : Stage → Bool) (k : ℕ) → hands_at test k after ≡ hands_at test k views
        hands_both test k =
            omega (
              arith,
              sum-set (λ u. once_if (holds_at test k u.hand)) views id view both at,
              sum-set (λ u. once_if (holds_at test k u.hand)) middle j other spent there,
              ap (λ h. once_if (holds_at test k h)) idle,
            )

        pair_seen :
            (n : ℕ) (pair : ℕ × ℕ) → (tree_seen both).parent_and_cost n ≡ Some pair
            → ((tree_seen view).parent_and_cost n ≡ Some pair) ⊎ ((tree_seen other).parent_and_cost n ≡ Some pair)
        pair_seen n pair e =
            elim (of_one (TreeOf n)) [
              | inl mine ↦ inl (ap tree_of_word (sym mine) ∙ e)
              | inr theirs ↦ inr (ap tree_of_word (sym theirs) ∙ e)
            ]

        -- a node that both have seen recorded, one of them has
        node_of_one : (n : ℕ) → has_node (sees both) n ≡ true → (has_node (sees view) n ≡ true) ⊎ (has_node (sees other) n ≡ true)
        node_of_one zero h = inl refl
        node_of_one (suc k) h =
            elim (of_one (RecordOf k)) [
              | inl mine ↦ inl (sym (has_node-same (sees view) (sees both) k mine) ∙ h)
              | inr theirs ↦ inr (sym (has_node-same (sees other) (sees both) k theirs) ∙ h)
            ]

        placed_both : IsAtMostPlaced view view.best → IsAtMostPlaced other other.best → IsAtMostPlaced both both.best
        placed_both mine theirs n node goal =
            elim (node_of_one n node) [
              | inl here ↦ (
                  let tree = world.sights id view at own in
                  let low = mine n here (goal-seen_before view both refl (AreBehind-joined view other) tree n here goal) in
                  let same = same_first_cost view both refl (AreBehind-joined view other) tree n here in
                  omega (arith, low, same))
              | inr there_too ↦ (
                  let tree = world.sights j other was own_too in
                  let low = theirs n there_too (goal-seen_before other both (own ∙ sym own_too) AreBehind-other tree n there_too goal) in
                  let same = same_first_cost other both (own ∙ sym own_too) AreBehind-other tree n there_too in
                  omega (arith, low, same))
            ]

        -- what both know of the best word is the lesser of what either knew
        best_both : SeesBest run words both
        best_both =
            let mine = world.bests id view at own in
            let theirs = world.bests j other was own_too in
            record {
              pair = min-either (IsBestWord run words) view.best other.best mine.pair theirs.pair;
              falls = omega (arith, mine.falls, theirs.falls);
              placed = placed_both mine.placed theirs.placed;
              taken_pair = λ hand word held has. let none = sym idle_too ∙ held in cc;
              taken = λ hand word held has. let none = sym idle_too ∙ held in cc;
              posted = λ hand held far. let none = sym idle_too ∙ held in cc;
            }

        live_spent : no_run ≡ run → ⊥
        live_spent of = let none : run.workers ≡ 0 = ap (λ r. r.workers) (sym of) in omega (arith, none, world.run_is.workers.0)

pub IsWorld-joined :
    (run : SharedRun) (words : Words) (views : List View) (id : ℕ) (view : View) (j : ℕ) (other : View) → IsWorld run words views
    → get_elem? views id ≡ some view → view.run ≡ run → other.run ≡ run → j ≢ id → get_elem? (set views id (joined view other)) j ≡ some other
    → view.hand ≡ None → other.hand ≡ None → IsWorld run words (set (set views id (joined view other)) j spent)
IsWorld-joined run words views id view j other world at own own_too apart there idle idle_too =
    let was = sym (at-set_other views id j (joined view other) apart) ∙ there in
    IsWorld-after run words views id view j other world at own own_too was apart there idle idle_too
