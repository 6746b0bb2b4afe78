-- What a view has seen of the tree, a later view of the same run has seen too; and what the words say that a lawful view sees.
use Rattle.step_core.proofs.Words.{◌≡◌, ◌≤◌, ◌^◌, ◌∙◌, ℕ, suc, Some, sym, ap, subst, inl, inr, arith, IsTrue, is_goal_point, mark_at, Point, IsPresent}
use Rattle.step_core.proofs.Words.{point_of, HasSeenAtLeast, steered, IsPresent-stands, StandsAt-present, seen_tree_of_words, AreBehind, FirstOf, IsUnskipped}
use Rattle.step_core.proofs.Words.{SeesHand, IsSteered, SeesPoint, run_sizes, sees, tree_seen, Hand, View, ◌<◌, Option, None, is_some, refl, cases_lt, point_at}
use Rattle.step_core.proofs.Words.{Words, PointOf, Sizes, point_of_word, IsLater, ◌==◌, ◌&&◌, zero, true, nat_lt, and_parts, is_placed, is_earlier_record}
use Rattle.step_core.proofs.Words.{Record, has_node, has_placed, record_at, RecordOf, IsLawfulView, is_own_node, ◌+◌, Bool, false, map, length, if◌then◌else◌}
use Rattle.step_core.proofs.Words.{range_with_len, cases_Bool, is_linked, seen_point, none_some, is_linked-child, word_at-none, linked_point, linked_points}
use Rattle.step_core.proofs.Words.{SeesNode}
use Rattle.step_core.proofs.Seen.SeenWords.{HasSeenAtLeast-words, point_at-seen, seen-within, has_node-kept}

module _ (before after : View) (same : after.run ≡ before.run) (go : AreBehind (sees before) (sees after)) where
  pub HasSeenAtLeast-later : HasSeenAtLeast (tree_seen before) (tree_seen after)
  HasSeenAtLeast-later =
      subst (λ run. HasSeenAtLeast (tree_seen before) (seen_tree_of_words (run_sizes run) (sees after))) (sym same)
      (HasSeenAtLeast-words (run_sizes before.run) (sees before) (sees after) go)

  pub SeesPoint-later : (n : ℕ) (p : Point) → SeesPoint before n p → SeesPoint after n p
  SeesPoint-later = HasSeenAtLeast-later.places.nodes

  pub IsPresent-later : (n : ℕ) → IsPresent (tree_seen before).points n → IsPresent (tree_seen after).points n
  IsPresent-later n h =
      let p : Point = point_of (tree_seen before).points n in
      IsPresent-stands (tree_seen after).points n p (SeesPoint-later n p (StandsAt-present (tree_seen before).points n h))

  pub IsSteered-later : (k m : ℕ) (p : Point) → IsSteered before k m p → IsSteered after k m p
  IsSteered-later k m p step = record {
    from = step.from;
    seen = SeesPoint-later m step.from step.seen;
    reached = step.reached ∙ ap (λ run. steered step.from (mark_at run.marks k) run.step) (sym same);
  }

  -- a first word that is seen stays seen
  pub first-later : (n : ℕ) → 2 ^ 63 ≤ sees before (FirstOf n) → 2 ^ 63 ≤ sees after (FirstOf n)
  first-later n written = elim (go (FirstOf n)) [ inl none ↦ absurd (omega (arith, none, written)) | inr same ↦ omega (arith, same, written) ]

  pub SeesHand-later : (hand : Hand) → SeesHand before hand → SeesHand after hand
  SeesHand-later hand holds = record {
    steered_from = λ on. IsSteered-later hand.mark hand.nearest hand.point (holds.steered_from on);
    other = holds.other;
    unskipped = λ on. subst (λ run. IsUnskipped (record before { run = run }) hand) (sym same) (holds.unskipped on);
    shown = λ on. SeesPoint-later (suc hand.mark) hand.point (holds.shown on);
    first_shown = λ on. first-later (suc hand.mark) (holds.first_shown on);
    posted = λ is. subst (λ run. IsTrue (is_goal_point run.goals (Some hand.point))) (sym same) (holds.posted is);
  }

-- ---- points whose words are seen alike

-- points that are seen by the same words are the same
point_at-same : (sizes : Sizes) (one other : Words) (n : ℕ) → one (PointOf n) ≡ other (PointOf n)
    → point_at (seen_tree_of_words sizes one).points n ≡ point_at (seen_tree_of_words sizes other).points n
point_at-same sizes one other n same =
    elim (cases_lt sizes.marks n) [
      | inl past ↦ is_none one past ∙ sym (is_none other past)
      | inr within ↦ point_at-seen sizes one n within ∙ ap point_of_word same ∙ sym (point_at-seen sizes other n within)
    ]
  where
    is_none : (seen : Words) → sizes.marks < n → point_at (seen_tree_of_words sizes seen).points n ≡ None
    is_none seen past = by_point (point_at (seen_tree_of_words sizes seen).points n) refl
      where
        by_point : (o : Option Point) → point_at (seen_tree_of_words sizes seen).points n ≡ o → point_at (seen_tree_of_words sizes seen).points n ≡ None
        by_point None e = e
        by_point (Some p) e = absurd (omega (arith, past, seen-within sizes seen n (ap is_some e)))

pub point_at-kept : (before after : View) (n : ℕ) → IsLater before after → sees after (PointOf n) ≡ sees before (PointOf n)
    → point_at (tree_seen after).points n ≡ point_at (tree_seen before).points n
point_at-kept before after n later same =
    point_at-same (run_sizes after.run) (sees after) (sees before) n same
    ∙ ap (λ run. point_at (seen_tree_of_words (run_sizes run) (sees before)).points n) later.run

-- ---- nodes whose records a view has seen

-- each is seen with its point
pub present_recorded : (view : View) → IsLawfulView view → (n : ℕ) → has_node (sees view) n ≡ true → IsPresent (tree_seen view).points n
present_recorded view lawful zero here = lawful.tree.rooted.start
present_recorded view lawful (suc k) here = lawful.tree.placed k here

-- an earlier record is that of a placed mark,
pub earlier-placed : (entry : Record) (o : Option Record) → is_earlier_record entry o ≡ true → has_placed o ≡ true
earlier-placed entry None h = h
earlier-placed entry (Some other) h = (and_parts (is_placed other.outcome) (other.worker == entry.worker && nat_lt other.turn entry.turn) h).0

-- so the record of each own node is seen
pub own_recorded : (view : View) (entry : Record) (n : ℕ) → IsTrue (is_own_node view entry n) → has_node (sees view) n ≡ true
own_recorded view entry zero own = refl
own_recorded view entry (suc k) own = earlier-placed entry (record_at (sees view) k) own

-- they are the same while no record is seen anew
pub has_node-recorded : (before after : View) → ((k : ℕ) → sees after (RecordOf k) ≡ sees before (RecordOf k)) → (n : ℕ)
    → has_node (sees after) n ≡ has_node (sees before) n
has_node-recorded before after = has_node-kept (sees before) (sees after)

-- ---- the tree in the words that a lawful view sees

-- a number that is not present has no point that was seen
pub seen_point-none : (view : View) (n : ℕ) → ¬ IsPresent (tree_seen view).points n → seen_point (sees view) n ≡ None
seen_point-none view n absent =
    elim (cases_lt (length view.run.marks) n) [
      | inl past ↦ ap point_of_word (word_at-none (run_sizes view.run) view.seen (PointOf n) (λ within. omega (arith, within, past)))
      | inr within ↦ none_some (seen_point (sees view) n) (by_test (is_some (seen_point (sees view) n)) refl within)
    ]
  where
    by_test : (b : Bool) → is_some (seen_point (sees view) n) ≡ b → n ≤ length view.run.marks → is_some (seen_point (sees view) n) ≡ false
    by_test false e within = e
    by_test true e within = absurd (absent (ap is_some (point_at-seen (run_sizes view.run) (sees view) n within) ∙ e))

module _ (view : View) (lawful : IsLawfulView view) where
  abbrev sizes : Sizes
  sizes = run_sizes view.run

  -- a seen node is linked
  pub linked_seen : (n : ℕ) → SeesNode view n → is_linked sizes (sees view) n ≡ true
  linked_seen n (inl start) = ap (is_linked sizes (sees view)) start
  linked_seen n (inr (a, side, link)) = is_linked-child sizes (sees view) a n side (lawful.within a (lawful.tree.rooted.children a n side link)) link

  -- no other number has a point
  unseen_point : (n : ℕ) → is_linked sizes (sees view) n ≡ false → seen_point (sees view) n ≡ None
  unseen_point n unlinked = seen_point-none view n (λ present. let no = sym unlinked ∙ linked_seen n (lawful.tree.rooted.points n present) in cc)

  linked_point-seen : (n : ℕ) → linked_point sizes (sees view) n ≡ seen_point (sees view) n
  linked_point-seen n =
      elim (cases_Bool (is_linked sizes (sees view) n)) [
        | inl linked ↦ ap (λ b. if b then seen_point (sees view) n else None) linked
        | inr unlinked ↦ ap (λ b. if b then seen_point (sees view) n else None) unlinked ∙ sym (unseen_point n unlinked)
      ]

  pub linked_points-seen : linked_points sizes (sees view) ≡ (tree_seen view).points
  linked_points-seen = ap (λ f. map f (range_with_len 0 (sizes.marks + 1))) (λ t n. linked_point-seen n t)
