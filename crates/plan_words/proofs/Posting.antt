-- What a post leaves of a pass: nothing is seen anew but the best word.
use Rattle.plan_words.proofs.Words.{◌≡◌, ◌≢◌, ℕ, zero, suc, ◌≤◌, ◌^◌, Bool, true, false, Option, Some, None, List, refl, sym, ap, ◌∙◌, subst, inl, inr, arith}
use Rattle.plan_words.proofs.Words.{◌+◌, ◌<◌, ◌==◌, ◌/◌, IfNone, IfSome, IsTrue, cond, length, mod-mul-add, mod_below, eqb-false, eqb-true, is_goal_point}
use Rattle.plan_words.proofs.Words.{lies_in_goals, IsPresent, point_at, point_of, Point, IsPresent-goal, StandsAt-present, has_node, seen_tree_of_words, Word}
use Rattle.plan_words.proofs.Words.{WritesWord, FirstOf, PointOf, TreeOf, best_cost_in, best_node_in, best_of_word, best_word, cost_in, no_best, point_of_word}
use Rattle.plan_words.proofs.Words.{tree_word, LooksAndPosts, OnlyPosts, GoesOn, PassState, with_view, IsLawfulView, MayPost, SeesGoal, seen_first_cost}
use Rattle.plan_words.proofs.Words.{best_with, hand_with_post, last_note, loaded, lowered, posted, with_post, SeesPoint, run_sizes, sees, tree_seen, same_name}
use Rattle.plan_words.proofs.Words.{WritesWord-saw, SeesPoint-later, point_at-seen, seen-within, Hand, SharedRun, View}

-- ---- goals

-- a node that is seen at p lies in a goal exactly if p does
pub goal-at : (view : View) (n : ℕ) (p : Point) → SeesPoint view n p → lies_in_goals view.run.goals p ≡ true → SeesGoal view n
goal-at view n p stands lies = subst (λ o. IsTrue (is_goal_point view.run.goals o)) (sym stands) lies

pub lies-at : (view : View) (n : ℕ) (p : Point) → SeesPoint view n p → SeesGoal view n → lies_in_goals view.run.goals p ≡ true
lies-at view n p stands goal = subst (λ o. IsTrue (is_goal_point view.run.goals o)) stands goal

-- ---- hands

-- its mark is one of few
pub mark_fits : (view : View) (o : Option Hand) → IsLawfulView view → o ≡ view.hand → IfSome o (λ own. own.mark + 1 < 2 ^ 32)
mark_fits view None lawful e = tt
mark_fits view (Some hand) lawful e = omega (arith, lawful.mark hand (sym e), lawful.run.marks)

-- a goal node that may be posted is one of the run's
pub post_within : (view : View) (n : ℕ) → IsLawfulView view → MayPost view n → n ≤ length view.run.marks
post_within view n lawful may =
    lawful.within n (lawful.tree.rooted.points n (IsPresent-goal view.run.goals (point_at (tree_seen view).points n) may.goal))

pub post_node : (view : View) (n cost x : ℕ) → IsLawfulView view → MayPost view n → x ≡ best_word cost n → best_node_in x ≡ n
post_node view n cost x lawful may is =
    let small : n < 2 ^ 18 = omega (arith, post_within view n lawful may, lawful.run.marks) in
    ap best_node_in is ∙ mod-mul-add cost (2 ^ 18) n small

-- what it leaves, as a contract says it
module _ (view then : View) (m n found : ℕ) (steps : List ℕ) (same : m ≡ n) (is : then ≡ posted view m found steps) where
  own : then ≡ posted view n found steps
  own = is ∙ ap (λ i. posted view i found steps) same

  pub posted_view : then ≡ with_post view n then.best (last_note then)
  posted_view =
      own ∙ ap (λ b. with_post view n b steps) (sym (ap (λ (v : View). v.best) own))
      ∙ ap (with_post view n then.best) (sym (ap last_note own))

  pub posted_low : then.best ≤ best_word (cost_in (sees view (TreeOf n))) n
  posted_low = omega (arith, ap (λ (v : View). v.best) own)

  -- with the whole share the word was found as it was seen
  pub posted_whole : found ≡ view.best → then.best ≡ best_with view n view.best
  posted_whole seen = ap (λ (v : View). v.best) own ∙ ap (best_with view n) seen

-- ---- points that are looked at again

-- a point that was seen is seen as it was
seen_once : (view : View) (n : ℕ) → IsPresent (tree_seen view).points n → sees view (PointOf n) ≡ 0 → ⊥
seen_once view n present none =
    let within = seen-within (run_sizes view.run) (sees view) n present in
    let read = sym (ap point_of_word none) ∙ sym (point_at-seen (run_sizes view.run) (sees view) n within)
    ∙ StandsAt-present (tree_seen view).points n present in
    cc

pub sees-point_again : (before after : View) (n word : ℕ) → GoesOn before after → IsPresent (tree_seen before).points n
    → WritesWord (PointOf n) word (sees before) (sees after) → sees after ≡ sees before
sees-point_again before after n word goes_on present writes = λ t name. sym (each name) t
  where
    each : (name : Word) → sees before name ≡ sees after name
    each name =
        elim (same_name name (PointOf n)) [
          | inr apart ↦ sym (writes.others name apart)
          | inl e ↦ elim (goes_on.later.seen (PointOf n)) [
            | inr same ↦ ap (sees before) e ∙ same ∙ sym (ap (sees after) e)
            | inl none ↦ absurd (seen_once before n present none)
          ]
        ]

-- a goal node stays one while no point is seen anew
pub goal-again : (before after : View) (n : ℕ) → after.run ≡ before.run → sees after ≡ sees before → SeesGoal before n → SeesGoal after n
goal-again before after n run same goal =
    subst (λ r. IsTrue (is_goal_point r.goals (point_at (seen_tree_of_words (run_sizes r) (sees after)).points n))) (sym run)
    (subst (λ w. IsTrue (is_goal_point before.run.goals (point_at (seen_tree_of_words (run_sizes before.run) w).points n))) (sym same) goal)

-- a goal node with a point is one in a later view
pub goal-later : (before after : View) (n : ℕ) (p : Point) → GoesOn before after → SeesPoint before n p → SeesGoal before n → SeesGoal after n
goal-later before after n p goes_on stands goal =
    goal-at after n p (SeesPoint-later before after goes_on.later.run goes_on.later.seen n p stands)
    (ap (λ (r : SharedRun). lies_in_goals r.goals p) goes_on.later.run ∙ lies-at before n p stands goal)

-- and was one before, if it was seen there
pub goal-before : (before after : View) (n : ℕ) (p : Point) → GoesOn before after → SeesPoint before n p → SeesGoal after n → SeesGoal before n
goal-before before after n p goes_on stands goal =
    goal-at before n p stands
    (ap (λ (r : SharedRun). lies_in_goals r.goals p) (sym goes_on.later.run)
    ∙ lies-at after n p (SeesPoint-later before after goes_on.later.run goes_on.later.seen n p stands) goal)

-- and so is any that was seen so
pub goal-goes_on : (before after : View) (n : ℕ) → GoesOn before after → SeesGoal before n → SeesGoal after n
goal-goes_on before after n goes_on goal =
    let points = (tree_seen before).points in
    goal-later before after n (point_of points n) goes_on (StandsAt-present points n (IsPresent-goal before.run.goals (point_at points n) goal)) goal

-- ---- what was loaded

-- a word that tells of no goal node is read as none
pub read_none : (word : ℕ) (P : Type 0) → (word ≡ no_best → P) → IfNone (best_of_word word) P
read_none word P of_none = by_test (word == no_best) refl
  where
    by_test : (b : Bool) → (word == no_best) ≡ b → IfNone (cond {A = Option (ℕ × ℕ)} b None (Some (best_node_in word, best_cost_in word))) P
    by_test true e = of_none (eqb-true word no_best e)
    by_test false e = tt

-- the node of one that tells of some is one of few
pub read_within : (word most : ℕ) → (word ≢ no_best → best_node_in word ≤ most) → IfSome (best_of_word word) (λ best. best.0 ≤ most)
read_within word most within = by_test (word == no_best) refl
  where
    by_test : (b : Bool) → (word == no_best) ≡ b
        → IfSome (cond {A = Option (ℕ × ℕ)} b None (Some (best_node_in word, best_cost_in word))) (λ best. best.0 ≤ most)
    by_test true e = tt
    by_test false e = within (eqb-false word no_best e)

-- and then no goal node was seen recorded
pub none_posted : (view : View) (n : ℕ) → IsLawfulView view → has_node (sees view) n ≡ true → SeesGoal view n → view.best ≢ no_best
none_posted view n lawful node goal none =
    let least = lawful.best n node goal in
    let within = lawful.within n (lawful.tree.rooted.points n (IsPresent-goal view.run.goals (point_at (tree_seen view).points n) goal)) in
    omega (arith, least, none, within, lawful.run.marks, small n)
  where
    small : (i : ℕ) → seen_first_cost view i < 2 ^ 44
    small zero = omega arith
    small (suc k) = mod_below (sees view (FirstOf (suc k)) / 2 ^ 18) (2 ^ 44) (omega arith)

-- ---- a lower and its post

-- the word of the node that is lowered
pub lowered_here : (before after : PassState) (n parent cost : ℕ) (steps : List ℕ) → IsLawfulView before.view → n ≤ length before.view.run.marks
    → after ≡ with_view before (lowered before.view n parent cost steps) → sees after.view (TreeOf n) ≡ tree_word parent cost
lowered_here before after n parent cost steps lawful within is =
    ap (λ (p : PassState). sees p.view (TreeOf n)) is
    ∙ (WritesWord-saw before.view.run before.view lawful.of_run (TreeOf n) within (sees before.view (TreeOf n)) (tree_word parent cost)).here

module _ (n : ℕ) (before mid after : PassState) where
  -- the point is looked at before
  pub OnlyPosts-after : (view : View) → mid ≡ with_view before view → view.crew ≡ before.view.crew → view.most ≡ before.view.most
      → view.hand ≡ before.view.hand → (SeesGoal mid.view n → SeesGoal before.view n) → OnlyPosts n mid after → OnlyPosts n before after
  OnlyPosts-after view is crew most hand back posts = record {
    pass = posts.pass ∙ ap (λ (p : PassState). with_view p after.view) is;
    crew = posts.crew ∙ ap (λ (p : PassState). p.view.crew) is ∙ crew;
    most = posts.most ∙ ap (λ (p : PassState). p.view.most) is ∙ most;
    hand = elim posts.hand [
      | inl same ↦ inl (same ∙ same_hand)
      | inr (goal, noted) ↦ inr (back goal, noted ∙ ap (λ h. hand_with_post h n) same_hand)
    ];
  }
    where
      same_hand : mid.view.hand ≡ before.view.hand
      same_hand = ap (λ (p : PassState). p.view.hand) is ∙ hand

-- the point is looked at, and it lies in no goal
pub LooksAndPosts-looked : (n : ℕ) (before after : PassState)
    → after ≡ with_view before (loaded before.view (PointOf n) (sees after.view (PointOf n))) → ¬ SeesGoal before.view n
    → LooksAndPosts n before.view after.view
LooksAndPosts-looked n before after is off = record {
  looked = λ _. ap (λ (p : PassState). p.view) is;
  posted = λ goal. absurd (off goal);
}

-- or it does, and the node is posted
pub LooksAndPosts-posted : (n : ℕ) (before mid after : PassState)
    → mid ≡ with_view before (loaded before.view (PointOf n) (sees mid.view (PointOf n)))
    → after ≡ with_view mid (with_post mid.view n after.view.best (last_note after.view)) → SeesGoal before.view n
    → LooksAndPosts n before.view after.view
LooksAndPosts-posted n before mid after looks posts goal =
    let best : ℕ = after.view.best in
    let last : List ℕ = last_note after.view in
    let seen : sees mid.view (PointOf n) ≡ sees after.view (PointOf n) = sym (ap (λ (p : PassState). sees p.view (PointOf n)) posts) in
    record {
      looked = λ off. absurd (off goal);
      posted = λ _.
          ap (λ (p : PassState). p.view) posts ∙ ap (λ (p : PassState). with_post p.view n best last) looks
          ∙ ap (λ w. with_post (loaded before.view (PointOf n) w) n best last) seen;
    }

pub OnlyPosts-posted : (n : ℕ) (before after : PassState) (best : ℕ) (steps : List ℕ) → after ≡ with_view before (with_post before.view n best steps)
    → SeesGoal before.view n → OnlyPosts n before after
OnlyPosts-posted n before after best steps is goal = record {
  pass = is ∙ ap (with_view before) (sym (ap (λ (p : PassState). p.view) is));
  crew = ap (λ (p : PassState). p.view.crew) is;
  most = ap (λ (p : PassState). p.view.most) is;
  hand = inr (goal, ap (λ (p : PassState). p.view.hand) is);
}
