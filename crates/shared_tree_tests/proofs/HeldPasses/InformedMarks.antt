-- Marks in an informed scene: the best is taken for the mark in hand, and its node is posted.
use Rattle.shared_tree_tests.proofs.Words.{◌≡◌, ℕ, suc, ◌<◌, ◌≤◌, ◌^◌, true, [], Option, Some, cond, length, inl, inr, refl, sym, ap, ◌∙◌, arith, cases_lt}
use Rattle.shared_tree_tests.proofs.Words.{eq-eqb, lies_in_goals, goals-some, TreeOf, best_of_word, GoesOn, PassState, SharedState, run_in, with_view}
use Rattle.shared_tree_tests.proofs.Words.{BelongsTo-later, goal-at, IsLawfulView, IsInformed, MayPost, has_link, best_loaded, best_taken, hand_with_best}
use Rattle.shared_tree_tests.proofs.Words.{hand_with_post, last_note, post_noted, with_post, SeesPoint, sees, share, Hand, Claimed, Counted, Posted, View}
use Rattle.shared_tree_tests.proofs.Words.{HangsFromStart, HoldsMark, TakesBest}
use Rattle.shared_tree_tests.proofs.HeldPasses.FirstRecords.{HangsFromStart-later}

-- ---- the scene

goals_are : (shared : SharedState) (view : View) → view.run ≡ run_in shared → shared.task.scene.informed ≡ true → view.run.goals ≡ shared.task.scene.goals
goals_are shared view run informed = ap (λ r. r.goals) run ∙ ap (λ b. cond b shared.task.scene.goals []) informed

pub informed_here : (shared : SharedState) (view : View) → view.run ≡ run_in shared → shared.task.scene.informed ≡ true → IsInformed view.run
informed_here shared view run informed none =
    omega (arith, goals-some shared.task.scene, ap (λ l. length l) (sym (goals_are shared view run informed) ∙ none))

-- ---- the best is loaded

module _ (shared : SharedState) (k : ℕ) (before after : PassState) (holds : HoldsMark shared k Claimed before)
    (is : after ≡ with_view before (best_loaded before.view after.view.best)) (goes_on : GoesOn before.view after.view) where
  taken : after.view.hand ≡ Some (record holds.hand { best = Some after.view.best })
  taken =
      ap (λ (p : PassState). p.view.hand) is ∙ ap (λ o. hand_with_best o after.view.best) holds.held
      ∙ ap (λ stage. Some (best_taken stage holds.hand after.view.best)) holds.stage_is

  pub HoldsMark-best : HoldsMark shared k Claimed after
  HoldsMark-best = record {
    belongs = BelongsTo-later shared before after (ap (λ (p : PassState). p.table) is) goes_on holds.belongs;
    hand = record holds.hand { best = Some after.view.best };
    held = taken;
    mark = holds.mark;
    stage_is = holds.stage_is;
    from_start = holds.from_start;
  }

  pub TakesBest-best : (want : Option (ℕ × ℕ)) → want ≡ best_of_word after.view.best → TakesBest want after.view
  TakesBest-best want told = record {
    hand = record holds.hand { best = Some after.view.best };
    held = taken;
    word = after.view.best;
    taken = refl;
    tells = sym told;
  }

-- ---- a node is posted

-- a view with a mark in hand has a share
part : (view : View) (hand : Hand) → IsLawfulView view → view.hand ≡ Some hand → 0 < share view
part view hand lawful held = elim (cases_lt 0 (share view)) [
  | inl some ↦ some
  | inr none ↦ absurd (let gone = sym held ∙ lawful.idle (omega (arith, none)) in cc)
]

-- its node is seen at its point
pub own_stands : (view : View) (hand : Hand) → IsLawfulView view → view.hand ≡ Some hand → hand.stage ≡ Counted → SeesPoint view (suc hand.mark) hand.point
own_stands view hand lawful held stage = (lawful.tree.holds hand held).shown (ap has_link stage)

-- and may be posted if that lies in a goal
pub MayPost-own : (view : View) (hand : Hand) → IsLawfulView view → view.hand ≡ Some hand → hand.stage ≡ Counted
    → lies_in_goals view.run.goals hand.point ≡ true → 2 ^ 63 ≤ sees view (TreeOf (suc hand.mark)) → MayPost view (suc hand.mark)
MayPost-own view hand lawful held stage lies written = record {
  part = part view hand lawful held;
  goal = goal-at view (suc hand.mark) hand.point (own_stands view hand lawful held stage) lies;
  written = written;
}

-- as it does if it lies in one of the scene
pub lies_here : (shared : SharedState) (view : View) (hand : Hand) → view.run ≡ run_in shared → shared.task.scene.informed ≡ true
    → lies_in_goals shared.task.scene.goals hand.point ≡ true → lies_in_goals view.run.goals hand.point ≡ true
lies_here shared view hand run informed lies = ap (λ goals. lies_in_goals goals hand.point) (goals_are shared view run informed) ∙ lies

module _ (shared : SharedState) (k n : ℕ) (before after : PassState) (holds : HoldsMark shared k Counted before) (own : n ≡ suc holds.hand.mark)
    (is : after ≡ with_view before (with_post before.view n after.view.best (last_note after.view))) (goes_on : GoesOn before.view after.view) where
  noted : after.view.hand ≡ Some (record holds.hand { stage = Posted })
  noted =
      ap (λ (p : PassState). p.view.hand) is ∙ ap (λ o. hand_with_post o n) holds.held
      ∙ ap (λ stage. Some (post_noted stage holds.hand n)) holds.stage_is
      ∙ ap (λ b. Some (cond b (record holds.hand { stage = Posted }) holds.hand)) (eq-eqb (suc holds.hand.mark) n (sym own))

  pub HangsFromStart-posted : (cost : ℕ) → HangsFromStart cost before.view → HangsFromStart cost after.view
  HangsFromStart-posted cost hung =
      let same : hung.hand ≡ holds.hand = cc (hung.held, holds.held) in
      HangsFromStart-later before.view after.view goes_on.later cost hung Posted (noted ∙ ap {A = Hand} (λ h. Some (record h { stage = Posted })) (sym same))
