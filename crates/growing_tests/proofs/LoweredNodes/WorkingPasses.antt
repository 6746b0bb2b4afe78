-- Passes with a share.
use Rattle.growing_tests.proofs.Words.{◌≡◌, true, [], cond, length, arith, sym, ap, ◌∙◌, goals-some, BelongsTo, GoesOn, MayClaim, PassState, SharedState}
use Rattle.growing_tests.proofs.Words.{run_in, with_view, BelongsTo-later, IsInformed, best_loaded, View, IsAtWork}

-- one with nothing in hand
pub IsAtWork-claims : (shared : SharedState) (pass : PassState) → MayClaim shared pass → IsAtWork shared pass
IsAtWork-claims shared pass may = record { belongs = may.belongs; part = may.part }

-- the share stays
pub IsAtWork-kept : (shared : SharedState) (before after : PassState) → BelongsTo after shared
    → after.view.crew ≡ before.view.crew → IsAtWork shared before → IsAtWork shared after
IsAtWork-kept shared before after belongs crew works = record {
  belongs = belongs;
  part = omega (arith, works.part, ap (λ members. length members) crew);
}

-- ---- the best is loaded

-- the scene is informed
goals_are : (shared : SharedState) (view : View) → view.run ≡ run_in shared → shared.task.scene.informed ≡ true → view.run.goals ≡ shared.task.scene.goals
goals_are shared view run informed = ap (λ r. r.goals) run ∙ ap (λ b. cond b shared.task.scene.goals []) informed

pub informed_here : (shared : SharedState) (view : View) → view.run ≡ run_in shared → shared.task.scene.informed ≡ true → IsInformed view.run
informed_here shared view run informed none =
    omega (arith, goals-some shared.task.scene, ap (λ l. length l) (sym (goals_are shared view run informed) ∙ none))

-- the best is loaded
pub IsAtWork-best : (shared : SharedState) (before after : PassState) → after ≡ with_view before (best_loaded before.view after.view.best)
    → GoesOn before.view after.view → IsAtWork shared before → IsAtWork shared after
IsAtWork-best shared before after is goes_on works =
    let view_is = ap (λ (p : PassState). p.view) is in
    record {
      belongs = BelongsTo-later shared before after (ap (λ (p : PassState). p.table) is) goes_on works.belongs;
      part = omega (arith, works.part, ap (λ (v : View). length v.crew) view_is);
    }
