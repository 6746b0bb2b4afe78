-- Scenes that are not informed: there is no goal by which marks are skipped.
use Rattle.plan_words.proofs.Words.{◌≡◌, false, cond, [], ap, ◌∙◌, SharedState, run_in, View}

pub no_goals : (shared : SharedState) (view : View) → view.run ≡ run_in shared → shared.task.scene.informed ≡ false → view.run.goals ≡ []
no_goals shared view run plain = ap (λ r. r.goals) run ∙ ap (λ b. cond b shared.task.scene.goals []) plain
