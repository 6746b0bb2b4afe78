use Rattle.plan_model_tests.proofs.Words.{◌≡◌, ℕ, true, false, room_to, KeepsOrder, Point, TreeState, at}
use Rattle.plan_model_tests.proofs.Decisions.{holds, refuted, shown}
use Rattle.plan_model_tests.proofs.OrderDecisions.{is_clear, is_clear_at, keeps_order}
use Rattle.plan_model_tests.proofs.vectors.unlawful_trees.Goals as goal

module _ (height : ℕ) (start : Point) (state : TreeState) where
  abbrev pub in_order : Dec (KeepsOrder (room_to height start) state)
  in_order = keeps_order (room_to height start) (is_clear (at 100 height)) state (is_clear_at (at 100 height) start)

  lawful : holds in_order ≡ true → KeepsOrder (room_to height start) state
  lawful = shown in_order

  unlawful : holds in_order ≡ false → ¬ KeepsOrder (room_to height start) state
  unlawful = refuted in_order

pub returns : goal.returns
returns c = search (lawful, unlawful)
