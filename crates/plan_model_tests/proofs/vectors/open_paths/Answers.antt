use Rattle.plan_model_tests.proofs.Words.{◌≡◌, ℕ, suc, ◌<◌, List, Option, true, false, arith, length, low_room, IsClearPath, IsOpenTo, Clear, Point, at}
use Rattle.plan_model_tests.proofs.Words.{path_point, point_of}
use Rattle.plan_model_tests.proofs.Decisions.{contains, each_below, given, holds, implied, is_at_most, like, refuted, shown}
use Rattle.plan_model_tests.proofs.OrderDecisions.{is_clear}
use Rattle.plan_model_tests.proofs.vectors.open_paths.Goals as goal

module _ (points : List (Option Point)) (p : Point) (candidates : List ℕ) (i : ℕ) where
  abbrev pub is_open : Dec (IsOpenTo low_room points p candidates i)
  is_open =
      given (contains candidates i) (λ h. h.among) (λ a.
      given (is_clear (at 100 50) (point_of points i) p) (λ h. h.clear) (λ b.
      yes (record { among = a; clear = b })))

  open_to : holds is_open ≡ true → IsOpenTo low_room points p candidates i
  open_to = shown is_open

  not_open_to : holds is_open ≡ false → ¬ IsOpenTo low_room points p candidates i
  not_open_to = refuted is_open

pub edge-below : (i n : ℕ) → suc i < n → i < n
edge-below i n h = omega (arith, h)

module _ (path : List Point) where
  abbrev pub is_clear_path : Dec (IsClearPath low_room path)
  is_clear_path =
      like (λ f. record { clear = λ i h. f i (edge-below i (length path) h) h }) (λ g i _ h. g.clear i h)
      (each_below (λ i. suc i < length path → Clear low_room (path_point path i) (path_point path (suc i)))
      (λ i. implied (is_at_most (suc (suc i)) (length path)) (is_clear (at 100 50) (path_point path i) (path_point path (suc i)))) (length path))

  clear_path : holds is_clear_path ≡ true → IsClearPath low_room path
  clear_path = shown is_clear_path

  no_clear_path : holds is_clear_path ≡ false → ¬ IsClearPath low_room path
  no_clear_path = refuted is_clear_path

pub returns : goal.returns
returns c = search (open_to, not_open_to, clear_path, no_clear_path)
