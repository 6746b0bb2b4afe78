-- Which records are lawful for marks in empty rooms, of trees whose nodes all hang below the start.
use Rattle.plan_model_tests.proofs.Words.{◌≡◌, ℕ, true, false, refl, List, Option, empty_room, nodes_with, Goal, IsLawfulRecord, Point, Record, Setup}
use Rattle.plan_model_tests.proofs.Decisions.{holds, refuted, shown}
use Rattle.plan_model_tests.proofs.OrderDecisions.{is_clear}
use Rattle.plan_model_tests.proofs.RecordDecisions.{is_lawful_record}

module _ (room start : Point) (step gamma : ℕ) (goals : List Goal)
    (points : List (Option Point)) (costs : List ℕ) (records : List Record) (k : ℕ) (mark : Point) (entry : Record) where
  abbrev pub in_room : Setup
  in_room = record { space = empty_room room; start = start; step = step; gamma = gamma; goals = goals }

  abbrev pub is_lawful : Dec (IsLawfulRecord in_room (nodes_with points costs records) k mark entry)
  is_lawful = is_lawful_record in_room (is_clear room) (nodes_with points costs records) records refl k mark entry

  pub lawful : holds is_lawful ≡ true → IsLawfulRecord in_room (nodes_with points costs records) k mark entry
  lawful = shown is_lawful

  pub unlawful : holds is_lawful ≡ false → ¬ IsLawfulRecord in_room (nodes_with points costs records) k mark entry
  unlawful = refuted is_lawful
