-- In the open room of the worked runs each link is open that is no longer than the step.
use Rattle.plan_model_tests.proofs.Words.{◌*◌, ◌≤◌, List, Goal, Point, squared_distance, IsInRoom, empty_room, open_setup_to, at, Clear-empty_room}
use Rattle.plan_model_tests.proofs.Words.{IsInRoom-from_clear_at, IsOpenLink}

pub IsOpenLink-short : (goals : List Goal) (a b : Point) → squared_distance a b ≤ 50 * 50 → IsInRoom (at 100 100) b → IsOpenLink (open_setup_to goals) a b
IsOpenLink-short goals a b short inside = record {
  short = short;
  clear = λ p here near. Clear-empty_room (at 100 100) p b (IsInRoom-from_clear_at (empty_room (at 100 100)) p here) inside;
}
