-- What a poll of a batch does.
use Rattle.std.specs.Prelude.{◌≡◌, ◌<◌, ◌+◌, ◌-◌, ◌⊎◌, ℕ, Bool, true, false, List, Option, Some, None, Result, Ok, Err, length, slice_index_or, if◌then◌else◌}
use Rattle.std.specs.Prelude.{◌||◌, [], ◌∷◌, IfSome, nat_eq, ◌++◌, get_or}
use Rattle.any_time.specs.Terms.{Better, FoldsTo, Grown, Memory, Pending, Poll, Ready, Task, nat_lt}
use Rattle.any_time.specs.Sessions.{SessionState, IsOver, Polls, IsFresh}
use Rattle.any_time.specs.Items.{Answers, EndsWith, HasGiven, MissesNoFall, betters_among}
use Rattle.any_time.specs.BetterPaths.{AreBetterPaths}

-- A batch by its sessions, the number of the one that gave the last item, and whether an item `Memory` was given.
pub record BatchState : Type 0 where
  pub sessions : List SessionState
  pub last : Option ℕ
  pub failed : Bool

-- the session with this number
abbrev pub at : List SessionState → ℕ → SessionState → SessionState
at = slice_index_or

-- ---- the order of a poll
-- the number after this one, and after the greatest 0
abbrev pub turn_after : ℕ → Option ℕ → ℕ
turn_after count None = 0
turn_after count (Some number) = if nat_lt (number + 1) count then number + 1 else 0

-- the number that a poll begins with: the one after that of the last item, or 0 before the first item
abbrev pub first_turn : BatchState → ℕ
first_turn b = turn_after (length b.sessions) b.last

-- the place of a number in the order of a poll that begins with `from`: from there upwards, and after the greatest number from 0
abbrev pub place_of : ℕ → ℕ → ℕ → ℕ
place_of count from number = if nat_lt number from then count + number - from else number - from

-- ---- what becomes of the sessions
-- the session was polled once and gave no item: it answered Pending, or was at its end and is as it was
abbrev pub Rests : SessionState → SessionState → Type 0
Rests s t = Polls s Pending t ⊎ Polls s (Ready None) t

-- The session with this number was polled once and gave this answer. Those before it in the order gave no item, and those after it were not polled.
pub record Gave (from : ℕ) (before after : List SessionState) (number : ℕ) (answer : Poll (Option (Result Better Memory))) : Type 0 where
  pub count : length after ≡ length before
  pub within : number < length before
  pub rested : (i : ℕ) (d : SessionState) → i < length before → place_of (length before) from i < place_of (length before) from number
      → Rests (at before i d) (at after i d)
  pub polled : (d : SessionState) → Polls (at before number d) answer (at after number d)
  pub same : (i : ℕ) (d : SessionState) → i < length before → place_of (length before) from number < place_of (length before) from i
      → at after i d ≡ at before i d

-- every session was polled once and gave no item, and one of them answered Pending
pub record AllRest (before after : List SessionState) : Type 0 where
  pub count : length after ≡ length before
  pub rested : (i : ℕ) (d : SessionState) → i < length before → Rests (at before i d) (at after i d)
  pub pending : (i : ℕ) × (i < length before) × ((d : SessionState) → Polls (at before i d) Pending (at after i d))

-- every session is at its end
abbrev pub AllOver : List SessionState → Type 0
AllOver sessions = (i : ℕ) (d : SessionState) → i < length sessions → IsOver (at sessions i d)

-- ---- the answers
-- after an item `Memory`, or with every session at its end
abbrev pub IsBatchOver : BatchState → Type 0
IsBatchOver b = (b.failed ≡ true) ⊎ AllOver b.sessions

-- a poll of b gave this answer and left c
abbrev pub BatchPolls : BatchState → Poll (Option (Result (ℕ × Better) Memory)) → BatchState → Type 0
BatchPolls b Pending c = (b.failed ≡ false) × (c.failed ≡ false) × (c.last ≡ b.last) × AllRest b.sessions c.sessions
BatchPolls b (Ready None) c = IsBatchOver b × (c ≡ b)
BatchPolls b (Ready (Some (Ok item))) c = (b.failed ≡ false) × (c.failed ≡ false) × (c.last ≡ Some item.0)
    × Gave (first_turn b) b.sessions c.sessions item.0 (Ready (Some (Ok item.1)))
BatchPolls b (Ready (Some (Err e))) c = (b.failed ≡ false) × (c.failed ≡ true) × (c.last ≡ b.last)
    × ((number : ℕ) × Gave (first_turn b) b.sessions c.sessions number (Ready (Some (Err e))))

-- ---- The items of a batch are those of its sessions.
-- the answers of polls of a batch
abbrev pub BatchAnswers : Type 0
BatchAnswers = List (Poll (Option (Result (ℕ × Better) Memory)))

-- the paths of one number among them
abbrev pub betters_of : ℕ → BatchAnswers → List Better
betters_of number [] = []
betters_of number (Ready (Some (Ok item)) ∷ answers) = if nat_eq item.0 number then item.1 ∷ betters_of number answers else betters_of number answers
betters_of number (answer ∷ answers) = betters_of number answers

-- an item `Memory` is among them
abbrev pub has_memory : BatchAnswers → Bool
has_memory [] = false
has_memory (Ready (Some (Err e)) ∷ answers) = true
has_memory (answer ∷ answers) = has_memory answers

-- polls took the session from s to t, and gave these paths in this order
abbrev pub ArePolled : SessionState → List Better → SessionState → Type 0
ArePolled s items t = (polls : Answers) × FoldsTo Polls s polls t × (betters_among polls ≡ items)

-- However often a batch is polled, there are as many sessions, and each was polled so that its items are those of its number.
abbrev pub ItemsAreOfSessions : Type 0
ItemsAreOfSessions = (b c : BatchState) (answers : BatchAnswers) → FoldsTo BatchPolls b answers c
    → (length c.sessions ≡ length b.sessions) × ((number : ℕ) (d : SessionState) → number < length b.sessions
    → ArePolled (at b.sessions number d) (betters_of number answers) (at c.sessions number d))

-- The law of sessions holds for the items of each number whose session had handled nothing.
abbrev pub BatchItemsFall : Type 0
BatchItemsFall = (b c : BatchState) (answers : BatchAnswers) (number : ℕ) (d : SessionState) (task : Task) (workers slice : ℕ)
    → FoldsTo BatchPolls b answers c → number < length b.sessions → IsFresh task workers slice (at b.sessions number d)
    → HasGiven task workers slice (betters_of number answers) (at c.sessions number d).run × (IsOver (at c.sessions number d)
    → IfSome (at c.sessions number d).run
    (λ run. EndsWith task workers run × MissesNoFall task workers slice (betters_of number answers) run))

-- a batch has failed exactly if an item `Memory` was given
abbrev pub FailsByMemory : Type 0
FailsByMemory = (b c : BatchState) (answers : BatchAnswers) → FoldsTo BatchPolls b answers c → c.failed ≡ (b.failed || has_memory answers)

-- at the end, unless an item `Memory` was given, every session is at its end
abbrev pub EndsWithSessions : Type 0
EndsWithSessions = (b c : BatchState) → BatchPolls b (Ready None) c → b.failed ≡ false → AllOver c.sessions

-- ---- What the future that gathers a session's items gives.
-- polls took s to its end t, and the paths among their answers came after xs
abbrev pub Gathers : SessionState → List Better → SessionState → List Better → Type 0
Gathers s xs t ys = (answers : Answers) × FoldsTo Polls s answers t × IsOver t × (ys ≡ xs ++ betters_among answers)

-- ---- What the future that gathers a batch's items gives, and what comes of each of its sessions.
-- polls took b to its end c, and the paths of each number among their answers came after those of the list of that number
pub record GathersBatch (b : BatchState) (xs : List (List Better)) (c : BatchState) (ys : List (List Better)) : Type 0 where
  pub answers : BatchAnswers
  pub polled : FoldsTo BatchPolls b answers c
  pub over : IsBatchOver c
  pub count : length ys ≡ length xs
  pub each : (number : ℕ) → number < length xs → get_or ys number [] ≡ get_or xs number [] ++ betters_of number answers

-- no list has an item
abbrev pub AllEmpty : List (List Better) → Type 0
AllEmpty lists = (i : ℕ) → i < length lists → get_or lists i [] ≡ []

-- a session of the task has given these paths, and has come to its end with this run
pub record HasFinished (task : Task) (workers slice : ℕ) (items : List Better) (run : Grown) : Type 0 where
  pub ended : EndsWith task workers run
  pub better : AreBetterPaths workers slice run items
