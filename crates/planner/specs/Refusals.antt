-- The line that the program writes in place of a report, and the status that it ends with.
use Rattle.planner.specs.Terms.{Broken, DONE, FetchFault, GOAL_BLOCKED, Lawful, NO_MEMORY, NO_PATH, READ_FAULT, Refusal, START_BLOCKED, SceneRefusal}
use Rattle.planner.specs.Terms.{TEXT_REFUSED, TwinFault, Verdict, WORDS_REFUSED, fault_words, join_with_byte, line}
use Rattle.std.specs.Prelude.{ℕ, List, ◌∷◌, [], codes, decimal}
use Rattle.planner.specs.declared.refusals.Refusal.TheVariants as refusals
use Rattle.scene_text.specs.declared.fetching.FetchFault.TheVariants as fetching
use Rattle.scene_text.specs.declared.refusals.SceneRefusal.TheVariants as reading
use Rattle.twin_trees.specs.declared.twin_runs.TwinFault.TheVariants as faults

-- ---- Which refusal a fault of the reader, or of two trees, becomes.
-- what a fault of two trees becomes
abbrev pub refusal_of_twin : TwinFault → Refusal
refusal_of_twin faults.GoalBlocked = refusals.GoalBlocked
refusal_of_twin faults.Memory = refusals.Memory

-- what a fault of reading the bytes becomes
abbrev pub refusal_of_fetch : FetchFault → Refusal
refusal_of_fetch fetching.Read = refusals.ReadFault
refusal_of_fetch fetching.TooLong = refusals.TooLong
refusal_of_fetch fetching.Memory = refusals.Memory

-- what a refusal of the text becomes
abbrev pub refusal_of_scene : SceneRefusal → Refusal
refusal_of_scene (reading.Fault fault) = refusals.Text fault.line fault.kind
refusal_of_scene reading.Memory = refusals.Memory

-- ---- refusals
-- the words that the program writes in place of a report
abbrev pub words_of_refusal : Refusal → List (List ℕ)
words_of_refusal refusals.Words = codes "words" ∷ codes "refused" ∷ []
words_of_refusal refusals.TooLong = codes "text" ∷ codes "too" ∷ codes "long" ∷ []
words_of_refusal (refusals.Text number kind) = fault_words number kind
words_of_refusal refusals.StartBlocked = codes "start" ∷ codes "blocked" ∷ []
words_of_refusal refusals.GoalBlocked = codes "goal" ∷ codes "blocked" ∷ []
words_of_refusal refusals.ReadFault = codes "read" ∷ codes "fault" ∷ []
words_of_refusal refusals.Memory = codes "no" ∷ codes "memory" ∷ []

-- a refusal in words, without a line feed
abbrev pub message_of : Refusal → List ℕ
message_of refusal = join_with_byte 32 (words_of_refusal refusal)

-- the line that the program writes
abbrev pub line_of : Refusal → List ℕ
line_of refusal = line (words_of_refusal refusal)

-- the status that the program ends with
abbrev pub status_of : Refusal → ℕ
status_of refusals.Words = WORDS_REFUSED
status_of refusals.TooLong = TEXT_REFUSED
status_of (refusals.Text number kind) = TEXT_REFUSED
status_of refusals.StartBlocked = START_BLOCKED
status_of refusals.GoalBlocked = GOAL_BLOCKED
status_of refusals.ReadFault = READ_FAULT
status_of refusals.Memory = NO_MEMORY

-- ---- What is written of a verdict on a report, and the status that it gives.
-- a verdict in words: `lawful`, or `broken line L law N`
abbrev pub verdict_words : Verdict → List (List ℕ)
verdict_words Lawful = codes "lawful" ∷ []
verdict_words (Broken at law) = codes "broken" ∷ codes "line" ∷ decimal at ∷ codes "law" ∷ decimal law ∷ []

-- without a line feed
abbrev pub verdict_message : Verdict → List ℕ
verdict_message verdict = join_with_byte 32 (verdict_words verdict)

-- as a line
abbrev pub verdict_line : Verdict → List ℕ
verdict_line verdict = line (verdict_words verdict)

-- the status: 0 exactly of a lawful report
abbrev pub status_of_verdict : Verdict → ℕ
status_of_verdict Lawful = DONE
status_of_verdict (Broken at law) = NO_PATH
