-- The commands of the program, and the tables of what they read, what they test, and how they succeed.
use Rattle.std.specs.Prelude.{◌≡◌, ◌≢◌, ℕ, List, [], drop, map, string_bytes, Result, Ok, Err, IsErrAnd, String, ◌≤◌, ◌&&◌, Bool, true, false, Option, Some}
use Rattle.std.specs.Prelude.{None, option_and_then, ◌∷◌, codes, bytes_eq, if◌then◌else◌, pos}
use Rattle.planner.specs.Terms.{Command, DONE, Error, Global, IntoIter, MOST_GENERATED, MOST_MARKS, MOST_WORKERS, NO_PATH, OutOfMemory, error_kind, int_le}
use Rattle.planner.specs.Terms.{into_iter_items, is_number, unsigned_abs, value_of}
use Rattle.planner.specs.Inputs.{Input, nothing, one_scene, scene_and_report, several_scenes, reads_bytes}
use Rattle.planner.specs.declared.commands.Command.TheVariants as commands

-- ---- The words of the command line, from the arguments that the library gives.
-- the arguments after the program's name; none if they are no text
abbrev pub given : Result (IntoIter (String Global) Global) Error → List (String Global)
given (Ok args) = drop 1 (into_iter_items args)
given (Err error) = []

-- the words after the program's name, as bytes
abbrev pub words_after_name : Result (IntoIter (String Global) Global) Error → List (List ℕ)
words_after_name args = map string_bytes (given args)

-- there was no memory for the arguments
abbrev pub IsOutOfMemory : Result (IntoIter (String Global) Global) Error → Type 0
IsOutOfMemory args = IsErrAnd args (λ error. error_kind error ≡ OutOfMemory)

-- the arguments are no text: they are an error, and memory is not what is missing
abbrev pub AreNoText : Result (IntoIter (String Global) Global) Error → Type 0
AreNoText args = IsErrAnd args (λ error. error_kind error ≢ OutOfMemory)

-- ---- commands
-- the command that one word asks for, if it asks for one
abbrev pub command_of_word : List ℕ → Option Command
command_of_word word =
    if bytes_eq word (codes "plain") then Some (commands.Plain false)
    else (if bytes_eq word (codes "check") then Some commands.Check
    else (if bytes_eq word (codes "show") then Some commands.Show
    else (if bytes_eq word (codes "convert") then Some commands.Convert else None)))

-- The number that a word stands for, if it is one from `least` to `most`: spelled as the numbers of a scene text are.
abbrev pub number_in : ℕ → ℕ → List ℕ → Option ℕ
number_in least most word = if is_number word && (int_le (pos least) (value_of word) && int_le (value_of word) (pos most))
    then Some (unsigned_abs (value_of word)) else None

-- the command to plan by so many workers, which a word says, with a full report or a short one
abbrev pub plan_by : Bool → List ℕ → Option Command
plan_by full word = option_and_then (λ workers. Some (commands.Plan workers full)) (number_in 1 MOST_WORKERS word)

-- the command to smooth the path of a run by so many workers, which a word says
abbrev pub smooth_by : List ℕ → Option Command
smooth_by word = option_and_then (λ workers. Some (commands.Smooth workers)) (number_in 1 MOST_WORKERS word)

-- the command to grow a run by so many workers, so many marks at a time, which two words say
abbrev pub anytime_by : List ℕ → List ℕ → Option Command
anytime_by second third = option_and_then
    (λ workers. option_and_then (λ slice. Some (commands.Anytime workers slice)) (number_in 1 MOST_MARKS third)) (number_in 1 MOST_WORKERS second)

-- the command to plan from both ends by so many workers, which a word says
abbrev pub twin_by : List ℕ → Option Command
twin_by word = option_and_then (λ workers. Some (commands.Twin workers)) (number_in 1 MOST_WORKERS word)

-- the command to grow a run of each of several scenes in that way
abbrev pub batch_by : List ℕ → List ℕ → Option Command
batch_by second third = option_and_then (λ workers. option_and_then (λ slice. Some (commands.Batch workers slice)) (number_in 1 MOST_MARKS third))
    (number_in 1 MOST_WORKERS second)

-- the command of a word about the generated scene of a number
abbrev pub command_about : List ℕ → ℕ → Option Command
command_about word number =
    if bytes_eq word (codes "gen") then Some (commands.Gen number) else (if bytes_eq word (codes "trial") then Some (commands.Trial number) else None)

-- The command that two words ask for, if they ask for one: `plain full`, `plan`, `smooth` or `twin` and a number of workers, or a word
-- and the number of a generated scene.
abbrev pub command_of_two : List ℕ → List ℕ → Option Command
command_of_two word second =
    if bytes_eq word (codes "plain") && bytes_eq second (codes "full") then Some (commands.Plain true)
    else (if bytes_eq word (codes "plan") then plan_by false second
    else (if bytes_eq word (codes "smooth") then smooth_by second
    else (if bytes_eq word (codes "twin") then twin_by second
    else option_and_then (command_about word) (number_in 0 MOST_GENERATED second))))

-- the command that three words ask for, if they ask for one: `plan`, a number of workers, and `full`, or `anytime` or `batch` and two
-- numbers, of workers and of marks
abbrev pub command_of_three : List ℕ → List ℕ → List ℕ → Option Command
command_of_three word second third =
    if bytes_eq word (codes "plan") && bytes_eq third (codes "full") then plan_by true second
    else (if bytes_eq word (codes "anytime") then anytime_by second third
    else (if bytes_eq word (codes "batch") then batch_by second third else None))

-- the command that the words ask for, if they ask for one
abbrev pub command_of : List (List ℕ) → Option Command
command_of (word ∷ []) = command_of_word word
command_of (word ∷ second ∷ []) = command_of_two word second
command_of (word ∷ second ∷ third ∷ []) = command_of_three word second third
command_of words = None

-- if the command is about a generated scene, there is one of its number; a slice has a mark at least
abbrev pub IsNumbered : Command → Type 0
IsNumbered (commands.Plain full) = Unit {0}
IsNumbered (commands.Plan workers full) = Unit {0}
IsNumbered (commands.Smooth workers) = Unit {0}
IsNumbered (commands.Anytime workers slice) = 1 ≤ slice
IsNumbered (commands.Twin workers) = Unit {0}
IsNumbered (commands.Batch workers slice) = 1 ≤ slice
IsNumbered commands.Check = Unit {0}
IsNumbered commands.Show = Unit {0}
IsNumbered commands.Convert = Unit {0}
IsNumbered (commands.Gen number) = number ≤ MOST_GENERATED
IsNumbered (commands.Trial number) = number ≤ MOST_GENERATED

-- what a command reads
abbrev pub input_of : Command → Input
input_of (commands.Plain full) = one_scene
input_of (commands.Plan workers full) = one_scene
input_of (commands.Smooth workers) = one_scene
input_of (commands.Anytime workers slice) = one_scene
input_of (commands.Twin workers) = one_scene
input_of (commands.Batch workers slice) = several_scenes
input_of commands.Check = scene_and_report
input_of commands.Show = one_scene
input_of commands.Convert = one_scene
input_of (commands.Gen number) = nothing
input_of (commands.Trial number) = nothing

-- whether a command reads a text; one that does not reads nothing
abbrev pub reads_text : Command → Bool
reads_text command = reads_bytes (input_of command)

-- whether a command plans its scene, or checks a plan of it, and the scene then has a clear start
abbrev pub plans : Command → Bool
plans (commands.Plain full) = true
plans (commands.Plan workers full) = true
plans (commands.Smooth workers) = true
plans (commands.Anytime workers slice) = true
plans (commands.Twin workers) = true
plans (commands.Batch workers slice) = true
plans commands.Check = true
plans commands.Show = false
plans commands.Convert = false
plans (commands.Gen number) = false
plans (commands.Trial number) = true

-- whether a command is refused if the start of a scene that it reads is not clear
abbrev pub tests_start : Command → Bool
tests_start command = reads_text command && plans command

-- whether a command is done under an executor, and so may wait
abbrev pub waits : Command → Bool
waits (commands.Anytime workers slice) = true
waits (commands.Batch workers slice) = true
waits command = false

-- whether a command is refused if the middle of the first goal of a scene that it reads is not clear
abbrev pub tests_goal : Command → Bool
tests_goal (commands.Twin workers) = true
tests_goal command = false

-- the greatest status that a command may succeed with
abbrev pub greatest_success : Command → ℕ
greatest_success (commands.Plain full) = NO_PATH
greatest_success (commands.Plan workers full) = NO_PATH
greatest_success (commands.Smooth workers) = NO_PATH
greatest_success (commands.Anytime workers slice) = NO_PATH
greatest_success (commands.Twin workers) = NO_PATH
greatest_success (commands.Batch workers slice) = NO_PATH
greatest_success commands.Check = NO_PATH
greatest_success commands.Show = DONE
greatest_success commands.Convert = DONE
greatest_success (commands.Gen number) = DONE
greatest_success (commands.Trial number) = NO_PATH
