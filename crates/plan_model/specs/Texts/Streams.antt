-- Sources and sinks: what is known of them, counts of faults, and what a stream in memory is.
use Rattle.std.specs.Prelude.{ℕ, ◌+◌, ◌-◌, ◌^◌, ◌≤◌, ◌==◌, nat_lt, ◌&&◌, ◌||◌, Bool, Option, min, List, ◌++◌, length, take, drop, Result, Ok, if◌then◌else◌}
use Rattle.plan_model.specs.Terms.{Err, Failed, list_any}

-- What is known of a source at one time.
pub record SourceState : Type 0 where
  -- the bytes that are left, if they are known
  pub bytes_left : Option (List ℕ)
  -- it has given its end
  pub has_ended : Bool
  -- how many reads have failed; the count stands still at the last value of a u64
  pub fault_count : ℕ
  -- `Failed` alone raises the count, and by one
  pub counts_failures_alone : Bool

-- What is known of a sink at one time.
pub record SinkState : Type 0 where
  -- the bytes taken so far, if they are known
  pub bytes_taken : Option (List ℕ)
  -- how many writes have failed; the count stands still at the last value of a u64
  pub fault_count : ℕ
  -- `Failed` alone raises the count, and by one
  pub counts_failures_alone : Bool

-- a count of faults has risen, or stands at its last value
abbrev pub FaultsRose : ℕ → ℕ → Type 0
FaultsRose before now = min (before + 1) (2 ^ 64 - 1) ≤ now

-- bytes that are read one after another: those that are left, and whether their end was given
pub record Stream : Type 0 where
  pub left : List ℕ
  pub ended : Bool

-- the end is given by a read of no byte into a slice that is not empty
abbrev pub ended_after : Bool → ℕ → ℕ → Bool
ended_after ended len count = ended || (count == 0 && nat_lt 0 len)

-- how many bytes a read or a write moves, if it does not fail
abbrev pub moved_count : ℕ → ℕ → ℕ → ℕ
moved_count len most free = min len (min most free)

-- Bytes that were taken into a fixed room: at most so many in one call, and the calls with these numbers fail.
pub record MemSinkState : Type 0 where
  pub bytes : List ℕ
  pub room : ℕ
  pub most : ℕ
  pub fails : List ℕ
  pub calls : ℕ
  pub faults : ℕ

-- one more, up to the last value of a count
abbrev pub counted_up : ℕ → ℕ
counted_up n = min (n + 1) (2 ^ 64 - 1)

-- the next write of at least one byte fails: its number is listed, or the room is full
abbrev pub is_refused : MemSinkState → Bool
is_refused sink = list_any (λ number. number == counted_up sink.calls) sink.fails || sink.room == length sink.bytes

-- how many bytes a write takes that does not fail
abbrev pub taken_count : MemSinkState → List ℕ → ℕ
taken_count sink piece = moved_count (length piece) sink.most (sink.room - length sink.bytes)

-- What a write of these bytes returns. A write of no byte is not numbered and changes nothing.
abbrev pub write_result : MemSinkState → List ℕ → Result ℕ Failed
write_result sink piece = if length piece == 0 then Ok 0 else (if is_refused sink then Err (record {}) else Ok (taken_count sink piece))

-- what a write of these bytes leaves
abbrev pub after_write : MemSinkState → List ℕ → MemSinkState
after_write sink piece =
    if length piece == 0 then sink else
    (if is_refused sink then record sink { calls = counted_up sink.calls; faults = counted_up sink.faults } else
    record sink { bytes = sink.bytes ++ take (taken_count sink piece) piece; calls = counted_up sink.calls })

-- Bytes that are given in pieces: those that are left, whether their end was given, at most so many bytes in one call,
-- and the calls with these numbers fail.
pub record MemSourceState : Type 0 where
  pub left : List ℕ
  pub ended : Bool
  pub most : ℕ
  pub fails : List ℕ
  pub calls : ℕ
  pub faults : ℕ

-- the next read into a slice that is not empty fails: its number is listed
abbrev pub is_failing : MemSourceState → Bool
is_failing source = list_any (λ number. number == counted_up source.calls) source.fails

-- how many bytes a read gives that does not fail, into a slice of so many places
abbrev pub given_count : MemSourceState → ℕ → ℕ
given_count source len = moved_count len source.most (length source.left)

-- What a read into a slice of so many places returns. A read into an empty slice is not numbered and changes nothing.
abbrev pub read_result : MemSourceState → ℕ → Result ℕ Failed
read_result source len = if len == 0 then Ok 0 else (if is_failing source then Err (record {}) else Ok (given_count source len))

-- what a read into a slice of so many places leaves
abbrev pub after_read : MemSourceState → ℕ → MemSourceState
after_read source len = if len == 0 then source else
    (if is_failing source then record source { calls = counted_up source.calls; faults = counted_up source.faults } else
    record source {
      left = drop (given_count source len) source.left;
      ended = ended_after source.ended len (given_count source len);
      calls = counted_up source.calls;
    })

-- what the slice holds after a read into it
abbrev pub read_into : MemSourceState → List ℕ → List ℕ
read_into source into =
    if length into == 0 then into else
    (if is_failing source then into else
    take (given_count source (length into)) source.left ++ drop (given_count source (length into)) into)
