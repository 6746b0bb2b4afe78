use Rattle.std.proofs.Common.{◌≡◌, ◌++◌, take, vec_capacity}
use Rattle.plan_model.proofs.memory_streams.mem_sink.append_reserved.Given as goal

-- the bytes before the index were appended, and the memory is the same
abbrev pub invariant-loop-byte : goal.invariant-loop-byte
invariant-loop-byte l = record {
  appended : l.taken.items ≡ l.initial.taken.items ++ take l.byte-index l.bytes;
  capacity : vec_capacity l.taken ≡ vec_capacity l.initial.taken;
}
