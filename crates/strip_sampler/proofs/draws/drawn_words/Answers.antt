use Rattle.std.proofs.Common.{ℕ, ◌+◌, ◌%◌, ◌^◌, ◌<◌}
use Rattle.std.proofs.lemmas.Nat.{mod_below, pow_pos}
use Rattle.strip_sampler.proofs.GeneratorWords.{seed-state, word-first, word-second}
use Rattle.strip_sampler.proofs.draws.drawn_words.Goals as goal

pub returns-clause-first : goal.returns-clause-first
returns-clause-first c =
    let state : ℕ = (c.args.seed + c.args.k) % 2 ^ 64 in
    let small : state < 2 ^ 64 = mod_below _ (2 ^ 64) (pow_pos 64) in
    let is =
    seed-state state c.from_seed-generator.result c.to_le_bytes.result small (rw c.from.ensures at c.to_le_bytes.ensures) c.from_seed-generator.ensures in
    word-first state _ _ (rw is at c.next_u64-first.ensures)

pub returns-clause-second : goal.returns-clause-second
returns-clause-second c =
    let state : ℕ = (c.args.seed + c.args.k) % 2 ^ 64 in
    let small : state < 2 ^ 64 = mod_below _ (2 ^ 64) (pow_pos 64) in
    let is =
    seed-state state c.from_seed-generator.result c.to_le_bytes.result small (rw c.from.ensures at c.to_le_bytes.ensures) c.from_seed-generator.ensures in
    word-second state _ _ _ _ (rw is at c.next_u64-first.ensures) c.next_u64-second.ensures
