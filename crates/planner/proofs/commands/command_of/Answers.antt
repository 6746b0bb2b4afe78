use Rattle.std.proofs.Common.{arith, Global, string_bytes}
use Rattle.planner.proofs.CommandWords.{command_of-many}
use Rattle.planner.proofs.commands.command_of.Goals as goal

pub returns-in_default-clause-value : goal.returns-in_default-clause-value
returns-in_default-clause-value c = command_of-many (string_bytes {Z = Global}) c.args.words.now (omega (arith, c.in_default.len_at_least))
