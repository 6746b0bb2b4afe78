use Rattle.std.proofs.Common.{arith, Global, string_bytes}
use Rattle.path_watch.proofs.WatchedScenes.{orders_of-many}
use Rattle.path_watch.proofs.watch_words.orders_of.Goals as goal

pub returns-in_default-clause-value : goal.returns-in_default-clause-value
returns-in_default-clause-value c = orders_of-many (string_bytes {Z = Global}) c.args.words.now (omega (arith, c.in_default.len_at_least))
