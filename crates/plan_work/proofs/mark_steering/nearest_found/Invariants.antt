use Rattle.plan_work.proofs.Words.{map, take, IsNextWord}
use Rattle.plan_work.proofs.NearestListed.{word_of}
use Rattle.plan_work.proofs.mark_steering.nearest_found.Given as goal

-- the least word so far is that of the earlier ones found
abbrev pub invariant-others : goal.invariant-others
invariant-others l = IsNextWord (map word_of (take l.index l.pass.lists.search.found)) 0 18446744073709551615 l.least
