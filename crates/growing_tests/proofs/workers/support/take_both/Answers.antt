use Rattle.growing_tests.proofs.Shares.FullStrips.{AllFull-later}
use Rattle.growing_tests.proofs.workers.support.take_both.Goals as goal

pub returns-clause-full : goal.returns-clause-full
returns-clause-full c = AllFull-later c.args.pass.now.view c.join.new.pass.view 3 c.join.ensures.goes_on c.requires.full
