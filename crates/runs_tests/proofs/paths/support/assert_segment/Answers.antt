use Rattle.runs_tests.proofs.paths.support.assert_segment.Goals as goal

pub returns : goal.returns
returns g c = c.clear.ensures.0 c.if-not-clear.false
