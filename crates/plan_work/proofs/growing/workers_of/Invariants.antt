use Rattle.plan_work.proofs.Words.{◌≡◌, workers_with}
use Rattle.plan_work.proofs.growing.workers_of.Given as goal

abbrev pub invariant-loop-pass : goal.invariant-loop-pass
invariant-loop-pass l = l.all.items ≡ workers_with l.yielded
