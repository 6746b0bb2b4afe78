use Rattle.std.proofs.Common.{◌≡◌, ◌*◌, ◌+◌, ◌-◌, length}
use Rattle.kd_shared.proofs.NearPasses.{IsGatheringPass}
use Rattle.kd_shared.proofs.near_search.gather.Given as goal

abbrev pub invariant-visits : goal.invariant-visits
invariant-visits l = record {
  most_is : l.most ≡ l.r * l.r;
  gathers : IsGatheringPass l.shared l.fn.pass l.pass l.p l.r l.taken l.count;
}

-- how many nodes may be left to visit
abbrev pub decreases-visits : goal.decreases-visits
decreases-visits l = length l.fn.pass.view.run.marks + 1 - l.taken
