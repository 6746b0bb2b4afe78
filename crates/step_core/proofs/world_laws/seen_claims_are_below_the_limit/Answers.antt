use Rattle.std.proofs.Common.{◌/◌, ◌%◌, ◌<◌, arith}
use Rattle.std.proofs.lemmas.Bool.{ltb-true}
use Rattle.std.proofs.lemmas.Nat.{div-add-mod'}
use Rattle.grown_runs.proofs.Common.{IsCutAt-quota, Counter}
use Rattle.step_core.specs.Views.{sees}
use Rattle.step_core.proofs.world_laws.seen_claims_are_below_the_limit.Goals as goal

pub returns : goal.returns
returns c = λ view state stands some k claimed.
    let strips = view.run.strips in
    let g = k % strips in
    let within : g < strips = omega (arith, some) in
    let below = ltb-true (k / strips) (sees view (Counter g)) claimed in
    omega (arith, (IsCutAt-quota strips g view.most within).below_limit (k / strips) (omega (arith, below, stands.counters g within)), div-add-mod' k strips)
