use Rattle.swept_check.proofs.Words.{[], arith, refl, All-from_get_or, Crosses}
use Rattle.swept_check.proofs.zone_crossings.crosses_no_zone.Goals as goal

pub returns : goal.returns
returns c =
    (λ t. All-from_get_or (λ zone. ¬ Crosses zone c.args.a c.args.b) c.args.zones.now [] (λ k l. c.loop-zone.invariant k (omega arith)), λ all. refl)
