-- Strips of which no mark is left, as a pass has seen it.
use Rattle.growing_tests.proofs.Words.{ℕ, ◌<◌, ap, subst, arith, AllFull, GoesOn, quota_of, Counter, View}

-- none is left later, as counters only rise
pub AllFull-later : (before after : View) (limit : ℕ) → GoesOn before after → AllFull before limit → AllFull after limit
AllFull-later before after limit goes_on full g strip =
    let run = goes_on.later.run in
    let here = subst (λ r. g < r.strips) run strip in
    omega (arith, full g here, goes_on.later.seen (Counter g), ap (λ r. quota_of r.strips g limit) run)
