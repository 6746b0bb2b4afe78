use Rattle.convex_sets.proofs.Words.{◌≡◌, w32, to_z, of_z, arith, ints}
use Rattle.convex_sets.proofs.Lows.{lt_cases, rise-lower, rise-left}
use Rattle.convex_sets.proofs.outlines.is_lower.Goals as goal

pub returns-then-a-b : goal.returns-then-a-b
returns-then-a-b c =
    let a = c.args.a in
    let b = c.args.b in
    let same : a.y ≡ b.y = omega (arith, ints) in
    lt_cases (to_z w32 (of_z w32 a.x)) (to_z w32 (of_z w32 b.x)) _ _ (λ h. rise-left a b same (omega (arith, ints)))
    (λ h. rise-left b a (omega (arith, ints)) (omega (arith, ints)))

pub returns-else-a-b : goal.returns-else-a-b
returns-else-a-b c =
    let a = c.args.a in
    let b = c.args.b in
    lt_cases (to_z w32 (of_z w32 a.y)) (to_z w32 (of_z w32 b.y)) _ _ (λ h. rise-lower a b c.requires.first c.requires.second (omega (arith, ints)))
    (λ h. rise-lower b a c.requires.second c.requires.first (omega (arith, ints)))
