use Rattle.plan_model.proofs.Words.{ℕ, ◌-◌, ◌*◌, ◌^◌, Bool, leb, arith, leb-true, le-leb}
use Rattle.plan_model.proofs.RadiusLaws.{greatest-le, greatest-passes, greatest-most}
use Rattle.plan_model.proofs.laws.radii.radius_is_greatest.Goals as goal

-- whether r is short enough for class b
fits : ℕ → ℕ → ℕ → Bool
fits gamma b r = leb (r * r * 2 ^ (b - 1)) (gamma * gamma * b)

pub returns-clause-within : goal.returns-clause-within
unfolding fits
returns-clause-within c = λ step gamma b. greatest-le (fits gamma b) step

pub returns-clause-meets : goal.returns-clause-meets
unfolding fits
returns-clause-meets c = λ step gamma b.
    leb-true _ _ (greatest-passes (fits gamma b) step (le-leb (0 * 0 * 2 ^ (b - 1)) (gamma * gamma * b) (omega arith)))

pub returns-clause-greatest : goal.returns-clause-greatest
unfolding fits
returns-clause-greatest c = λ step gamma b r l h. greatest-most (fits gamma b) step r l (le-leb _ _ h)
