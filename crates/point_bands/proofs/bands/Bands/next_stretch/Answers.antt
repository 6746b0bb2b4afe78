use Rattle.point_bands.proofs.Words.{List, sym, subst, IsNonDecreasingBy, band_key, Numbered}
use Rattle.point_bands.proofs.bands.Bands.next_stretch.Goals as goal

pub next_stretch-requires-clause-sorted : goal.next_stretch-requires-clause-sorted
next_stretch-requires-clause-sorted c =
    subst (λ (points : List Numbered). IsNonDecreasingBy (band_key c.self.inside.height_log) points) (sym c.deref.ensures.value) c.self.invariant.2
