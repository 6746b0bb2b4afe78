use Rattle.std.specs.Prelude.{◌-◌, length}
use Rattle.point_bands.proofs.bands.tests.numbers_in.Given as goal

abbrev pub decreases-walk : goal.decreases-walk
decreases-walk l = length l.bands - l.at
