use Rattle.point_bands.proofs.Words.{rules, All-permutation, IsNonDecreasingBy-from_sort_by_key, IsBounded, band_key, Numbered}
use Rattle.point_bands.proofs.bands.Bands.new.Goals as goal

pub invariant_of-result : goal.invariant_of-result
invariant_of-result c = (
  c.height_log_for-height_log.ensures,
  All-permutation (λ (n : Numbered). IsBounded n.point) c.args.points.items c.sort_unstable_by_key.new.self.items
      c.sort_unstable_by_key.ensures.permutation c.requires,
  IsNonDecreasingBy-from_sort_by_key (band_key c.height_log_for-height_log.result) c.sort_unstable_by_key.new.self.items
      c.sort_unstable_by_key.ensures.sorted (λ a r f' k. search rules),
)
