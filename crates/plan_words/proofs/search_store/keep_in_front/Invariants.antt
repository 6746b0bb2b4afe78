use Rattle.plan_words.proofs.Words.{◌≡◌, slice_index, vec_capacity, FiltersInPlace, found_in, is_dearer}
use Rattle.plan_words.proofs.search_store.keep_in_front.Given as goal

-- those of the earlier cells that are dearer stand in front
abbrev pub invariant-founds : goal.invariant-founds
invariant-founds l = record {
  kept : FiltersInPlace (λ cell. is_dearer (slice_index l.pairs) l.cost (found_in cell)) l.fn.cells.items l.cells.items l.kept l.index;
  room : vec_capacity l.cells ≡ vec_capacity l.fn.cells;
}
