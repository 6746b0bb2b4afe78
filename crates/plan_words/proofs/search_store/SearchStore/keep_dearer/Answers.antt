use Rattle.plan_words.proofs.Words.{◌<◌, List, length, map, take, ap, sym, subst, ◌∙◌, rules, All, IsPermutation, filter, slice_index, IsNonDecreasing}
use Rattle.plan_words.proofs.Words.{IsNonDecreasingBy-from_sort_by_key, IsPermutation-map, SearchState, found_in, is_dearer, numbers_of, Cell, Found}
use Rattle.plan_words.proofs.KeptFound.{All-cells, all_kept, filter-found, rising_numbers}
use Rattle.plan_words.proofs.search_store.SearchStore.keep_dearer.Goals as goal

pub keep_in_front-kept-requires-clause-low : goal.keep_in_front-kept-requires-clause-low
keep_in_front-kept-requires-clause-low c =
    All-cells (λ f. f.node < length c.args.pairs.now) (take c.self.inside.count c.self.inside.cells.items)
    (subst (λ (s : SearchState). All (λ f. f.node < length c.args.pairs.now) s.lists.found) (sym c.self.view_is) c.requires.low)

pub returns-clause-same : goal.returns-clause-same
returns-clause-same c =
    let words = slice_index c.args.pairs.now in
    let all = take c.self.inside.count c.self.inside.cells.items in
    let sorted = c.sort_unstable_by_key.new.self.items in
    let cells = ap (map found_in) (c.truncate.ensures.items ∙ c.keep_in_front-kept.ensures.kept)
    ∙ sym (filter-found words c.args.cost all)
    ∙ ap (λ (s : SearchState). filter (is_dearer words c.args.cost) s.lists.found) c.self.view_is in
    subst (λ (l : List Cell). IsPermutation (filter (is_dearer words c.args.cost) c.args.self.now.lists.found) (map found_in l)) (sym
    (all_kept c.keep_in_front-kept.result c.keep_in_front-kept.new.cells.items c.truncate.new.self.items c.sort_unstable_by_key.new.self.items
    c.keep_in_front-kept.ensures.within c.truncate.ensures.items c.sort_unstable_by_key.ensures.permutation))
    (subst (λ (l : List Found). IsPermutation l (map found_in sorted)) cells
    (IsPermutation-map found_in c.truncate.new.self.items sorted c.sort_unstable_by_key.ensures.permutation))

pub returns-clause-rising : goal.returns-clause-rising
returns-clause-rising c =
    subst (λ (l : List Cell). IsNonDecreasing (numbers_of (map found_in l))) (sym
    (all_kept c.keep_in_front-kept.result c.keep_in_front-kept.new.cells.items c.truncate.new.self.items c.sort_unstable_by_key.new.self.items
    c.keep_in_front-kept.ensures.within c.truncate.ensures.items c.sort_unstable_by_key.ensures.permutation))
    (rising_numbers c.sort_unstable_by_key.new.self.items
    (IsNonDecreasingBy-from_sort_by_key (λ (cell : Cell). cell.node) c.sort_unstable_by_key.new.self.items c.sort_unstable_by_key.ensures.sorted
    (λ a r q k. search rules)))
