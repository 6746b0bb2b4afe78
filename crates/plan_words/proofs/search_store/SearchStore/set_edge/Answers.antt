use Rattle.plan_words.proofs.Words.{◌≡◌, List, drop, length, map, set, take, ap, arith, subst, sym, ◌∙◌, IfSome, slice_get, drop-set-lt, vec_capacity}
use Rattle.plan_words.proofs.Words.{SearchState, found_in, spot_in, Cell, Found}
use Rattle.plan_words.proofs.KeptFound.{found-set, found_below, found_here}
use Rattle.plan_words.proofs.search_store.SearchStore.set_edge.Goals as goal

pub returns : goal.returns
returns c =
    let i = c.args.index in
    let cells = c.self.inside.cells in
    let taken = c.self.inside.taken in
    let count = c.self.inside.count in
    let new = c.with_edge.result in
    let below = found_below cells.items count i (omega (arith, c.self.invariant.few, c.self.invariant.within))
    (omega (arith, c.requires, ap (λ (s : SearchState). length s.lists.found) c.self.view_is)) in
    let cell = c.index.result.now in
    let read = ap (λ (s : SearchState). slice_get s.lists.found i) (sym c.self.view_is)
    ∙ found_here cells.items count i cell below (omega (arith, c.self.invariant.few, c.self.invariant.within)) c.index.ensures in
    let found : Found = record (found_in cell) { edge = c.args.edge } in
    subst
    (λ o. IfSome o (λ f. record {
      lists = record { spots = map spot_in (drop taken (set cells.items i new)); taken = taken; found = map found_in (take count (set cells.items i new)) };
      room = vec_capacity cells;
    } ≡ record c.args.self.now { lists = record c.args.self.now.lists { found = set c.args.self.now.lists.found i (record f { edge = c.args.edge }) } }))
    (sym read)
    (ap
    (λ (xs : List Cell). record {
      lists = record { spots = map spot_in xs; taken = taken; found = map found_in (take count (set cells.items i new)) };
      room = vec_capacity cells;
    })
    (drop-set-lt taken cells.items i new (omega (arith, below, c.self.invariant.few)))
    ∙ ap
    (λ (founds : List Found). record {
      lists = record { spots = map spot_in (drop taken cells.items); taken = taken; found = founds };
      room = vec_capacity cells;
    })
    (found-set cells.items count i new found below c.with_edge.ensures)
    ∙ ap (λ (s : SearchState). record s { lists = record s.lists { found = set s.lists.found i found } }) c.self.view_is)
