use Rattle.plan_words.proofs.Words.{◌≡◌, ◌+◌, arith, ap, sym, ◌∙◌, length, take, filter, nat_lt, slice_index, cost_in, Found, found_in, is_dearer}
use Rattle.plan_words.proofs.KeptFound.{FiltersInPlace-put, low_at}
use Rattle.plan_words.proofs.search_store.keep_in_front.Goals as goal

pub word-requires : goal.word-requires
word-requires c =
    low_at (λ cell. is_dearer (slice_index c.args.pairs.now) c.args.cost (found_in cell)) c.args.cells.now.items c.founds.cells.items c.founds.kept
    c.founds.index c.args.found (length c.args.pairs.now) c.index-cell.result.now c.founds.invariant.kept (omega (arith, c.founds-test.true)) c.requires.within
    c.index-cell.ensures c.requires.low

pub founds-preserved : goal.founds-preserved
founds-preserved c =
    let words = slice_index c.args.pairs.now in
    let cell = c.index-cell.result.now in
    let edge = c.from.ensures ∙ ap (λ (f : Found). f.edge) c.found.ensures in
    let seen = c.pair_in-seen.ensures.cost ∙ ap cost_in c.word.ensures in
    record {
      kept = FiltersInPlace-put (λ one. is_dearer words c.args.cost (found_in one)) c.args.cells.now.items c.founds.cells.items c.founds.kept
          (c.founds.kept + c.from-kept.result) c.founds.index cell (nat_lt (c.args.cost + c.from.result) c.pair_in-seen.result.1) c.founds.invariant.kept
          (omega (arith, c.founds-test.true, c.requires.within, c.founds.invariant.kept.long)) c.index-cell.ensures
          (ap (λ e. nat_lt (c.args.cost + e) (cost_in (words cell.node))) (sym edge) ∙ ap (nat_lt (c.args.cost + c.from.result)) (sym seen))
          (ap (λ n. c.founds.kept + n) c.from-kept.ensures);
      room = c.founds.invariant.room;
    }

pub returns-clause-kept : goal.returns-clause-kept
returns-clause-kept c =
    let done : c.founds.index ≡ c.args.found = omega (arith, c.founds-test.false, c.founds.invariant.kept.within) in
    c.founds.invariant.kept.front ∙ ap (λ n. filter (λ cell. is_dearer (slice_index c.args.pairs.now) c.args.cost (found_in cell))
    (take n c.args.cells.now.items)) done
