use Rattle.plan_words.proofs.Words.{◌∷◌, ◌++◌, [], take, sym, ap, ◌∙◌, map-append, take_more, IsNonDecreasingBy-from_sort, get_or_from_slice_get}
use Rattle.plan_words.proofs.Words.{slice_get_within, numbers_of, Found}
use Rattle.plan_words.proofs.scratch.fill_sorted.Goals as goal

-- one more is on the list
pub loop-index-preserved : goal.loop-index-preserved
loop-index-preserved c =
    let all = c.args.search.now.lists.found in
    let more = take_more all c.loop-index.index c.found.result (slice_get_within all c.loop-index.index c.found.result c.found.ensures)
    ∙ ap (λ (f : Found). take c.loop-index.index all ++ f ∷ [])
    (get_or_from_slice_get all c.loop-index.index c.found.result c.found.result c.found.ensures) in
    record {
      items = c.push_reserved.ensures.items
          ∙ ap (λ ns. ns ++ c.found.result.node ∷ []) c.loop-index.invariant.items
          ∙ sym (ap numbers_of more ∙ map-append (λ (f : Found). f.node) (take c.loop-index.index all) (c.found.result ∷ []));
      room = c.push_reserved.ensures.capacity ∙ c.loop-index.invariant.room;
    }

pub returns-clause-rising : goal.returns-clause-rising
returns-clause-rising c = IsNonDecreasingBy-from_sort (λ n. n) _ c.sort_unstable.ensures.sorted
