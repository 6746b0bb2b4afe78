use Rattle.plan_words.proofs.Words.{◌+◌, ◌<◌, ◌∷◌, ◌++◌, [], length, take, sym, ap, ◌∙◌, arith, take_more, take_more_set, slots_counts, slots_items, sizes_in}
use Rattle.plan_words.proofs.Words.{word_count}
use Rattle.plan_words.proofs.Ending.{read-there}
use Rattle.plan_words.proofs.ends.copy_words.Goals as goal

pub loop-place-preserved : goal.loop-place-preserved
loop-place-preserved c =
    let kept = c.loop-place.invariant in
    let words = c.loop-place.words.list.items in
    let place = c.loop-place.place in
    let row = c.args.closed.now.words in
    let as_many = ap (λ places. word_count (sizes_in places)) kept.places in
    let there : place < length (slots_items row) =
    omega (
      arith,
      c.loop-place-test.true,
      c.len-place-end.ensures,
      ap (λ places. word_count (sizes_in places)) c.places.ensures,
      c.requires.as_many,
      (slots_counts row).0,
    ) in
    let within : place < length words = omega (arith, there, c.requires.as_many, (slots_counts row).0, as_many, c.loop-place.words.sized) in
    record {
      places = c.set.ensures.places ∙ kept.places;
      copied =
          ap (take (c.loop-place.place + 1)) c.set.ensures.list ∙ take_more_set words place c.word.result within
          ∙ ap (λ l. l ++ c.word.result ∷ []) kept.copied
          ∙ ap (λ w. take place (slots_items row) ++ w ∷ []) (sym (read-there (slots_items row) place c.word.result 0 c.word.ensures))
          ∙ sym (take_more (slots_items row) place 0 there);
    }
