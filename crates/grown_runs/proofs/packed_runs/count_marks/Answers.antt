use Rattle.grown_runs.proofs.Words.{◌+◌, ◌<◌, ◌%◌, ◌^◌, arith, sym, ◌∙◌, subst, sizes_in, words_in, WritesWord, Counter}
use Rattle.grown_runs.proofs.Runs.PackedWritings.{CountsMarks-more, quota_of-le}
use Rattle.grown_runs.proofs.packed_runs.count_marks.Goals as goal

pub count_mark-requires-clause-few : goal.count_mark-requires-clause-few
count_mark-requires-clause-few c =
    let words = c.args.words.now in
    let mark = c.loop-mark.mark in
    let strip = mark % words.places.strips in
    let small : strip < words.places.strips = omega (arith, c.requires.strips) in
    subst (λ places. words_in c.loop-mark.words (Counter (mark % places.strips)) + 1 < 2 ^ 64) (sym c.loop-mark.invariant.places)
    (omega (
      arith,
      c.loop-mark.invariant.counted.counted strip small,
      c.requires.zeros strip small,
      quota_of-le words.places.strips strip mark,
      c.loop-mark-test.true,
      c.requires.limit,
      words.places.few_marks,
    ))

pub loop-mark-preserved : goal.loop-mark-preserved
loop-mark-preserved c =
    let words = c.args.words.now in
    let before = words_in c.loop-mark.words in
    let mark = c.loop-mark.mark in
    let small : mark % words.places.strips < words.places.strips = omega (arith, c.requires.strips) in
    record {
      places = c.count_mark.ensures.places ∙ c.loop-mark.invariant.places;
      counted =
          CountsMarks-more (sizes_in words.places) mark (words_in words) before _ c.loop-mark.invariant.counted small
          (subst
          (λ places. WritesWord (Counter (mark % places.strips)) (words_in c.loop-mark.words (Counter (mark % places.strips)) + 1)
          (words_in c.loop-mark.words) (words_in c.count_mark.new.self))
          c.loop-mark.invariant.places c.count_mark.ensures.word);
    }
