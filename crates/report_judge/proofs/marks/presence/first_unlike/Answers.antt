use Rattle.report_judge.proofs.Words.{◌≡◌, suc, ◌+◌, length, refl, arith, ap, ◌∙◌, sym, below_more, is_some, slice_index_or, None, Some, slice_get_read}
use Rattle.report_judge.proofs.Words.{KeepsPresence, Record, booleans_Decides, is_placed, not-false, not-true, true≢false}
use Rattle.report_judge.proofs.Laws.ListedNodes.{some-listed}
use Rattle.report_judge.proofs.marks.presence.first_unlike.Goals as goal

pub returns-then-is_some-is_placed : goal.returns-then-is_some-is_placed
returns-then-is_some-is_placed c =
    let knots = c.args.knots.now in
    let records = c.args.records.now in
    let k = c.loop-k.k in
    let found = slice_get_read records (length records) k c.index-records-k.result refl c.loop-k-test.true c.index-records-k.is in
    let next : k + 1 ≡ suc k = omega arith in (
      c.loop-k-test.true,
      c.loop-k.invariant,
      λ kept. true≢false
          (sym ((booleans_Decides c.is_some.result c.is_placed.result).1
          (c.is_some.ensures ∙ ap (λ n. is_some (slice_index_or knots n None)) next ∙ sym (some-listed knots records (suc k))
          ∙ kept c.index-records-k.result found ∙ sym c.is_placed.ensures)) ∙ not-true _ c.if-is_some-is_placed.true),
    )

pub loop-k-preserved : goal.loop-k-preserved
loop-k-preserved c =
    let knots = c.args.knots.now in
    let records = c.args.records.now in
    let k = c.loop-k.k in
    let entry = c.index-records-k.result in
    let found = slice_get_read records (length records) k entry refl c.loop-k-test.true c.index-records-k.is in
    let next : k + 1 ≡ suc k = omega arith in
    let same = (booleans_Decides c.is_some.result c.is_placed.result).0 (not-false _ c.if-is_some-is_placed.false) in
    below_more (KeepsPresence knots records) k c.loop-k.invariant
    (λ other also.
    let both : Some entry ≡ Some other = sym found ∙ also in
    let own : entry ≡ other = cc in
    some-listed knots records (suc k) ∙ sym (ap (λ n. is_some (slice_index_or knots n None)) next) ∙ sym c.is_some.ensures ∙ same ∙ c.is_placed.ensures
    ∙ ap (λ (r : Record). is_placed r.outcome) own)
