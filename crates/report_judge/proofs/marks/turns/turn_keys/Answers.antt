use Rattle.report_judge.proofs.Words.{◌≡◌, [], ◌∷◌, Some, length, length-append, arith, refl, sym, ap, ◌∙◌, slice_get, slice_get_read, slice_get_within, Record}
use Rattle.report_judge.proofs.Words.{turn_key, get_or}
use Rattle.report_judge.proofs.Texts.ListPlaces.{pushed_below}
use Rattle.report_judge.proofs.marks.turns.turn_keys.Goals as goal

pub key-requires : goal.key-requires
key-requires c =
    let found =
    slice_get_read c.args.records.now (length c.args.records.now) c.loop-entry.entry-index c.entry-item.result refl c.loop-entry-test.true
    c.entry-item.is in
    c.requires.fit c.loop-entry.entry-index c.entry-item.result found

pub loop-entry-preserved : goal.loop-entry-preserved
loop-entry-preserved c =
    let records = c.args.records.now in
    let index = c.loop-entry.entry-index in
    let old = c.loop-entry.keys.items in
    let own = c.key.result in
    let items = c.in_ok-push.ensures.items in
    let found = slice_get_read records (length records) index c.entry-item.result refl c.loop-entry-test.true c.entry-item.is in
    let here = λ (other : Record) (there : slice_get records index ≡ Some other).
    let both : Some c.entry-item.result ≡ Some other = sym found ∙ there in
    let same : c.entry-item.result ≡ other = cc in
    c.key.ensures ∙ ap turn_key same in
    record {
      long = omega (arith, ap length items, length-append old (own ∷ []), c.loop-entry.invariant.long);
      told = λ k other low there.
          ap (λ xs. get_or xs k 0) items
          ∙ pushed_below (λ k key. (other : Record) → slice_get records k ≡ Some other → key ≡ turn_key other) old own index
          c.loop-entry.invariant.long (λ k low other. c.loop-entry.invariant.told k other low) here k low other there;
    }

pub returns : goal.returns
returns c = record {
  length = omega (arith, c.loop-entry.invariant.long, c.loop-entry-test.false, c.loop-entry.auto.entry-index-end);
  keys = λ k entry there.
      c.loop-entry.invariant.told k entry
      (omega (arith, slice_get_within c.args.records.now k entry there, c.loop-entry-test.false)) there;
}
