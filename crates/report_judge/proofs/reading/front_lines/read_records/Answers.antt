use Rattle.report_judge.proofs.Words.{◌≡◌, ◌<◌, List, [], ◌∷◌, ◌++◌, ℕ, length-append, arith, sym, ap, subst, length, Record, Extent, ReportLine, line_text}
use Rattle.report_judge.proofs.Words.{lines_text, FitsEntry, MarkLine, lines_of_records}
use Rattle.report_judge.proofs.Texts.FrontLaws.{lines_of_records-push, one_more}
use Rattle.report_judge.proofs.Texts.ListPlaces.{pushed_each}
use Rattle.report_judge.proofs.reading.front_lines.read_records.Goals as goal

pub loop-k-preserved : goal.loop-k-preserved
loop-k-preserved c =
    let records : List Record = c.loop-k.records.items in
    let entry : Record = c.in-Some.entry in
    let extent : Extent = record { marks = c.args.marks; informed = c.args.informed } in
    let text : List ℕ = c.args.text.now in
    let after : List ℕ = c.in-Some.after.now in
    let some : c.loop-k.rest.now ≡ line_text (MarkLine (length records) entry) ++ after =
    subst (λ n. c.loop-k.rest.now ≡ line_text (MarkLine n entry) ++ after) (sym c.loop-k.invariant.long) c.in-Some.ensures.some in
    let more = one_more text c.loop-k.rest.now after (lines_of_records records) (MarkLine (length records) entry) c.loop-k.invariant.told some in
    let pushed : text ≡ lines_text (lines_of_records (records ++ entry ∷ [])) ++ after =
    subst (λ (lines : List ReportLine). text ≡ lines_text lines ++ after) (sym (lines_of_records-push records entry)) more in
    record {
      long = omega (arith, ap (λ (rs : List Record). length rs) c.in_ok-push.ensures.items, length-append records (entry ∷ []), c.loop-k.invariant.long);
      told = subst (λ (rs : List Record). text ≡ lines_text (lines_of_records rs) ++ after) (sym c.in_ok-push.ensures.items) pushed;
      fit =
          rw c.in_ok-push.ensures.items
          (pushed_each (λ k. FitsEntry extent) records entry c.loop-k.invariant.fit c.in-Some.ensures.fits);
    }

pub returns-in_default : goal.returns-in_default
returns-in_default c = record {
  text = c.loop-k.invariant.told;
  few = omega (arith, c.loop-k.invariant.long);
  fit = c.loop-k.invariant.fit;
  ended =
      subst (λ n. n < c.args.marks → (entry : Record) (after : List ℕ) → FitsEntry (record { marks = c.args.marks; informed = c.args.informed }) entry
      → c.loop-k.rest.now ≡ line_text (MarkLine n entry) ++ after → ⊥) (sym c.loop-k.invariant.long) (λ low. c.in_default.ensures.none);
}

pub returns : goal.returns
returns c = record {
  text = c.loop-k.invariant.told;
  few = omega (arith, c.loop-k.invariant.long, c.loop-k.auto);
  fit = c.loop-k.invariant.fit;
  ended = λ low. absurd (omega (arith, low, c.loop-k.invariant.long, c.loop-k-test.false));
}
