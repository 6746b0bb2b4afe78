use Rattle.report_judge.proofs.Words.{◌+◌, ◌≡◌, Some, length, suc, arith, refl, sym, ap, ◌∙◌, None, slice_index_or, true≢false, slice_get_read}
use Rattle.report_judge.proofs.Words.{slice_get_within, Record, is_placed}
use Rattle.report_judge.proofs.Laws.ListedNodes.{none-stands, stands-listed}
use Rattle.report_judge.proofs.own.own_nodes.placed_at.Goals as goal

pub returns-then-k-records : goal.returns-then-k-records
returns-then-k-records c =
    let records = c.args.records.now in
    let mark = c.in-Some.k in
    rw c.in-Some.is
    (λ p placed. omega (arith, slice_get_within records mark placed.entry placed.at, c.if-k-records.true))

pub returns-then-not-is_placed : goal.returns-then-not-is_placed
returns-then-not-is_placed c =
    let records = c.args.records.now in
    let mark = c.in-Some.k in
    let entry = c.index-records-k.result in
    let at = slice_get_read records (length records) mark entry refl (omega (arith, c.if-k-records.false)) c.index-records-k.is in
    rw c.in-Some.is
    (λ p placed.
    let both : Some placed.entry ≡ Some entry = sym placed.at ∙ at in
    let same : placed.entry ≡ entry = cc in
    let own = ap (λ (r : Record). is_placed r.outcome) (same ∙ c.index-records-k.is) in
    true≢false (sym placed.placed ∙ own ∙ sym c.is_placed.ensures ∙ c.if-not-is_placed.true))

pub returns-in-Some-knot_at : goal.returns-in-Some-knot_at
returns-in-Some-knot_at c =
    let knots = c.args.knots.now in
    let records = c.args.records.now in
    let mark = c.in-Some.k in
    let next : mark + 1 ≡ suc mark = omega arith in
    let at : slice_index_or knots (suc mark) None ≡ Some c.in-Some-knot_at.knot =
    ap (λ n. slice_index_or knots n None) (sym next) ∙ sym c.in-Some-knot_at.ensures in
    rw c.in-Some.is
    (record {
      entry = c.index-records-k.result;
      at = slice_get_read records (length records) mark c.index-records-k.result refl (omega (arith, c.if-k-records.false)) c.index-records-k.is;
      placed = ap (λ (r : Record). is_placed r.outcome) c.index-records-k.is ∙ sym c.is_placed.ensures ∙ c.if-not-is_placed.false;
      stands = stands-listed knots records (suc mark) c.in-Some-knot_at.knot at;
      bounded = (c.requires.fit (suc mark) c.in-Some-knot_at.knot at).point;
    })

pub returns-in-None : goal.returns-in-None
returns-in-None c =
    let knots = c.args.knots.now in
    let mark = c.in-Some.k in
    let next : mark + 1 ≡ suc mark = omega arith in
    let gone : slice_index_or knots (suc mark) None ≡ None =
    ap (λ n. slice_index_or knots n None) (sym next) ∙ sym c.knot_at.ensures ∙ c.in-None.is in
    rw c.in-Some.is
    (λ p placed. none-stands knots c.args.records.now (suc mark) p gone placed.stands)
