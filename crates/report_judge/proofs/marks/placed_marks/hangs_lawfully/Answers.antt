use Rattle.report_judge.proofs.Words.{◌≡◌, suc, ◌+◌, ◌-◌, ◌*◌, ◌≤◌, None, arith, sym, ap, ◌∙◌, subst, slice_index_or, Knot, Hangs, StandsAt, node_count}
use Rattle.report_judge.proofs.Words.{node_count-some, iff_false, kept_cost_of, run_of, setup_by}
use Rattle.report_judge.proofs.Laws.HangingNodes.{Hangs-listed, listed-Hangs}
use Rattle.report_judge.proofs.marks.placed_marks.hangs_lawfully.Goals as goal

pub returns-then-not-stands_at : goal.returns-then-not-stands_at
returns-then-not-stands_at g c = (
  λ h. cc,
  λ law.
      let next : suc c.args.marked.k ≡ c.args.marked.k + 1 = omega arith in
      absurd
      (iff_false (c.stands_at.ensures c.args.judged.now.records.now) c.if-not-stands_at.true
      (subst (λ n. StandsAt (run_of c.args.judged.now).points n c.args.p) next law.stands)),
)

pub returns-then-kept_cost-entry : goal.returns-then-kept_cost-entry
returns-then-kept_cost-entry g c = (
  λ h. cc,
  λ law.
      let next : suc c.args.marked.k ≡ c.args.marked.k + 1 = omega arith in
      let same = ap (λ n. kept_cost_of (slice_index_or c.args.judged.now.knots.now n None)) next in
      absurd (omega (arith, law.kept, c.if-kept_cost-entry.true, c.kept_cost.ensures, same)),
)

pub overflow_sub-judged : goal.overflow_sub-judged
overflow_sub-judged g c =
    let some = node_count-some (run_of c.args.judged.now).points c.args.marked.entry.nearest c.requires.nearest in
    omega (arith, c.requires.asked.judges.count, some)

pub returns : goal.returns
returns g c =
    let run = run_of c.args.judged.now in
    let setup = setup_by c.args.judged.now in
    let entry = c.args.marked.entry in
    let place : Knot = record { point = c.args.p; parent = entry.first_parent; cost = entry.first_cost } in
    let next : suc c.args.marked.k ≡ c.args.marked.k + 1 = omega arith in
    let records = c.args.judged.now.records.now in
    let step : setup.step * setup.step ≡ c.from-3.result * c.from-4.result = λ i. sym c.from-3.ensures i * sym c.from-4.ensures i in (
      λ h.
          let nodes : c.from-2.result ≡ node_count run.points - 1 = omega (arith, c.from-2.ensures, c.requires.asked.judges.count) in
          let hangs = Hangs-listed c.args.judged.now.knots.now records setup (sym c.requires.asked.space_is) step (c.may_hang.ensures.0 h) in
          record {
            stands = subst (λ n. StandsAt run.points n c.args.p) (sym next) ((c.stands_at.ensures records).0 c.if-not-stands_at.false);
            hangs = subst (λ n. Hangs setup run n c.args.p entry.first_parent entry.first_cost) (sym next) hangs;
            nearest_other = λ e. c.if-entry-node.false (e ∙ next);
            below_first = (c.is_within_first-2.ensures.0 c.if-not-is_within_first-2.false).within;
            below_nearest = (c.is_within_first.ensures.0 c.if-not-is_within_first.false).within;
            bounded = subst (λ most. entry.first_cost ≤ most) (λ i. 256 * c.from.ensures i * nodes i) c.if-entry-from.false;
            kept = rw (next, ← c.kept_cost.ensures) c.if-kept_cost-entry.false;
          },
      λ law.
          c.may_hang.ensures.1
          (listed-Hangs c.args.judged.now.knots.now records setup (sym c.requires.asked.space_is) step place
          (subst (λ n. Hangs setup run n c.args.p entry.first_parent entry.first_cost) next law.hangs)),
    )
