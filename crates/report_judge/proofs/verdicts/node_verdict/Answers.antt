use Rattle.report_judge.proofs.Words.{arith, sym, ap, ◌∙◌, subst, Broken, IsVerdict, bytes_of, extent_of, sheet_read}
use Rattle.report_judge.proofs.Laws.SheetFacts.{few_knots, knots_fit}
use Rattle.report_judge.proofs.Laws.SheetVerdicts.{broken_node, kept_nodes, node_low}
use Rattle.report_judge.proofs.verdicts.node_verdict.Goals as goal

pub first_unsound-requires-clause-few : goal.first_unsound-requires-clause-few
first_unsound-requires-clause-few g c κs met =
    rw c.deref.ensures.value (few_knots c.args.task.now (sheet_read c.args.sheet.now) c.requires.form)

pub first_unsound-requires-clause-fit : goal.first_unsound-requires-clause-fit
first_unsound-requires-clause-fit g c κs met =
    rw c.deref.ensures.value (knots_fit (extent_of c.args.task.now) (sheet_read c.args.sheet.now) c.requires.form)

pub node_line-requires : goal.node_line-requires
node_line-requires g c =
    let sheet = sheet_read c.args.sheet.now in
    let first = rw (c.deref.ensures.value, c.in-Some.is) at (c.in_ok-first.ensures sheet.records) in
    record {
      within = omega (arith, first.0);
      few = few_knots c.args.task.now sheet c.requires.form;
      low = omega (arith, c.requires.short, node_low c.args.task.now sheet c.requires.form c.in-Some.node first);
    }

pub broken-requires : goal.broken-requires
broken-requires g c =
    let sheet = sheet_read c.args.sheet.now in
    let first = rw (c.deref.ensures.value, c.in-Some.is) at (c.in_ok-first.ensures sheet.records) in
    omega (arith, c.node_line.ensures, c.requires.short, node_low c.args.task.now sheet c.requires.form c.in-Some.node first)

pub returns-in-Some-clause-broken : goal.returns-in-Some-clause-broken
returns-in-Some-clause-broken g c =
    let sheet = sheet_read c.args.sheet.now in
    subst (IsVerdict c.args.task.now (bytes_of sheet)) (sym (c.broken.ensures ∙ ap (λ line. Broken line 2) c.node_line.ensures))
    (broken_node c.args.task.now sheet c.requires.form c.in-Some.node
    (rw (c.deref.ensures.value, c.in-Some.is) at (c.in_ok-first.ensures sheet.records)))

pub returns-in-None-clause-kept : goal.returns-in-None-clause-kept
returns-in-None-clause-kept g c =
    let sheet = sheet_read c.args.sheet.now in
    kept_nodes c.args.task.now sheet c.requires.form (rw (c.deref.ensures.value, c.in-None.is) at (c.in_ok-first.ensures sheet.records))
