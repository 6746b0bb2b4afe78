use Rattle.plan_work.proofs.Words.{rules, suc, inr, length, ap, ◌∙◌, subst, arith, ◌-◌, ◌<◌, GoesOn-more, OwnsAllStrips-alone, turn_of, SharedRun}
use Rattle.plan_work.proofs.LoneMarks.{HasHandled-all, HasHandled-mark}
use Rattle.plan_work.proofs.WorkedMarks.{AllExtended-last, AllExtendedSo-mark, AllLoaded-earlier, HasWorked-mark, fewer_turns}
use Rattle.plan_work.proofs.working.work.Goals as goal

pub marks-smaller : goal.marks-smaller
marks-smaller g c =
    subst (λ (run : SharedRun). length run.marks - turn_of c.extend_by_radii.new.pass.view.crew < length run.marks - turn_of c.marks.pass.view.crew)
    c.claim.ensures.belongs.run
    (fewer_turns c.args.shared.now c.marks.pass c.claim.new.pass c.extend_by_radii.new.pass c.args.limit c.in-Some.k c.extend_by_radii.result
    c.claim.ensures.goes_on c.in-Some.ensures.some c.extend_by_radii.ensures.handled)

pub marks-preserved : goal.marks-preserved
marks-preserved g c = record {
  worked =
      HasWorked-mark c.args.shared.now c.args.pass.now c.marks.pass c.claim.new.pass c.extend_by_radii.new.pass c.args.limit c.in-Some.k
      c.extend_by_radii.result c.marks.invariant.worked c.in-Some.ensures.some c.extend_by_radii.ensures.handled;
  goes_on =
      inr
      (GoesOn-more c.args.pass.now.view c.claim.new.pass.view c.extend_by_radii.new.pass.view
      (inr (GoesOn-more c.args.pass.now.view c.marks.pass.view c.claim.new.pass.view c.marks.invariant.goes_on c.claim.ensures.goes_on))
      c.extend_by_radii.ensures.handled.goes_on);
  extended =
      AllExtendedSo-mark c.args.shared.now c.args.pass.now c.marks.pass c.claim.new.pass c.extend_by_radii.new.pass c.in-Some.k
      c.extend_by_radii.result c.marks.invariant.goes_on c.claim.ensures.goes_on c.claim.ensures.others c.extend_by_radii.ensures.handled
      c.extend_by_radii.ensures.extended c.marks.invariant.extended;
  textbook = λ one k low handled.
      let so_far = c.marks.invariant.textbook one k low handled in
      let whole = so_far.2.alone.whole in
      let own = OwnsAllStrips-alone c.marks.pass.view c.claim.ensures.goes_on.was_lawful
      (ap (λ (run : SharedRun). run.workers) c.marks.invariant.worked.may_claim.belongs.run ∙ one) in (
        suc c.in-Some.k,
        omega (arith, c.in-Some.ensures.some.low),
        HasHandled-mark c.args.shared.now c.marks.pass c.claim.new.pass c.extend_by_radii.new.pass c.args.limit c.in-Some.k so_far.0
            c.extend_by_radii.result so_far.2
            c.claim.ensures.goes_on c.claim.ensures.others c.in-Some.ensures.some (c.in-Some.ensures.whole_some whole) (c.in-Some.ensures.least whole own)
            c.extend_by_radii.ensures.handled c.extend_by_radii.ensures.textbook,
      );
}

pub returns : goal.returns
returns g c = record {
  goes_on = GoesOn-more c.args.pass.now.view c.marks.pass.view c.claim.new.pass.view c.marks.invariant.goes_on c.claim.ensures.goes_on;
  worked = search rules;
  none_left = search rules;
  loaded = AllLoaded-earlier c.args.pass.now.view c.marks.pass.view c.claim.new.pass.view c.marks.invariant.goes_on c.claim.ensures.loaded;
  extended =
      AllExtended-last c.args.pass.now.view c.marks.pass.view c.claim.new.pass.view c.claim.ensures.goes_on c.claim.ensures.others
      c.marks.invariant.extended;
  textbook = λ one k low handled.
      let so_far = c.marks.invariant.textbook one k low handled in
      HasHandled-all c.marks.pass.view c.claim.new.pass.view c.args.limit so_far.0 so_far.2 so_far.1 c.claim.ensures.goes_on c.claim.ensures.others
      (c.in_default.ensures.whole_none so_far.2.alone.whole) c.in_default.ensures.none.0 c.in_default.ensures.none.1;
}
