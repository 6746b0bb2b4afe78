use Rattle.report_judge.proofs.Words.{◌≡◌, List, [], ◌∷◌, ◌++◌, map, length-append, arith, sym, ap, subst, length, map-append, Point, IsBounded, lines_text}
use Rattle.report_judge.proofs.Words.{PathPoint, All-push}
use Rattle.report_judge.proofs.Texts.FrontLaws.{one_more}
use Rattle.report_judge.proofs.reading.front_lines.read_points.Goals as goal

pub points-preserved : goal.points-preserved
points-preserved c =
    let points : List Point = c.points.points.items in
    let point : Point = c.in-Some.point in
    let more = one_more c.args.text.now c.points.rest.now c.in-Some.after.now (map PathPoint points) (PathPoint point) c.points.invariant.told
    c.in-Some.ensures.some.1 in
    record {
      long = omega (arith, ap (λ (ps : List Point). length ps) c.in_ok-push.ensures.items, length-append points (point ∷ []), c.points.invariant.long);
      told =
          rw c.in_ok-push.ensures.items
          (subst (λ lines. c.args.text.now ≡ lines_text lines ++ c.in-Some.after.now) (sym (map-append PathPoint points (point ∷ []))) more);
      fit = rw c.in_ok-push.ensures.items (All-push IsBounded points point c.points.invariant.fit c.in-Some.ensures.some.0);
    }

pub returns-in_default : goal.returns-in_default
returns-in_default c = record {
  text = c.points.invariant.told;
  few = omega (arith, c.points.invariant.long);
  fit = c.points.invariant.fit;
  ended = λ low. c.in_default.ensures.none;
}

pub returns : goal.returns
returns c = record {
  text = c.points.invariant.told;
  few = omega (arith, c.points.invariant.long, c.points.auto);
  fit = c.points.invariant.fit;
  ended = λ low. absurd (omega (arith, low, c.points.invariant.long, c.points-test.false));
}
