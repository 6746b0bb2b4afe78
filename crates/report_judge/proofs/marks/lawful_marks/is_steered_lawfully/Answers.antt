use Rattle.report_judge.proofs.Words.{◌≡◌, ◌≢◌, arith, sym, ap, ◌∙◌, subst, iff_false, Skipped, Reached, Steered, ending_of, reached-unskipped, steered}
use Rattle.report_judge.proofs.Words.{point_of, Setup, TreeState, HasLawfulEnding, IsLawfulRecord, IsSteeredLawfully, ReachesLawfully, run_of, setup_by, Marked}
use Rattle.report_judge.proofs.Laws.ListedNodes.{none-present, point_of-listed, present-listed}
use Rattle.report_judge.proofs.marks.lawful_marks.is_steered_lawfully.Goals as goal

-- a lawful record of a mark that is not skipped
steered_of :
    (setup : Setup) (state : TreeState) (marked : Marked) → marked.entry.outcome ≢ Skipped → IsLawfulRecord setup state marked.k marked.mark marked.entry
    → (reached : Reached) × (ending_of marked.entry ≡ Steered marked.entry.nearest reached)
    × IsSteeredLawfully setup state marked.k marked.mark marked.entry marked.entry.nearest reached
steered_of setup state marked other h =
    let to = reached-unskipped marked.entry marked.entry.outcome other in
    (to.0, to.1, subst (HasLawfulEnding setup state marked.k marked.mark marked.entry) to.1 h)

pub returns-in_default-clause-only : goal.returns-in_default-clause-only
returns-in_default-clause-only g c = λ h other bad.
    let own = steered_of (setup_by c.args.judged.now) (run_of c.args.judged.now) c.args.marked other bad in
    none-present c.args.judged.now.knots.now c.args.judged.now.records.now c.args.marked.entry.nearest (sym c.knot_at.ensures ∙ c.in_default.is) own.2.present

pub returns-then-not-may_be_cheaper-clause-only : goal.returns-then-not-may_be_cheaper-clause-only
returns-then-not-may_be_cheaper-clause-only g c = λ h other bad.
    let own = steered_of (setup_by c.args.judged.now) (run_of c.args.judged.now) c.args.marked other bad in
    iff_false (c.may_be_cheaper.ensures c.args.judged.now c.args.marked.entry c.requires.seen) c.if-not-may_be_cheaper.true own.2.cheaper

pub ends_lawfully-requires-clause-asked : goal.ends_lawfully-requires-clause-asked
ends_lawfully-requires-clause-asked g c = λ κs within.
    let from = (c.requires.asked.judges.fit c.args.marked.entry.nearest c.in-Some.nearest (sym c.in-Some.ensures)).point in
    record {
      space_is = c.requires.asked.space_is;
      radii_are = c.requires.asked.radii_are;
      judges = c.requires.asked.judges;
      turn = c.requires.asked.turn;
      own = c.requires.asked.own;
      bounded = record {
        right = omega (arith, c.steer-p.ensures.right, from.right, c.requires.asked.bounded.right);
        top = omega (arith, c.steer-p.ensures.top, from.top, c.requires.asked.bounded.top);
      };
    }

pub ends_lawfully-requires-clause-nearest : goal.ends_lawfully-requires-clause-nearest
ends_lawfully-requires-clause-nearest g c = λ κs within.
    present-listed c.args.judged.now.knots.now c.args.judged.now.records.now c.args.marked.entry.nearest c.in-Some.nearest (sym c.in-Some.ensures)

pub returns : goal.returns
returns g c =
    let judged = c.args.judged.now in
    let run = run_of judged in
    let marked = c.args.marked in
    let entry = marked.entry in
    let here = point_of-listed judged.knots.now judged.records.now entry.nearest c.in-Some.nearest (sym c.in-Some.ensures) in
    let reached : c.steer-p.result ≡ steered (point_of run.points entry.nearest) marked.mark judged.task.now.scene.step =
    c.steer-p.ensures.value ∙ ap (λ q. steered q marked.mark judged.task.now.scene.step) (sym here) in
    record {
      lawful = λ h.
          let came = (c.ends_lawfully.ensures.0 h).1 in
          subst (HasLawfulEnding (setup_by judged) run marked.k marked.mark entry) (sym came.ending) record {
            cheaper = (c.may_be_cheaper.ensures judged entry c.requires.seen).0 c.if-not-may_be_cheaper.false;
            present = present-listed judged.knots.now judged.records.now entry.nearest c.in-Some.nearest (sym c.in-Some.ensures);
            nearest = (c.ends_lawfully.ensures.0 h).0;
            outcome = subst (ReachesLawfully (setup_by judged) run marked.k entry entry.nearest came.reached) reached came.lawful;
          };
      only = λ h other bad.
          let own = steered_of (setup_by judged) run marked other bad in
          iff_false c.ends_lawfully.ensures h (
            own.2.nearest,
            record {
              reached = own.0;
              ending = own.1;
              lawful = subst (ReachesLawfully (setup_by judged) run marked.k entry entry.nearest own.0) (sym reached) own.2.outcome;
            },
          );
    }
