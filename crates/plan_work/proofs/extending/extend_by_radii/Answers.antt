use Rattle.plan_work.proofs.Words.{sym, ap, subst, Skipped, EndsAsSeen, MayBeSkipped, MayBeRecorded, has_count, has_link}
use Rattle.plan_work.proofs.ExtendedMarks.{HandlesMark-after}
use Rattle.plan_work.proofs.HeldMarks.{holding, if_held}
use Rattle.plan_work.proofs.SkippingMarks.{AloneNext-skipped, WasSteered-loaded, HandlesMark-skipped, IsExtended-skipped, IsNotSkippedIn-loaded}
use Rattle.plan_work.proofs.SkippingMarks.{SeesTextbook-loaded, WasNotSkipped-loaded, WorksAlone-loaded}
use Rattle.plan_work.proofs.extending.extend_by_radii.Goals as goal

pub record_unplaced-requires-clause-stage : goal.record_unplaced-requires-clause-stage
record_unplaced-requires-clause-stage g c =
    let mid = c.skipper.new.pass.view in
    let own = holding mid (λ hand. MayBeSkipped mid hand c.in-Some.goal_node) c.skipper.ensures.may.hand c.in-Some.ensures.skipped in
    if_held mid (λ hand. MayBeRecorded hand.stage Skipped) own.hand own.held
    (record { linked = sym (ap has_link own.says.claimed); counted = sym (ap has_count own.says.claimed) })

pub steer_and_place-requires-clause-may : goal.steer_and_place-requires-clause-may
steer_and_place-requires-clause-may g c κs within = record { may = c.skipper.ensures.may; unskipped = c.in_default.ensures.unskipped }

pub returns-in-Some : goal.returns-in-Some
returns-in-Some g c =
    let shared = c.args.shared.now in
    let before = c.args.pass.now in
    let mid = c.skipper.new.pass in
    let done = c.record_unplaced.new.pass in
    let node = c.in-Some.goal_node in
    let entry = c.record_unplaced.result in
    let loaded = c.skipper.ensures.loaded in
    let informed = c.in-Some.ensures.informed in
    let some = c.skipper.ensures.may.hand in
    let skipped = c.in-Some.ensures.skipped in
    let recorded = c.record_unplaced.ensures.recorded in
    let is = c.record_unplaced.ensures.entry in
    record {
      handled = HandlesMark-skipped shared before mid done c.args.k node c.requires.may loaded informed some skipped entry recorded is;
      extended = IsExtended-skipped shared before mid done c.args.k node c.requires.may loaded informed some skipped entry recorded is;
      textbook = λ alone book.
          AloneNext-skipped shared before mid done c.args.k node c.requires.may loaded informed some skipped entry recorded is
          (c.in-Some.ensures.whole alone.whole) alone book;
    }

pub returns : goal.returns
returns g c =
    let shared = c.args.shared.now in
    let before = c.args.pass.now in
    let mid = c.skipper.new.pass in
    let done = c.steer_and_place.new.pass in
    let entry = c.steer_and_place.result in
    let loaded = c.skipper.ensures.loaded in
    let some = c.skipper.ensures.may.hand in
    let unskipped = c.in_default.ensures.unskipped in
    let placed = c.steer_and_place.ensures in
    record {
      handled = HandlesMark-after shared before mid done c.args.k entry loaded.keeps placed.handled;
      extended = record {
        stored = placed.extended.stored;
        outcome = subst (EndsAsSeen before.view done.view c.args.k entry) (sym placed.extended.ending) (
          WasNotSkipped-loaded shared before mid c.args.k c.requires.may loaded some unskipped done.view placed.handled.goes_on placed.handled.best,
          WasSteered-loaded shared before mid c.args.k c.requires.may loaded some unskipped done.view placed.extended.nearest placed.extended.reached
              placed.extended.steered,
        );
      };
      textbook = λ alone book.
          let read = SeesTextbook-loaded shared before mid c.args.k c.requires.may loaded book in
          placed.textbook (WorksAlone-loaded shared before mid c.args.k c.requires.may loaded alone) read
          (IsNotSkippedIn-loaded shared before mid c.args.k c.requires.may loaded some unskipped read);
    }
