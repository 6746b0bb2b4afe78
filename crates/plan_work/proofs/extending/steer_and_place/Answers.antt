use Rattle.plan_work.proofs.Words.{IfSome, ◌≡◌, false, refl, sym, ap, ◌∙◌, subst, Clear, point_of, same_point-true, is_placed, Outcome, Blocked, PassState}
use Rattle.plan_work.proofs.Words.{with_view, IsUnskipped, pointed, SeesPoint, setup_in, tree_seen, MayBeRecorded, has_count, has_link}
use Rattle.plan_work.proofs.Words.{OnlyLooks-refl, IsFilledSince, KeepsRecords, WorksAlone, IsFilledWhole, SeesButCount, Claimed}
use Rattle.grown_runs.proofs.Common.{Same}
use Rattle.plan_work.proofs.SkippedMarks.{IsUnskipped-kept}
use Rattle.plan_work.proofs.ExtendedMarks.{HandlesMark-after, HasLooked, HasLooked-looks, IsExtended-blocked, IsExtended-found, IsExtended-written}
use Rattle.plan_work.proofs.ExtendedMarks.{IsFilledSince-written, IsSteered-found, KeepsRecords-written, MayPlace-written, MayRecord-blocked}
use Rattle.plan_work.proofs.ExtendedMarks.{MayRecord-found, blocked_here}
use Rattle.plan_work.proofs.HeldMarks.{if_held, of_held}
use Rattle.plan_work.proofs.RecordedMarks.{HandlesMark-recorded}
use Rattle.plan_work.proofs.extending.steer_and_place.Given.{Over}
use Rattle.plan_work.proofs.ExtendedAlone.{AloneNext-blocked, AloneNext-found, IsFilledWhole-written, IsSteeredWhole-written}
use Rattle.plan_work.proofs.ExtendedAlone.{IsNotSkippedIn-written, SeesTextbook-written, WorksAlone-written}
use Rattle.plan_work.proofs.WholeLists.{HasCounted-claimed, HasWholeShare-kept, SeesButCount-all, SeesButCount-trans}
use Rattle.plan_work.proofs.extending.steer_and_place.Goals as goal
use Rattle.plan_work.proofs.extending.steer_and_place.Goals.{After-find, After-steer_and_test-is_clear, After-write_point}

-- ---- the pass has steered

steered : (g : Over) (c : After-steer_and_test-is_clear g) → HasLooked c.args.shared.now c.args.pass.now c.steer_and_test-is_clear.new.pass
    c.steer_and_test-is_clear.new.pass c.args.k c.steer_and_test-is_clear.result.steering
steered g c =
    let found = c.steer_and_test-is_clear.new.pass in
    let steer = c.steer_and_test-is_clear.ensures in
    HasLooked-looks c.args.shared.now c.args.pass.now found found c.args.k c.steer_and_test-is_clear.result.steering c.requires.may.may.hand
    c.requires.may.may.mark steer.keeps steer.hand steer.keeps.belongs (OnlyLooks-refl found.view steer.keeps.belongs.lawful) steer.steered

-- the mark in hand is not skipped
unskipped : (g : Over) (c : After-steer_and_test-is_clear g) (after : PassState) (looked : HasLooked c.args.shared.now c.args.pass.now
    c.steer_and_test-is_clear.new.pass after c.args.k c.steer_and_test-is_clear.result.steering)
    → IsUnskipped after.view looked.hand
unskipped g c after looked =
    IsUnskipped-kept c.args.pass.now.view after.view looked.hand looked.hand looked.keeps.goes_on.later.run refl refl
    (of_held c.args.pass.now.view (IsUnskipped c.args.pass.now.view) looked.hand looked.was_held c.requires.may.unskipped)

-- the nearest node stands at the point that it steers to, if that is where it stands
stands : (g : Over) (c : After-steer_and_test-is_clear g) → c.steer_and_test-is_clear.result.steering.from ≡ c.steer_and_test-is_clear.result.steering.point
    → SeesPoint c.steer_and_test-is_clear.new.pass.view c.steer_and_test-is_clear.result.steering.nearest c.steer_and_test-is_clear.result.steering.point
stands g c same =
    let steer = c.steer_and_test-is_clear in
    subst (SeesPoint steer.new.pass.view steer.result.steering.nearest) same steer.ensures.steered.stands

pub record_unplaced-requires-clause-may : goal.record_unplaced-requires-clause-may
record_unplaced-requires-clause-may g c =
    let at = (goal.at.record_unplaced-requires-clause-may g c).After-steer_and_test-is_clear in
    let looked = steered g at in
    let found = c.steer_and_test-is_clear.new.pass in
    let s = c.steer_and_test-is_clear.result.steering in
    MayRecord-found c.args.shared.now c.args.pass.now found looked.hand c.args.k s.nearest s.from s.point looked.keeps looked.steers looked.held looked.mark
    (unskipped g at found looked) s.nearest (stands g at (same_point-true s.from s.point (sym c.eq.ensures ∙ c.if-eq.true)))

-- ---- the segment is not clear

looked : (g : Over) (c : After-find g) → HasLooked c.args.shared.now c.args.pass.now c.steer_and_test-is_clear.new.pass c.find.new.pass c.args.k
    c.steer_and_test-is_clear.result.steering
looked g c =
    let steer = c.steer_and_test-is_clear.ensures in
    HasLooked-looks c.args.shared.now c.args.pass.now c.steer_and_test-is_clear.new.pass c.find.new.pass c.args.k
    c.steer_and_test-is_clear.result.steering c.requires.may.may.hand c.requires.may.may.mark steer.keeps steer.hand c.find.ensures.belongs
    c.find.ensures.looks steer.steered

blocked : (g : Over) (c : After-find g) → ¬ Clear (setup_in c.find.new.pass.view.run).space
    (point_of (tree_seen c.find.new.pass.view).points c.steer_and_test-is_clear.result.steering.nearest) c.steer_and_test-is_clear.result.steering.point
blocked g c =
    let s = c.steer_and_test-is_clear.result.steering in
    blocked_here c.args.shared.now c.args.pass.now c.steer_and_test-is_clear.new.pass c.find.new.pass c.args.k s (looked g c)
    (λ clear.
    let yes = sym c.if-not-is_clear.true
    ∙ c.steer_and_test-is_clear.ensures.clear.1 (subst (λ space. Clear space s.from s.point) (sym c.requires.hall) clear) in
    cc)

-- the mark may be recorded as one whose node was not placed
may_end : (g : Over) (c : After-find g) (outcome : Outcome) → is_placed outcome ≡ false
    → IfSome c.find.new.pass.view.hand (λ hand. MayBeRecorded hand.stage outcome)
may_end g c outcome unplaced =
    let has_looked = looked g c in
    let claimed = of_held c.args.pass.now.view (λ hand. hand.stage ≡ Claimed) has_looked.hand has_looked.was_held c.requires.may.may.claimed in
    if_held c.find.new.pass.view (λ hand. MayBeRecorded hand.stage outcome) has_looked.hand has_looked.held
    (record { linked = unplaced ∙ sym (ap has_link claimed); counted = unplaced ∙ sym (ap has_count claimed) })

pub record_unplaced-requires-in-Some-clause-stage : goal.record_unplaced-requires-in-Some-clause-stage
record_unplaced-requires-in-Some-clause-stage g c =
    may_end g (goal.at.record_unplaced-requires-in-Some-clause-stage g c).After-find (Same c.in-Some.node) refl

pub record_unplaced-requires-then-not-is_clear-clause-stage : goal.record_unplaced-requires-then-not-is_clear-clause-stage
record_unplaced-requires-then-not-is_clear-clause-stage g c =
    may_end g (goal.at.record_unplaced-requires-then-not-is_clear-clause-stage g c).After-find Blocked refl

pub record_unplaced-requires-in-Some-clause-may : goal.record_unplaced-requires-in-Some-clause-may
record_unplaced-requires-in-Some-clause-may g c =
    let at = goal.at.record_unplaced-requires-in-Some-clause-may g c in
    let has_looked = looked g at.After-find in
    let found = c.find.new.pass in
    let s = c.steer_and_test-is_clear.result.steering in
    MayRecord-found c.args.shared.now c.args.pass.now found has_looked.hand c.args.k s.nearest s.from s.point has_looked.keeps has_looked.steers
    has_looked.held has_looked.mark (unskipped g at.After-steer_and_test-is_clear found has_looked) c.in-Some.node c.in-Some.ensures.found

pub record_unplaced-requires-then-not-is_clear-clause-may : goal.record_unplaced-requires-then-not-is_clear-clause-may
record_unplaced-requires-then-not-is_clear-clause-may g c =
    let at = goal.at.record_unplaced-requires-then-not-is_clear-clause-may g c in
    let has_looked = looked g at.After-find in
    let found = c.find.new.pass in
    let s = c.steer_and_test-is_clear.result.steering in
    MayRecord-blocked c.args.shared.now c.args.pass.now found has_looked.hand c.args.k s.nearest s.from s.point has_looked.keeps has_looked.steers
    has_looked.held has_looked.mark (unskipped g at.After-steer_and_test-is_clear found has_looked) c.in_default.ensures.free (blocked g at.After-find)

-- ---- the segment is clear, and the point is written

pub write_point-requires-clause-steered : goal.write_point-requires-clause-steered
write_point-requires-clause-steered g c =
    let looked = steered g (goal.at.write_point-requires-clause-steered g c).After-steer_and_test-is_clear in
    let s = c.steer_and_test-is_clear.result.steering in
    IsSteered-found c.args.shared.now c.args.pass.now c.steer_and_test-is_clear.new.pass looked.hand c.args.k s.nearest s.from s.point looked.keeps
    looked.steers looked.held looked.mark

pub write_point-requires-clause-unskipped : goal.write_point-requires-clause-unskipped
write_point-requires-clause-unskipped g c =
    let here = (goal.at.write_point-requires-clause-unskipped g c).After-steer_and_test-is_clear in
    let looked = steered g here in
    let view = c.steer_and_test-is_clear.new.pass.view in
    if_held view (IsUnskipped view) looked.hand looked.held (unskipped g here c.steer_and_test-is_clear.new.pass looked)

abbrev Steered : (g : Over) → After-write_point g → Type 0
Steered g c =
    HasLooked c.args.shared.now c.args.pass.now c.steer_and_test-is_clear.new.pass c.steer_and_test-is_clear.new.pass c.args.k
    c.steer_and_test-is_clear.result.steering

writes : (g : Over) (c : After-write_point g) (looked : Steered g c) → c.write_point.new.pass ≡ with_view c.steer_and_test-is_clear.new.pass
    (pointed c.steer_and_test-is_clear.new.pass.view looked.hand c.steer_and_test-is_clear.result.steering.nearest
    c.steer_and_test-is_clear.result.steering.point)
writes g c looked =
    let found = c.steer_and_test-is_clear.new.pass in
    let s = c.steer_and_test-is_clear.result.steering in
    of_held found.view (λ hand. c.write_point.new.pass ≡ with_view found (pointed found.view hand s.nearest s.point)) looked.hand looked.held
    c.write_point.ensures.view

keeps : (g : Over) (c : After-write_point g) → Steered g c → KeepsRecords c.args.shared.now c.args.pass.now c.write_point.new.pass
keeps g c looked =
    let s = c.steer_and_test-is_clear.result.steering in
    KeepsRecords-written c.args.shared.now c.args.pass.now c.steer_and_test-is_clear.new.pass looked.hand c.args.k s.nearest s.from s.point looked.keeps
    looked.steers looked.held looked.mark c.write_point.new.pass c.write_point.ensures.goes_on (writes g c looked)

-- the near list was filled since the call began
filled : (g : Over) (c : After-write_point g) → Steered g c → IsFilledSince c.args.shared.now c.args.pass.now c.write_point.new.pass
    c.steer_and_test-is_clear.result.steering.point c.steer_and_test-is_clear.result.steering.class
filled g c looked =
    let s = c.steer_and_test-is_clear.result.steering in
    IsFilledSince-written c.args.shared.now c.args.pass.now c.steer_and_test-is_clear.new.pass looked.hand c.args.k s.nearest s.from s.point looked.keeps
    looked.steers looked.held looked.mark c.write_point.new.pass c.write_point.ensures.goes_on (writes g c looked) s.class
    c.steer_and_test-is_clear.ensures.filled

pub place_rewire_and_record-requires-clause-may : goal.place_rewire_and_record-requires-clause-may
place_rewire_and_record-requires-clause-may g c κs within =
    let at = goal.at.place_rewire_and_record-requires-clause-may g c in
    let looked = steered g at.After-steer_and_test-is_clear in
    let steer = c.steer_and_test-is_clear in
    let s = steer.result.steering in
    MayPlace-written c.args.shared.now c.args.pass.now steer.new.pass looked.hand c.args.k s.nearest s.from s.point looked.keeps looked.steers looked.held
    looked.mark c.write_point.new.pass c.write_point.ensures.goes_on (writes g at.After-write_point looked)
    (unskipped g at.After-steer_and_test-is_clear steer.new.pass looked) steer.ensures.bounded
    (subst (λ space. Clear space s.from s.point) c.requires.hall (steer.ensures.clear.0 c.if-not-is_clear.false))

pub place_rewire_and_record-requires-clause-filled : goal.place_rewire_and_record-requires-clause-filled
place_rewire_and_record-requires-clause-filled g c κs within =
    let at = goal.at.place_rewire_and_record-requires-clause-filled g c in
    (c.args.pass.now, filled g at.After-write_point (steered g at.After-steer_and_test-is_clear))

-- ---- of a pass that works alone

-- it was shown nothing new but the count, and its near list is that of the textbook
whole_steered : (g : Over) (c : After-steer_and_test-is_clear g) → WorksAlone c.args.pass.now.view c.args.k
    → SeesButCount c.args.pass.now.view c.steer_and_test-is_clear.new.pass.view × IsFilledWhole c.steer_and_test-is_clear.new.pass.view
    c.steer_and_test-is_clear.result.steering.point c.steer_and_test-is_clear.result.steering.class
    c.steer_and_test-is_clear.new.pass.lists.search.found
whole_steered g c alone =
    let before = c.args.pass.now.view in
    let looked = steered g c in
    c.steer_and_test-is_clear.ensures.whole alone.whole (HasCounted-claimed before looked.hand looked.was_held
    (of_held before (λ hand. hand.stage ≡ Claimed) looked.hand looked.was_held c.requires.may.may.claimed))

-- a search for the point shows nothing new either
found_whole : (g : Over) (c : After-find g)
    → HasLooked c.args.shared.now c.args.pass.now c.steer_and_test-is_clear.new.pass c.steer_and_test-is_clear.new.pass c.args.k
    c.steer_and_test-is_clear.result.steering
    → SeesButCount c.args.pass.now.view c.steer_and_test-is_clear.new.pass.view → WorksAlone c.args.pass.now.view c.args.k
    → SeesButCount c.args.pass.now.view c.find.new.pass.view
found_whole g c steer same alone =
    let found = c.steer_and_test-is_clear.new.pass in
    SeesButCount-trans c.args.pass.now.view found.view c.find.new.pass.view same (SeesButCount-all found.view c.find.new.pass.view
    (c.find.ensures.looks.whole (HasWholeShare-kept c.args.shared.now c.args.pass.now found steer.keeps alone.whole)))

-- ---- what was promised

pub returns-then-eq : goal.returns-then-eq
returns-then-eq g c =
    let here = (goal.at.returns-then-eq g c).After-steer_and_test-is_clear in
    let looked = steered g here in
    let shared = c.args.shared.now in
    let before = c.args.pass.now in
    let found = c.steer_and_test-is_clear.new.pass in
    let m = c.steer_and_test-is_clear.result.steering.nearest in
    let from = c.steer_and_test-is_clear.result.steering.from in
    let p = c.steer_and_test-is_clear.result.steering.point in
    let recorded = c.record_unplaced.ensures.recorded in
    let entry_is = c.record_unplaced.ensures.entry in
    let stands_there = stands g here (same_point-true from p (sym c.eq.ensures ∙ c.if-eq.true)) in
    record {
      handled =
          HandlesMark-recorded shared before found c.record_unplaced.new.pass looked.hand c.args.k c.record_unplaced.result looked.keeps recorded
          looked.held looked.mark;
      extended =
          IsExtended-found shared before found looked.hand c.args.k m from p looked.keeps looked.steers looked.held looked.mark
          c.record_unplaced.new.pass c.record_unplaced.result recorded m entry_is stands_there;
      textbook = λ alone book cheaper.
          AloneNext-found shared before found looked.hand c.args.k m from p looked.keeps looked.steers looked.held looked.mark
          (whole_steered g here alone).0 alone book cheaper c.record_unplaced.new.pass c.record_unplaced.result recorded m entry_is
          stands_there;
    }

pub returns-in-Some : goal.returns-in-Some
returns-in-Some g c =
    let at = goal.at.returns-in-Some g c in
    let has_looked = looked g at.After-find in
    let shared = c.args.shared.now in
    let before = c.args.pass.now in
    let found = c.find.new.pass in
    let m = c.steer_and_test-is_clear.result.steering.nearest in
    let from = c.steer_and_test-is_clear.result.steering.from in
    let p = c.steer_and_test-is_clear.result.steering.point in
    let last = c.record_unplaced-in-Some.new.pass in
    let entry = c.record_unplaced-in-Some.result in
    let recorded = c.record_unplaced-in-Some.ensures.recorded in
    let entry_is = c.record_unplaced-in-Some.ensures.entry in
    record {
      handled =
          HandlesMark-recorded shared before found last has_looked.hand c.args.k entry has_looked.keeps recorded has_looked.held has_looked.mark;
      extended =
          IsExtended-found shared before found has_looked.hand c.args.k m from p has_looked.keeps has_looked.steers has_looked.held has_looked.mark
          last entry recorded c.in-Some.node entry_is c.in-Some.ensures.found;
      textbook = λ alone book cheaper.
          AloneNext-found shared before found has_looked.hand c.args.k m from p has_looked.keeps has_looked.steers has_looked.held has_looked.mark
          (found_whole g at.After-find (steered g at.After-steer_and_test-is_clear) (whole_steered g at.After-steer_and_test-is_clear alone).0 alone)
          alone book cheaper
          last entry recorded c.in-Some.node entry_is c.in-Some.ensures.found;
    }

pub returns-then-not-is_clear : goal.returns-then-not-is_clear
returns-then-not-is_clear g c =
    let at = goal.at.returns-then-not-is_clear g c in
    let has_looked = looked g at.After-find in
    let shared = c.args.shared.now in
    let before = c.args.pass.now in
    let found = c.find.new.pass in
    let m = c.steer_and_test-is_clear.result.steering.nearest in
    let from = c.steer_and_test-is_clear.result.steering.from in
    let p = c.steer_and_test-is_clear.result.steering.point in
    let last = c.record_unplaced-then-not-is_clear.new.pass in
    let entry = c.record_unplaced-then-not-is_clear.result in
    let recorded = c.record_unplaced-then-not-is_clear.ensures.recorded in
    let entry_is = c.record_unplaced-then-not-is_clear.ensures.entry in
    record {
      handled =
          HandlesMark-recorded shared before found last has_looked.hand c.args.k entry has_looked.keeps recorded has_looked.held has_looked.mark;
      extended =
          IsExtended-blocked shared before found has_looked.hand c.args.k m from p has_looked.keeps has_looked.steers has_looked.held has_looked.mark
          last entry recorded c.steer_and_test-is_clear.new.pass.view has_looked.begun has_looked.goes_on entry_is c.in_default.ensures.free
          c.in_default.ensures.ends (blocked g at.After-find);
      textbook = λ alone book cheaper.
          AloneNext-blocked shared before found has_looked.hand c.args.k m from p has_looked.keeps has_looked.steers has_looked.held has_looked.mark
          (found_whole g at.After-find (steered g at.After-steer_and_test-is_clear) (whole_steered g at.After-steer_and_test-is_clear alone).0 alone)
          alone book cheaper
          last entry recorded c.in_default.ensures.free (blocked g at.After-find) entry_is;
    }

pub returns : goal.returns
returns g c =
    let at = goal.at.returns g c in
    let here = at.After-write_point in
    let looked = steered g at.After-steer_and_test-is_clear in
    let shared = c.args.shared.now in
    let before = c.args.pass.now in
    let found = c.steer_and_test-is_clear.new.pass in
    let written = c.write_point.new.pass in
    let last = c.place_rewire_and_record.new.pass in
    let m = c.steer_and_test-is_clear.result.steering.nearest in
    let from = c.steer_and_test-is_clear.result.steering.from in
    let p = c.steer_and_test-is_clear.result.steering.point in
    let goes_on = c.write_point.ensures.goes_on in
    let is = writes g here looked in
    let placed = c.place_rewire_and_record.ensures in
    record {
      handled =
          HandlesMark-after shared before written last c.args.k c.place_rewire_and_record.result (keeps g here looked) placed.handled;
      extended =
          IsExtended-written shared before found found written last c.args.k c.steer_and_test-is_clear.result.steering
          c.place_rewire_and_record.result looked goes_on placed.handled (placed.ended before (filled g here looked));
      textbook = λ alone book cheaper.
          let whole = whole_steered g at.After-steer_and_test-is_clear alone in
          placed.textbook
          (IsSteeredWhole-written shared before found looked.hand c.args.k m from p looked.keeps looked.steers looked.held looked.mark whole.0 alone
          book cheaper written goes_on is)
          (IsFilledWhole-written shared before found looked.hand c.args.k m from p looked.keeps looked.steers looked.held looked.mark whole.0 alone
          book cheaper written goes_on is c.steer_and_test-is_clear.result.steering.class whole.1)
          (WorksAlone-written shared before found looked.hand c.args.k m from p looked.keeps looked.steers looked.held looked.mark whole.0 alone
          book cheaper written goes_on is)
          (SeesTextbook-written shared before found looked.hand c.args.k m from p looked.keeps looked.steers looked.held looked.mark whole.0 alone
          book cheaper written goes_on is)
          (IsNotSkippedIn-written shared before found looked.hand c.args.k m from p looked.keeps looked.steers looked.held looked.mark whole.0 alone
          book cheaper written goes_on is);
    }
