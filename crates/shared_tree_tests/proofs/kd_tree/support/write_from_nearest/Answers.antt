use Rattle.shared_tree_tests.proofs.Words.{◌≡◌, ◌∙◌, ap, refl, sym, mark_at, PassState, with_view, BelongsTo-later, at_hand, if_hand, no_goals, IsUnskipped}
use Rattle.shared_tree_tests.proofs.Words.{pointed, Pointed}
use Rattle.shared_tree_tests.proofs.SteeredPasses.SteeredMarks.{IsNearestRecorded-found, SteersFrom-written}
use Rattle.shared_tree_tests.proofs.kd_tree.support.write_from_nearest.Goals as goal

pub write_point-requires-clause-unskipped : goal.write_point-requires-clause-unskipped
write_point-requires-clause-unskipped c =
    let mid = c.point-from.new.pass.view in
    let loaded = c.point-from.ensures in
    let held = ap (λ (s : PassState). s.view.hand) loaded.view ∙ c.nearest-closest.ensures.looks.kept.hand ∙ c.requires.holds.held in
    let run = ap (λ (s : PassState). s.view.run) loaded.view ∙ c.nearest-closest.ensures.belongs.run in
    if_hand (IsUnskipped mid) mid.hand c.requires.holds.hand held (λ informed. absurd (informed (no_goals c.args.shared.now mid run c.requires.plain)))

pub returns-clause-steers : goal.returns-clause-steers
returns-clause-steers c =
    let found = c.nearest-closest.new.pass.view in
    let mid = c.point-from.new.pass in
    let step = c.nearest-closest.ensures.looks in
    let closest = c.nearest-closest.result in
    let p = c.steer-point.result in
    let held = ap (λ p. p.view.hand) c.point-from.ensures.view ∙ step.kept.hand ∙ c.requires.holds.held in
    let marks = c.as_slice.ensures ∙ ap (λ t. t.marks) c.task.ensures ∙ sym (ap (λ r. r.marks) c.nearest-closest.ensures.belongs.run) in
    let is =
    at_hand (λ hand. c.write_point.new.pass ≡ with_view mid (pointed mid.view hand closest p)) mid.view.hand c.requires.holds.hand held
    c.write_point.ensures.view in
    SteersFrom-written found mid.view c.write_point.new.pass.view c.requires.holds.hand closest _ _ c.point-from.result p c.point-from.ensures.goes_on
    c.write_point.ensures.goes_on c.point-from.ensures.seen (ap (λ p. p.view) is) c.nearest-closest.ensures.nearest.nearest.member c.point-from.ensures.found
    (ap (λ l. mark_at l c.args.mark) marks ∙ ap (mark_at found.run.marks) (sym c.requires.holds.mark))
    (IsNearestRecorded-found c.args.pass.now.view found _ closest step.looks.goes_on.lawful c.nearest-closest.ensures.nearest)

pub returns-clause-holds : goal.returns-clause-holds
returns-clause-holds c =
    let shared = c.args.shared.now in
    let found = c.nearest-closest.new.pass in
    let mid = c.point-from.new.pass in
    let after = c.write_point.new.pass in
    let loaded = c.point-from.ensures in
    let closest = c.nearest-closest.result in
    let held = ap (λ (s : PassState). s.view.hand) loaded.view ∙ c.nearest-closest.ensures.looks.kept.hand ∙ c.requires.holds.held in
    let is = at_hand (λ hand. after ≡ with_view mid (pointed mid.view hand closest c.steer-point.result)) mid.view.hand c.requires.holds.hand held
    c.write_point.ensures.view in
    record {
      belongs = BelongsTo-later shared mid after (ap (λ (s : PassState). s.table) is) c.write_point.ensures.goes_on
          (BelongsTo-later shared found mid (ap (λ (s : PassState). s.table) loaded.view) loaded.goes_on c.nearest-closest.ensures.belongs);
      hand = record c.requires.holds.hand { stage = Pointed; nearest = closest; point = c.steer-point.result };
      held = ap (λ (s : PassState). s.view.hand) is;
      mark = c.requires.holds.mark;
      stage_is = refl;
    }
