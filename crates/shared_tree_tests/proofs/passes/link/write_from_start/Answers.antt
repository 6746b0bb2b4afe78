use Rattle.shared_tree_tests.proofs.Words.{◌≡◌, ap, refl, ◌∙◌, PassState, with_view, BelongsTo-later, at_hand, if_hand, IsUnskipped, pointed, Pointed}
use Rattle.shared_tree_tests.proofs.HeldPasses.FirstRecords.{unskipped_later}
use Rattle.shared_tree_tests.proofs.passes.link.write_from_start.Given.{Over}
use Rattle.shared_tree_tests.proofs.passes.link.write_from_start.Goals as goal
use Rattle.shared_tree_tests.proofs.passes.link.write_from_start.Goals.{After-point-start}

-- the mark is not skipped
unskipped : (g : Over) (c : After-point-start g) → IsUnskipped c.point-start.new.pass.view c.requires.holds.hand
unskipped g c =
    let before = c.args.pass.now.view in
    unskipped_later before c.point-start.new.pass.view c.point-start.ensures.goes_on.later c.requires.holds.hand
    (at_hand (IsUnskipped before) before.hand c.requires.holds.hand c.requires.holds.held c.requires.unskipped)

pub write_point-requires-clause-unskipped : goal.write_point-requires-clause-unskipped
write_point-requires-clause-unskipped g c =
    let mid = c.point-start.new.pass.view in
    if_hand (IsUnskipped mid) mid.hand c.requires.holds.hand
    (ap (λ (s : PassState). s.view.hand) c.point-start.ensures.view ∙ c.requires.holds.held)
    (unskipped g (goal.at.write_point-requires-clause-unskipped g c).After-point-start)

pub returns-clause-unskipped : goal.returns-clause-unskipped
returns-clause-unskipped g c =
    let mid = c.point-start.new.pass in
    let after = c.write_point.new.pass in
    let hand = c.requires.holds.hand in
    let held = ap (λ (s : PassState). s.view.hand) c.point-start.ensures.view ∙ c.requires.holds.held in
    let is = at_hand (λ hand. after ≡ with_view mid (pointed mid.view hand 0 c.steer-p.result)) mid.view.hand hand held c.write_point.ensures.view in
    if_hand (IsUnskipped after.view) after.view.hand (record hand { stage = Pointed; nearest = 0; point = c.steer-p.result })
    (ap (λ (s : PassState). s.view.hand) is)
    (unskipped_later mid.view after.view c.write_point.ensures.goes_on.later hand (unskipped g (goal.at.returns-clause-unskipped g c).After-point-start))

pub returns-clause-holds : goal.returns-clause-holds
returns-clause-holds g c =
    let holds = c.requires.holds in
    let shared = c.args.shared.now in
    let mid = c.point-start.new.pass in
    let after = c.write_point.new.pass in
    let loaded = c.point-start.ensures in
    let held = ap (λ (s : PassState). s.view.hand) loaded.view ∙ holds.held in
    let is = at_hand (λ hand. after ≡ with_view mid (pointed mid.view hand 0 c.steer-p.result)) mid.view.hand holds.hand held c.write_point.ensures.view in
    record {
      belongs = BelongsTo-later shared mid after (ap (λ (s : PassState). s.table) is) c.write_point.ensures.goes_on
          (BelongsTo-later shared c.args.pass.now mid (ap (λ (s : PassState). s.table) loaded.view) loaded.goes_on holds.belongs);
      hand = record holds.hand { stage = Pointed; nearest = 0; point = c.steer-p.result };
      held = ap (λ (s : PassState). s.view.hand) is;
      mark = holds.mark;
      stage_is = refl;
      from_start = refl;
    }
