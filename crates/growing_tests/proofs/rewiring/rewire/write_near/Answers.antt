use Rattle.growing_tests.proofs.Words.{◌≡◌, ap, arith, length, refl, ◌∙◌, PassState, with_view, at_hand, if_hand, no_goals, IsUnskipped, pointed, Pointed}
use Rattle.growing_tests.proofs.rewiring.rewire.write_near.Goals as goal

pub write_point-requires-clause-unskipped : goal.write_point-requires-clause-unskipped
write_point-requires-clause-unskipped c =
    let mid = c.point-from.new.pass.view in
    let run = ap (λ (s : PassState). s.view.run) c.point-from.ensures.view ∙ c.nearest-node.ensures.belongs.run in
    let held = ap (λ (s : PassState). s.view.hand) c.point-from.ensures.view ∙ c.nearest-node.ensures.looks.kept.hand ∙ c.requires.holds.held in
    if_hand (λ hand. IsUnskipped mid hand) mid.hand c.requires.holds.hand held
    (λ informed. absurd (informed (no_goals c.args.shared.now mid run c.requires.plain)))

pub returns : goal.returns
returns c =
    let holds = c.requires.holds in
    let found = c.nearest-node.ensures in
    let mid = c.point-from.new.pass in
    let after = c.write_point.new.pass in
    let loaded = c.point-from.ensures.view in
    let held = ap (λ (s : PassState). s.view.hand) loaded ∙ found.looks.kept.hand ∙ holds.held in
    let is = at_hand (λ hand. after ≡ with_view mid (pointed mid.view hand c.nearest-node.result c.steer-p.result)) mid.view.hand holds.hand held
    c.write_point.ensures.view in
    let crew = ap (λ (s : PassState). s.view.crew) is ∙ ap (λ (s : PassState). s.view.crew) loaded ∙ found.looks.kept.crew in
    record {
      belongs = record {
        table = ap (λ (s : PassState). s.table) is ∙ ap (λ (s : PassState). s.table) loaded ∙ found.belongs.table;
        run = ap (λ (s : PassState). s.view.run) is ∙ ap (λ (s : PassState). s.view.run) loaded ∙ found.belongs.run;
        lawful = c.write_point.ensures.goes_on.lawful;
      };
      part = omega (arith, holds.part, ap (λ crew. length crew) crew);
      hand = record holds.hand { stage = Pointed; nearest = c.nearest-node.result; point = c.steer-p.result };
      held = ap (λ (s : PassState). s.view.hand) is;
      mark = holds.mark;
      stage_is = refl;
      nearest_is = refl;
    }
