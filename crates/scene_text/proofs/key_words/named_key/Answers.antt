use Rattle.std.proofs.Common.{arith, rules}
use Rattle.plan_model.specs.declared.text_terms.Key.TheVariants as keys
use Rattle.scene_text.proofs.KeyBytes.{key-from-bytes}
use Rattle.scene_text.proofs.key_words.named_key.Goals as goal

pub returns-in-room : goal.returns-in-room
returns-in-room c = key-from-bytes c.args.word.now keys.Room (omega (arith, c.in-room.len_at_least, c.in-room.len_below)) (search rules)

pub returns-in-body : goal.returns-in-body
returns-in-body c = key-from-bytes c.args.word.now keys.Body (omega (arith, c.in-body.len_at_least, c.in-body.len_below)) (search rules)

pub returns-in-obstacle : goal.returns-in-obstacle
returns-in-obstacle c = key-from-bytes c.args.word.now keys.Obstacle (omega (arith, c.in-obstacle.len_at_least, c.in-obstacle.len_below)) (search rules)

pub returns-in-clearance : goal.returns-in-clearance
returns-in-clearance c = key-from-bytes c.args.word.now keys.Clearance (omega (arith, c.in-clearance.len_at_least, c.in-clearance.len_below)) (search rules)

pub returns-in-start : goal.returns-in-start
returns-in-start c = key-from-bytes c.args.word.now keys.Start (omega (arith, c.in-start.len_at_least, c.in-start.len_below)) (search rules)

pub returns-in-goal : goal.returns-in-goal
returns-in-goal c = key-from-bytes c.args.word.now keys.Goal (omega (arith, c.in-goal.len_at_least, c.in-goal.len_below)) (search rules)

pub returns-in-step : goal.returns-in-step
returns-in-step c = key-from-bytes c.args.word.now keys.Step (omega (arith, c.in-step.len_at_least, c.in-step.len_below)) (search rules)

pub returns-in-gamma : goal.returns-in-gamma
returns-in-gamma c = key-from-bytes c.args.word.now keys.Gamma (omega (arith, c.in-gamma.len_at_least, c.in-gamma.len_below)) (search rules)

pub returns-in-seed : goal.returns-in-seed
returns-in-seed c = key-from-bytes c.args.word.now keys.Seed (omega (arith, c.in-seed.len_at_least, c.in-seed.len_below)) (search rules)

pub returns-in-strips : goal.returns-in-strips
returns-in-strips c = key-from-bytes c.args.word.now keys.Strips (omega (arith, c.in-strips.len_at_least, c.in-strips.len_below)) (search rules)

pub returns-in-informed : goal.returns-in-informed
returns-in-informed c = key-from-bytes c.args.word.now keys.Informed (omega (arith, c.in-informed.len_at_least, c.in-informed.len_below)) (search rules)

pub returns-in-marks : goal.returns-in-marks
returns-in-marks c = key-from-bytes c.args.word.now keys.Marks (omega (arith, c.in-marks.len_at_least, c.in-marks.len_below)) (search rules)

pub returns-in-mark : goal.returns-in-mark
returns-in-mark c = key-from-bytes c.args.word.now keys.Mark (omega (arith, c.in-mark.len_at_least, c.in-mark.len_below)) (search rules)
