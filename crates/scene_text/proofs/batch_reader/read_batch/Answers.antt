use Rattle.scene_text.proofs.Words.{◌≡◌, ◌≢◌, [], ◌∷◌, ◌++◌, length, ◌∙◌, rules, arith, nat_tests, err_from_is_err_and, MOST_SCENES}
use Rattle.scene_text.proofs.BatchLemmas.{HasRead-pushed, IsBatchRefusal-many, ReadsParts-more, ReadsParts-refused, SpellsBatch-read}
use Rattle.scene_text.proofs.batch_reader.read_batch.Goals as goal

pub returns-in_err-part-clause-fault : goal.returns-in_err-part-clause-fault
returns-in_err-part-clause-fault c =
    let p = err_from_is_err_and c.from_residual.result c.from_residual.ensures.1 in
    rw (p.1, p.2) (ReadsParts-refused c.args.text.now c.loop-scenes.scenes.items c.loop-scenes.before c.loop-scenes.rest.now c.loop-scenes.invariant
    c.in_err-part.field-0.0 c.in_err-part.ensures.fault)

pub returns-in_default-clause-scenes : goal.returns-in_default-clause-scenes
returns-in_default-clause-scenes c =
    let text = c.args.text.now in
    let part = c.in_ok-part.part in
    let is = c.in_ok-part.ensures in
    let pushed : c.push.new.self.items ≡ c.loop-scenes.scenes.items ++ part.scene ∷ [] = search rules in
    let kept = HasRead-pushed part.rest.now c.push.new.self.items c.loop-scenes.invariant pushed is.scene is.lines is.rest is.shorter in
    SpellsBatch-read text c.push.new.self.items _ part.rest.now kept c.in_default.ensures.none

pub returns-then-len-eq-MOST_SCENES-clause-fault : goal.returns-then-len-eq-MOST_SCENES-clause-fault
returns-then-len-eq-MOST_SCENES-clause-fault c =
    let text = c.args.text.now in
    let part = c.in_ok-part.part in
    let is = c.in_ok-part.ensures in
    let pushed : c.push.new.self.items ≡ c.loop-scenes.scenes.items ++ part.scene ∷ [] = search rules in
    let kept = HasRead-pushed part.rest.now c.push.new.self.items c.loop-scenes.invariant pushed is.scene is.lines is.rest is.shorter in
    let long = c.len.ensures ∙ c.push.new.self.ok.0 in
    let test = c.if-len-eq-MOST_SCENES.true in
    let most : length c.push.new.self.items ≡ MOST_SCENES = grind (arith, nat_tests, long, test) in
    IsBatchRefusal-many text c.push.new.self.items _ part.rest.now kept c.in-Some.after.now c.in-Some.ensures.some most

pub loop-scenes-preserved : goal.loop-scenes-preserved
loop-scenes-preserved c =
    let text = c.args.text.now in
    let part = c.in_ok-part.part in
    let is = c.in_ok-part.ensures in
    let pushed : c.push.new.self.items ≡ c.loop-scenes.scenes.items ++ part.scene ∷ [] = search rules in
    let kept = HasRead-pushed part.rest.now c.push.new.self.items c.loop-scenes.invariant pushed is.scene is.lines is.rest is.shorter in
    let long = c.len.ensures ∙ c.push.new.self.ok.0 in
    let test = c.if-len-eq-MOST_SCENES.false in
    let other : length c.push.new.self.items ≢ MOST_SCENES = grind (arith, nat_tests, long, test) in
    ReadsParts-more text c.push.new.self.items _ part.rest.now kept c.in-Some.after.now c.in-Some.ensures.some other c.in-Some.ensures.shorter
