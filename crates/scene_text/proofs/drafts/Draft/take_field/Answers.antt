use Rattle.plan_model.specs.Texts.TextLines.{words_of}
use Rattle.scene_text.proofs.DraftLemmas.{given-room, given-body, given-obstacle, given-clearance, given-start, given-goal, given-step}
use Rattle.scene_text.proofs.DraftLemmas.{given-gamma, given-seed, given-strips, given-informed, given-drawn, given-mark}
use Rattle.scene_text.proofs.drafts.Draft.take_field.Goals as goal

pub returns-in_ok-push-in-Obstacle-clause-given : goal.returns-in_ok-push-in-Obstacle-clause-given
returns-in_ok-push-in-Obstacle-clause-given c =
    let old = c.args.self.now in
    let read = c.in_ok-read_obstacle-in-Obstacle in
    rw c.in-Obstacle.is
    (given-obstacle old (record old { obstacles = c.push.new.self }) (words_of c.args.words.now) read.field-0 c.in_ok-push-in-Obstacle.ensures.items
    read.ensures.value)

pub returns-in_ok-push-in-Goal-clause-given : goal.returns-in_ok-push-in-Goal-clause-given
returns-in_ok-push-in-Goal-clause-given c =
    let old = c.args.self.now in
    let read = c.in_ok-read_goal-in-Goal in
    rw c.in-Goal.is
    (given-goal old (record old { goals = c.push-in-Goal.new.self }) (words_of c.args.words.now) read.field-0 c.in_ok-push-in-Goal.ensures.items
    read.ensures.value)

pub returns-in_ok-push-in-Mark-clause-given : goal.returns-in_ok-push-in-Mark-clause-given
returns-in_ok-push-in-Mark-clause-given c =
    let old = c.args.self.now in
    let read = c.in_ok-read_point-in-Mark in
    rw c.in-Mark.is
    (given-mark old (record old { marks = c.push-in-Mark.new.self }) (words_of c.args.words.now) read.field-0 c.in_ok-push-in-Mark.ensures.items
    read.ensures.value)

pub returns-in_ok-read_point-in-Room-clause-given : goal.returns-in_ok-read_point-in-Room-clause-given
returns-in_ok-read_point-in-Room-clause-given c =
    rw c.in-Room.is
    (given-room c.args.version c.args.self.now (words_of c.args.words.now) _ (rw c.in-Room.is at c.requires.fresh) c.in_ok-read_point-in-Room.ensures.value)

pub returns-in_ok-read_body-in-Body-clause-given : goal.returns-in_ok-read_body-in-Body-clause-given
returns-in_ok-read_body-in-Body-clause-given c =
    rw c.in-Body.is
    (given-body c.args.version c.args.self.now (words_of c.args.words.now) _ (rw c.in-Body.is at c.requires.fresh) c.in_ok-read_body-in-Body.ensures.value)

pub returns-in_ok-read_amount-in-Clearance-clause-given : goal.returns-in_ok-read_amount-in-Clearance-clause-given
returns-in_ok-read_amount-in-Clearance-clause-given c =
    rw c.in-Clearance.is
    (given-clearance c.args.version c.args.self.now (words_of c.args.words.now) _ (rw c.in-Clearance.is at c.requires.fresh)
    c.in_ok-read_amount-in-Clearance.ensures.value)

pub returns-in_ok-read_point-in-Start-clause-given : goal.returns-in_ok-read_point-in-Start-clause-given
returns-in_ok-read_point-in-Start-clause-given c =
    rw c.in-Start.is
    (given-start c.args.version c.args.self.now (words_of c.args.words.now) _ (rw c.in-Start.is at c.requires.fresh) c.in_ok-read_point-in-Start.ensures.value)

pub returns-in_ok-read_amount-in-Step-clause-given : goal.returns-in_ok-read_amount-in-Step-clause-given
returns-in_ok-read_amount-in-Step-clause-given c =
    rw c.in-Step.is
    (given-step c.args.version c.args.self.now (words_of c.args.words.now) _ (rw c.in-Step.is at c.requires.fresh) c.in_ok-read_amount-in-Step.ensures.value)

pub returns-in_ok-read_amount-in-Gamma-clause-given : goal.returns-in_ok-read_amount-in-Gamma-clause-given
returns-in_ok-read_amount-in-Gamma-clause-given c =
    rw c.in-Gamma.is
    (given-gamma c.args.version c.args.self.now (words_of c.args.words.now) _ (rw c.in-Gamma.is at c.requires.fresh) c.in_ok-read_amount-in-Gamma.ensures.value)

pub returns-in_ok-read_amount-in-Seed-clause-given : goal.returns-in_ok-read_amount-in-Seed-clause-given
returns-in_ok-read_amount-in-Seed-clause-given c =
    rw c.in-Seed.is
    (given-seed c.args.version c.args.self.now (words_of c.args.words.now) _ (rw c.in-Seed.is at c.requires.fresh) c.in_ok-read_amount-in-Seed.ensures.value)

pub returns-in_ok-read_amount-in-Strips-clause-given : goal.returns-in_ok-read_amount-in-Strips-clause-given
returns-in_ok-read_amount-in-Strips-clause-given c =
    rw c.in-Strips.is
    (given-strips c.args.version c.args.self.now (words_of c.args.words.now) _ (rw c.in-Strips.is at c.requires.fresh)
    c.in_ok-read_amount-in-Strips.ensures.value)

pub returns-in_ok-read_amount-in-Informed-clause-given : goal.returns-in_ok-read_amount-in-Informed-clause-given
returns-in_ok-read_amount-in-Informed-clause-given c =
    rw c.in-Informed.is
    (given-informed c.args.version c.args.self.now (words_of c.args.words.now) _ (rw c.in-Informed.is at c.requires.fresh)
    c.in_ok-read_amount-in-Informed.ensures.value)

pub returns-in_ok-read_amount-in-Marks-clause-given : goal.returns-in_ok-read_amount-in-Marks-clause-given
returns-in_ok-read_amount-in-Marks-clause-given c =
    rw c.in-Marks.is
    (given-drawn c.args.version c.args.self.now (words_of c.args.words.now) _ (rw c.in-Marks.is at c.requires.fresh) c.in_ok-read_amount-in-Marks.ensures.value)
