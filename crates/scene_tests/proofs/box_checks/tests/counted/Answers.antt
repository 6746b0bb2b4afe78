use Rattle.scene_tests.proofs.box_checks.tests.counted.Goals as goal

pub returns-clause-all : goal.returns-clause-all
returns-clause-all g c = λ t. rw c.near_boxes.ensures (c.tests.ensures.all t c.args.all.now c.requires.boxes)

pub returns-clause-few : goal.returns-clause-few
returns-clause-few g c = rw c.near_boxes.ensures (c.tests.ensures.few c.args.all.now c.requires.boxes)
