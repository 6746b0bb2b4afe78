use Rattle.obstacle_boxes.proofs.Words.{◌↔◌, IsTrue, subst, Clear}
use Rattle.obstacle_boxes.proofs.boxes.BoxesClearing.clear.Goals as goal

pub returns-then-zones-le-MOST_WITHOUT_TREE : goal.returns-then-zones-le-MOST_WITHOUT_TREE
returns-then-zones-le-MOST_WITHOUT_TREE c = subst (λ s. IsTrue c.clear.result ↔ Clear s c.args.a c.args.b) c.self.view_is c.clear.ensures
