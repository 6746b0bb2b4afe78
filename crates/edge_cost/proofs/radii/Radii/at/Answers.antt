use Rattle.edge_cost.proofs.Words.{◌∙◌, ap, radius_of_class}
use Rattle.edge_cost.proofs.RadiusFromRoot.{class_below}
use Rattle.edge_cost.proofs.radii.Radii.at.Goals as goal

pub bounds-self-class : goal.bounds-self-class
bounds-self-class c = class_below c.class.result c.args.n c.class.ensures.low c.requires.most

pub returns : goal.returns
returns c =
    let radii = c.args.self.now in
    let below = class_below c.class.result c.args.n c.class.ensures.low c.requires.most in
    radii.of_classes c.class.result below ∙ ap (radius_of_class radii.step radii.gamma) c.class.ensures.value
