use Rattle.report_judge.proofs.Words.{◌∙◌, ap, radius_of_class}
use Rattle.report_judge.proofs.Workers.ClassRadii.{shifted-class, shifted-low}
use Rattle.report_judge.proofs.marks.lawful_marks.radius_of_class.Goals as goal

pub at-requires-clause-most : goal.at-requires-clause-most
at-requires-clause-most c = shifted-low c.args.class c.requires.low c.requires.high

pub returns : goal.returns
returns c =
    let radii = c.args.judged.now.radii.now in
    c.at.ensures ∙ ap (radius_of_class radii.step radii.gamma) (shifted-class c.args.class c.requires.low c.requires.high)
