use Rattle.edge_cost.proofs.Words.{◌≡◌, ap, ◌∙◌, min}
use Rattle.edge_cost.proofs.LeastEdges.{moved, moved_into-nearest}
use Rattle.edge_cost.proofs.bounds.nearest_in.Goals as goal

pub returns-clause-nearest : goal.returns-clause-nearest
returns-clause-nearest c =
    let x : c.min.result ≡ moved c.args.goal.low.x c.args.goal.high.x c.args.p.x =
    c.min.ensures ∙ ap (λ n. min n c.args.goal.high.x) c.max.ensures in
    let y : c.min-2.result ≡ moved c.args.goal.low.y c.args.goal.high.y c.args.p.y =
    c.min-2.ensures ∙ ap (λ n. min n c.args.goal.high.y) c.max-2.ensures in
    rw (x, y) (moved_into-nearest c.args.goal c.args.p c.requires)
