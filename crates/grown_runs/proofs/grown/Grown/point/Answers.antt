use Rattle.grown_runs.proofs.Words.{◌≡◌, true, arith, sym, ap, ◌∙◌, words_of_grown, has_node, sizes_of, sizes_in, Sizes, point_of_word}
use Rattle.grown_runs.proofs.Runs.GrownPoints.{point_at-words, point_at-absent, node_point-here, has_node-within}
use Rattle.grown_runs.proofs.grown.Grown.point.Goals as goal

pub returns-then-not-has_node : goal.returns-then-not-has_node
returns-then-not-has_node c =
    let grown = c.args.self.now in
    sym (point_at-absent (sizes_of grown.task) (words_of_grown grown) c.args.node (sym c.has_node.ensures ∙ c.if-not-has_node.true))

pub point-requires : goal.point-requires
point-requires c =
    let words = c.args.self.now.words in
    has_node-within (sizes_in words.places) words.list.items c.args.node (sym c.has_node.ensures ∙ c.if-not-has_node.false)

pub returns : goal.returns
returns c =
    let grown = c.args.self.now in
    let sizes = sizes_of c.args.self.now.task in
    let words = words_of_grown c.args.self.now in
    let here : has_node (words_of_grown c.args.self.now) c.args.node ≡ true = sym c.has_node.ensures ∙ c.if-not-has_node.false in
    let within = has_node-within (sizes_in grown.words.places) grown.words.list.items c.args.node here in
    c.read_point.ensures.read ∙ ap point_of_word c.point.ensures
    ∙ sym (
    point_at-words sizes words c.args.node (omega (arith, within, ap (λ (s : Sizes). s.marks) grown.of_task))
    ∙ node_point-here words c.args.node here
    )
