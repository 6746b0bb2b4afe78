use Rattle.grown_runs.proofs.Words.{◌+◌, sym, ap, ◌∙◌, subst, Some, None, slice_get-get_or, WritesNodes, words_in}
use Rattle.grown_runs.proofs.Runs.PackedWritings.{WritesNodes-absent, WritesNodes-more}
use Rattle.grown_runs.proofs.packed_runs.write_nodes.Goals as goal
use Rattle.grown_runs.proofs.packed_runs.write_nodes.Goals.{in-Some, in_default}

pub loop-node-preserved : goal.loop-node-preserved
loop-node-preserved c =
    let knots = c.args.knots.now in
    let m = c.loop-node.node in
    let kept = c.loop-node.invariant in
    let read = slice_get-get_or c.args.knots.now c.loop-node.node None c.loop-node-test.true in
    elim c.match-knot.branch [
      | in-Some w ↦ (
          let own = read ∙ ap Some w.in-Some.is in
          record {
            places = ap (λ words. words.places) w.words-is ∙ w.write_node.ensures.places ∙ kept.places;
            nodes =
                subst (λ words. WritesNodes c.args.knots.now (c.loop-node.node + 1) (words_in c.args.words.now) (words_in words)) (sym w.words-is)
                (WritesNodes-more knots m (words_in c.args.words.now) (words_in c.loop-node.words) kept.nodes
                (words_in w.write_node.new.words) w.in-Some.knot own w.write_node.ensures.hold w.write_node.ensures.others);
          })
      | in_default w ↦ record {
        places = ap (λ words. words.places) w.words-is ∙ kept.places;
        nodes =
            subst (λ words. WritesNodes c.args.knots.now (c.loop-node.node + 1) (words_in c.args.words.now) (words_in words)) (sym w.words-is)
            (WritesNodes-absent knots m (words_in c.args.words.now) (words_in c.loop-node.words) kept.nodes
            (read ∙ ap Some w.in_default.is));
      }
    ]
