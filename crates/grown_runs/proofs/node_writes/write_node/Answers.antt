use Rattle.grown_runs.proofs.Words.{◌∙◌, subst, words_in, WritesWord, PointOf, TreeOf}
use Rattle.grown_runs.proofs.Runs.PackedWritings.{HoldsNode-written, ChangesNode-written}
use Rattle.grown_runs.proofs.node_writes.write_node.Goals as goal

pub returns : goal.returns
returns c =
    let before = words_in c.args.words.now in
    let point =
    subst (λ word. WritesWord (PointOf c.args.node) word (words_in c.args.words.now) (words_in c.set_point.new.self)) c.pack_point.ensures
    c.set_point.ensures.word in
    let tree =
    subst (λ word. WritesWord (TreeOf c.args.node) word (words_in c.set_point.new.self) (words_in c.set_tree.new.self)) c.pack_tree.ensures
    c.set_tree.ensures.word in
    record {
      places = c.set_tree.ensures.places ∙ c.set_point.ensures.places;
      hold = HoldsNode-written c.args.node c.args.knot before _ _ point tree;
      others = ChangesNode-written c.args.node c.args.knot before _ _ point tree;
    }
