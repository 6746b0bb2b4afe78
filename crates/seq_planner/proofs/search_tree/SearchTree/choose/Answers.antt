use Rattle.seq_planner.proofs.Words.{◌≡◌, ◌+◌, ◌∷◌, ◌++◌, [], get_or, take, arith, ap, ◌∙◌, sym, take_more, cost_through, points_of, IsFirstLeast-alone}
use Rattle.seq_planner.proofs.Words.{IsFirstLeast-takes, IsFirstLeast-keeps}
use Rattle.seq_planner.proofs.search_tree.SearchTree.choose.Goals as goal
use Rattle.seq_planner.proofs.search_tree.SearchTree.choose.Goals.{then-wins, else-wins}

pub loop-number-init : goal.loop-number-init
loop-number-init g c =
    let nodes = c.args.self.now.nodes in
    let key = cost_through nodes c.args.point in
    let new = c.parent-best.ensures in
    record {
      least = rw new.node
          (IsFirstLeast-alone (g.C.Clearing.space c.args.hall.now) (points_of nodes) c.args.point key c.args.nearest c.requires.clear);
      cost = new.cost ∙ ap key (sym new.node);
    }

pub loop-number-preserved : goal.loop-number-preserved
loop-number-preserved g c =
    let space = g.C.Clearing.space c.args.hall.now in
    let points = points_of c.args.self.now.nodes in
    let p = c.args.point in
    let key = cost_through c.args.self.now.nodes p in
    let i = c.loop-number.number-index in
    let n = get_or c.args.near.now i 0 in
    let best = c.loop-number.best.node in
    let among = c.args.nearest ∷ take i c.args.near.now in
    let more = c.args.nearest ∷ take (i + 1) c.args.near.now in
    let e : more ≡ among ++ n ∷ [] = ap (λ ns. c.args.nearest ∷ ns) (take_more c.args.near.now i 0 (omega arith)) in
    let h = c.loop-number.invariant in
    elim c.if-wins.branch [
      | then-wins w ↦ (
          let new = w.parent-best-then-wins.ensures in
          let clear = c.wins.ensures.clear w.if-wins.true in
          rw w.best-is (record {
            least = rw new.node (IsFirstLeast-takes space points p key among more n best e clear (c.wins.ensures.wins w.if-wins.true) h.least);
            cost = new.cost ∙ ap key (sym new.node);
          }))
      | else-wins w ↦ (
          rw w.best-is (record {
            least = IsFirstLeast-keeps space points p key among more n best e (c.wins.ensures.loses w.if-wins.false) h.least;
            cost = h.cost;
          }))
    ]
