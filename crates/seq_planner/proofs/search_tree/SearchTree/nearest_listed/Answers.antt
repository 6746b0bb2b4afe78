use Rattle.seq_planner.proofs.Words.{ℕ, ◌+◌, length, get_or, sym, subst, arith, distance_to, points_of}
use Rattle.seq_planner.proofs.LeastIndices.{IsLeastIndex, IsLeastIndex-first, IsLeastIndex-keeps, IsLeastIndex-takes, IsFirstLeast-index, IsFirstLeast-listed}
use Rattle.seq_planner.proofs.search_tree.SearchTree.nearest_listed.Goals as goal
use Rattle.seq_planner.proofs.search_tree.SearchTree.nearest_listed.Goals.{then-distance-least, else-distance-least}

pub loop-index-init : goal.loop-index-init
loop-index-init c =
    let list = c.args.list.now in
    IsLeastIndex-first (λ i. distance_to c.args.mark (points_of c.args.self.now.nodes) (get_or list i 0)) (length list) c.distance-least.result c.requires.some
    c.distance-least.ensures

pub loop-index-preserved : goal.loop-index-preserved
loop-index-preserved c =
    let list = c.args.list.now in
    let key : ℕ → ℕ = λ i. distance_to c.args.mark (points_of c.args.self.now.nodes) (get_or list i 0) in
    let l = c.loop-index in
    elim c.if-distance-least.branch [
      | then-distance-least w ↦
          subst (λ b. IsLeastIndex key (length list) (l.index + 1) b c.if-distance-least.least) (sym w.best-is)
          (IsLeastIndex-takes key (length list) l.index l.best l.least c.if-distance-least.least l.invariant (omega (arith, c.loop-index-test.true))
          (omega (arith, w.least-is, w.if-distance-least)) (omega (arith, w.least-is, c.distance-distance.ensures)))
      | else-distance-least w ↦
          subst (λ b. IsLeastIndex key (length list) (l.index + 1) b c.if-distance-least.least) (sym w.best-is)
          (IsLeastIndex-keeps key (length list) l.index l.best l.least c.if-distance-least.least l.invariant
          (omega (arith, c.distance-distance.ensures, w.if-distance-least)) w.least-is)
    ]

pub returns : goal.returns
returns c =
    let list = c.args.list.now in
    let key : ℕ → ℕ = distance_to c.args.mark (points_of c.args.self.now.nodes) in
    let l = c.loop-index in
    IsFirstLeast-listed key list l.best c.requires.rising
    (IsFirstLeast-index (λ i. key (get_or list i 0)) (length list) l.index l.best l.least l.invariant (omega (arith, c.loop-index-test.false)))
