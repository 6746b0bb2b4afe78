use Rattle.path_tools.proofs.RestEntries.{AreRestsFrom-last}
use Rattle.path_tools.proofs.smoothing.least_rests.Goals as goal

pub loop-position-init : goal.loop-position-init
loop-position-init g c =
    AreRestsFrom-last (g.C.Clearing.space c.args.hall.now) c.args.path.now c.in_ok-rests.rests.items c.requires.some
    (c.in_ok-rests.ensures.items_if_clones_equal (λ y e. e))
