use Rattle.std.proofs.Common.{◌≡◌, arith, refl}
use Rattle.std.proofs.lemmas.List.FromFn.{map-range_with_len_more}
use Rattle.plan_model.specs.Scenes.MarkPoints.{drawn_mark}
use Rattle.strip_sampler.proofs.DrawnPoints.{All-drawn_in_room}
use Rattle.strip_sampler.proofs.mark_points.drawn_points.Goals as goal

pub loop-k-preserved : goal.loop-k-preserved
loop-k-preserved c =
    let more = map-range_with_len_more (drawn_mark c.args.scene.now) 0 c.loop-k.k c.loop-k.k (omega arith) in
    rw (c.in_ok-push.ensures.items, c.loop-k.invariant, c.drawn.ensures, more) refl

pub returns-clause-in_room : goal.returns-clause-in_room
returns-clause-in_room c =
    let all : c.loop-k.k ≡ c.args.count = omega arith in
    All-drawn_in_room c.args.scene.now c.from_vec.result c.args.count c.requires (rw (c.from_vec.ensures, c.loop-k.invariant, all) refl)
