use Rattle.scene_text.proofs.PolygonLemmas.{ReadsCorners-more}
use Rattle.scene_text.proofs.field_words.read_corners.Goals as goal

pub loop-rest-preserved : goal.loop-rest-preserved
loop-rest-preserved c =
    let found = c.in_ok-corner.ensures.ok_part in
    let value = rw found at c.read_corner.ensures.value in
    let within = rw found at c.read_corner.ensures.within in
    let rest = rw found at c.read_corner.ensures.rest in
    rw c.in_ok-push.ensures.items
    (ReadsCorners-more _ _ _ _ _ c.loop-rest.corners.items c.in_ok-corner.corner c.loop-rest.invariant value within rest)
