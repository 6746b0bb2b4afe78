use Rattle.plan_model.specs.Texts.CanonicalText.{corner_numbers}
use Rattle.scene_text.proofs.TextLemmas.{line-pushed}
use Rattle.scene_text.proofs.scene_writer.push_polygon.Goals as goal

pub returns : goal.returns
returns c =
    line-pushed _ _ _ _ c.args.key.now (corner_numbers c.args.corners.now) c.in_ok-push_str.ensures.bytes c.in_ok-push_corners.ensures
    c.in_ok-push_str-2.ensures.bytes
