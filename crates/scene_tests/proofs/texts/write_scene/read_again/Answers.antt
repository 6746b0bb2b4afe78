use Rattle.std.proofs.Common.{◌≡◌, subst, rules}
use Rattle.plan_model.specs.Texts.SceneGrammar.{Spells, supported}
use Rattle.plan_model.proofs.SameScenes.{Spells-one_scene}
use Rattle.scene_tests.proofs.texts.write_scene.read_again.Goals as goal

pub returns : goal.returns
returns c =
    let text = c.in_ok-text.text.items in
    let again = c.in_ok-again.again in
    let read : c.deref.result.now ≡ text = search rules in
    Spells-one_scene supported text again c.args.scene.now (subst (λ t. Spells supported t again) read c.in_ok-again.ensures.scene)
    c.in_ok-text.ensures.spells
