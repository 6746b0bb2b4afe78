use Rattle.scene_text.proofs.Words.{refl, ap, ◌∙◌, Listed, point_from, point_numbers}
use Rattle.scene_text.proofs.DraftScenes.{given_back}
use Rattle.scene_text.proofs.drafts.plan_of.Goals as goal

pub returns-in-None : goal.returns-in-None
returns-in-None c =
    rw c.in-None.is (ap Listed (c.from_vec.ensures ∙ given_back point_numbers point_from (λ p. refl) c.args.listed.items))
