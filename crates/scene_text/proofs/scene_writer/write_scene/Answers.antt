use Rattle.scene_text.proofs.Words.{[], ◌∷◌, ◌++◌, map, string_bytes, ap, ◌∙◌, flat_map, line, point_numbers, corner_numbers, statement, version_statement}
use Rattle.scene_text.proofs.Words.{obstacle_statement, clearance_statements, task_statements, plan_statements, supported, whole_format}
use Rattle.plan_model.specs.declared.text_terms.Key.TheVariants as keys
use Rattle.scene_text.proofs.CoveredScenes.{Covers-supported, Covers-whole}
use Rattle.scene_text.proofs.TextLemmas.{lines-written}
use Rattle.scene_text.proofs.CanonicalFields.{Spells-canonical}
use Rattle.scene_text.proofs.CanonicalLengths.{length-written}
use Rattle.scene_text.proofs.scene_writer.write_scene.Goals as goal

pub returns-clause-text : goal.returns-clause-text
returns-clause-text c =
    let scene = c.args.scene.now in
    let begun = c.in_ok-push_head.ensures ∙ ap (λ before. before
    ++ flat_map line (version_statement scene.version ∷ statement keys.Room (point_numbers scene.room) ∷ [])) c.new-text.ensures.bytes in
    let bodies = rw c.as_slice.ensures at c.in_ok-push_polygon.ensures in
    let obstacles = rw c.as_slice-2.ensures at c.in_ok-push_obstacles.ensures in
    let ended = ap (λ vec. vec.items) c.into_bytes.ensures.value ∙ c.in_ok-push_plan.ensures in
    lines-written c.into_bytes.result.items (string_bytes c.push_task.new.text) (string_bytes c.push_clearance.new.text)
    (string_bytes c.push_obstacles.new.text) (string_bytes c.push_polygon.new.text) (string_bytes c.push_head.new.text)
    (version_statement scene.version) (statement keys.Room (point_numbers scene.room)) (statement keys.Body (corner_numbers scene.body))
    (map obstacle_statement scene.obstacles) (clearance_statements scene) (task_statements scene) (plan_statements scene.plan) ended
    c.in_ok-push_task.ensures c.in_ok-push_clearance.ensures obstacles bodies begun

pub returns-clause-whole : goal.returns-clause-whole
returns-clause-whole c =
    Spells-canonical whole_format c.args.scene.now c.into_bytes.result.items (Covers-whole c.args.scene.now) (returns-clause-text c)

pub returns-clause-spells : goal.returns-clause-spells
returns-clause-spells c =
    Spells-canonical supported c.args.scene.now c.into_bytes.result.items (Covers-supported c.args.scene.now) (returns-clause-text c)

pub returns-clause-fits : goal.returns-clause-fits
returns-clause-fits c = length-written c.args.scene.now c.into_bytes.result.items (returns-clause-text c)
