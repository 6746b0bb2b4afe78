use Rattle.scene_text.proofs.Words.{List, ℕ, ◌≡◌, ◌+◌, IfErr, subst, sym, rules, err_from_is_err_and, refusal_at, IsSceneRefusal}
use Rattle.scene_text.proofs.MappedErrors.{IfErr-map_err, IfOk-map_err, IfOk-two, OnOk-before_map_err}
use Rattle.scene_text.proofs.ReaderLemmas.{Reads, Reads-none, Reads-more, Reads-refused, Reads-missing, Reads-all, IsSoundDraft-read}
use Rattle.scene_text.proofs.scene_reader.read_scene.Goals as goal

pub loop-line-init : goal.loop-line-init
loop-line-init c = Reads-none c.args.text.now c.new-draft.result c.new-draft.ensures.version c.new-draft.ensures.given

pub returns-in_err-map_err-clause-fault : goal.returns-in_err-map_err-clause-fault
returns-in_err-map_err-clause-fault c =
    let mapped = IfErr-map_err c.take_line.result c.map_err.result _ _ (IsSceneRefusal c.args.text.now) c.map_err.ensures.cases
    (λ refusal d fault same. let given : d ≡ refusal_at (c.loop-line.number + 1) refusal = search rules in subst (IsSceneRefusal c.args.text.now) (sym given)
    (Reads-refused c.args.text.now c.loop-line.number c.loop-line.rest.now c.loop-line.draft c.in-Some.line.now c.in-Some.after.now refusal
    c.loop-line.invariant c.in-Some.ensures.some fault)) c.take_line.ensures.refused in
    let p = err_from_is_err_and c.from_residual.result c.from_residual.ensures.1 in
    rw (p.1, p.2) (subst (λ r. IfErr r (IsSceneRefusal c.args.text.now)) c.in_err-map_err.was mapped)

pub loop-line-preserved : goal.loop-line-preserved
loop-line-preserved c =
    Reads-more c.args.text.now c.loop-line.number c.loop-line.rest.now c.loop-line.draft c.take_line.new.self c.in-Some.line.now c.in-Some.after.now
    c.loop-line.invariant c.in-Some.ensures.some c.in-Some.ensures.shorter
    (OnOk-before_map_err c.take_line.result c.map_err.result c.in_ok-map_err.field-0 c.in_ok-map_err.was c.map_err.ensures.variant
    c.take_line.ensures.taken)

pub into_scene-requires : goal.into_scene-requires
into_scene-requires c =
    let all = subst (λ (rest : List ℕ). Reads c.args.text.now c.loop-line.number rest c.loop-line.draft) c.in_default.ensures.none c.loop-line.invariant in
    IsSoundDraft-read c.args.text.now c.loop-line.number c.loop-line.draft all

pub returns-clause-scene : goal.returns-clause-scene
returns-clause-scene c =
    let all = subst (λ (rest : List ℕ). Reads c.args.text.now c.loop-line.number rest c.loop-line.draft) c.in_default.ensures.none c.loop-line.invariant in
    IfOk-map_err c.into_scene.result c.map_err-2.result _ _ c.map_err-2.ensures.cases
    (IfOk-two c.into_scene.result (λ scene complete fields. Reads-all c.args.text.now c.loop-line.number c.loop-line.draft scene all complete fields)
    c.into_scene.ensures.complete c.into_scene.ensures.fields)

pub returns-clause-fault : goal.returns-clause-fault
returns-clause-fault c =
    let all = subst (λ (rest : List ℕ). Reads c.args.text.now c.loop-line.number rest c.loop-line.draft) c.in_default.ensures.none c.loop-line.invariant in
    IfErr-map_err c.into_scene.result c.map_err-2.result _ _ (IsSceneRefusal c.args.text.now) c.map_err-2.ensures.cases
    (λ refusal d fault same. let given : d ≡ refusal_at (c.loop-line.number + 1) refusal = search rules in subst (IsSceneRefusal c.args.text.now) (sym given)
    (Reads-missing c.args.text.now c.loop-line.number c.loop-line.draft refusal all fault)) c.into_scene.ensures.refused
