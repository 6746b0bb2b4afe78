use Rattle.scene_text.proofs.Words.{ℕ, ◌≡◌, ◌+◌, IfErr, IfOk, subst, sym, ap, ◌∙◌, rules, arith, err_from_is_err_and, Spells, supported, IsPartRefusal}
use Rattle.scene_text.proofs.Words.{refusal_at}
use Rattle.scene_text.proofs.MappedErrors.{IfErr-map_err, IfOk-map_err, IfOk-two, OnOk-before_map_err}
use Rattle.scene_text.proofs.PartLemmas.{IsPartRefusal-at, ReadsPart-more, ReadsPart-none, ReadsPart-refused, all_lines, head_text, reads_all}
use Rattle.scene_text.proofs.ReaderLemmas.{IsSoundDraft-read, Reads-all, Reads-missing, Reads-none}
use Rattle.scene_text.proofs.batch_reader.read_part.Goals as goal

pub loop-line-init : goal.loop-line-init
loop-line-init c =
    ReadsPart-none c.args.text.now c.new-draft.result
    (Reads-none (head_text c.args.text.now) c.new-draft.result c.new-draft.ensures.version c.new-draft.ensures.given)

pub returns-in_err-map_err-clause-fault : goal.returns-in_err-map_err-clause-fault
returns-in_err-map_err-clause-fault c =
    let part = head_text c.args.text.now in
    let mapped = IfErr-map_err c.take_line.result c.map_err.result _ _ (IsPartRefusal c.args.before part) c.map_err.ensures.cases
    (λ refusal d fault same. let given : d ≡ refusal_at (c.args.before + (c.loop-line.lines + 1)) refusal = search rules in
    subst (IsPartRefusal c.args.before part) (sym given)
    (IsPartRefusal-at c.args.before (c.loop-line.lines + 1) part refusal
    (ReadsPart-refused c.loop-line.rest.now c.in-Some.line.now c.in-Some.after.now c.in-Some.ensures.some c.in-Some.ensures.own
    c.args.text.now c.loop-line.lines c.loop-line.draft refusal c.loop-line.invariant fault))) c.take_line.ensures.refused in
    let p = err_from_is_err_and c.from_residual.result c.from_residual.ensures.1 in
    rw (p.1, p.2) (subst (λ r. IfErr r (IsPartRefusal c.args.before part)) c.in_err-map_err.was mapped)

pub loop-line-preserved : goal.loop-line-preserved
loop-line-preserved c =
    ReadsPart-more c.loop-line.rest.now c.in-Some.line.now c.in-Some.after.now c.in-Some.ensures.some c.in-Some.ensures.own
    c.args.text.now c.loop-line.lines c.loop-line.draft c.take_line.new.self c.loop-line.invariant c.in-Some.ensures.shorter
    (OnOk-before_map_err c.take_line.result c.map_err.result c.in_ok-map_err.field-0 c.in_ok-map_err.was c.map_err.ensures.variant
    c.take_line.ensures.taken)

pub into_scene-requires : goal.into_scene-requires
into_scene-requires c =
    IsSoundDraft-read (head_text c.args.text.now) c.loop-line.lines c.loop-line.draft
    (reads_all c.args.text.now c.loop-line.lines c.loop-line.rest.now c.loop-line.draft c.loop-line.invariant c.in_default.ensures.none)

pub returns-in_err-scene-clause-fault : goal.returns-in_err-scene-clause-fault
returns-in_err-scene-clause-fault c =
    let part = head_text c.args.text.now in
    let before = c.args.before in
    let lines = c.loop-line.lines in
    let all = reads_all c.args.text.now lines c.loop-line.rest.now c.loop-line.draft c.loop-line.invariant c.in_default.ensures.none in
    let grouped : before + lines + 1 ≡ before + (lines + 1) = omega arith in
    let mapped = IfErr-map_err c.into_scene.result c.map_err-2.result _ _ (IsPartRefusal before part) c.map_err-2.ensures.cases
    (λ refusal d fault same. let given : d ≡ refusal_at (before + lines + 1) refusal = search rules in
    subst (IsPartRefusal before part) (sym (given ∙ ap (λ (n : ℕ). refusal_at n refusal) grouped))
    (IsPartRefusal-at before (lines + 1) part refusal (Reads-missing part lines c.loop-line.draft refusal all fault))) c.into_scene.ensures.refused in
    let p = err_from_is_err_and c.from_residual-in_err-scene.result c.from_residual-in_err-scene.ensures.1 in
    rw (p.1, p.2) (subst (λ r. IfErr r (IsPartRefusal before part)) c.in_err-scene.was mapped)

pub returns-clause-scene : goal.returns-clause-scene
returns-clause-scene c =
    let part = head_text c.args.text.now in
    let all = reads_all c.args.text.now c.loop-line.lines c.loop-line.rest.now c.loop-line.draft c.loop-line.invariant c.in_default.ensures.none in
    let mapped = IfOk-map_err c.into_scene.result c.map_err-2.result _ _ c.map_err-2.ensures.cases
    (IfOk-two c.into_scene.result (λ scene complete fields. Reads-all part c.loop-line.lines c.loop-line.draft scene all complete fields)
    c.into_scene.ensures.complete c.into_scene.ensures.fields) in
    subst (λ r. IfOk r (Spells supported part)) c.in_ok-scene.was mapped

pub returns-clause-lines : goal.returns-clause-lines
returns-clause-lines c =
    all_lines c.args.text.now c.loop-line.lines c.loop-line.rest.now c.loop-line.draft c.loop-line.invariant c.in_default.ensures.none
