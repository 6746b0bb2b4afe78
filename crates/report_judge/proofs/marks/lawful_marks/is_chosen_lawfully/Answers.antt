use Rattle.report_judge.proofs.Words.{◌≡◌, ℕ, sym, ◌∙◌, subst, IsTrue, Radii, radius_of_class, Scene, IsNeighbour, Clear, is_within, point_at}
use Rattle.report_judge.proofs.Words.{point_of, AreRadiiOf, run_of, setup_by}
use Rattle.report_judge.proofs.Workers.SeenLaws.{count_before-earlier}
use Rattle.report_judge.proofs.marks.lawful_marks.is_chosen_lawfully.Goals as goal

pub has_class-requires-clause-seen : goal.has_class-requires-clause-seen
has_class-requires-clause-seen g c = c.requires.seen.counted ∙ sym (count_before-earlier (run_of c.args.judged.now) c.args.marked.entry)

pub returns-then-not-is_clear_from_nearest : goal.returns-then-not-is_clear_from_nearest
returns-then-not-is_clear_from_nearest g c = (
  λ h. cc,
  λ both.
      let from = point_of (run_of c.args.judged.now).points c.args.marked.entry.nearest in
      sym c.if-not-is_clear_from_nearest.true
      ∙ c.is_clear_from_nearest.ensures.1 (subst (λ s. Clear s from c.args.p) (sym c.requires.asked.space_is) both.1.clear),
)

-- a radius of the table is that of the scene
is_of_scene : (scene : Scene) (radii : Radii) → AreRadiiOf scene radii → (class : ℕ) {radius : ℕ}
    → radius ≡ radius_of_class radii.step radii.gamma class → radius ≡ radius_of_class scene.step scene.gamma class
is_of_scene scene radii are class is = is ∙ (λ i. radius_of_class (are.0 i) (are.1 i) class)

pub returns : goal.returns
returns g c =
    let run = run_of c.args.judged.now in
    let p = c.args.p in
    let judged = c.args.judged.now in
    let radius = is_of_scene judged.task.now.scene judged.radii.now c.requires.asked.radii_are c.args.marked.entry.class c.radius_of_class-radius.ensures in (
      λ h.
          let kept = (c.is_nearest_and_keeps_near.ensures.0 h).1 in (
            (c.is_nearest_and_keeps_near.ensures.0 h).0,
            record {
              clear =
                  subst (λ s. Clear s (point_of run.points c.args.marked.entry.nearest) p) c.requires.asked.space_is
                  (c.is_clear_from_nearest.ensures.0 c.if-not-is_clear_from_nearest.false);
              of_class = c.has_class.ensures.class.0 c.if-not-has_class.false;
              chosen = λ i near.
                  (kept i near.earlier (subst (λ r. IsTrue (is_within p r (point_at run.points i))) (sym radius) near.near)
                  (subst (λ s. Clear s (point_of run.points i) p) (sym c.requires.asked.space_is) near.clear)).chosen;
              rewired = λ i near.
                  (kept i near.earlier (subst (λ r. IsTrue (is_within p r (point_at run.points i))) (sym radius) near.near)
                  (subst (λ s. Clear s (point_of run.points i) p) (sym c.requires.asked.space_is) near.clear)).rewired;
            },
          ),
      λ both.
          c.is_nearest_and_keeps_near.ensures.1 (
            both.0,
            λ i earlier within cleared.
                let near : IsNeighbour (setup_by c.args.judged.now) run c.args.marked.entry c.args.marked.entry.class p i =
                record {
                  earlier = earlier;
                  near = subst (λ r. IsTrue (is_within p r (point_at run.points i))) radius within;
                  clear = subst (λ s. Clear s (point_of run.points i) p) c.requires.asked.space_is cleared;
                } in
                record { chosen = both.1.chosen i near; rewired = both.1.rewired i near },
          ),
    )
