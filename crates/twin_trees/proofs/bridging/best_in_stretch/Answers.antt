use Rattle.twin_trees.proofs.Words.{◌≡◌, ◌*◌, arith, refl, ap, sym, subst, ◌∙◌, inl, inr, cases_lt, true≢false, setup_of, StandsAt, Task, state_of_grown}
use Rattle.twin_trees.proofs.Words.{IsWithin, nowhere, numbered_at, Numbered, IsMatched, Matches, MayBeBest}
use Rattle.twin_trees.proofs.SearchedPairs.{IsBounded-grown, IsWithin-same}
use Rattle.twin_trees.proofs.bridging.best_in_stretch.Goals as goal
use Rattle.twin_trees.proofs.bridging.best_in_stretch.Goals.{then-has, else-has}

pub of_radius-disc-requires : goal.of_radius-disc-requires
of_radius-disc-requires g c = IsBounded-grown c.args.runs.now.first.now _ _ c.requires.stands

pub better-best-requires-clause-other : goal.better-best-requires-clause-other
better-best-requires-clause-other g c κs within =
    let other = state_of_grown c.args.runs.now.second.now in
    subst (λ (n : Numbered). StandsAt other.points n.number n.point) (sym c.at-other.ensures.value)
    (c.requires.nodes.stand c.loop-position.position nowhere (omega (arith, c.loop-position-test.true, c.requires.inside)))

pub better-best-requires-clause-within : goal.better-best-requires-clause-within
better-best-requires-clause-within g c κs within =
    let square = c.of_radius-disc.ensures.square ∙ ap (λ (t : Task). t.scene.step * t.scene.step) c.task.ensures in
    IsWithin-same c.of_radius-disc.ensures.center square c.at-other.result.point c.at-other.result.point refl (c.has.ensures.0 c.if-has.true)

pub loop-position-preserved : goal.loop-position-preserved
loop-position-preserved g c =
    let one = state_of_grown c.args.runs.now.first.now in
    let other = state_of_grown c.args.runs.now.second.now in
    let setup = setup_of c.args.runs.now.first.now.task.scene in
    let nodes = c.args.bands.now in
    let position = c.loop-position.position in
    let square = c.of_radius-disc.ensures.square ∙ ap (λ (t : Task). t.scene.step * t.scene.step) c.task.ensures in
    elim c.if-has.branch [
      | then-has w ↦ (
          let last : Matches setup one other w.better-best.result c.args.end.number (numbered_at nodes position).number =
          subst (Matches setup one other w.better-best.result c.args.end.number) (ap (λ (n : Numbered). n.number) c.at-other.ensures.value)
          w.better-best.ensures.pair in
          record {
            best = subst (MayBeBest setup one other) (sym w.best-is) w.better-best.ensures.best;
            no_worse = λ cost n d matched.
                subst (λ b. IsMatched b cost n d) (sym w.best-is)
                (w.better-best.ensures.no_worse cost n d (c.loop-position.invariant.no_worse cost n d matched));
            looked = λ j from below within.
                subst (λ b. Matches setup one other b c.args.end.number (numbered_at nodes j).number) (sym w.best-is)
                (elim (cases_lt j position) [
                  | inl before ↦ (λ candidate. w.better-best.ensures.no_worse _ _ _ (c.loop-position.invariant.looked j from before within candidate))
                  | inr past ↦ (
                      let e : position ≡ j = omega (arith, below, past) in
                      subst (λ i. Matches setup one other w.better-best.result c.args.end.number (numbered_at nodes i).number) e last)
                ]);
          })
      | else-has w ↦ record {
        best = subst (MayBeBest setup one other) (sym w.best-is) c.loop-position.invariant.best;
        no_worse = λ cost n d matched.
            subst (λ b. IsMatched b cost n d) (sym w.best-is) (c.loop-position.invariant.no_worse cost n d matched);
        looked = λ j from below within.
            subst (λ b. Matches setup one other b c.args.end.number (numbered_at nodes j).number) (sym w.best-is)
            (elim (cases_lt j position) [
              | inl before ↦ c.loop-position.invariant.looked j from before within
              | inr past ↦ (
                  let e : position ≡ j = omega (arith, below, past) in
                  let step = c.args.runs.now.first.now.task.scene.step in
                  let here : IsWithin c.args.end.point (step * step) (numbered_at nodes position).point =
                  subst (λ i. IsWithin c.args.end.point (step * step) (numbered_at nodes i).point) (sym e)
                  within in
                  absurd (true≢false (sym (c.has.ensures.1 (IsWithin-same (sym c.of_radius-disc.ensures.center) (sym square) c.at-other.result.point
                  (numbered_at nodes position).point (ap (λ (n : Numbered). n.point) c.at-other.ensures.value) here)) ∙ w.if-has.false)))
            ]);
      }
    ]

pub returns-clause-stretch : goal.returns-clause-stretch
returns-clause-stretch g c = λ j from below within.
    c.loop-position.invariant.looked j from (omega (arith, below, c.loop-position-test.false)) within
