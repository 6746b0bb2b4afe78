use Rattle.twin_trees.proofs.Words.{◌*◌, ap, ◌∙◌, inl, inr, cases_lt, setup_of, Task, state_of_grown}
use Rattle.twin_trees.proofs.SearchedPairs.{HasNoneBetween-same, IsBounded-grown, Matches-walked}
use Rattle.twin_trees.proofs.bridging.best_from.Goals as goal

pub of_radius-disc-requires : goal.of_radius-disc-requires
of_radius-disc-requires g c = IsBounded-grown c.args.runs.now.first.now _ _ c.requires.stands

pub walk-preserved : goal.walk-preserved
walk-preserved g c =
    let nodes = c.args.bands.now in
    let square = c.of_radius-disc.ensures.square ∙ ap (λ (t : Task). t.scene.step * t.scene.step) c.task.ensures in
    let none = HasNoneBetween-same c.of_radius-disc.ensures.center square nodes c.walk.at c.in-Some.stretch.start c.in-Some.ensures.skipped in
    record {
      best = c.best_in_stretch-best.ensures.best;
      no_worse = λ cost n d matched. c.best_in_stretch-best.ensures.no_worse cost n d (c.walk.invariant.no_worse cost n d matched);
      looked = λ j below within.
          elim (cases_lt j c.walk.at) [
            | inl before ↦ (λ candidate. c.best_in_stretch-best.ensures.no_worse _ _ _ (c.walk.invariant.looked j before within candidate))
            | inr after ↦
                elim (cases_lt j c.in-Some.stretch.start) [
                  | inl skipped ↦ absurd (none j after skipped within)
                  | inr reached ↦ c.best_in_stretch-best.ensures.stretch j reached below within
                ]
          ];
    }

pub returns-clause-from : goal.returns-clause-from
returns-clause-from g c =
    let one = state_of_grown c.args.runs.now.first.now in
    let other = state_of_grown c.args.runs.now.second.now in
    let setup = setup_of c.args.runs.now.first.now.task.scene in
    let nodes = c.args.bands.now in
    let square = c.of_radius-disc.ensures.square ∙ ap (λ (t : Task). t.scene.step * t.scene.step) c.task.ensures in
    Matches-walked setup one other nodes c.requires.nodes c.args.end.number c.args.end.point c.requires.stands c.walk.best c.walk.at
    c.walk.invariant.looked (HasNoneBetween-same c.of_radius-disc.ensures.center square nodes c.walk.at _ c.in_default.ensures)
