-- Each step keeps the law of worlds: the lemma of its kind, at a moment.
use Rattle.step_core.proofs.Words.{◌∙◌, ◌+◌, ◌≤◌, refl, sym, ap, subst, inl, arith, IsLater, IsMoment, Moment, Step, Steps, steps_by, view_after, views_after}
use Rattle.step_core.proofs.Words.{best_with, hand_with_best, hand_with_post, joined, looker, parted, posted, stepped, worker_apart, AreBehind, Words, Best}
use Rattle.step_core.proofs.Words.{Count, AreBehind-refl, IsWorld}
use Rattle.step_core.proofs.Steps.FinishedMarks.{AreBehind-finished, IsTurnWord-packed, IsWorld-recorded}
use Rattle.step_core.proofs.OneView.LaterViews.{IsLater-counted, IsLater-half, IsLater-pointed, IsLater-treed, IsLater-claimed, IsLater-finished}
use Rattle.step_core.proofs.OneView.LaterViews.{IsLater-joined, IsLater-loaded, IsLater-parted, IsLater-stepped}
use Rattle.step_core.proofs.Parts.ViewLists.{at-set_other}
use Rattle.step_core.proofs.Seen.Looks.{AreBehind-write}
use Rattle.step_core.proofs.Steps.WorldJoins.{IsWorld-joined}
use Rattle.step_core.proofs.Steps.WorldNodes.{AreBehind-lowered, IsLater-lowered, IsWorld-lowered, AreBehind-half, AreBehind-pointed, AreBehind-treed}
use Rattle.step_core.proofs.Steps.WorldNodes.{IsLater-link, IsWorld-counted, IsWorld-half, IsWorld-linked, IsWorld-pointed, IsWorld-treed}
use Rattle.step_core.proofs.Steps.WorldPosts.{IsLater-best, IsWorld-best_loaded, IsWorld-posted}
use Rattle.step_core.proofs.Steps.WorldSplits.{IsCut-looker, IsCut-parted, IsWorld-cut}
use Rattle.step_core.proofs.Steps.WorldSteps.{IsWorld-claimed, IsWorld-loaded, live}

-- the law holds afterwards
pub IsWorld-stepped :
    (now : Moment) → IsMoment now → (step : Step) (after : Words) → Steps now step after → IsWorld now.run after (views_after now step)
IsWorld-stepped now is (Step.Claim g limit) after made =
    let may = made.may in
    IsWorld-claimed now.run now.words now.views now.id now.view is.world is.at is.own after g _ limit may.part may.idle may.of_run refl may.below may.within
    made.leaves
IsWorld-stepped now is (Step.Load name) after made =
    subst (λ words. IsWorld now.run words (views_after now (Step.Load name))) (sym made.leaves)
    (IsWorld-loaded now.run now.words now.views now.id now.view is.world is.at is.own name made.may)
IsWorld-stepped now is (Step.WritePoint hand nearest at) after made =
    IsWorld-pointed now.run now.words after now.views now.id now.view is.world is.at is.own hand made.may.0.held made.may.0.far at made.leaves nearest
    made.may.1 made.may.2
IsWorld-stepped now is (Step.WriteFirst hand parent cost) after made =
    IsWorld-half now.run now.words after now.views now.id now.view is.world is.at is.own hand made.may.0.held made.may.0.far parent cost made.may.1
    made.leaves
IsWorld-stepped now is (Step.WriteTree hand) after made =
    IsWorld-treed now.run now.words after now.views now.id now.view is.world is.at is.own hand made.may.held made.may.far made.leaves
IsWorld-stepped now is (Step.Link hand node side) after made =
    let may = made.may in
    IsWorld-linked now.run now.words after now.views now.id now.view is.world is.at is.own hand may.holds.held may.holds.far node side may.leads may.empty
    made.leaves
IsWorld-stepped now is (Step.Add hand) after made =
    IsWorld-counted now.run now.words after now.views now.id now.view is.world is.at is.own hand made.may.held made.may.far made.leaves
IsWorld-stepped now is (Step.Lower node parent cost) after made =
    let may = made.may in
    IsWorld-lowered now.run now.words now.views now.id now.view is.world is.at is.own node parent cost may.may may.as_seen after made.leaves may.part
IsWorld-stepped now is Step.LoadBest after made =
    subst (λ words. IsWorld now.run words (views_after now Step.LoadBest)) (sym made.leaves)
    (IsWorld-best_loaded now.run now.words now.views now.id now.view is.world is.at is.own)
IsWorld-stepped now is (Step.Post n) after made = IsWorld-posted now.run now.words after now.views now.id now.view is.world is.at is.own n made.may made.leaves
IsWorld-stepped now is (Step.Finish hand entry) after made =
    let may = made.may in
    IsWorld-recorded now.run now.words after now.views now.id now.view is.world is.at is.own hand may.held may.member may.crew may.first entry may.fits
    may.worker may.turn may.stage may.true made.leaves
IsWorld-stepped now is Step.HandOn after made =
    subst (λ words. IsWorld now.run words (views_after now Step.HandOn)) (sym made.leaves)
    (IsWorld-cut now.run now.words now.views now.id now.view (parted now.view) (worker_apart now.view) is.world is.at is.own (IsCut-parted now.view))
IsWorld-stepped now is Step.Look after made =
    subst (λ words. IsWorld now.run words (views_after now Step.Look)) (sym made.leaves)
    (IsWorld-cut now.run now.words now.views now.id now.view (stepped now.view) (looker now.view) is.world is.at is.own (IsCut-looker now.view))
IsWorld-stepped now is (Step.Join other taken) after made =
    let may = made.may in
    subst (λ words. IsWorld now.run words (views_after now (Step.Join other taken))) (sym made.leaves)
    (IsWorld-joined now.run now.words now.views now.id now.view other taken is.world is.at is.own may.own may.apart
    (at-set_other now.views now.id other (joined now.view taken) may.apart ∙ may.at) may.idle may.idle_other)

-- what each word was may become what it is
pub AreBehind-stepped : (now : Moment) → IsMoment now → (step : Step) (after : Words) → Steps now step after → AreBehind now.words after
AreBehind-stepped now is (Step.Claim g limit) after made = AreBehind-write _ _ now.words after made.leaves (omega arith)
AreBehind-stepped now is (Step.WritePoint hand nearest at) after made =
    AreBehind-pointed is made.may.0.held made.may.0.far at after made.leaves
AreBehind-stepped now is (Step.WriteFirst hand parent cost) after made =
    AreBehind-half now.run now.words after now.views now.id now.view is.world is.at is.own hand made.may.0.held made.may.0.far _ made.leaves
AreBehind-stepped now is (Step.WriteTree hand) after made =
    AreBehind-treed now.run now.words after now.views now.id now.view is.world is.at is.own hand made.may.held made.may.far _ made.leaves
AreBehind-stepped now is (Step.Lower node parent cost) after made =
    AreBehind-lowered now.run now.words now.views now.id now.view is.world is.at is.own node parent cost made.may.may made.may.as_seen after made.leaves
AreBehind-stepped now is (Step.Finish hand entry) after made =
    AreBehind-finished now.run now.words after now.views now.id now.view is.world is.at hand made.may.held _ made.leaves
AreBehind-stepped now is (Step.Link hand node side) after made = AreBehind-write _ _ now.words after made.leaves (inl made.may.empty)
AreBehind-stepped now is (Step.Add hand) after made = AreBehind-write _ _ now.words after made.leaves (omega arith)
AreBehind-stepped now is (Step.Post n) after made = AreBehind-write _ _ now.words after made.leaves tt
AreBehind-stepped now is step after made = subst (AreBehind now.words) (sym made.leaves) (AreBehind-refl now.words)

-- the view that stepped is a later one
pub IsLater-step : (now : Moment) → IsMoment now → (step : Step) (after : Words) → Steps now step after → IsLater now.view (view_after now step)
IsLater-step now is (Step.Claim g limit) after made =
    IsLater-claimed now.run now.words now.views now.id now.view is.world is.at is.own g _ limit made.may.of_run refl (steps_by now)
IsLater-step now is (Step.Load name) after made = IsLater-loaded now.run now.words now.views now.id now.view is.world is.at is.own name made.may
IsLater-step now is (Step.WritePoint hand nearest at) after made = IsLater-pointed now.view hand nearest at
IsLater-step now is (Step.WriteFirst hand parent cost) after made = IsLater-half now.view hand parent cost
IsLater-step now is (Step.WriteTree hand) after made = IsLater-treed now.view hand
IsLater-step now is (Step.Link hand node side) after made =
    let may = made.may in
    IsLater-link now.run now.words now.words now.views now.id now.view is.world is.at is.own hand may.holds.held may.holds.far node side may.leads may.empty
    (steps_by now)
IsLater-step now is (Step.Add hand) after made = IsLater-counted now.view hand (now.words Count + 1) (steps_by now)
IsLater-step now is (Step.Lower node parent cost) after made =
    IsLater-lowered now.run now.words now.views now.id now.view is.world is.at is.own node parent cost made.may.may made.may.as_seen (steps_by now)
IsLater-step now is Step.LoadBest after made =
    IsLater-best now.run now.view (live now.run now.words now.views now.id now.view is.world is.at is.own) (now.words Best)
    (hand_with_best now.view.hand (now.words Best)) now.view.notes (is.world.bests now.id now.view is.at is.own).falls
IsLater-step now is (Step.Post n) after made =
    let falls = (is.world.bests now.id now.view is.at is.own).falls in
    IsLater-best now.run now.view (live now.run now.words now.views now.id now.view is.world is.at is.own) (best_with now.view n (now.words Best))
    (hand_with_post now.view.hand n) (posted now.view n (now.words Best) (steps_by now)).notes (omega (arith, falls))
IsLater-step now is (Step.Finish hand entry) after made =
    IsLater-finished now.run now.words now.views now.id now.view is.world is.at is.own hand made.may.held _ (IsTurnWord-packed entry made.may.fits).written
IsLater-step now is Step.HandOn after made = IsLater-parted now.view
IsLater-step now is Step.Look after made = IsLater-stepped now.view
IsLater-step now is (Step.Join other taken) after made = IsLater-joined now.view taken

-- the best word does not rise
pub best-stepped : (now : Moment) → IsMoment now → (step : Step) (after : Words) → Steps now step after → after Best ≤ now.words Best
best-stepped now is (Step.Post n) after made = omega (arith, made.leaves.here)
best-stepped now is (Step.Load name) after made = omega (arith, ap (λ w. w Best) made.leaves)
best-stepped now is Step.LoadBest after made = omega (arith, ap (λ w. w Best) made.leaves)
best-stepped now is Step.HandOn after made = omega (arith, ap (λ w. w Best) made.leaves)
best-stepped now is Step.Look after made = omega (arith, ap (λ w. w Best) made.leaves)
best-stepped now is (Step.Join other taken) after made = omega (arith, ap (λ w. w Best) made.leaves)
best-stepped now is step after made = omega (arith, made.leaves.others Best (λ e. cc))
