use Rattle.plan_words.proofs.Words.{◌≡◌, ◌⊎◌, ◌+◌, ◌≤◌, ◌^◌, ℕ, ap, arith, inl, inr, length, subst, sym, ◌∙◌, HasQueued, LooksOn, SeesSamePoints, GoesOn}
use Rattle.plan_words.proofs.Words.{HasWholeShare, HasSeenParent, IsOn, same_name, SeesPoint, sees, PointOf, TreeOf, cost_in}
use Rattle.plan_words.proofs.ChildCosts.{HasSeenParent-kept}
use Rattle.plan_words.proofs.KeptPairs.{keeps_parent}
use Rattle.plan_words.proofs.LoweredChains.{HasQueued-since, LowersChildren-since, PostsChanged-since}
use Rattle.plan_words.proofs.SeatSteps.{Keeps-looked, LooksOn-loaded, LooksOn-trans, whole_later}
use Rattle.plan_words.proofs.SeenChildren.{HasFirstPairs-all, pair-seen, within-written}
use Rattle.plan_words.proofs.shared.Shared.lower_children.Goals as goal
use Rattle.plan_words.proofs.shared.Shared.lower_children.Goals.{After-lower_children}

-- the point was loaded
same_at : (c : After-lower_children) → (n : ℕ) → sees c.pass.inside.seat.me.0 (TreeOf n) ≡ sees c.args.pass.now.view (TreeOf n)
same_at c n = ap (λ p. sees p.view (TreeOf n)) c.pass.view_is ∙ c.point-point.ensures.seen.others (TreeOf n) (λ e. cc)

looks_at : (c : After-lower_children) → LooksOn c.args.pass.now.view c.lower_children.new.seat.me.0
looks_at c =
    LooksOn-trans c.args.pass.now.view c.pass.inside.seat.me.0 c.lower_children.new.seat.me.0
    (subst (λ p. LooksOn c.args.pass.now.view p.view) (sym c.pass.view_is)
    (LooksOn-loaded c.args.pass.now c.point-point.new.pass c.args.node _ _ c.point-point.ensures.view c.point-point.ensures.goes_on
    c.point-point.ensures.seen c.point-point.ensures.looked))
    c.lower_children.ensures.looks

waiting_is : (c : After-lower_children) → c.pass.inside.lists.waiting.nodes ≡ c.args.pass.now.lists.waiting
waiting_is c = ap (λ p. p.lists.waiting) c.pass.view_is ∙ ap (λ p. p.lists.waiting) c.point-point.ensures.view

only_at : (c : After-lower_children) → (n : ℕ) → IsOn c.lower_children.new.waiting.nodes n
    → IsOn c.args.pass.now.lists.waiting n ⊎ HasSeenParent c.args.pass.now.view c.args.node n
only_at c n on = elim (c.lower_children.ensures.only n on) [
  | inl was ↦ inl (subst (λ l. IsOn l n) (waiting_is c) was)
  | inr own ↦ inr (HasSeenParent-kept c.pass.inside.seat.me.0 c.args.pass.now.view c.args.node n (sym (same_at c n)) own)
]

keeps_at : (c : After-lower_children) → (n : ℕ) → IsOn c.args.pass.now.lists.waiting n → IsOn c.lower_children.new.waiting.nodes n
keeps_at c n on = c.lower_children.ensures.keeps n (subst (λ l. IsOn l n) (sym (waiting_is c)) on)

same_waiting : (c : After-lower_children) → (c.lower_children.new.waiting.nodes ≡ c.args.pass.now.lists.waiting)
    ⊎ HasQueued c.args.pass.now.view c.lower_children.new.seat.me.0 c.lower_children.new.waiting.nodes (length c.args.pass.now.view.run.marks + 1)
same_waiting c = elim c.lower_children.ensures.same [
  | inl e ↦ inl (e ∙ waiting_is c)
  | inr queued ↦ inr (HasQueued-since c.args.pass.now.view c.pass.inside.seat.me.0 c.lower_children.new.seat.me.0 c.args.node (same_at c)
      c.lower_children.new.waiting.nodes _ c.pass.inside.lists.waiting.size
      (omega (
        arith,
        c.pass.invariant.2.waiting,
        ap (λ p. length p.view.run.marks) c.pass.view_is,
        ap (λ p. length p.view.run.marks) c.point-point.ensures.view,
      ))
      queued)
]

pub word-requires : goal.word-requires
word-requires c =
    let seen = ap (λ p. sees p.view (TreeOf c.args.node)) c.pass.view_is ∙ c.point-point.ensures.seen.others (TreeOf c.args.node) (λ e. cc) in
    let within = within-written c.pass.inside.seat.me.0 c.args.node (omega (arith, seen, c.requires.pair)) in
    omega (arith, within, c.pass.invariant.3.for_each)

pub lower_children-requires-clause-above : goal.lower_children-requires-clause-above
lower_children-requires-clause-above c =
    let seen = ap (λ p. sees p.view (TreeOf c.args.node)) c.pass.view_is ∙ c.point-point.ensures.seen.others (TreeOf c.args.node) (λ e. cc) in
    let written : 2 ^ 63 ≤ sees c.pass.inside.seat.me.0 (TreeOf c.args.node) = omega (arith, seen, c.requires.pair) in
    record {
      stands = subst (λ p. SeesPoint p.view c.args.node c.point-point.result) (sym c.pass.view_is) c.point-point.ensures.found;
      bounded = c.point-point.ensures.bounded;
      written = written;
      cost =
          c.pair_in-cost.ensures.cost
          ∙ ap cost_in (c.word.ensures ∙ pair-seen c.pass.inside.seat.me.0 c.pass.inside.pairs c.args.node (HasFirstPairs-all _ _ c.pass.invariant.3) written);
    }

pub invariant_of-pass : goal.invariant_of-pass
invariant_of-pass c =
    let kept = c.lower_children.ensures in
    Keeps-looked c.pass.inside.seat.me c.lower_children.new.seat.me _ _ _ _ _ _ _ _ c.pass.inside.pairs _ c.pass.invariant kept.looks.goes_on
    kept.looks.kept.crew kept.sits.slots kept.held (ap (λ w. w.size) kept.size) c.in_err-found.ensures.pairs

pub returns-in_err-found-clause-looks : goal.returns-in_err-found-clause-looks
returns-in_err-found-clause-looks c = looks_at (goal.at.returns-in_err-found-clause-looks c).After-lower_children

pub returns-in_err-found-clause-keeps : goal.returns-in_err-found-clause-keeps
returns-in_err-found-clause-keeps c = keeps_at (goal.at.returns-in_err-found-clause-keeps c).After-lower_children

pub returns-in_err-found-clause-only : goal.returns-in_err-found-clause-only
returns-in_err-found-clause-only c = only_at (goal.at.returns-in_err-found-clause-only c).After-lower_children

pub returns-in_err-found-clause-same : goal.returns-in_err-found-clause-same
returns-in_err-found-clause-same c = same_waiting (goal.at.returns-in_err-found-clause-same c).After-lower_children

-- the child that was found is one of the list
pub set-requires-clause-node : goal.set-requires-clause-node
set-requires-clause-node c =
    let within = within-written c.pass.inside.seat.me.0 c.in_ok-found.found.node c.in_ok-found.ensures.found.0.written in
    omega (arith, within, c.pass.invariant.3.for_each, c.lower_children.ensures.as_many)

pub set-requires-clause-parent : goal.set-requires-clause-parent
set-requires-clause-parent c =
    let kept = c.lower_children.ensures in
    let within = within-written c.pass.inside.seat.me.0 c.in_ok-found.found.node c.in_ok-found.ensures.found.0.written in
    keeps_parent c.lower_children.new.seat.me _ _ _ _ _ _ c.lower_children.new.self c.in_ok-found.found.node c.in_ok-found.found.word
    (Keeps-looked c.pass.inside.seat.me c.lower_children.new.seat.me _ _ _ _ _ _ _ c.lower_children.new.waiting.size c.pass.inside.pairs _ c.pass.invariant
    kept.looks.goes_on kept.looks.kept.crew kept.sits.slots kept.held (ap (λ w. w.size) kept.size) c.in_ok-found.ensures.pairs_found)
    (omega (arith, within, c.pass.invariant.3.for_each, kept.as_many))

pub invariant_of-pass-2 : goal.invariant_of-pass-2
invariant_of-pass-2 c =
    let kept = c.lower_children.ensures in
    rw c.set.ensures
    (Keeps-looked c.pass.inside.seat.me c.lower_children.new.seat.me _ _ _ _ _ _ _ _ c.pass.inside.pairs _ c.pass.invariant kept.looks.goes_on
    kept.looks.kept.crew kept.sits.slots kept.held (ap (λ w. w.size) kept.size) c.in_ok-found.ensures.pairs_found)

pub returns-clause-looks : goal.returns-clause-looks
returns-clause-looks c = looks_at (goal.at.returns-clause-looks c).After-lower_children

pub returns-clause-lowered : goal.returns-clause-lowered
returns-clause-lowered c =
    let at = (goal.at.returns-clause-lowered c).After-lower_children in
    LowersChildren-since c.args.pass.now.view c.pass.inside.seat.me.0 c.lower_children.new.seat.me.0 c.args.node (same_at at)
    (λ n. c.in_ok-found.found.node ≡ n) c.in_ok-found.ensures.lowered

at_point : (c : After-lower_children) → GoesOn c.args.pass.now.view c.pass.inside.seat.me.0
at_point c = subst (λ p. GoesOn c.args.pass.now.view p.view) (sym c.pass.view_is) c.point-point.ensures.goes_on

pub returns-clause-posted : goal.returns-clause-posted
returns-clause-posted c =
    let at = (goal.at.returns-clause-posted c).After-lower_children in
    PostsChanged-since c.args.pass.now.view c.pass.inside.seat.me.0 c.lower_children.new.seat.me.0 c.args.node (same_at at)
    (λ n. c.in_ok-found.found.node ≡ n) (at_point at) c.in_ok-found.ensures.posted

pub returns-in_err-found-clause-posted : goal.returns-in_err-found-clause-posted
returns-in_err-found-clause-posted c n off changed on_goal =
    let at = (goal.at.returns-in_err-found-clause-posted c).After-lower_children in
    PostsChanged-since c.args.pass.now.view c.pass.inside.seat.me.0 c.lower_children.new.seat.me.0 c.args.node (same_at at)
    (λ n. ⊥) (at_point at) c.in_err-found.ensures.posted n (λ no. no) changed on_goal

pub returns-clause-parents : goal.returns-clause-parents
returns-clause-parents c n m off off_too less own =
    let at = (goal.at.returns-clause-parents c).After-lower_children in
    c.in_ok-found.ensures.parents n m off off_too (omega (arith, less, ap cost_in (same_at at n))) own

pub returns-clause-keeps : goal.returns-clause-keeps
returns-clause-keeps c = keeps_at (goal.at.returns-clause-keeps c).After-lower_children

pub returns-clause-only : goal.returns-clause-only
returns-clause-only c = only_at (goal.at.returns-clause-only c).After-lower_children

pub returns-clause-same : goal.returns-clause-same
returns-clause-same c = same_waiting (goal.at.returns-clause-same c).After-lower_children

points_at : (c : After-lower_children) → HasWholeShare c.args.pass.now.view → SeesSamePoints c.args.pass.now.view c.lower_children.new.seat.me.0
points_at c all n =
    let view_is = ap (λ p. p.view) c.pass.view_is in
    let before = c.args.pass.now.view in
    let whole = subst HasWholeShare (sym view_is)
    (whole_later before c.point-point.new.pass.view
    (LooksOn-loaded c.args.pass.now c.point-point.new.pass c.args.node _ _ c.point-point.ensures.view c.point-point.ensures.goes_on
    c.point-point.ensures.seen c.point-point.ensures.looked) all) in
    c.lower_children.ensures.points whole n ∙ ap (λ v. sees v (PointOf n)) view_is
    ∙ elim (same_name (PointOf n) (PointOf c.args.node)) [
      | inl e ↦ ap (sees c.point-point.new.pass.view) e ∙ c.point-point.ensures.whole all ∙ ap (sees before) (sym e)
      | inr apart ↦ c.point-point.ensures.seen.others (PointOf n) apart
    ]

pub returns-in_err-found-clause-points : goal.returns-in_err-found-clause-points
returns-in_err-found-clause-points c = points_at (goal.at.returns-in_err-found-clause-points c).After-lower_children

pub returns-clause-points : goal.returns-clause-points
returns-clause-points c = points_at (goal.at.returns-clause-points c).After-lower_children

pub returns-in_err-found-clause-lowered : goal.returns-in_err-found-clause-lowered
returns-in_err-found-clause-lowered c n off changed =
    let at = (goal.at.returns-in_err-found-clause-lowered c).After-lower_children in
    LowersChildren-since c.args.pass.now.view c.pass.inside.seat.me.0 c.lower_children.new.seat.me.0 c.args.node (same_at at)
    (λ n. ⊥) c.in_err-found.ensures.lowered n (λ no. no) changed

pub returns-in_err-found-clause-parents : goal.returns-in_err-found-clause-parents
returns-in_err-found-clause-parents c n m off off_too less own =
    let at = (goal.at.returns-in_err-found-clause-parents c).After-lower_children in
    c.in_err-found.ensures.parents n m (λ no. no) (λ no. no) (omega (arith, less, ap cost_in (same_at at n))) own
