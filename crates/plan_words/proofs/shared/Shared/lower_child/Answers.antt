use Rattle.plan_words.proofs.Words.{◌≡◌, ◌≢◌, ◌+◌, ◌<◌, ℕ, ap, arith, length, subst, sym, ◌∙◌, cond, ne_eqb, cost_of, PointOf, TreeOf}
use Rattle.plan_words.proofs.Words.{cost_in, tree_word, SeesPoint, sees}
use Rattle.std.proofs.lemmas.Bool.{eq-eqb}
use Rattle.plan_words.proofs.ChildCosts.{CostsAtMostThrough-kept, CostsAtMostThrough-looked, CostsAtMostThrough-lowered, HasSeenParent-kept}
use Rattle.plan_words.proofs.ChildCosts.{HasSeenParent-lowered, LooksAtChild, MayLower-child, cost-lowered, own_mid, stands_on}
use Rattle.plan_words.proofs.GoingOn.{GoesOn-trans}
use Rattle.plan_words.proofs.Posting.{goal-goes_on}
use Rattle.plan_words.proofs.SeatSteps.{LooksOn-trans, points_kept, whole_later}
use Rattle.plan_words.proofs.shared.Shared.lower_child.Goals as goal
use Rattle.plan_words.proofs.shared.Shared.lower_child.Goals.{After-cost, After-lower_at-found, After-point_in-point}

-- ---- the point was looked at

looked : (c : After-point_in-point)
    → LooksAtChild c.args.seat.now.me.0 c.point_at-word.new.seat.me.0 c.args.above c.args.child c.point_in-point.result
looked c = record {
  looks = c.point_at-word.ensures.looks;
  same = λ n. c.point_at-word.ensures.seen.others (TreeOf n) (λ e. cc);
  above_seen = c.requires.above;
  own = c.requires.child;
  stands = subst (SeesPoint c.point_at-word.new.seat.me.0 c.args.child) (sym c.point_in-point.ensures) c.point_at-word.ensures.found;
}

pub returns-then-kept_cost-cost-clause-is : goal.returns-then-kept_cost-cost-clause-is
returns-then-kept_cost-cost-clause-is c =
    let child = looked (goal.at.returns-then-kept_cost-cost-clause-is c).After-point_in-point in
    let kept = c.pair_in-kept_cost.ensures.cost in (
      own_mid _ _ _ _ _ child,
      CostsAtMostThrough-looked _ _ _ _ _ child
          (omega (arith, c.if-kept_cost-cost.true, kept, ap cost_in c.requires.seen, c.cost.ensures.value)),
    )

-- ---- the exchange

cost_is : (c : After-cost) → c.args.above.cost + c.cost.result ≡ c.args.above.cost + cost_of c.args.above.point c.point_in-point.result
cost_is c = omega (arith, c.cost.ensures.value)

pub lower_at-found-requires-clause-part : goal.lower_at-found-requires-clause-part
lower_at-found-requires-clause-part c = subst (λ l. 0 < length l) (sym c.point_at-word.ensures.looks.kept.crew) c.requires.part

pub lower_at-found-requires-clause-may : goal.lower_at-found-requires-clause-may
lower_at-found-requires-clause-may c =
    let at = goal.at.lower_at-found-requires-clause-may c in
    MayLower-child _ _ _ _ _ (looked at.After-point_in-point) (c.args.above.cost + c.cost.result) (cost_is at.After-cost)
    (omega (arith, c.cost.ensures.value, c.if-kept_cost-cost.false, c.pair_in-kept_cost.ensures.cost, ap cost_in c.requires.seen))

here : (c : After-lower_at-found) → c.lower_at-found.result ≡ c.args.seen
    → sees c.lower_at-found.new.seat.me.0 (TreeOf c.args.child) ≡ tree_word c.args.above.node (c.args.above.cost + c.cost.result)
here c found =
    c.lower_at-found.ensures.wrote.here
    ∙ ap (λ b. cond b (tree_word c.args.above.node (c.args.above.cost + c.cost.result)) c.lower_at-found.result)
    (eq-eqb c.lower_at-found.result c.args.seen found)

hand_kept : (c : After-lower_at-found) → c.args.hand.now ≡ c.lower_at-found.new.seat.me.0.hand
hand_kept c = c.requires.held ∙ sym (ap (λ v. v.hand) c.point_at-word.ensures.view) ∙ sym c.lower_at-found.ensures.hand

others_kept : (c : After-lower_at-found) → (n : ℕ) → n ≢ c.args.child
    → sees c.lower_at-found.new.seat.me.0 (TreeOf n) ≡ sees c.point_at-word.new.seat.me.0 (TreeOf n)
others_kept c n apart = c.lower_at-found.ensures.wrote.others (TreeOf n) (λ e. apart cc)

-- ---- another word was found

pub returns-else-found-seen-clause-held : goal.returns-else-found-seen-clause-held
returns-else-found-seen-clause-held c = hand_kept (goal.at.returns-else-found-seen-clause-held c).After-lower_at-found

pub returns-else-found-seen-clause-looks : goal.returns-else-found-seen-clause-looks
returns-else-found-seen-clause-looks c =
    LooksOn-trans c.args.seat.now.me.0 c.point_at-word.new.seat.me.0 c.lower_at-found.new.seat.me.0 c.point_at-word.ensures.looks
    c.lower_at-found.ensures.looks

pub returns-else-found-seen-clause-others : goal.returns-else-found-seen-clause-others
returns-else-found-seen-clause-others c n apart =
    others_kept (goal.at.returns-else-found-seen-clause-others c).After-lower_at-found n apart
    ∙ c.point_at-word.ensures.seen.others (TreeOf n) (λ e. cc)

pub returns-else-found-seen-clause-found : goal.returns-else-found-seen-clause-found
returns-else-found-seen-clause-found c =
    let found = c.lower_at-found.result in (
      sym (c.lower_at-found.ensures.wrote.here ∙ ap (λ b. cond b (tree_word c.args.above.node (c.args.above.cost + c.cost.result)) found)
          (ne_eqb found c.args.seen c.if-found-seen.false)),
      c.lower_at-found.ensures.found c.if-found-seen.false,
    )

pub returns-else-found-seen-clause-whole : goal.returns-else-found-seen-clause-whole
returns-else-found-seen-clause-whole c all =
    absurd (c.if-found-seen.false (c.lower_at-found.ensures.whole
    (whole_later c.args.seat.now.me.0 c.point_at-word.new.seat.me.0 c.point_at-word.ensures.looks all)))

pub returns-else-found-seen-clause-points : goal.returns-else-found-seen-clause-points
returns-else-found-seen-clause-points c all n =
    c.lower_at-found.ensures.wrote.others (PointOf n) (λ e. cc)
    ∙ points_kept c.args.seat.now.me.0 c.point_at-word.new.seat.me.0 c.args.child _ c.point_at-word.ensures.seen (c.point_at-word.ensures.whole all) n

-- ---- the child was lowered

pub post_child-requires-clause-held : goal.post_child-requires-clause-held
post_child-requires-clause-held c = hand_kept (goal.at.post_child-requires-clause-held c).After-lower_at-found

pub post_child-requires-clause-part : goal.post_child-requires-clause-part
post_child-requires-clause-part c =
    subst (λ l. 0 < length l) (sym (c.lower_at-found.ensures.looks.kept.crew ∙ c.point_at-word.ensures.looks.kept.crew)) c.requires.part

pub post_child-requires-clause-stands : goal.post_child-requires-clause-stands
post_child-requires-clause-stands c =
    stands_on c.point_at-word.new.seat.me.0 c.lower_at-found.new.seat.me.0 c.args.child c.point_in-point.result c.lower_at-found.ensures.looks.goes_on
    (looked (goal.at.post_child-requires-clause-stands c).After-point_in-point).stands

pub post_child-requires-clause-written : goal.post_child-requires-clause-written
post_child-requires-clause-written c =
    omega (arith, here (goal.at.post_child-requires-clause-written c).After-lower_at-found c.if-found-seen.true)

pub post_child-requires-clause-cost : goal.post_child-requires-clause-cost
post_child-requires-clause-cost c =
    let at = goal.at.post_child-requires-clause-cost c in
    sym (ap cost_in (here at.After-lower_at-found c.if-found-seen.true)
    ∙ cost-lowered _ _ _ _ _ (looked at.After-point_in-point) (c.args.above.cost + c.cost.result) (cost_is at.After-cost))

pub returns-then-found-seen-clause-looks : goal.returns-then-found-seen-clause-looks
returns-then-found-seen-clause-looks c =
    let mid = c.point_at-word.new.seat.me.0 in
    LooksOn-trans c.args.seat.now.me.0 mid c.post_child.new.seat.me.0 c.point_at-word.ensures.looks
    (LooksOn-trans mid c.lower_at-found.new.seat.me.0 c.post_child.new.seat.me.0 c.lower_at-found.ensures.looks c.post_child.ensures.looks)

pub returns-then-found-seen-clause-others : goal.returns-then-found-seen-clause-others
returns-then-found-seen-clause-others c n apart =
    ap (λ w. w (TreeOf n)) c.post_child.ensures.seen
    ∙ others_kept (goal.at.returns-then-found-seen-clause-others c).After-lower_at-found n apart
    ∙ c.point_at-word.ensures.seen.others (TreeOf n) (λ e. cc)

pub returns-then-found-seen-clause-here : goal.returns-then-found-seen-clause-here
returns-then-found-seen-clause-here c =
    c.pack_tree.ensures
    ∙ sym (ap (λ w. w (TreeOf c.args.child)) c.post_child.ensures.seen
    ∙ here (goal.at.returns-then-found-seen-clause-here c).After-lower_at-found c.if-found-seen.true)

-- the post shows no parent and no cost anew
pub returns-then-found-seen-clause-is : goal.returns-then-found-seen-clause-is
returns-then-found-seen-clause-is c =
    let at = goal.at.returns-then-found-seen-clause-is c in
    let after = c.lower_at-found.new.seat.me.0 in
    let last = c.post_child.new.seat.me.0 in
    let m = c.args.above.node in
    let seen : (n : ℕ) → sees last (TreeOf n) ≡ sees after (TreeOf n) = λ n. ap (λ w. w (TreeOf n)) c.post_child.ensures.seen in
    let child = looked at.After-point_in-point in
    let cost = c.args.above.cost + c.cost.result in
    let there = here at.After-lower_at-found c.if-found-seen.true in
    let goes_on = c.lower_at-found.ensures.looks.goes_on in
    let own = HasSeenParent-lowered _ _ _ _ _ child cost (cost_is at.After-cost) after goes_on there (others_kept at.After-lower_at-found) in
    let most = CostsAtMostThrough-lowered _ _ _ _ _ child cost (cost_is at.After-cost) after goes_on there (others_kept at.After-lower_at-found) in (
      HasSeenParent-kept after last m c.args.child (seen c.args.child) own,
      CostsAtMostThrough-kept after last m c.args.child c.post_child.ensures.looks.goes_on (seen c.args.child) (seen m) most,
    )

pub returns-then-found-seen-clause-posted : goal.returns-then-found-seen-clause-posted
returns-then-found-seen-clause-posted c changed on_goal =
    let at = goal.at.returns-then-found-seen-clause-posted c in
    let before = c.args.seat.now.me.0 in
    let mid = c.point_at-word.new.seat.me.0 in
    let after = c.lower_at-found.new.seat.me.0 in
    let level = cost-lowered _ _ _ _ _ (looked at.After-point_in-point) (c.args.above.cost + c.cost.result) (cost_is at.After-cost) in
    let there = goal-goes_on before after c.args.child
    (GoesOn-trans before mid after c.point_at-word.ensures.looks.goes_on c.lower_at-found.ensures.looks.goes_on) on_goal in
    omega (arith, c.post_child.ensures.posted there, level, ap cost_in c.pack_tree.ensures)

pub returns-then-found-seen-clause-points : goal.returns-then-found-seen-clause-points
returns-then-found-seen-clause-points c all n =
    ap (λ w. w (PointOf n)) c.post_child.ensures.seen ∙ c.lower_at-found.ensures.wrote.others (PointOf n) (λ e. cc)
    ∙ points_kept c.args.seat.now.me.0 c.point_at-word.new.seat.me.0 c.args.child _ c.point_at-word.ensures.seen (c.point_at-word.ensures.whole all) n
