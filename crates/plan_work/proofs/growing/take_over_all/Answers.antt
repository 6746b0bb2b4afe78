use Rattle.plan_work.proofs.Words.{◌≡◌, refl, sym, ap, ◌∙◌, subst, arith, ◌++◌, [], ◌∷◌, All, option_to_list, MayClaim, PassState, HasLeft, left_by, left_of}
use Rattle.plan_work.proofs.Words.{rules, Stopped}
use Rattle.plan_work.proofs.RetiredWorkers.{has_left, left_of-last}
use Rattle.plan_work.proofs.TakenOver.{All-front, All-next, HasTakenOver-alone, HasTakenOver-more, not_alone, only, taken_next}
use Rattle.plan_work.proofs.growing.take_over_all.Goals as goal

pub others-init : goal.others-init
others-init c =
    let rest = c.pop.new.self.items in
    let left = c.in-Some-Stopped.last in
    let split : c.args.all.items ≡ rest ++ Stopped left ∷ [] =
    c.pop.ensures.items ∙ ap (λ o. rest ++ option_to_list o) c.in-Some-Stopped.is ∙ ap (λ w. rest ++ w ∷ []) c.in-Some-Stopped.field-0-is in
    let lefts : left_of c.args.all.items ≡ left_of rest ++ left ∷ [] = left_of-last c.args.all.items rest (Stopped left) left split refl in
    let all = subst (All (MayClaim c.args.shared.now)) lefts c.requires.may_claim in
    record {
      stopped = All-front HasLeft rest (Stopped left ∷ []) (subst (All HasLeft) split c.requires.stopped);
      rest = All-front (MayClaim c.args.shared.now) (left_of rest) (left ∷ []) all;
      taken = (left ∷ [], lefts, HasTakenOver-alone c.args.shared.now left (All-next (MayClaim c.args.shared.now) (left_of rest) left all));
      one = λ own is. only (left_of rest) left own (sym lefts ∙ is);
    }

pub unreachable-requires-in_default-other : goal.unreachable-requires-in_default-other
unreachable-requires-in_default-other c =
    let rest = c.pop-in-others.new.self.items in
    let other = c.in-Some.other in
    let split : c.others.others.items ≡ rest ++ other ∷ [] = c.pop-in-others.ensures.items ∙ ap (λ o. rest ++ option_to_list o) c.in-Some.is in
    has_left other (All-next HasLeft rest other (subst (All HasLeft) split c.others.invariant.stopped)) c.in_default-other.not-Stopped

pub join_retired-requires : goal.join_retired-requires
join_retired-requires c =
    let rest = c.pop-in-others.new.self.items in
    let left = c.in-Stopped.retired in
    let split : c.others.others.items ≡ rest ++ c.in-Some.other ∷ [] =
    c.pop-in-others.ensures.items ∙ ap (λ o. rest ++ option_to_list o) c.in-Some.is in
    let lefts : left_of c.others.others.items ≡ left_of rest ++ left ∷ [] =
    left_of-last c.others.others.items rest c.in-Some.other left split (ap left_by c.in-Stopped.is) in
    let claims = All-next (MayClaim c.args.shared.now) (left_of rest) left (subst (All (MayClaim c.args.shared.now)) lefts c.others.invariant.rest) in
    record {
      belongs = search rules;
      idle = search rules;
      belongs_too = claims.belongs;
      idle_too = claims.idle;
    }

pub others-preserved : goal.others-preserved
others-preserved c =
    let rest = c.pop-in-others.new.self.items in
    let other = c.in-Some.other in
    let left = c.in-Stopped.retired in
    let shared = c.args.shared.now in
    let split : c.others.others.items ≡ rest ++ other ∷ [] = c.pop-in-others.ensures.items ∙ ap (λ o. rest ++ option_to_list o) c.in-Some.is in
    let lefts : left_of c.others.others.items ≡ left_of rest ++ left ∷ [] =
    left_of-last c.others.others.items rest other left split (ap left_by c.in-Stopped.is) in
    let all = subst (All (MayClaim shared)) lefts c.others.invariant.rest in
    let taken = c.others.invariant.taken.0 in
    let takes = c.others.invariant.taken.2 in
    let may : MayClaim shared c.join_retired.new.retired = record {
      belongs = c.join_retired.ensures.belongs;
      part = omega (arith, c.join_retired.ensures.share, takes.may_claim.part);
      idle = c.join_retired.ensures.idle;
    } in
    record {
      stopped = All-front HasLeft rest (other ∷ []) (subst (All HasLeft) split c.others.invariant.stopped);
      rest = All-front (MayClaim shared) (left_of rest) (left ∷ []) all;
      taken = (
        left ∷ taken,
        taken_next (left_of c.args.all.items) (left_of c.others.others.items) left (left_of rest) taken c.others.invariant.taken.1 lefts,
        HasTakenOver-more shared taken c.others.taken left c.join_retired.new.retired takes may c.join_retired.ensures.goes_on.later.seen
            c.join_retired.ensures.others_seen c.join_retired.ensures.share (ap (λ (p : PassState). p.view.most) c.join_retired.ensures.view),
      );
      one = λ own is.
          absurd
          (not_alone (left_of rest) taken left own shared c.others.taken takes (sym is ∙ c.others.invariant.taken.1 ∙ ap (λ l. l ++ taken) lefts));
    }
