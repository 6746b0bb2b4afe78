use Rattle.kd_shared.proofs.Words.{◌≡◌, ◌⊎◌, ℕ, ◌<◌, not, Bool, true, false, List, [], ◌∷◌, ◌++◌, inl, inr, refl, sym, ap, ◌∙◌, subst, if◌then◌else◌, IsFalse}
use Rattle.kd_shared.proofs.Words.{Point, Sight, child_of_word, ChildOf, PassState, Spot, sight_in, far_side, line_square, StacksFar, LoadsChild, OnlyLooks}
use Rattle.kd_shared.proofs.Words.{PassLooks}
use Rattle.kd_shared.proofs.Looking.{LoadsChild-child}
use Rattle.kd_shared.proofs.PassLooks.{PassLooks-load}
use Rattle.kd_shared.proofs.nearest_search.stack_far_side.Goals as goal
use Rattle.kd_shared.proofs.nearest_search.stack_far_side.Goals.{After-put_spot_if}

load : (c : After-put_spot_if) → PassLooks c.args.shared.now c.args.pass.now c.child_or_start-far.new.pass
load c =
    PassLooks-load c.args.shared.now c.args.pass.now c.child_or_start-far.new.pass (ChildOf c.args.here.node (not c.goes_right_of-right.result)) _ _
    c.requires.belongs tt c.child_or_start-far.ensures.view c.child_or_start-far.ensures.goes_on c.child_or_start-far.ensures.seen
    c.child_or_start-far.ensures.looked c.child_or_start-far.ensures.whole

pub returns-clause-looks : goal.returns-clause-looks
returns-clause-looks c =
    subst (λ (p : PassState). OnlyLooks c.args.pass.now.view p.view) (sym c.put_spot_if.ensures.others) (load c).looks

StacksFar-loaded : (before after : Sight) (target : Point) (bound : ℕ) (stack put : List Spot) (spot : Spot) (child : ℕ) (wanted : Bool)
    → LoadsChild before after spot.node (far_side spot target) (child_of_word child)
    → (IsFalse wanted → (child ≡ 0) ⊎ (bound < line_square spot target)) → put ≡ (if wanted then stack ++ spot ∷ [] else stack)
    → StacksFar before after target bound stack put spot
StacksFar-loaded before after target bound stack put spot child true load left is =
    record { later = load.later; keeps = load.keeps; points = load.points; stacks = inr is }
StacksFar-loaded before after target bound stack put spot child false load left is = record {
  later = load.later;
  keeps = load.keeps;
  points = load.points;
  stacks = elim (left refl) [
    | inl none ↦ inl (inl (subst (λ w. LoadsChild before after spot.node (far_side spot target) (child_of_word w)) none load).finds, is)
    | inr too_far ↦ inl (inr too_far, is)
  ];
}

pub returns-clause-stacks : goal.returns-clause-stacks
returns-clause-stacks c =
    let before = c.args.pass.now in
    let put = ap (λ l. l.search.spots) c.put_spot_if.ensures.put
    ∙ ap (λ (p : PassState). if c.is_left.result then p.lists.search.spots ++ c.args.here ∷ [] else p.lists.search.spots) (load c).view_alone in
    subst
    (λ (p : PassState). StacksFar (sight_in before.view) (sight_in p.view) c.args.p c.args.bound before.lists.search.spots
    c.put_spot_if.new.self.lists.search.spots c.args.here)
    (sym c.put_spot_if.ensures.others)
    (StacksFar-loaded (sight_in before.view) (sight_in c.child_or_start-far.new.pass.view) c.args.p c.args.bound before.lists.search.spots
    c.put_spot_if.new.self.lists.search.spots c.args.here c.child_or_start-far.result c.is_left.result
    (subst
    (λ side. LoadsChild (sight_in before.view) (sight_in c.child_or_start-far.new.pass.view) c.args.here.node (not side)
    (child_of_word c.child_or_start-far.result))
    c.goes_right_of-right.ensures
    (LoadsChild-child before.view c.child_or_start-far.new.pass.view c.args.here.node c.child_or_start-far.ensures.goes_on
    (not c.goes_right_of-right.result) (child_of_word c.child_or_start-far.result) c.child_or_start-far.ensures.found
    c.child_or_start-far.ensures.seen.others))
    c.is_left.ensures put)
