use Rattle.plan_words.proofs.Words.{◌≡◌, ◌≢◌, ◌⊎◌, ◌<◌, ℕ, suc, zero, ap, arith, inl, inr, length, refl, subst, sym, ◌∙◌, ne_eqb, not, slice_index, slice_set}
use Rattle.plan_words.proofs.Words.{get_or_default, length-set, FindsLess, sibling_chain_in, HasFirstPairs, WaitingState, AreMembers, siblings_from, TreeOf}
use Rattle.plan_words.proofs.Words.{best_word, cost_in, ChildIndex, sees}
use Rattle.plan_words.proofs.ChildCosts.{IsSeenAbove-kept}
use Rattle.plan_words.proofs.LoweredChains.{HasFirstPairs-at, IsLowering-ends, IsLowering-start, IsLowering-step, chains-at, child_here, child_low}
use Rattle.plan_words.proofs.LoweredChains.{child_own, child_seen, found_less, lowered_found, own_now, own_was, parents_found, points_then}
use Rattle.plan_words.proofs.LoweredChains.{posted_found, same_found}
use Rattle.plan_words.proofs.SeatSteps.{LooksOn-trans}
use Rattle.plan_words.proofs.SeenChildren.{chain-HasSeenParent}
use Rattle.plan_words.proofs.lowered_children.lower_chain.Goals as goal
use Rattle.plan_words.proofs.lowered_children.lower_chain.Goals.{After-lower_child}

pub children-init : goal.children-init
children-init c =
    let words = c.args.words.now.items in
    record {
      sits = c.requires.sits;
      held = c.requires.held;
      capacity = refl;
      lowering =
          IsLowering-start c.args.children.now c.args.from.above.node c.args.seat.now.me.0 words c.args.waiting.now.nodes c.args.waiting.now.size
          c.first_child-child.result c.requires.sits.lawful c.requires.pairs
          (c.first_child-child.ensures (length words) (sibling_chain_in words) c.requires.index);
      kept = refl;
    }

pub index-seen-requires : goal.index-seen-requires
index-seen-requires c =
    let h = c.children.invariant.lowering in
    let low = child_low _ _ _ _ _ _ _ _ _ _ h c.requires.index (omega (arith, c.children-test.true)) in
    omega (arith, low, h.as_many, c.children.words.ok)

pub next_sibling-next-requires : goal.next_sibling-next-requires
next_sibling-next-requires c =
    let words = c.args.words.now.items in
    let h = c.children.invariant.lowering in
    let some : 0 < c.children.child = omega (arith, c.children-test.true) in (
      suc c.args.from.above.node,
      omega arith,
      record {
        nodes = length words;
        chain = sibling_chain_in words;
        chains = c.requires.index;
        here = child_here _ _ _ _ _ _ _ _ _ _ h c.requires.index some;
        low = child_low _ _ _ _ _ _ _ _ _ _ h c.requires.index some;
      },
    )

pub first_child-has_child-requires : goal.first_child-has_child-requires
first_child-has_child-requires c =
    let h = c.children.invariant.lowering in
    let low = child_low _ _ _ _ _ _ _ _ _ _ h c.requires.index (omega (arith, c.children-test.true)) in
    omega (arith, low, c.requires.index.firsts)

pub lower_child-requires-clause-above : goal.lower_child-requires-clause-above
lower_child-requires-clause-above c =
    let h = c.children.invariant.lowering in
    IsSeenAbove-kept c.args.seat.now.me.0 c.children.seat.me.0 c.args.from.above h.looks.goes_on h.level c.requires.above

pub lower_child-requires-clause-child : goal.lower_child-requires-clause-child
lower_child-requires-clause-child c =
    child_own _ _ _ _ _ _ _ _ _ _ c.children.invariant.lowering c.requires.index (omega (arith, c.children-test.true))

pub lower_child-requires-clause-seen : goal.lower_child-requires-clause-seen
lower_child-requires-clause-seen c =
    let h = c.children.invariant.lowering in
    let some : 0 < c.children.child = omega (arith, c.children-test.true) in
    let own = child_low _ _ _ _ _ _ _ _ _ _ h c.requires.index some in
    c.index-seen.ensures ∙ get_or_default c.children.words.items c.children.child _ 0 (omega (arith, own, h.as_many))
    ∙ child_seen _ _ _ _ _ _ _ _ _ _ h c.requires.index some

here : (c : After-lower_child) → sibling_chain_in c.args.words.now.items c.children.child ≡ suc c.args.from.above.node
here c = child_here _ _ _ _ _ _ _ _ _ _ c.children.invariant.lowering c.requires.index (omega (arith, c.children-test.true))

low : (c : After-lower_child) → c.children.child < length c.args.words.now.items
low c = child_low _ _ _ _ _ _ _ _ _ _ c.children.invariant.lowering c.requires.index (omega (arith, c.children-test.true))

seen : (c : After-lower_child) → c.index-seen.result.now ≡ sees c.children.seat.me.0 (TreeOf c.children.child)
seen c =
    let h = c.children.invariant.lowering in
    let some : 0 < c.children.child = omega (arith, c.children-test.true) in
    c.index-seen.ensures ∙ get_or_default c.children.words.items c.children.child _ 0 (omega (arith, low c, h.as_many))
    ∙ child_seen _ _ _ _ _ _ _ _ _ _ h c.requires.index some

pub returns-in-Err-clause-looks : goal.returns-in-Err-clause-looks
returns-in-Err-clause-looks c =
    LooksOn-trans c.args.seat.now.me.0 c.children.seat.me.0 c.lower_child.new.seat.me.0 c.children.invariant.lowering.looks c.lower_child.ensures.looks

pub returns-in-Err-clause-pairs_found : goal.returns-in-Err-clause-pairs_found
returns-in-Err-clause-pairs_found c =
    let h = c.children.invariant.lowering in
    let looks = c.lower_child.ensures.looks in
    let own = low (goal.at.returns-in-Err-clause-pairs_found c).After-lower_child in (
      own,
      HasFirstPairs-at c.children.seat.me.0 c.lower_child.new.seat.me.0 c.children.words.items c.children.child c.in-Err.found looks.goes_on.later.run
          (omega (arith, own, h.as_many)) c.lower_child.ensures.others c.in-Err.ensures.found.0 h.pairs,
    )

less : (c : After-lower_child) (found : ℕ) → found ≡ sees c.lower_child.new.seat.me.0 (TreeOf c.children.child) → FindsLess c.index-seen.result.now found
    → FindsLess (sees c.children.seat.me.0 (TreeOf c.children.child)) (sees c.lower_child.new.seat.me.0 (TreeOf c.children.child))
less c found is falls =
    subst (λ w. FindsLess w (sees c.lower_child.new.seat.me.0 (TreeOf c.children.child))) (seen c) (subst (FindsLess c.index-seen.result.now) is falls)

pub returns-in-Err-clause-lowered : goal.returns-in-Err-clause-lowered
returns-in-Err-clause-lowered c =
    let at = (goal.at.returns-in-Err-clause-lowered c).After-lower_child in
    let looks = c.lower_child.ensures.looks in
    lowered_found c.args.children.now c.args.from.above.node c.children.child c.args.seat.now.me.0 c.children.seat.me.0 c.lower_child.new.seat.me.0 _ _ _ _ _
    c.children.invariant.lowering c.requires.pairs (here at) looks c.lower_child.ensures.others c.lower_child.ensures.points
    (less at c.in-Err.found c.in-Err.ensures.found.0 c.in-Err.ensures.found.1)

pub returns-in-Err-clause-posted : goal.returns-in-Err-clause-posted
returns-in-Err-clause-posted c =
    let at = (goal.at.returns-in-Err-clause-posted c).After-lower_child in
    posted_found c.args.children.now c.args.from.above.node c.children.child c.args.seat.now.me.0 c.children.seat.me.0 c.lower_child.new.seat.me.0 _ _ _ _ _
    c.children.invariant.lowering c.requires.pairs (here at) c.lower_child.ensures.looks c.lower_child.ensures.others c.lower_child.ensures.points
    (less at c.in-Err.found c.in-Err.ensures.found.0 c.in-Err.ensures.found.1)

pub returns-in-Err-clause-found : goal.returns-in-Err-clause-found
returns-in-Err-clause-found c =
    let at = (goal.at.returns-in-Err-clause-found c).After-lower_child in
    let looks = c.lower_child.ensures.looks in (
      own_was c.args.children.now c.args.from.above.node c.children.child c.args.seat.now.me.0 c.children.seat.me.0 c.lower_child.new.seat.me.0 _ _ _ _ _
          c.children.invariant.lowering c.requires.pairs (here at) looks c.lower_child.ensures.others c.lower_child.ensures.points,
      found_less c.args.children.now c.args.from.above.node c.children.child c.args.seat.now.me.0 c.children.seat.me.0 c.lower_child.new.seat.me.0 _ _ _ _ _
          c.children.invariant.lowering c.requires.pairs (here at) looks c.lower_child.ensures.others c.lower_child.ensures.points
          (less at c.in-Err.found c.in-Err.ensures.found.0 c.in-Err.ensures.found.1),
    )

pub returns-in-Err-clause-parents : goal.returns-in-Err-clause-parents
returns-in-Err-clause-parents c =
    let at = (goal.at.returns-in-Err-clause-parents c).After-lower_child in
    let looks = c.lower_child.ensures.looks in
    parents_found c.args.children.now c.args.from.above.node c.children.child c.args.seat.now.me.0 c.children.seat.me.0 c.lower_child.new.seat.me.0 _ _ _ _ _
    c.children.invariant.lowering c.requires.pairs (here at) looks c.lower_child.ensures.others c.lower_child.ensures.points
    (less at c.in-Err.found c.in-Err.ensures.found.0 c.in-Err.ensures.found.1)

pub returns-in-Err-clause-same : goal.returns-in-Err-clause-same
returns-in-Err-clause-same c =
    let at = (goal.at.returns-in-Err-clause-same c).After-lower_child in
    let looks = c.lower_child.ensures.looks in
    same_found c.args.children.now c.args.from.above.node c.children.child c.args.seat.now.me.0 c.children.seat.me.0 c.lower_child.new.seat.me.0 _ _ _ _ _
    c.children.invariant.lowering c.requires.pairs (here at) looks c.lower_child.ensures.others c.lower_child.ensures.points
    (less at c.in-Err.found c.in-Err.ensures.found.0 c.in-Err.ensures.found.1)

pub write_down-requires-clause-low : goal.write_down-requires-clause-low
write_down-requires-clause-low c =
    omega (
      arith,
      low (goal.at.write_down-requires-clause-low c).After-lower_child,
      c.children.invariant.lowering.as_many,
    )

pub write_down-requires-clause-room : goal.write_down-requires-clause-room
write_down-requires-clause-room c =
    omega (
      arith,
      low (goal.at.write_down-requires-clause-room c).After-lower_child,
      ap (λ w. w.size) c.children.invariant.kept,
      c.requires.size,
    )

-- A node in whose chain another one is has a first child.
is_some : (index : ChildIndex) (chain : ℕ → ℕ) (l n first : ℕ) → AreMembers chain l (siblings_from index first) → chain n ≡ l → first ≢ 0
is_some index chain l n zero are own = absurd (omega (arith, are.each n own))
is_some index chain l n (suc first) are own = omega arith

has_child : (c : After-lower_child) (n : ℕ) → sibling_chain_in c.args.words.now.items n ≡ suc c.children.child → c.first_child-has_child.result ≢ 0
has_child c n own =
    let words = c.args.words.now.items in
    is_some c.args.children.now (sibling_chain_in words) (suc c.children.child) n c.first_child-has_child.result
    (c.first_child-has_child.ensures (length words) (sibling_chain_in words) c.requires.index) own

pub children-preserved : goal.children-preserved
children-preserved c =
    let at = (goal.at.children-preserved c).After-lower_child in
    let h = c.children.invariant.lowering in
    let now = c.children.seat.me.0 in
    let then = c.lower_child.new.seat.me.0 in
    let child = c.children.child in
    let word = c.in-Ok.word in
    let looks = c.lower_child.ensures.looks in
    let down = c.write_down.ensures in
    let own = own_now c.args.children.now c.args.from.above.node child c.args.seat.now.me.0 now then _ _ _ _ _ h c.requires.pairs (here at) looks
    c.lower_child.ensures.others c.lower_child.ensures.points in
    let was : slice_index c.children.words.items child ≡ sees now (TreeOf child) =
    child_seen _ _ _ _ _ _ _ _ _ _ h c.requires.index (omega (arith, c.children-test.true)) in
    let pairs : HasFirstPairs then (slice_set c.children.words.items child word) =
    HasFirstPairs-at now then c.children.words.items child word looks.goes_on.later.run
    (omega (arith, low at, h.as_many)) c.lower_child.ensures.others c.in-Ok.ensures.here h.pairs in
    let falls : (sees then (TreeOf child) ≡ sees now (TreeOf child)) ⊎ FindsLess (sees now (TreeOf child)) (sees then (TreeOf child)) =
    elim c.in-Ok.ensures.fell [
      | inl e ↦ inl (sym c.in-Ok.ensures.here ∙ e ∙ seen at)
      | inr less_word ↦ inr (less at word c.in-Ok.ensures.here less_word)
    ] in
    let changes : sees then (TreeOf child) ≢ sees now (TreeOf child) → word ≢ slice_index c.children.words.items child = λ changed e.
    changed (sym c.in-Ok.ensures.here ∙ e ∙ was) in
    let chains = chains-at now then c.children.words.items c.args.from.above.node child word h.pairs pairs own c.in-Ok.ensures.is.0 in
    record {
      sits = c.lower_child.ensures.sits;
      held = c.lower_child.ensures.held;
      capacity = c.write_down.ensures.capacity ∙ c.children.invariant.capacity;
      lowering =
          IsLowering-step c.args.children.now c.args.from.above.node child c.args.seat.now.me.0 now then _ _ _ _ _ h c.requires.pairs (here at) looks
          c.lower_child.ensures.others c.lower_child.ensures.points c.next_sibling-next.result c.write_down.new.words.items
          c.write_down.new.waiting.nodes c.next_sibling-next.ensures
          c.in-Ok.ensures.is.0 c.in-Ok.ensures.is.1 falls (subst (HasFirstPairs then) (sym down.words) pairs)
          (subst (λ l. (n : ℕ) → sibling_chain_in l n ≡ sibling_chain_in c.children.words.items n) (sym down.words) chains)
          (ap (λ l. length l) down.words ∙ length-set c.children.words.items child word) down.keeps down.only
          (λ g changed child_of.
          down.parent
          (ap not (ne_eqb _ 0 (has_child at g (sym (h.chains g) ∙ sym (chains g)
          ∙ chain-HasSeenParent then (slice_set c.children.words.items child word) child g pairs child_of)))) (changes changed))
          (elim down.same [
            | inl e ↦ inl e
            | inr more ↦ inr (elim falls [
              | inl e ↦ absurd (more.0 (c.in-Ok.ensures.here ∙ e ∙ sym was))
              | inr less_word ↦ (less_word, omega (arith, more.1, ap (λ w. w.size) c.children.invariant.kept))
            ])
          ])
          (λ changed goal.
          let posted = c.in-Ok.ensures.posted (λ e. changed (sym c.in-Ok.ensures.here ∙ e ∙ seen at)) goal in
          omega (arith, posted, ap (λ w. best_word (cost_in w) child) c.in-Ok.ensures.here));
      kept = down.kept ∙ ap {A = WaitingState} (λ w. record w { nodes = c.write_down.new.waiting.nodes }) c.children.invariant.kept;
    }

pub returns-clause-all : goal.returns-clause-all
returns-clause-all c = IsLowering-ends _ _ _ _ _ _ _ _ _ _ c.children.invariant.lowering (omega (arith, c.children-test.false))

pub returns-in-Err-clause-points : goal.returns-in-Err-clause-points
returns-in-Err-clause-points c =
    let at = (goal.at.returns-in-Err-clause-points c).After-lower_child in
    points_then c.args.children.now c.args.from.above.node c.children.child c.args.seat.now.me.0 c.children.seat.me.0 c.lower_child.new.seat.me.0 _ _ _ _ _
    c.children.invariant.lowering c.requires.pairs (here at) c.lower_child.ensures.looks c.lower_child.ensures.others c.lower_child.ensures.points

pub returns-clause-parents : goal.returns-clause-parents
returns-clause-parents c n m off off_too less own = c.children.invariant.lowering.parents n m less own
