use Rattle.plan_words.proofs.Words.{◌≡◌, ◌⊎◌, ◌<◌, false, true, ap, length, inl, sym, ◌∙◌, subst, arith, slice_set, get_or_default, length-set, AreMarked, IsOn}
use Rattle.plan_words.proofs.MarkedNodes.{AreMarked-push, IsOn-before, IsOn-cases, IsOn-end, few-marked, room-push}
use Rattle.plan_words.proofs.waiting.Waiting.push.Goals as goal

pub push_reserved-requires : goal.push_reserved-requires
push_reserved-requires c =
    let marked = c.self.inside.marked.items in
    let are = c.self.invariant.marks in
    let low : c.args.node < length marked = subst (λ w. c.args.node < w.size) (sym c.self.view_is) c.requires.low in
    let free = sym (c.index.ensures ∙ get_or_default marked c.args.node _ false low) ∙ c.if-not-index.true in
    omega (arith, room-push c.self.inside.nodes.items marked c.args.node are low free, c.self.invariant.room, c.self.inside.nodes.ok)

pub invariant_of-self : goal.invariant_of-self
invariant_of-self c =
    let marked = c.self.inside.marked.items in
    let are = c.self.invariant.marks in
    let low : c.args.node < length marked = subst (λ w. c.args.node < w.size) (sym c.self.view_is) c.requires.low in
    let free = sym (c.index.ensures ∙ get_or_default marked c.args.node _ false low) ∙ c.if-not-index.true in
    record {
      room = omega (arith, c.self.invariant.room, c.push_reserved.ensures.capacity, length-set marked c.args.node true);
      marks = subst (λ l. AreMarked l (slice_set marked c.args.node true)) (sym c.push_reserved.ensures.items)
          (AreMarked-push c.self.inside.nodes.items marked c.args.node are low free);
    }

pub returns-then-not-index-clause-only : goal.returns-then-not-index-clause-only
returns-then-not-index-clause-only c n on =
    subst (λ w. IsOn w.nodes n ⊎ (n ≡ c.args.node)) c.self.view_is
    (IsOn-cases c.self.inside.nodes.items c.args.node n (subst (λ l. IsOn l n) c.push_reserved.ensures.items on))

pub returns-then-not-index-clause-here : goal.returns-then-not-index-clause-here
returns-then-not-index-clause-here c = subst (λ l. IsOn l c.args.node) (sym c.push_reserved.ensures.items) (IsOn-end c.self.inside.nodes.items c.args.node)

pub returns-then-not-index-clause-keeps : goal.returns-then-not-index-clause-keeps
returns-then-not-index-clause-keeps c n on =
    subst (λ l. IsOn l n) (sym c.push_reserved.ensures.items)
    (IsOn-before c.self.inside.nodes.items _ n (subst (λ w. IsOn w.nodes n) (sym c.self.view_is) on))

pub returns-else-not-index-clause-here : goal.returns-else-not-index-clause-here
returns-else-not-index-clause-here c =
    let marked = c.self.inside.marked.items in
    let are = c.self.invariant.marks in
    let low : c.args.node < length marked = subst (λ w. c.args.node < w.size) (sym c.self.view_is) c.requires.low in
    subst (λ w. IsOn w.nodes c.args.node) c.self.view_is
    (are.only c.args.node (sym (c.index.ensures ∙ get_or_default marked c.args.node _ false low) ∙ c.if-not-index.false))

pub returns-else-not-index-clause-keeps : goal.returns-else-not-index-clause-keeps
returns-else-not-index-clause-keeps c n on = on

pub returns-else-not-index-clause-only : goal.returns-else-not-index-clause-only
returns-else-not-index-clause-only c n on = inl on

pub returns-then-not-index-clause-few : goal.returns-then-not-index-clause-few
returns-then-not-index-clause-few c =
    let marked = c.self.inside.marked.items in
    let are = c.self.invariant.marks in
    let low : c.args.node < length marked = subst (λ w. c.args.node < w.size) (sym c.self.view_is) c.requires.low in
    let free = sym (c.index.ensures ∙ get_or_default marked c.args.node _ false low) ∙ c.if-not-index.true in
    omega (
      arith,
      few-marked _ _ (AreMarked-push c.self.inside.nodes.items marked c.args.node are low free),
      length-set marked c.args.node true,
      ap (λ l. length l) c.push_reserved.ensures.items,
      ap (λ w. w.size) c.self.view_is,
    )

pub returns-else-not-index-clause-few : goal.returns-else-not-index-clause-few
returns-else-not-index-clause-few c =
    omega (
      arith,
      few-marked _ _ c.self.invariant.marks,
      ap (λ w. w.size) c.self.view_is,
      ap (λ w. length w.nodes) c.self.view_is,
    )
