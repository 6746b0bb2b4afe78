use Rattle.tree_rewire.proofs.Words.{◌≡◌, ◌⊎◌, ◌+◌, ◌<◌, ◌≤◌, Some, None, ap, arith, inl, inr, length, refl, subst, sym, ◌∙◌, HasWholeShare, with_lists, IsOn}
use Rattle.tree_rewire.proofs.Words.{HasPostedGoals-children, SharedRun, PassLowers, cost_seen, IsSpreading, NoneRises, QueuesFallen}
use Rattle.tree_rewire.proofs.CostSteps.{PassLowers-lists, PassLowers-sees, PassLowers-trans}
use Rattle.tree_rewire.proofs.LoweredBelow.{IsSpreading-found, NoneRises-children, NoneRises-settled, NoneRises-trans, PassLowers-looks}
use Rattle.tree_rewire.proofs.LoweredBelow.{QueuesFallen-same, QueuesFallen-then, SpreadsFrom-all}
use Rattle.tree_rewire.proofs.SeenCosts.{cost_seen-later, pair_low}
use Rattle.tree_rewire.proofs.SpreadCosts.{fallen_low, weigh, weigh-less}
use Rattle.tree_rewire.proofs.WholeShares.{HasWholeShare-later, KeepsParents-children, KeepsParents-trans}
use Rattle.tree_rewire.proofs.spreading.lower_below.Goals as goal
use Rattle.tree_rewire.proofs.spreading.lower_below.Goals.{After-queue_parent}

pub queue_parent-requires : goal.queue_parent-requires
queue_parent-requires c =
    let settled = c.settle.ensures.steps.sees_anew.goes_on in
    record {
      low = subst (λ r. c.in-Some.child ≤ length r.marks) (sym settled.later.run)
          (pair_low c.lower_children.new.pass.view c.in-Some.child settled.was_lawful c.in-Some.ensures.found.1.written);
    }

-- and then the one that was found is settled
settles : (c : After-queue_parent) → PassLowers c.args.shared.now c.tries.pass c.settle.new.pass
settles c =
    let done = c.lower_children.ensures in
    PassLowers-trans (PassLowers-looks c.args.shared.now c.tries.pass c.lower_children.new.pass done.belongs done.looks done.lists.0 done.lists.1 done.lists.2)
    (PassLowers-sees c.settle.ensures.steps)

queues : (c : After-queue_parent) → PassLowers c.args.shared.now c.settle.new.pass c.queue_parent.new.self
queues c =
    let is = c.queue_parent.ensures.others ∙ ap (with_lists c.settle.new.pass) c.queue_parent.ensures.waiting in
    PassLowers-lists c.args.shared.now c.settle.new.pass c.queue_parent.new.self c.settle.ensures.steps.belongs (ap (λ p. p.table) is)
    (ap (λ p. p.view) is) (ap (λ p. p.lists.near) is) (ap (λ p. p.lists.around) is) (ap (λ p. p.lists.search) is)

-- no cost rises
rises : (c : After-queue_parent) → NoneRises c.tries.pass.view c.settle.new.pass.view
rises c =
    let found = c.in-Some.ensures.found in
    let mid = c.lower_children.new.pass.view in
    NoneRises-trans c.tries.pass.view mid c.settle.new.pass.view
    (NoneRises-children c.tries.pass.view mid c.args.node (Some c.in-Some.child) c.in-Some.ensures.lowered
    (λ n is. subst (λ i. cost_seen mid i ≤ cost_seen c.tries.pass.view i) is (omega (arith, found.1.less))))
    (NoneRises-settled mid c.settle.new.pass.view c.in-Some.child c.settle.ensures.steps.sees_anew.goes_on found.1.written c.settle.ensures.others)

-- and that of the child fell
fell : (c : After-queue_parent) → cost_seen c.settle.new.pass.view c.in-Some.child < cost_seen c.tries.pass.view c.in-Some.child
fell c =
    let found = c.in-Some.ensures.found in
    omega (
      arith,
      found.1.less,
      cost_seen-later c.lower_children.new.pass.view c.settle.new.pass.view c.settle.ensures.steps.sees_anew.goes_on c.in-Some.child found.1.written,
    )

pub tries-smaller : goal.tries-smaller
tries-smaller c =
    let at = (goal.at.tries-smaller c).After-queue_parent in
    let h = c.tries.invariant in
    let nodes = length c.args.pass.now.view.run.marks + 1 in
    let low = fallen_low c.tries.pass.view c.settle.new.pass.view c.in-Some.child h.steps.sees_anew.goes_on.lawful (settles at).sees_anew.goes_on (fell at) in
    subst (λ v. weigh nodes v < weigh nodes c.tries.pass.view) (sym (ap (λ p. p.view) c.queue_parent.ensures.others))
    (weigh-less nodes c.in-Some.child c.tries.pass.view c.settle.new.pass.view
    (omega (arith, low, ap (λ (r : SharedRun). length r.marks) h.steps.sees_anew.goes_on.later.run)) (rises at) (fell at))

-- the list of those that wait
queued_then : (c : After-queue_parent) → QueuesFallen c.tries.pass c.queue_parent.new.self
queued_then c =
    let view_is = ap (λ p. p.view) c.queue_parent.ensures.others in
    let waits = ap (λ p. length p.lists.waiting) c.settle.ensures.steps.view_alone in
    let settled = NoneRises-settled c.lower_children.new.pass.view c.settle.new.pass.view c.in-Some.child c.settle.ensures.steps.sees_anew.goes_on
    c.in-Some.ensures.found.1.written c.settle.ensures.others in
    elim c.queue_parent.ensures.few [
      | inr few ↦ inr (record {
        node = c.in-Some.child;
        fell = omega (arith, fell c, ap (λ v. cost_seen v c.in-Some.child) view_is);
        few = omega (arith, few, ap (λ (r : SharedRun). length r.marks) (settles c).sees_anew.goes_on.later.run);
      })
      | inl e ↦ elim c.lower_children.ensures.same [
        | inl same ↦ inl (omega (arith, ap (λ l. length l) e, waits, ap (λ l. length l) same))
        | inr queued ↦ inr (record {
          node = queued.node;
          fell = omega (arith, queued.fell, settled queued.node, ap (λ v. cost_seen v queued.node) view_is);
          few = omega (arith, queued.few, ap (λ l. length l) e, waits);
        })
      ]
    ]

pub tries-preserved : goal.tries-preserved
tries-preserved c =
    let at = (goal.at.tries-preserved c).After-queue_parent in
    let h = c.tries.invariant in
    let old = c.args.pass.now in
    let now = c.tries.pass in
    let mid = c.lower_children.new.pass in
    let set = c.settle.new.pass in
    let new = c.queue_parent.new.self in
    let view_is = ap (λ p. p.view) c.queue_parent.ensures.others in
    let waiting_is = ap (λ p. p.lists.waiting) c.settle.ensures.steps.view_alone in
    let found = c.in-Some.ensures in
    let queue = c.queue_parent.ensures in
    let more : NoneRises now.view new.view = subst (NoneRises now.view) (sym view_is) (rises at) in
    let step = PassLowers-trans (settles at) (queues at) in
    let run = h.steps.sees_anew.goes_on.later.run in
    record {
      steps = PassLowers-trans h.steps step;
      spreads = λ node first start.
          subst (λ v. IsSpreading node first v (λ p. IsOn new.lists.waiting p ⊎ (p ≡ c.args.node))) (sym view_is)
          (IsSpreading-found c.args.node c.in-Some.child now mid set (IsOn new.lists.waiting) c.lower_children.ensures.looks.goes_on
          c.settle.ensures.steps.sees_anew.goes_on found.lowered found.found.0 c.settle.ensures.others c.settle.ensures.settled found.parents
          c.lower_children.ensures.keeps c.lower_children.ensures.only
          (λ n on. queue.keeps n (subst (λ l. IsOn l n) (sym waiting_is) on))
          (λ n on. elim (queue.only n on) [
            | inl was ↦ inl (subst (λ l. IsOn l n) waiting_is was)
            | inr e ↦ inr e
          ])
          queue.parent node first (h.spreads node first start));
      falls = NoneRises-trans old.view now.view new.view h.falls more;
      queued = QueuesFallen-then old now new h.queued h.falls more (step.sees_anew.goes_on.later.run ∙ run) (queued_then at) run;
      goals = λ all. absurd (let none = found.whole (HasWholeShare-later h.steps.sees_anew all) in cc);
      whole = λ all. absurd (let none = found.whole (HasWholeShare-later h.steps.sees_anew all) in cc);
    }

pub returns : goal.returns
returns c =
    let h = c.tries.invariant in
    let now = c.tries.pass in
    let mid = c.lower_children.new.pass in
    let lower = c.lower_children.ensures in
    let done = c.in_default.ensures in
    let run = h.steps.sees_anew.goes_on.later.run in
    let falls = NoneRises-children now.view mid.view c.args.node None done.lowered (λ n no. absurd no) in
    let points = λ (all : HasWholeShare c.args.pass.now.view). lower.points (HasWholeShare-later h.steps.sees_anew all) in
    record {
      steps = PassLowers-trans h.steps
          (PassLowers-looks c.args.shared.now now mid lower.belongs lower.looks lower.lists.0 lower.lists.1 lower.lists.2);
      spreads = λ node first start.
          SpreadsFrom-all c.args.node now mid lower.looks.goes_on done.lowered done.all done.parents lower.keeps lower.only node first
          (h.spreads node first start);
      falls = NoneRises-trans c.args.pass.now.view now.view mid.view h.falls falls;
      queued = QueuesFallen-then c.args.pass.now now mid h.queued h.falls falls (lower.looks.goes_on.later.run ∙ run)
          (QueuesFallen-same now mid (length now.view.run.marks + 1) refl lower.same) run;
      goals = λ all posted. HasPostedGoals-children now.view mid.view lower.looks.goes_on (points all) done.posted (h.goals all posted);
      whole = λ all. KeepsParents-trans (h.whole all) (KeepsParents-children now.view mid.view c.args.node lower.looks (points all) done.lowered);
    }
