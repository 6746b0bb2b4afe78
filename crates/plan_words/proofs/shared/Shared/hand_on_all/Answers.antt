use Rattle.std.proofs.Common.{◌+◌, ◌<◌, ◌≤◌, ◌∷◌, [], length, length-append, sym, ap, ◌∙◌, subst, arith}
use mathlib.Core.Option.{some-ne-none}
use Rattle.plan_words.proofs.Dealing.{IsPassOf-first, IsPassOf-next, StandsFor-next, each_after-push, second-next}
use Rattle.plan_words.specs.Claims.{IsPassOf, each_after}
use Rattle.plan_words.proofs.shared.Shared.hand_on_all.Goals as goal

pub loop-worker-init : goal.loop-worker-init
loop-worker-init c =
    let none = c.new-passes.ensures.items in
    record {
      stands = c.requires.stands;
      counted = ap (λ l. length l + 1) none;
      passes = subst (each_after (IsPassOf c.args.self.now c.args.first.now)) (sym none) (λ i pass e. absurd (some-ne-none pass (sym e)));
    }

pub hand_on-requires-clause-second : goal.hand_on-requires-clause-second
hand_on-requires-clause-second c =
    let low : c.loop-worker.worker < c.args.self.now.workers = omega (arith, c.loop-worker-test.true, ap (λ s. s.workers) c.self.view_is) in
    second-next c.args.self.now c.args.first.now c.loop-worker.worker c.loop-worker.first c.loop-worker.invariant.stands low
    ∙ ap (λ turn. record { worker = c.loop-worker.worker; turn = turn } ∷ []) (sym (c.requires.turns c.loop-worker.worker low))

pub loop-worker-preserved : goal.loop-worker-preserved
loop-worker-preserved c =
    let low : c.loop-worker.worker < c.args.self.now.workers = omega (arith, c.loop-worker-test.true, ap (λ s. s.workers) c.self.view_is) in
    let kept = c.loop-worker.invariant in
    let told = c.in_ok-pass.ensures in
    let other = c.in_ok-pass.pass in
    let pushed = c.in_ok-push.ensures.items in
    let own = IsPassOf-next c.args.self.now c.args.first.now c.loop-worker.worker c.loop-worker.first kept.stands other low told.belongs_too told.right in
    record {
      stands = StandsFor-next c.args.self.now c.args.first.now c.loop-worker.worker c.loop-worker.first kept.stands c.hand_on.new.pass low
          told.belongs told.left;
      counted = omega (arith, ap (λ l. length l) pushed, length-append c.loop-worker.passes.items (other ∷ []), kept.counted);
      passes =
          each_after-push (IsPassOf c.args.self.now c.args.first.now) c.loop-worker.passes.items c.push.new.self.items other c.loop-worker.worker
          pushed kept.counted kept.passes own;
    }

pub returns-clause-first : goal.returns-clause-first
returns-clause-first c =
    let past : c.args.self.now.workers ≤ c.loop-worker.worker = omega (arith, c.loop-worker-test.false, ap (λ s. s.workers) c.self.view_is) in
    IsPassOf-first c.args.self.now c.args.first.now c.loop-worker.worker c.loop-worker.first c.loop-worker.invariant.stands past

pub returns-clause-count : goal.returns-clause-count
returns-clause-count c =
    omega (
      arith,
      c.loop-worker.invariant.counted,
      ap (λ s. s.workers) c.self.view_is,
      c.loop-worker-test.false,
      c.loop-worker.auto.worker-end,
      c.self.invariant.run_is.workers.0,
    )
