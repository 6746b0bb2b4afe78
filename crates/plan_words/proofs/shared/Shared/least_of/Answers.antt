use Rattle.plan_words.proofs.Words.{◌≡◌, ◌+◌, ◌%◌, ◌<◌, ◌*◌, min, IsLeastNext, ap, arith, subst, sym, ◌∙◌}
use Rattle.plan_words.proofs.Claiming.{LoadsCounters-both, LoadsCounters-none, LoadsCounters-one}
use Rattle.plan_words.proofs.Scanning.{IsLeastNext-none, IsLeastNext-same, IsLeastNext-turn, none_before, own_turn, turn_stays}
use Rattle.plan_words.proofs.shared.Shared.least_of.Goals as goal

pub turns-init : goal.turns-init
turns-init c = record {
  loads = LoadsCounters-none _ _ c.requires.belongs;
  turn = own_turn c.args.owner c.args.self.now.workers c.requires.owner;
  scanned = IsLeastNext-none _ _ _ _ c.from-least.ensures (λ g here. none_before c.args.owner c.args.self.now.workers g c.requires.owner here.0 here.1);
}

pub turns-smaller : goal.turns-smaller
turns-smaller c = omega (arith, c.turns-test.true, c.requires.owner, ap (λ s. s.workers) c.self.view_is)

pub turns-preserved : goal.turns-preserved
turns-preserved c =
    let kept = c.turns.invariant in
    let told = c.taken.ensures in
    let workers = ap (λ s. s.workers) c.self.view_is in
    let strips = ap (λ s. s.task.scene.strips) c.self.view_is in
    let some : 0 < c.args.self.now.workers = omega (arith, c.requires.owner) in
    let loads = LoadsCounters-both _ _ _ _ kept.loads (LoadsCounters-one _ _ _ _ _ kept.loads.belongs told.view told.goes_on told.seen told.whole) in
    let of_run = ap (λ r. r.strips) loads.belongs.run in
    record {
      loads = loads;
      turn = ap (λ w. (c.turns.strip + w) % c.args.self.now.workers) workers ∙ turn_stays c.turns.strip c.args.self.now.workers c.args.owner some kept.turn;
      scanned = subst (λ w. IsLeastNext c.args.pass.now.view c.taken.new.pass.view
          (λ g. (g < c.turns.strip + w) × (g % c.args.self.now.workers ≡ c.args.owner)) c.args.most c.min-least.result) (sym workers)
          (IsLeastNext-turn _ c.turns.pass.view c.taken.new.pass.view c.turns.strip c.taken.result c.args.self.now.workers c.args.owner _ c.turns.least _
          kept.loads.goes_on.later told.goes_on.later some kept.turn (omega (arith, c.turns-test.true, of_run, strips)) told.seen told.looked
          (c.min-least.ensures ∙ ap (min c.turns.least) (c.mark_of.ensures ∙ ap (λ s. c.taken.result * s + c.turns.strip) (strips ∙ sym of_run))) kept.scanned);
    }

pub returns-clause-least : goal.returns-clause-least
returns-clause-least c =
    IsLeastNext-same _ _ _ _ _ _ c.turns.invariant.scanned (λ g low here. (
      omega (
        arith,
        low,
        c.turns-test.false,
        ap (λ r. r.strips) c.turns.invariant.loads.belongs.run,
        ap (λ s. s.task.scene.strips) c.self.view_is,
      ),
      here,
    )) (λ g here. here.1)
