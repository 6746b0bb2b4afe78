use Rattle.plan_words.proofs.Words.{◌≢◌, ◌<◌, inl, inr, refl, ap, sym, subst, ◌∙◌, arith, le_trans, length, AllFull, IsClaimed, IsLeastOpen, IsOpen, KeepsHand}
use Rattle.plan_words.proofs.Words.{RaisesCounter, worker_of, mark_of, IsLater-refl, IsLater-trans}
use Rattle.plan_words.proofs.Claiming.{IfNone-any, IsClaimed-exchanged, KeepsHand-trans, counters_changed, counters_twice}
use Rattle.plan_words.proofs.Claiming.{claim_nearer, kept_exchanged, loaded_before, loaded_since, view_alone-more}
use Rattle.plan_words.proofs.GoingOn.{BelongsTo-later, GoesOn-more, GoesOn-trans}
use Rattle.plan_words.proofs.WholeClaims.{HasWholeShare-kept, IsLeastOpen-first, RaisesCounter-exchanged, whole_twice}
use Rattle.plan_words.proofs.shared.Shared.claim.Goals as goal

pub tries-init : goal.tries-init
tries-init c = record {
  belongs = c.requires.belongs;
  kept = record { crew = refl; most = refl; hand = refl };
  later = IsLater-refl c.args.pass.now.view;
  goes_on = inl refl;
  others = λ name apart. refl;
  alone = refl;
  whole = λ all name. refl;
}

pub first_open-requires-clause-belongs : goal.first_open-requires-clause-belongs
first_open-requires-clause-belongs c = c.tries.invariant.belongs

pub first_open-requires-clause-part : goal.first_open-requires-clause-part
first_open-requires-clause-part c = subst (λ crew. 0 < length crew) (sym c.tries.invariant.kept.crew) c.requires.part

pub returns-in_err-next-clause-goes_on : goal.returns-in_err-next-clause-goes_on
returns-in_err-next-clause-goes_on c = GoesOn-more _ _ _ c.tries.invariant.goes_on c.first_open.ensures.loads.goes_on

pub returns-in_err-next-clause-loaded : goal.returns-in_err-next-clause-loaded
returns-in_err-next-clause-loaded c = loaded_before _ _ c.first_open.new.pass.view c.first_open.ensures.loaded c.tries.invariant.later.steps

pub returns-in_err-next-clause-none : goal.returns-in_err-next-clause-none
returns-in_err-next-clause-none c =
    let both : KeepsHand c.args.pass.now.view c.first_open.new.pass.view × AllFull c.first_open.new.pass.view c.args.limit =
    (KeepsHand-trans _ _ _ c.tries.invariant.kept c.first_open.ensures.loads.kept, c.in_err-next.ensures.first) in
    IfNone-any c.from_residual.result _ both

pub exchange-requires : goal.exchange-requires
exchange-requires c =
    let kept = c.tries.invariant.kept in
    let scan = c.first_open.ensures.loads in
    let next = c.in_ok-next.next in
    let first = c.in_ok-next.ensures.first in
    record {
      belongs = scan.belongs;
      part = subst (λ crew. 0 < length crew) (sym (scan.kept.crew ∙ kept.crew)) c.requires.part;
      idle = scan.kept.hand ∙ kept.hand ∙ c.requires.idle;
      strip = subst (λ r. next.strip < r.strips) scan.belongs.run first.strip;
      low = subst (λ r. mark_of r next.strip next.round < c.args.limit) scan.belongs.run first.low;
      limit = c.requires.limit;
    }

pub returns-then-exchange-from-clause-goes_on : goal.returns-then-exchange-from-clause-goes_on
returns-then-exchange-from-clause-goes_on c =
    GoesOn-trans _ _ _ (GoesOn-more _ _ _ c.tries.invariant.goes_on c.first_open.ensures.loads.goes_on) c.exchange.ensures.goes_on

pub returns-then-exchange-from-clause-loaded : goal.returns-then-exchange-from-clause-loaded
returns-then-exchange-from-clause-loaded c =
    let loaded = loaded_before _ _ c.first_open.new.pass.view c.first_open.ensures.loaded c.tries.invariant.later.steps in
    loaded_since _ c.first_open.new.pass.view c.exchange.new.pass.view loaded c.exchange.ensures.goes_on.later
    (le_trans c.tries.invariant.later.steps c.first_open.ensures.loads.goes_on.later.steps)

pub returns-then-exchange-from-clause-some : goal.returns-then-exchange-from-clause-some
returns-then-exchange-from-clause-some c =
    let kept = c.tries.invariant in
    let scan = c.in_ok-next.ensures in
    let next = c.in_ok-next.next in
    let open_next = subst (λ crew. IsOpen c.first_open.new.pass.view (worker_of crew) c.args.limit next.strip next.round) kept.kept.crew scan.first in
    subst (IsClaimed c.args.pass.now.view c.exchange.new.pass.view c.args.limit) (sym c.mark_of.ensures)
    (IsClaimed-exchanged _ _ _ next.strip next.round c.exchange.result c.args.pass.now.view _ _ (ap (λ s. s.task.scene.strips) c.self.view_is)
    c.first_open.ensures.loads.belongs (KeepsHand-trans _ _ _ kept.kept c.first_open.ensures.loads.kept)
    (IsLater-trans _ _ _ kept.later c.first_open.ensures.loads.goes_on.later) open_next
    (c.if-exchange-from.true ∙ c.from.ensures) c.exchange.ensures.view c.exchange.ensures.seen)

pub tries-smaller : goal.tries-smaller
tries-smaller c =
    let scan = c.in_ok-next.ensures in
    let next = c.in_ok-next.next in
    claim_nearer _ next.strip next.round c.exchange.result c.tries.pass.view c.first_open.new.pass c.exchange.new.pass (omega (
      arith,
      scan.first.strip,
    )) c.first_open.ensures.loads.goes_on.later
    c.exchange.ensures.goes_on.later scan.first (λ e. c.if-exchange-from.false (e ∙ sym c.from.ensures)) c.exchange.ensures.seen

pub tries-preserved : goal.tries-preserved
tries-preserved c =
    let other : c.exchange.result ≢ c.in_ok-next.next.round = λ e. c.if-exchange-from.false (e ∙ sym c.from.ensures) in
    let next = c.in_ok-next.next in
    record {
      belongs = BelongsTo-later _ _ _ (ap (λ p. p.table) c.exchange.ensures.view) c.exchange.ensures.goes_on c.first_open.ensures.loads.belongs;
      kept = kept_exchanged _ _ _ next.strip next.round c.args.limit c.exchange.result other c.exchange.ensures.view
          (KeepsHand-trans _ _ _ c.tries.invariant.kept c.first_open.ensures.loads.kept);
      later = IsLater-trans _ _ _ (IsLater-trans _ _ _ c.tries.invariant.later c.first_open.ensures.loads.goes_on.later) c.exchange.ensures.goes_on.later;
      goes_on = inr (GoesOn-trans _ _ _ (GoesOn-more _ _ _ c.tries.invariant.goes_on c.first_open.ensures.loads.goes_on) c.exchange.ensures.goes_on);
      others = counters_changed _ _ _ _ _ (counters_twice _ _ _ c.tries.invariant.others c.first_open.ensures.loads.others) c.exchange.ensures.seen;
      alone = view_alone-more c.args.pass.now c.first_open.new.pass c.exchange.new.pass _
          (view_alone-more c.args.pass.now c.tries.pass c.first_open.new.pass _ c.tries.invariant.alone c.first_open.ensures.loads.view_alone)
          c.exchange.ensures.view;
      whole = λ all.
          let share = HasWholeShare-kept c.args.pass.now.view c.first_open.new.pass.view
          (KeepsHand-trans _ _ _ c.tries.invariant.kept c.first_open.ensures.loads.kept)
          (c.first_open.ensures.loads.goes_on.later.run ∙ c.tries.invariant.later.run) all in
          absurd (other (c.exchange.ensures.whole share ∙ sym c.in_ok-next.ensures.first.round));
    }

pub returns-then-exchange-from-clause-others : goal.returns-then-exchange-from-clause-others
returns-then-exchange-from-clause-others c =
    counters_changed _ _ _ _ _ (counters_twice _ _ _ c.tries.invariant.others c.first_open.ensures.loads.others) c.exchange.ensures.seen

pub returns-then-exchange-from-clause-whole_some : goal.returns-then-exchange-from-clause-whole_some
returns-then-exchange-from-clause-whole_some c all =
    let kept = c.tries.invariant in
    let scan = c.in_ok-next.ensures in
    let next = c.in_ok-next.next in
    let open_next = subst (λ crew. IsOpen c.first_open.new.pass.view (worker_of crew) c.args.limit next.strip next.round) kept.kept.crew scan.first in
    let as_before =
    whole_twice c.args.pass.now.view c.tries.pass.view c.first_open.new.pass.view kept.kept kept.later.run kept.whole c.first_open.ensures.loads.whole all in
    subst (RaisesCounter c.args.pass.now.view c.exchange.new.pass.view) (sym c.mark_of.ensures)
    (RaisesCounter-exchanged _ _ c.args.limit next.strip next.round c.args.pass.now.view c.first_open.new.pass (ap (λ s. s.task.scene.strips) c.self.view_is)
    c.first_open.ensures.loads.belongs (c.first_open.ensures.loads.goes_on.later.run ∙ kept.later.run) as_before open_next c.exchange.result c.exchange.new.pass
    (c.if-exchange-from.true ∙ c.from.ensures) c.exchange.ensures.seen)

pub returns-then-exchange-from-clause-least : goal.returns-then-exchange-from-clause-least
returns-then-exchange-from-clause-least c all own =
    let kept = c.tries.invariant in
    let scan = c.in_ok-next.ensures in
    let next = c.in_ok-next.next in
    let open_next = subst (λ crew. IsOpen c.first_open.new.pass.view (worker_of crew) c.args.limit next.strip next.round) kept.kept.crew scan.first in
    let as_before =
    whole_twice c.args.pass.now.view c.tries.pass.view c.first_open.new.pass.view kept.kept kept.later.run kept.whole c.first_open.ensures.loads.whole all in
    subst (IsLeastOpen c.args.pass.now.view) (sym c.mark_of.ensures)
    (IsLeastOpen-first _ _ c.args.limit next.strip next.round c.args.pass.now.view c.first_open.new.pass (ap (λ s. s.task.scene.strips) c.self.view_is)
    c.first_open.ensures.loads.belongs (c.first_open.ensures.loads.goes_on.later.run ∙ kept.later.run) as_before open_next own)

pub returns-then-exchange-from-clause-belongs : goal.returns-then-exchange-from-clause-belongs
returns-then-exchange-from-clause-belongs c =
    BelongsTo-later _ _ _ (ap (λ p. p.table) c.exchange.ensures.view) c.exchange.ensures.goes_on c.first_open.ensures.loads.belongs
