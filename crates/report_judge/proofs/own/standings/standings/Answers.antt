use Rattle.report_judge.proofs.Words.{◌≡◌, ℕ, suc, [], ◌∷◌, ◌++◌, ◌<◌, ◌≤◌, Option, Some, None, length, length-append, arith, ap, ◌∙◌, subst, inl, inr}
use Rattle.report_judge.proofs.Words.{slice_index_or, state_of_lists, MOST_MARKS, cases_lt, get_or_push, IsMarkOfTurn, no_standing, standing_at, standing_of}
use Rattle.std.specs.Prelude.{IfSome}
use Rattle.report_judge.proofs.Workers.SeenTurns.{low_mark}
use Rattle.report_judge.proofs.Workers.StandingLaws.{AreStandings-all, node_of_mark, node_of_some, standing_pushed}
use Rattle.report_judge.proofs.own.standings.standings.Goals as goal

low_node : (limit most : ℕ) (o : Option ℕ) → limit ≤ most → IfSome o (λ m. m < limit) → IfSome o (λ m. suc m ≤ most)
low_node limit most None few h = tt
low_node limit most (Some mark) few h = omega (arith, few, h)

pub node_of-requires : goal.node_of-requires
node_of-requires c =
    let records = c.args.records.now in
    let worker = c.args.turns.now.worker in
    let index = c.loop-k.k-index in
    let mark = slice_index_or c.deref-k-items.result.now index None in
    let told : IsMarkOfTurn records worker index mark =
    rw c.deref-k-items.ensures.value (c.requires.turns index (omega (arith, c.loop-k-test.true, ap length c.deref-k-items.ensures.value))) in
    low_node (length records) MOST_MARKS mark c.requires.few (low_mark records worker index mark told)

pub loop-k-preserved : goal.loop-k-preserved
loop-k-preserved c =
    let knots = c.args.knots.now in
    let order = c.args.turns.now.marks.items in
    let index = c.loop-k.k-index in
    let old = c.loop-k.standings.items in
    let own = c.costs_of-in-loop-k.result in
    let items = c.in_ok-push-2.ensures.items in
    let whole : c.deref-k-items.result.now ≡ order = c.deref-k-items.ensures.value in
    let node =
    node_of_some c.node_of.result (slice_index_or c.deref-k-items.result.now index None) c.node_of.ensures.none c.node_of.ensures.some
    ∙ ap (λ os. node_of_mark (slice_index_or os index None)) whole in
    let state = state_of_lists knots c.args.records.now in
    let last : standing_at (old ++ own ∷ []) (suc index) ≡ standing_of state (node_of_mark (slice_index_or order index None)) =
    get_or_push old own no_standing (suc index) (omega (arith, c.loop-k.invariant.long)) ∙ c.costs_of-in-loop-k.ensures
    ∙ ap (standing_of state) node in
    record {
      long = omega (arith, ap length items, length-append old (own ∷ []), c.loop-k.invariant.long);
      start =
          ap (λ xs. standing_at xs 0) items ∙ standing_pushed old own 0 (omega (arith, c.loop-k.invariant.long))
          ∙ c.loop-k.invariant.start;
      each = λ turn low.
          elim (cases_lt turn index) [
            | inl before ↦
                ap (λ xs. standing_at xs (suc turn)) items ∙ standing_pushed old own (suc turn) (omega (arith, before, c.loop-k.invariant.long))
                ∙ c.loop-k.invariant.each turn before
            | inr past ↦ (
                let e : index ≡ turn = omega (arith, low, past) in
                ap (λ xs. standing_at xs (suc turn)) items
                ∙ subst
                (λ t. standing_at (old ++ own ∷ []) (suc t) ≡ standing_of state (node_of_mark (slice_index_or order t None)))
                e last)
          ];
    }

pub returns : goal.returns
returns c =
    let order = c.args.turns.now.marks.items in
    let index = c.loop-k.k-index in
    let whole : c.deref-k-items.result.now ≡ order = c.deref-k-items.ensures.value in
    let end : index ≡ length order = omega (arith, c.loop-k-test.false, ap length whole, c.loop-k.auto.k-index-end) in
    AreStandings-all c.args.knots.now c.args.records.now c.args.turns.now.worker order c.loop-k.standings.items c.requires.own c.requires.turns
    (omega (arith, c.loop-k.invariant.long, end)) c.loop-k.invariant.start (λ turn low. c.loop-k.invariant.each turn (omega (arith, low, end)))
