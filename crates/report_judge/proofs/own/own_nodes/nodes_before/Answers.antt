use Rattle.report_judge.proofs.Words.{◌≡◌, suc, ◌+◌, [], ◌∷◌, ◌++◌, Some, None, arith, sym, ap, ◌∙◌, subst, slice_index_or, All-push, IsBounded, state_of_lists}
use Rattle.report_judge.proofs.Words.{Numbered, AreNodesBefore, IsPlacedAt}
use Rattle.report_judge.proofs.Laws.ListedNodes.{none-stands, stands-listed}
use Rattle.report_judge.proofs.Workers.OwnNodeLaws.{AreNodesBefore-none, AreNodesBefore-placed, AreNodesBefore-sorted, AreNodesBefore-start}
use Rattle.report_judge.proofs.Workers.OwnNodeLaws.{AreNodesBefore-unplaced, bounded_placed, bounded_points}
use Rattle.report_judge.proofs.Workers.SeenTurns.{mark_read}
use Rattle.report_judge.proofs.own.own_nodes.nodes_before.Goals as goal
use Rattle.report_judge.proofs.own.own_nodes.nodes_before.Goals.{in-Some+in_ok-push, in_default, in-Some-placed_at+in_ok-push-2, in_default-placed_at}

pub loop-turn-init : goal.loop-turn-init
loop-turn-init c =
    let knots = c.args.knots.now in
    let records = c.args.records.now in
    let worker = c.args.turns.now.worker in
    elim c.match-knot_at.branch [
      | in-Some+in_ok-push w ↦ (
          let own : Numbered = record { point = w.in-Some.start.point; number = 0 } in
          let at : slice_index_or knots 0 None ≡ Some w.in-Some.start = sym w.in-Some.ensures in
          let items : c.match-knot_at.nodes.items ≡ own ∷ [] =
          ap (λ v. v.items) w.nodes-is ∙ w.in_ok-push.ensures.items ∙ ap (λ xs. xs ++ own ∷ []) c.new-nodes.ensures.items in
          record {
            before =
                rw items (AreNodesBefore-start knots records worker w.in-Some.start.point (stands-listed knots records 0 w.in-Some.start at));
            bounded =
                rw items
                (All-push (λ (m : Numbered). IsBounded m.point) [] own (λ i d low. absurd (omega (arith, low)))
                (c.requires.fit 0 w.in-Some.start at).point);
          })
      | in_default w ↦ (
          let items : c.match-knot_at.nodes.items ≡ [] = ap (λ v. v.items) w.nodes-is ∙ c.new-nodes.ensures.items in
          record {
            before =
                rw items
                (AreNodesBefore-none knots records worker
                (λ p stands. none-stands knots records 0 p (sym c.knot_at.ensures ∙ w.in_default.is) stands));
            bounded = rw items (λ i d low. absurd (omega (arith, low)));
          })
    ]

pub loop-turn-preserved : goal.loop-turn-preserved
loop-turn-preserved c =
    let knots = c.args.knots.now in
    let records = c.args.records.now in
    let run = state_of_lists knots records in
    let worker = c.args.turns.now.worker in
    let turn = c.loop-turn.turn in
    let old = c.loop-turn.nodes.items in
    let next : suc turn ≡ turn + 1 = omega arith in
    let told =
    mark_read records worker c.args.turns.now.marks.items turn c.index.result.now (omega (arith, c.loop-turn-test.true, c.requires.limit)) c.requires.turns
    c.index.ensures in
    elim c.match-placed_at.branch [
      | in-Some-placed_at+in_ok-push-2 w ↦ (
          let p = w.in-Some-placed_at.point in
          let own : Numbered = record { point = p; number = turn + 1 } in
          let items : c.match-placed_at.nodes.items ≡ old ++ own ∷ [] = ap (λ v. v.items) w.nodes-is ∙ w.in_ok-push-2.ensures.items in
          let placed : IsPlacedAt knots records c.index.result.now (Some p) =
          subst (IsPlacedAt knots records c.index.result.now) w.in-Some-placed_at.is c.placed_at.ensures in
          let grown : AreNodesBefore run worker (suc turn) (old ++ record { point = p; number = suc turn } ∷ []) =
          AreNodesBefore-placed knots records worker c.requires.own turn old c.index.result.now p c.loop-turn.invariant.before told placed in
          record {
            before =
                rw items
                (subst (λ n. AreNodesBefore run worker n (old ++ record { point = p; number = n } ∷ [])) next grown);
            bounded =
                rw items
                (All-push (λ (m : Numbered). IsBounded m.point) old own c.loop-turn.invariant.bounded
                (bounded_placed knots records c.index.result.now p placed));
          })
      | in_default-placed_at w ↦ (
          let items : c.match-placed_at.nodes.items ≡ old = ap (λ v. v.items) w.nodes-is in
          record {
            before =
                rw items
                (subst (λ n. AreNodesBefore run worker n old) next
                (AreNodesBefore-unplaced knots records worker c.requires.own turn old c.index.result.now c.loop-turn.invariant.before told
                (subst (IsPlacedAt knots records c.index.result.now) w.in_default-placed_at.is c.placed_at.ensures)
                (bounded_points knots records c.requires.fit)));
            bounded = rw items c.loop-turn.invariant.bounded;
          })
    ]

pub returns : goal.returns
returns c =
    let end : c.loop-turn.turn ≡ c.args.limit = omega (arith, c.loop-turn-test.false, c.loop-turn.auto.turn-end) in
    let run = state_of_lists c.args.knots.now c.args.records.now in
    subst (λ t. AreNodesBefore run c.args.turns.now.worker t c.new.result) end
    (AreNodesBefore-sorted run c.args.turns.now.worker c.loop-turn.turn c.loop-turn.nodes.items c.new.result c.loop-turn.invariant.before c.new.ensures)
