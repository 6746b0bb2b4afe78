use Rattle.report_judge.proofs.Words.{◌≡◌, suc, ◌+◌, ◌<◌, Some, length, arith, refl, sym, ap, ◌∙◌, subst, true≢false, slice_get_read, is_goal_point, point_at}
use Rattle.report_judge.proofs.Words.{state_of_lists, IsMarkOfTurn}
use Rattle.std.specs.Prelude.{IfSome}
use Rattle.report_judge.proofs.Workers.SeenLaws.{AreSeen-inside, AreSeen-none, AreSeen-outside, AreSeen-unplaced, least_by, turn_of}
use Rattle.report_judge.proofs.Workers.SeenStarts.{length-points}
use Rattle.report_judge.proofs.own.seen_nodes.Seen.after.Goals as goal

pub returns-in_default-clause-seen : goal.returns-in_default-clause-seen
returns-in_default-clause-seen c worker turn of_turn h =
    AreSeen-none c.args.goals.now c.args.knots.now c.args.records.now worker turn c.args.self
    (subst (IsMarkOfTurn c.args.records.now worker turn) c.in_default.is of_turn) h

pub returns-then-not-is_placed-clause-seen : goal.returns-then-not-is_placed-clause-seen
returns-then-not-is_placed-clause-seen c worker turn of_turn h =
    let records = c.args.records.now in
    let low : c.in-Some.k < length records = subst (λ o. IfSome o (λ m. m < length records)) c.in-Some.is c.requires.low in
    let at = slice_get_read records (length records) c.in-Some.k c.index-records-k.result refl low c.index-records-k.is in
    AreSeen-unplaced c.args.goals.now c.args.knots.now records worker turn c.requires.own c.in-Some.k c.index-records-k.result at
    (turn_of records worker turn c.in-Some.k c.index-records-k.result (subst (IsMarkOfTurn records worker turn) c.in-Some.is of_turn) at) c.args.self
    (sym c.is_placed.ensures ∙ c.if-not-is_placed.true) h

pub returns-then-not-is_goal_node-clause-seen : goal.returns-then-not-is_goal_node-clause-seen
returns-then-not-is_goal_node-clause-seen c worker turn of_turn h =
    let records = c.args.records.now in
    let knots = c.args.knots.now in
    let low : c.in-Some.k < length records = subst (λ o. IfSome o (λ m. m < length records)) c.in-Some.is c.requires.low in
    let at = slice_get_read records (length records) c.in-Some.k c.index-records-k.result refl low c.index-records-k.is in
    let next : suc c.in-Some.k ≡ c.in-Some.k + 1 = omega arith in
    AreSeen-outside c.args.goals.now knots records worker turn c.requires.own c.in-Some.k c.index-records-k.result at
    (turn_of records worker turn c.in-Some.k c.index-records-k.result (subst (IsMarkOfTurn records worker turn) c.in-Some.is of_turn) at)
    (sym c.is_placed.ensures ∙ c.if-not-is_placed.false) c.args.self (record { nodes = c.args.self.nodes + 1; least = c.args.self.least })
    (omega (arith, low, length-points knots, c.requires.numbers))
    (λ inside.
    true≢false
    (sym inside ∙ ap (λ n. is_goal_point c.args.goals.now (point_at (state_of_lists knots records).points n)) next ∙ sym c.is_goal_node.ensures.value
    ∙ c.if-not-is_goal_node.true))
    refl refl h

pub returns-clause-seen : goal.returns-clause-seen
returns-clause-seen c worker turn of_turn h =
    let records = c.args.records.now in
    let knots = c.args.knots.now in
    let low : c.in-Some.k < length records = subst (λ o. IfSome o (λ m. m < length records)) c.in-Some.is c.requires.low in
    let at = slice_get_read records (length records) c.in-Some.k c.index-records-k.result refl low c.index-records-k.is in
    let next : suc c.in-Some.k ≡ c.in-Some.k + 1 = omega arith in
    let own = turn_of records worker turn c.in-Some.k c.index-records-k.result (subst (IsMarkOfTurn records worker turn) c.in-Some.is of_turn) at in
    let placed = sym c.is_placed.ensures ∙ c.if-not-is_placed.false in
    let inside = ap (λ n. is_goal_point c.args.goals.now (point_at (state_of_lists knots records).points n)) next ∙ sym c.is_goal_node.ensures.value
    ∙ c.if-not-is_goal_node.false in
    AreSeen-inside c.args.goals.now knots records worker turn c.requires.own c.in-Some.k c.index-records-k.result at own placed c.args.self
    (record { nodes = c.args.self.nodes + 1; least = Some c.lesser.result }) (omega (arith, low, length-points knots, c.requires.numbers)) refl
    (least_by c.args.goals.now knots records worker turn c.requires.own c.in-Some.k c.index-records-k.result at own placed c.args.self.least
    c.lesser.result c.lesser.ensures.none c.lesser.ensures.some inside h.least) h
