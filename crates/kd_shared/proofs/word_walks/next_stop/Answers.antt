use Rattle.kd_shared.proofs.Words.{◌≡◌, ◌≢◌, ◌+◌, ◌-◌, ◌<◌, ℕ, zero, suc, Some, sym, ap, ◌∙◌, subst, inl, inr, arith, refl, not, ◌==◌, MatchOption, Point}
use Rattle.kd_shared.proofs.Words.{IsBounded, IsShift, StopsAt-below, StopsAt-fills, stop_of, PassLooks, PassLooks-fills, PassLooks-trans, ChildOf, PointOf}
use Rattle.kd_shared.proofs.Words.{child_of_word, goes_right_by, point_in, point_word, x_in-point_word, y_in-point_word, sight_in, tree_seen, SeesNode}
use Rattle.kd_shared.proofs.PassLooks.{PassLooks-load}
use Rattle.kd_shared.proofs.word_walks.next_stop.Goals as goal
use Rattle.kd_shared.proofs.word_walks.next_stop.Goals.{After-child_or_start-child, After-point_word-word}

-- the word of a point says that point
aim_is : (p : Point) → IsBounded p → point_in (point_word p) ≡ p
aim_is p bounded = λ i. record { x = x_in-point_word p bounded i; y = y_in-point_word p bounded i }

-- the other coordinate is next
flips : (s : ℕ) → IsShift s → ((20 - s) == 20) ≡ not (s == 20)
flips s (inl column) = subst (λ n. ((20 - n) == 20) ≡ not (n == 20)) (sym column) refl
flips s (inr row) = subst (λ n. ((20 - n) == 20) ≡ not (n == 20)) (sym row) refl

flipped : (s : ℕ) → IsShift s → IsShift (20 - s)
flipped s (inl column) = inr (omega (arith, column))
flipped s (inr row) = inl (omega (arith, row))

load : (c : After-child_or_start-child) → PassLooks c.args.shared.now c.args.pass.now c.child_or_start-child.new.pass
load c =
    PassLooks-load c.args.shared.now c.args.pass.now c.child_or_start-child.new.pass (ChildOf c.args.at.node c.leads_right-right.result) _ _
    c.requires.belongs tt c.child_or_start-child.ensures.view c.child_or_start-child.ensures.goes_on c.child_or_start-child.ensures.seen
    c.child_or_start-child.ensures.looked c.child_or_start-child.ensures.whole

-- ---- there is no child

pub returns-then-child-eq0-clause-looks : goal.returns-then-child-eq0-clause-looks
returns-then-child-eq0-clause-looks c = load (goal.at.returns-then-child-eq0-clause-looks c).After-child_or_start-child

pub returns-then-child-eq0-clause-none : goal.returns-then-child-eq0-clause-none
returns-then-child-eq0-clause-none c =
    let before = c.args.pass.now in
    let mid = c.child_or_start-child.new.pass in
    let looks = load (goal.at.returns-then-child-eq0-clause-none c).After-child_or_start-child in
    record {
      stops = StopsAt-fills (tree_seen before.view) c.args.p (stop_of c.args.at) c.requires.stops.stops (tree_seen mid.view)
          (PassLooks-fills c.args.shared.now before mid looks);
      shift = c.requires.stops.shift;
    }

-- ---- there is one

some_child : (child : ℕ) → child ≢ 0 → child_of_word child ≡ Some child
some_child zero some = absurd (some refl)
some_child (suc n) some = refl

found : (c : After-child_or_start-child) → c.child_or_start-child.result ≢ 0
    → ((tree_seen c.child_or_start-child.new.pass.view).child c.args.at.node c.leads_right-right.result ≡ Some c.child_or_start-child.result)
    × SeesNode c.child_or_start-child.new.pass.view c.child_or_start-child.result
found c some =
    let child = c.child_or_start-child.result in
    let mid = c.child_or_start-child.new.pass.view in
    subst
    (λ o. MatchOption o (c.args.pass.now.view.steps < (sight_in mid).found_empty c.args.at.node c.leads_right-right.result)
    (λ n. ((tree_seen mid).child c.args.at.node c.leads_right-right.result ≡ Some n) × SeesNode mid n))
    (some_child child some) c.child_or_start-child.ensures.found

pub point_word-word-requires-clause-belongs : goal.point_word-word-requires-clause-belongs
point_word-word-requires-clause-belongs c = (load (goal.at.point_word-word-requires-clause-belongs c).After-child_or_start-child).belongs

pub point_word-word-requires-clause-seen_node : goal.point_word-word-requires-clause-seen_node
point_word-word-requires-clause-seen_node c =
    (found (goal.at.point_word-word-requires-clause-seen_node c).After-child_or_start-child c.if-child-eq0.false).1

look : (c : After-point_word-word) → PassLooks c.args.shared.now c.args.pass.now c.child_or_start-child.new.pass
    → PassLooks c.args.shared.now c.child_or_start-child.new.pass c.point_word-word.new.pass
look c looks =
    PassLooks-load c.args.shared.now c.child_or_start-child.new.pass c.point_word-word.new.pass (PointOf c.child_or_start-child.result) _ _
    looks.belongs tt c.point_word-word.ensures.view c.point_word-word.ensures.goes_on c.point_word-word.ensures.seen
    c.point_word-word.ensures.looked c.point_word-word.ensures.whole

pub returns-clause-looks : goal.returns-clause-looks
returns-clause-looks c =
    let at = goal.at.returns-clause-looks c in
    let looks = load at.After-child_or_start-child in
    PassLooks-trans c.args.shared.now c.args.pass.now c.child_or_start-child.new.pass c.point_word-word.new.pass looks (look at.After-point_word-word looks)

pub returns-clause-next : goal.returns-clause-next
returns-clause-next c =
    let at = goal.at.returns-clause-next c in
    let shared = c.args.shared.now in
    let before = c.args.pass.now in
    let mid = c.child_or_start-child.new.pass in
    let after = c.point_word-word.new.pass in
    let p = c.args.p in
    let here = point_in c.args.at.word in
    let child = c.child_or_start-child.result in
    let there = point_in c.point_word-word.result in
    let shift = c.requires.stops.shift in
    let looks = load at.After-child_or_start-child in
    let aim : point_in c.pack_point-aim.result ≡ p = ap point_in c.pack_point-aim.ensures ∙ aim_is p c.requires.bounded in
    let apart : here ≢ p = subst (λ q. here ≢ q) aim (c.is_same.ensures c.if-is_same.false) in
    let by_rows = ap (λ s. s == 20) c.other_shift-shift.ensures ∙ flips c.args.at.shift shift in (
      record {
        stops = StopsAt-below (tree_seen before.view) p (stop_of c.args.at) c.requires.stops.stops apart c.leads_right-right.result
            (c.leads_right-right.ensures ∙ ap (goes_right_by (c.args.at.shift == 20) here) aim) (tree_seen mid.view) (tree_seen after.view)
            (PassLooks-fills shared before mid looks) child (found at.After-child_or_start-child c.if-child-eq0.false).0
            (PassLooks-fills shared mid after (look at.After-point_word-word looks)) there c.point_word-word.ensures.found _
            (ap (λ b. record { depth = c.args.at.depth + 1; node = child; by_rows = b; here = there }) by_rows);
        shift = subst IsShift (sym c.other_shift-shift.ensures) (flipped c.args.at.shift shift);
      },
      refl,
    )
