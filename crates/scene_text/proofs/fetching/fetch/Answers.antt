use Rattle.scene_text.proofs.Words.{◌≡◌, ◌≤◌, ◌-◌, ◌+◌, ◌++◌, IsTrue, length, take, ap, sym, subst, rules, ◌∙◌, arith, length-take, Consumes-trans, counted_up}
use Rattle.scene_text.proofs.Words.{MOST_TEXT_BYTES}
use Rattle.std.proofs.Common.{length-append}
use Rattle.scene_text.proofs.FetchLemmas.{ReadsWithin-fetched, Fetches-failed, Fetches-whole, Fetches-too_long, Fetches-memory, IsErrOf-failed}
use Rattle.scene_text.proofs.fetching.fetch.Goals as goal

pub returns-then-count-room-clause-came : goal.returns-then-count-room-clause-came
returns-then-count-room-clause-came g c =
    let kept = c.loop-text.invariant in
    let text = c.loop-text.text in
    let read = c.in_ok-count.ensures in
    let places : length c.read.new.into ≤ MOST_TEXT_BYTES - length text.items + 1 =
    omega (arith, c.read.auto.into, length-take c.min.result c.loop-text.buffer, c.min.ensures, c.len-room.ensures, text.ok.0) in
    Fetches-too_long _ _ _ text.items c.read.new.into c.in_ok-count.count kept.consumed read.bytes.0 read.bound
    (omega arith) places (omega arith)

pub returns-then-count-room-clause-too_long : goal.returns-then-count-room-clause-too_long
returns-then-count-room-clause-too_long g c = let h = returns-then-count-room-clause-came g c in λ e. (h.came, h.too_long.0 e, h.consumed)

pub returns-then-count-room-clause-within : goal.returns-then-count-room-clause-within
returns-then-count-room-clause-within g c = ReadsWithin-fetched _ _ _ (returns-then-count-room-clause-came g c)

pub returns-in_err-extend_from_slice-clause-came : goal.returns-in_err-extend_from_slice-clause-came
returns-in_err-extend_from_slice-clause-came g c =
    let kept = c.loop-text.invariant in
    let text = c.loop-text.text in
    let read = c.in_ok-count.ensures in
    let places : length c.read.new.into ≤ MOST_TEXT_BYTES - length text.items + 1 =
    omega (arith, c.read.auto.into, length-take c.min.result c.loop-text.buffer, c.min.ensures, c.len-room.ensures, text.ok.0) in
    Fetches-memory _ _ _ text.items c.read.new.into c.in_ok-count.count kept.consumed read.bytes.0 read.bound
    (omega arith) places _ c.from_residual-in_err-extend_from_slice.ensures.1 (omega arith)

pub returns-in_err-extend_from_slice-clause-within : goal.returns-in_err-extend_from_slice-clause-within
returns-in_err-extend_from_slice-clause-within g c = ReadsWithin-fetched _ _ _ (returns-in_err-extend_from_slice-clause-came g c)

pub loop-text-preserved : goal.loop-text-preserved
loop-text-preserved g c =
    let kept = c.loop-text.invariant in
    let text = c.loop-text.text in
    let read = c.in_ok-count.ensures in
    record {
      consumed = rw c.in_ok-extend_from_slice.ensures.items
          (Consumes-trans _ _ _ text.items (take c.in_ok-count.count c.read.new.into) kept.consumed read.bytes.0);
      open_yet = search rules;
      later = omega (arith, kept.later, read.later);
      counting = read.counting ∙ kept.counting;
      no_fault = λ alone. read.no_fault (subst (λ b. IsTrue b) (sym kept.counting) alone) ∙ kept.no_fault alone;
      small = search rules;
    }

pub loop-text-smaller : goal.loop-text-smaller
loop-text-smaller g c =
    let text = c.loop-text.text in
    let piece = take c.in_ok-count.count c.read.new.into in
    let grown : length c.extend_from_slice.new.self.items ≡ length (text.items ++ piece) =
    ap length {y = text.items ++ piece} c.in_ok-extend_from_slice.ensures.items in
    omega (arith, grown, length-append text.items piece, length-take c.in_ok-count.count c.read.new.into, c.in_ok-count.ensures.bound)

pub returns-in_err-count-clause-came : goal.returns-in_err-count-clause-came
returns-in_err-count-clause-came g c =
    let kept = c.loop-text.invariant in
    let text = c.loop-text.text in
    let fits : length text.items ≤ MOST_TEXT_BYTES = omega (arith, kept.small, text.ok.0) in
    Fetches-failed _ _ _ text.items c.from_residual.result kept.consumed c.in_err-count.ensures.bytes fits c.from_residual.ensures.1

pub returns-in_err-count-clause-too_long : goal.returns-in_err-count-clause-too_long
returns-in_err-count-clause-too_long g c = let h = returns-in_err-count-clause-came g c in λ e. (h.came, h.too_long.0 e, h.consumed)

pub returns-in_err-count-clause-within : goal.returns-in_err-count-clause-within
returns-in_err-count-clause-within g c = ReadsWithin-fetched _ _ _ (returns-in_err-count-clause-came g c)

pub returns-in_err-count-clause-one_fault : goal.returns-in_err-count-clause-one_fault
returns-in_err-count-clause-one_fault g c =
    let kept = c.loop-text.invariant in
    λ alone failed. c.in_err-count.ensures.one_fault (subst (λ b. IsTrue b) (sym kept.counting) alone) ∙ ap counted_up (kept.no_fault alone)

pub returns-in_err-count-clause-no_fault : goal.returns-in_err-count-clause-no_fault
returns-in_err-count-clause-no_fault g c = λ alone other. absurd (other (IsErrOf-failed c.from_residual.result c.from_residual.ensures.1))

pub returns-then-count-eq0-clause-came : goal.returns-then-count-eq0-clause-came
returns-then-count-eq0-clause-came g c =
    let kept = c.loop-text.invariant in
    let text = c.loop-text.text in
    let fits : length text.items ≤ MOST_TEXT_BYTES = omega (arith, kept.small, text.ok.0) in
    Fetches-whole _ _ _ text c.read.new.into c.in_ok-count.count c.if-count-eq0.true kept.consumed c.in_ok-count.ensures.bytes.0 fits

pub returns-then-count-eq0-clause-within : goal.returns-then-count-eq0-clause-within
returns-then-count-eq0-clause-within g c = ReadsWithin-fetched _ _ _ (returns-then-count-eq0-clause-came g c)
