use Rattle.plan_words.proofs.Words.{rules, ◌≡◌, ◌<◌, length, sym, ap, ◌∙◌, arith, get_or_default, length-replicate}
use Rattle.plan_words.proofs.Words.{length-set, record_at, recorded-below, state_of_grown, turns_of, turns_of-longer, words_of_grown}
use Rattle.plan_words.proofs.CountedTurns.{AreCounted-none, AreCounted-one, AreCounted-past, turns_of-few}
use Rattle.plan_words.proofs.starts.count_turns.Goals as goal
use Rattle.plan_words.proofs.starts.count_turns.Goals.{then-entry-workers, else-entry-workers}

pub loop-mark-init : goal.loop-mark-init
loop-mark-init c =
    rw (c.in_ok-turns.ensures.items_if_clones_equal (search rules)) record {
      sized = length-replicate c.args.workers 0;
      counted = AreCounted-none (record_at (words_of_grown c.args.grown.now)) c.args.workers;
    }

pub overflow_add-index_mut : goal.overflow_add-index_mut
overflow_add-index_mut c =
    let worker = c.record_of-entry.result.worker in
    let turns = c.loop-mark.turns.items in
    let within : worker < length turns = omega (arith, c.if-entry-workers.true, c.loop-mark.invariant.sized) in
    let was = c.index_mut.ensures.value ∙ get_or_default turns worker _ 0 within in
    let few = turns_of-few (record_at (words_of_grown c.args.grown.now)) c.loop-mark.mark worker in
    omega (arith, was, c.loop-mark.invariant.counted worker c.if-entry-workers.true, few, c.loop-mark-test.true, c.ranges.workers)

pub loop-mark-preserved : goal.loop-mark-preserved
loop-mark-preserved c =
    let kept = c.loop-mark.invariant in
    let records = record_at (words_of_grown c.args.grown.now) in
    let mark = c.loop-mark.mark in
    let turns = c.loop-mark.turns.items in
    let entry = c.record_of-entry.result in
    elim c.if-entry-workers.branch [
      | then-entry-workers w ↦ (
          let within : entry.worker < length turns = omega (arith, w.if-entry-workers.true, kept.sized) in
          rw w.turns-is record {
            sized = length-set turns entry.worker _ ∙ kept.sized;
            counted =
                AreCounted-one records mark c.args.workers turns kept.counted entry c.record_of-entry.ensures w.if-entry-workers.true kept.sized
                w.index_mut.result.now (w.index_mut.ensures.value ∙ get_or_default turns entry.worker _ 0 within);
          })
      | else-entry-workers w ↦ rw w.turns-is record {
        sized = kept.sized;
        counted =
            AreCounted-past records mark c.args.workers turns kept.counted entry c.record_of-entry.ensures (omega (arith, w.if-entry-workers.false));
      }
    ]

pub returns-clause-each : goal.returns-clause-each
returns-clause-each c w low =
    let grown = c.args.grown.now in
    let records = record_at (words_of_grown grown) in
    let all : c.loop-mark.mark ≡ grown.limit = omega (arith, c.loop-mark-test.false, c.loop-mark.auto.mark-end, c.limit-mark-end.ensures) in
    let closed = grown.hold_run.closed in
    c.loop-mark.invariant.counted w low ∙ ap (λ n. turns_of records n w) all
    ∙ sym (turns_of-longer records grown.limit _ closed.within (recorded-below grown.task grown.limit (state_of_grown grown) closed) w)
