use Rattle.plan_words.proofs.Words.{arith, vec_capacity, seen_words}
use Rattle.plan_words.proofs.SeenLists.{StandFor-longer}
use Rattle.plan_words.proofs.seen_pairs.lengthen.Goals as goal

pub loop-words-preserved : goal.loop-words-preserved
loop-words-preserved c all within first =
    rw (c.push_reserved.ensures.items, c.push_reserved.ensures.capacity)
    (StandFor-longer all (seen_words all c.args.words.now.items) c.loop-words.words.items (vec_capacity c.loop-words.words) c.loop-words.children
    c.push_reserved-in-loop-words.new.self (omega (arith, c.len.ensures, c.loop-words-test.true, within, c.loop-words.words.ok))
    c.push_reserved-in-loop-words.ensures.more c.push_reserved-in-loop-words.ensures.room (c.loop-words.invariant all within first))
