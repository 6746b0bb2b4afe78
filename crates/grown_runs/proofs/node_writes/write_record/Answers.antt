use Rattle.grown_runs.proofs.Words.{◌≡◌, ◌+◌, suc, arith, ◌∙◌, subst, words_in, WritesWord, FirstOf, RecordOf, tree_word}
use Rattle.grown_runs.proofs.Runs.PackedWritings.{HoldsRecord-unplaced, HoldsRecord-placed, ChangesRecord-unplaced, ChangesRecord-placed}
use Rattle.grown_runs.proofs.node_writes.write_record.Goals as goal

pub returns-in-Placed : goal.returns-in-Placed
returns-in-Placed c =
    let entry = c.args.entry.now in
    let k = c.args.mark in
    let before = words_in c.args.words.now in
    let own =
    subst (λ word. WritesWord (RecordOf c.args.mark) word (words_in c.args.words.now) (words_in c.set_record.new.self)) c.pack_mark.ensures
    c.set_record.ensures.word in
    let next : c.args.mark + 1 ≡ suc c.args.mark = omega arith in
    let first =
    subst (λ n. WritesWord (FirstOf n) (tree_word entry.first_parent entry.first_cost) (words_in c.set_record.new.self) (words_in c.set_first.new.self)) next
    (subst (λ word. WritesWord (FirstOf (c.args.mark + 1)) word (words_in c.set_record.new.self) (words_in c.set_first.new.self)) c.pack_tree.ensures
    c.set_first.ensures.word) in
    record {
      places = c.set_first.ensures.places ∙ c.set_record.ensures.places;
      hold = HoldsRecord-placed k entry before _ own _ c.in-Placed.is first;
      others = ChangesRecord-placed k entry before _ own _ c.in-Placed.is first;
    }

pub returns-in_default : goal.returns-in_default
returns-in_default c =
    let entry = c.args.entry.now in
    let k = c.args.mark in
    let before = words_in c.args.words.now in
    let own =
    subst (λ word. WritesWord (RecordOf c.args.mark) word (words_in c.args.words.now) (words_in c.set_record.new.self)) c.pack_mark.ensures
    c.set_record.ensures.word in
    record {
      places = c.set_record.ensures.places;
      hold = HoldsRecord-unplaced k entry before _ own c.in_default.not-Placed;
      others = ChangesRecord-unplaced k entry before _ own;
    }
