use Rattle.grown_runs.proofs.Words.{subst, sizes_in, words_in, WritesWord, Count, FirstOf}
use Rattle.grown_runs.proofs.Runs.PackedLists.{HoldLists-written, child-written}
use Rattle.grown_runs.proofs.packed_runs.write_lists.Goals as goal

pub returns-clause-lists : goal.returns-clause-lists
returns-clause-lists c =
    HoldLists-written (sizes_in c.args.words.now.places) c.args.knots.now c.args.records.now (words_in c.args.words.now)
    (words_in c.count_marks.new.words) (words_in c.set_count.new.self) (words_in c.set_first.new.self)
    (words_in c.write_nodes.new.words) (words_in c.write_records.new.words) c.requires.zeros c.count_marks.ensures.counted
    (subst (λ count. WritesWord Count count (words_in c.count_marks.new.words) (words_in c.set_count.new.self)) c.count_nodes.ensures
    c.set_count.ensures.word)
    (subst (λ word. WritesWord (FirstOf 0) word (words_in c.set_count.new.self) (words_in c.set_first.new.self)) c.pack_tree.ensures
    c.set_first.ensures.word) c.write_nodes.ensures.nodes c.write_records.ensures.records

pub returns-clause-children : goal.returns-clause-children
returns-clause-children c =
    child-written (sizes_in c.args.words.now.places) c.args.knots.now c.args.records.now (words_in c.args.words.now)
    (words_in c.count_marks.new.words) (words_in c.set_count.new.self) (words_in c.set_first.new.self)
    (words_in c.write_nodes.new.words) (words_in c.write_records.new.words) c.requires.zeros c.count_marks.ensures.counted
    (subst (λ count. WritesWord Count count (words_in c.count_marks.new.words) (words_in c.set_count.new.self)) c.count_nodes.ensures
    c.set_count.ensures.word)
    (subst (λ word. WritesWord (FirstOf 0) word (words_in c.set_count.new.self) (words_in c.set_first.new.self)) c.pack_tree.ensures
    c.set_first.ensures.word) c.write_nodes.ensures.nodes c.write_records.ensures.records
