use Rattle.grown_runs.proofs.Words.{ap, ◌∙◌, subst, sizes_of, sizes_in, words_in, WritesWord, PointOf, TreeOf, FirstOf}
use Rattle.grown_runs.proofs.Runs.StartWords.{AreSameRuns-start, HoldRun-start, HoldStart-written, IsBounded-start}
use Rattle.grown_runs.proofs.grown.Grown.new.Goals as goal

pub invariant_of-result : goal.invariant_of-result
invariant_of-result c =
    let start = c.args.task.scene.start in
    let none = words_in c.in_ok-words.words in
    let one = words_in c.set_count.new.self in
    let two = words_in c.set_point.new.self in
    let three = words_in c.set_tree.new.self in
    let all = words_in c.set_first.new.self in
    record {
      of_task =
          ap sizes_in (c.set_first.ensures.places ∙ c.set_tree.ensures.places ∙ c.set_point.ensures.places ∙ c.set_count.ensures.places)
          ∙ c.in_ok-words.ensures.sizes;
      hold_run =
          HoldRun-start c.args.task all c.requires
          (HoldStart-written start none one two three all c.in_ok-words.ensures.zeros c.set_count.ensures.word
          (subst (λ word. WritesWord (PointOf 0) word (words_in c.set_count.new.self) (words_in c.set_point.new.self)) c.pack_point.ensures
          c.set_point.ensures.word)
          (subst (λ word. WritesWord (TreeOf 0) word (words_in c.set_point.new.self) (words_in c.set_tree.new.self)) c.pack_tree.ensures
          c.set_tree.ensures.word)
          (subst (λ word. WritesWord (FirstOf 0) word (words_in c.set_tree.new.self) (words_in c.set_first.new.self)) c.pack_tree-2.ensures
          c.set_first.ensures.word));
    }

pub returns-clause-state : goal.returns-clause-state
returns-clause-state c =
    let start = c.args.task.scene.start in
    let none = words_in c.in_ok-words.words in
    let one = words_in c.set_count.new.self in
    let two = words_in c.set_point.new.self in
    let three = words_in c.set_tree.new.self in
    let all = words_in c.set_first.new.self in
    AreSameRuns-start (sizes_of c.args.task) start all (IsBounded-start c.args.task)
    (HoldStart-written start none one two three all c.in_ok-words.ensures.zeros c.set_count.ensures.word
    (subst (λ word. WritesWord (PointOf 0) word (words_in c.set_count.new.self) (words_in c.set_point.new.self)) c.pack_point.ensures
    c.set_point.ensures.word)
    (subst (λ word. WritesWord (TreeOf 0) word (words_in c.set_point.new.self) (words_in c.set_tree.new.self)) c.pack_tree.ensures
    c.set_tree.ensures.word)
    (subst (λ word. WritesWord (FirstOf 0) word (words_in c.set_tree.new.self) (words_in c.set_first.new.self)) c.pack_tree-2.ensures
    c.set_first.ensures.word))
