use Rattle.plan_words.proofs.Words.{◌≡◌, ℕ, ◌+◌, [], ◌∷◌, ◌++◌, length, sym, ap, ◌∙◌, subst, arith, vec_capacity, AreSeenFirst, FitsNumbers}
use Rattle.plan_words.proofs.SeenLists.{AreSeenFirst-none, index-seen, length-seen}
use Rattle.plan_words.proofs.seen_pairs.SeenPairs.of_run.Goals as goal

pub see_run-requires : goal.see_run-requires
see_run-requires c =
    let none : c.push_reserved.new.self.items ≡ 0 ∷ [] = c.push_reserved.ensures.items ∙ ap (λ l. l ++ 0 ∷ []) c.in_ok-words.ensures.items in
    let marks = c.len-nodes.ensures ∙ ap (λ task. length task.marks) c.task.ensures in
    let children = c.in_ok-children.children in
    record {
      first =
          AreSeenFirst-none _ _ _ children none (omega arith)
          (omega (arith, marks, c.push_reserved.ensures.capacity, c.in_ok-words.ensures.exact))
          (subst (λ (n : ℕ). FitsNumbers children (n + 1)) marks c.in_ok-children.ensures.room) c.in_ok-children.ensures.chains;
      unseen = none;
    }

pub invariant_of-result : goal.invariant_of-result
invariant_of-result c =
    subst (λ (n : ℕ). AreSeenFirst (n + 1) c.see_run.new.words.items (vec_capacity c.see_run.new.words) c.see_run.new.children)
    (sym (c.len-nodes.ensures ∙ ap (λ task. length task.marks) c.task.ensures)) c.see_run.ensures.first

pub returns-clause-count : goal.returns-clause-count
returns-clause-count c =
    let marks = c.len-nodes.ensures ∙ ap (λ task. length task.marks) c.task.ensures in
    length-seen (c.len-nodes.result + 1) c.see_run.new.words.items (omega (arith, marks, c.see_run.ensures.first.within)) ∙ ap (λ (n : ℕ). n + 1) marks

pub returns-clause-each : goal.returns-clause-each
returns-clause-each c n low = index-seen (c.len-nodes.result + 1) c.see_run.new.words.items n ∙ c.see_run.ensures.each n
