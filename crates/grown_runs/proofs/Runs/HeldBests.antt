-- The best word is no part of a run at rest: whatever is written there, the words are still those of the run.
use Rattle.grown_runs.proofs.Words.{◌≡◌, ℕ, false, sym, ap, ◌∙◌, subst, IsClosed, setup_of, FollowWays, node_count, Task, HoldRun, IsBlank, IsPointWord}
use Rattle.grown_runs.proofs.Words.{IsTreeWord, child_of_word, children_of_words, has_node, points_of_words, sizes_of, state_of_words, Words, WritesWord, Best}
use Rattle.grown_runs.proofs.Words.{ChildOf, Count, Counter, FirstOf, PointOf, RecordOf, TreeOf, Sizes, cost_in, parent_in}
use Rattle.grown_runs.proofs.Table.KeptWords.{KeepsNodes, has_node-kept, points-kept, present-kept, record_at-kept}

module _ (before after : Words) (x : ℕ) (writes : WritesWord Best x before after) where
  keeps : KeepsNodes before after
  keeps = record {
    points = λ n. writes.others (PointOf n) (λ e. cc);
    firsts = λ n. writes.others (FirstOf n) (λ e. cc);
    records = λ k. writes.others (RecordOf k) (λ e. cc);
  }

  same_tree : (n : ℕ) → after (TreeOf n) ≡ before (TreeOf n)
  same_tree n = writes.others (TreeOf n) (λ e. cc)

  same_children : children_of_words after ≡ children_of_words before
  same_children = λ t n side. child_of_word (writes.others (ChildOf n side) (λ e. cc) t)

  pub state-best : (sizes : Sizes) → state_of_words sizes after ≡ state_of_words sizes before
  state-best sizes = λ t. record {
    points = points-kept before after keeps sizes t;
    parent = λ n. parent_in (same_tree n t);
    cost = λ n. cost_in (same_tree n t);
    written_cost = λ n. cost_in (keeps.firsts n t);
    record_of = λ k. record_at-kept before after keeps k t;
  }

  pub HoldRun-best : (task : Task) (limit : ℕ) → HoldRun task limit before → HoldRun task limit after
  HoldRun-best task limit held =
      let sizes : Sizes = sizes_of task in
      let points = points-kept before after keeps sizes in
      record {
        closed = subst (IsClosed (setup_of task.scene) task.marks limit) (sym (state-best sizes)) held.closed;
        ways =
            subst (FollowWays (children_of_words after)) (sym points)
            (subst (λ child. FollowWays child (points_of_words sizes before)) (sym same_children) held.ways);
        counted = writes.others Count (λ e. cc) ∙ held.counted ∙ ap node_count (sym points);
        claimed = λ g low. writes.others (Counter g) (λ e. cc) ∙ held.claimed g low;
        written = λ n here.
            let was = held.written n (present-kept before after keeps sizes n here) in
            record {
              point = subst IsPointWord (sym (keeps.points n)) was.point;
              tree = subst IsTreeWord (sym (same_tree n)) was.tree;
              first = subst IsTreeWord (sym (keeps.firsts n)) was.first;
            };
        recorded = λ k entry e. keeps.records k ∙ held.recorded k entry (sym (record_at-kept before after keeps k) ∙ e);
        unrecorded = λ k past. keeps.records k ∙ held.unrecorded k past;
        start_first = keeps.firsts 0 ∙ held.start_first;
        blank = blank held.blank;
      }
    where
      blank : ((n : ℕ) → has_node before n ≡ false → IsBlank before n) → (n : ℕ) → has_node after n ≡ false → IsBlank after n
      blank was n none =
          let old = was n (sym (has_node-kept before after keeps n) ∙ none) in
          record { point = keeps.points n ∙ old.point; tree = same_tree n ∙ old.tree; first = keeps.firsts n ∙ old.first }
