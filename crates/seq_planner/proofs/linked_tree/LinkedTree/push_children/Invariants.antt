-- The children before the next one were added, and it is left with its siblings after it.
use Rattle.seq_planner.proofs.Words.{◌≡◌, ℕ, suc, ◌+◌, ◌<◌, length, siblings_from, times, chain_in}
use Rattle.seq_planner.proofs.linked_tree.LinkedTree.push_children.Given as goal

abbrev pub invariant-loop-child : goal.invariant-loop-child
invariant-loop-child l = record {
  added :
      (c : ℕ)
      → times l.list.items c + times (siblings_from l.self-inside.children l.child) c
      ≡ times l.initial.list.items c + times (siblings_from l.self-inside.children l.initial.child) c;
  ahead : (c : ℕ) → 0 < times (siblings_from l.self-inside.children l.child) c → chain_in l.self-inside.nodes.items c ≡ suc l.number;
}

abbrev pub decreases-loop-child : goal.decreases-loop-child
decreases-loop-child l = length (siblings_from l.self-inside.children l.child)
