use Rattle.grown_runs.proofs.Words.{◌≡◌, None, is_some, slice_index_or, sizes_in, words_in}
use Rattle.grown_runs.proofs.Ways.LinkedNodes.{LinksSoFar}
use Rattle.grown_runs.proofs.kd_links.link_all.Given as goal

-- the nodes so far are linked
abbrev pub invariant-loop-node : goal.invariant-loop-node
invariant-loop-node l = record {
  places : l.words.places ≡ l.fn.words.places;
  links : LinksSoFar (sizes_in l.fn.words.places) (λ n. is_some (slice_index_or l.knots n None)) (words_in l.fn.words) (words_in l.words) l.node;
}
