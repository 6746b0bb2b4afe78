use Rattle.grown_runs.proofs.Table.ClearedWords.{cleared-blank}
use Rattle.grown_runs.proofs.Runs.LinkedPresence.{is_linked-closed, state_by-closed, child-closed}
use Rattle.grown_runs.proofs.word_laws.closed_runs_link_their_nodes.Goals as goal

pub returns : goal.returns
returns c = record {
  links = is_linked-closed;
  state = state_by-closed;
  no_child = child-closed;
  cleared = λ task limit words held. cleared-blank words held.blank;
}
