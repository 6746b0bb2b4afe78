use Rattle.tree_rewire.proofs.Words.{ℕ, ◌≤◌, ◌-◌, Contains, IsBlockedBelow, nodes_on, NamesNothing, PassSees}
use Rattle.tree_rewire.proofs.ChosenFound.{IsWordOf}
use Rattle.tree_rewire.proofs.open_words.least_open.Given as goal

-- all words below this one are blocked
abbrev pub invariant-blocked : goal.invariant-blocked
invariant-blocked g l = record {
  steps : PassSees NamesNothing l.shared l.fn.pass l.pass;
  of_near : IsWordOf l.fn.pass.view l.p (nodes_on l.among l.fn.pass.lists) l.last l.word;
  most : l.word ≤ l.last;
  earlier : (n : ℕ) → Contains (nodes_on l.among l.fn.pass.lists) n → IsBlockedBelow (g.C.Clearing.space l.hall) l.fn.pass.view l.p l.word n;
}

-- how far the last word is
abbrev pub decreases-blocked : goal.decreases-blocked
decreases-blocked g l = l.last - l.word
