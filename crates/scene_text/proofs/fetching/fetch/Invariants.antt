use Rattle.scene_text.proofs.Words.{◌≡◌, ◌-◌, ◌≤◌, false, IsTrue, vec_len, Consumes, MOST_TEXT_BYTES}
use Rattle.scene_text.proofs.fetching.fetch.Given as goal

-- the text is what came so far, no end was given, and no read has failed
abbrev pub invariant-loop-text : goal.invariant-loop-text
invariant-loop-text g l = record {
  consumed : Consumes (g.S.Source.state l.initial.source).bytes_left (g.S.Source.state l.source).bytes_left l.text.items;
  open_yet : (g.S.Source.state l.source).has_ended ≡ false;
  later : (g.S.Source.state l.initial.source).fault_count ≤ (g.S.Source.state l.source).fault_count;
  counting : (g.S.Source.state l.source).counts_failures_alone ≡ (g.S.Source.state l.initial.source).counts_failures_alone;
  no_fault :
      IsTrue (g.S.Source.state l.initial.source).counts_failures_alone
      → (g.S.Source.state l.source).fault_count ≡ (g.S.Source.state l.initial.source).fault_count;
  small : vec_len l.text ≤ MOST_TEXT_BYTES;
}

-- the bytes that may yet be read
abbrev pub decreases-loop-text : goal.decreases-loop-text
decreases-loop-text g l = MOST_TEXT_BYTES - vec_len l.text
