use Rattle.settle_report.proofs.Words.{◌≡◌, ◌≤◌, ◌-◌, IsTrue, length, take, Appends}
use Rattle.settle_report.proofs.delivery.deliver.Given as goal

abbrev pub invariant-loop-written : goal.invariant-loop-written
invariant-loop-written g l = record {
  within : l.written ≤ length l.text;
  prefix : Appends (g.K.Sink.state l.initial.sink).bytes_taken (g.K.Sink.state l.sink).bytes_taken (take l.written l.text);
  later : (g.K.Sink.state l.initial.sink).fault_count ≤ (g.K.Sink.state l.sink).fault_count;
  counting : (g.K.Sink.state l.sink).counts_failures_alone ≡ (g.K.Sink.state l.initial.sink).counts_failures_alone;
  no_fault :
      IsTrue (g.K.Sink.state l.initial.sink).counts_failures_alone
      → (g.K.Sink.state l.sink).fault_count ≡ (g.K.Sink.state l.initial.sink).fault_count;
}

abbrev pub decreases-loop-written : goal.decreases-loop-written
decreases-loop-written g l = length l.text - l.written
