use Rattle.settle_report.proofs.Words.{◌≡◌, ◌+◌, ◌-◌, ◌++◌, ◌≤◌, length, take, drop, sym, ap, ◌∙◌, arith, take-add, take_rest, length-drop, Appends-trans}
use Rattle.settle_report.proofs.delivery.deliver.Goals as goal

pub loop-written-preserved : goal.loop-written-preserved
loop-written-preserved g c =
    let text = c.args.text.now in
    let m = c.loop-written.written in
    let n = c.in_ok-written.field-0 in
    let rest = take_rest text m in
    let prefixes : take (m + n) text ≡ take m text ++ take n (take (length text - m) (drop m text)) =
    (take-add m n text ∙ ap (λ ys. take m text ++ take n ys) (sym rest)) in
    record {
      within = (let bound : n ≤ length (drop m text) = (rw rest at c.in_ok-written.ensures.bound) in omega (arith, length-drop m text));
      prefix = rw prefixes (Appends-trans (g.K.Sink.state c.args.sink.now).bytes_taken (g.K.Sink.state c.loop-written.sink).bytes_taken
          (g.K.Sink.state c.write.new.self).bytes_taken _ _ c.loop-written.invariant.prefix c.in_ok-written.ensures.bytes);
      later = omega arith;
      counting = c.in_ok-written.ensures.counting ∙ c.loop-written.invariant.counting;
      no_fault = λ alone. c.in_ok-written.ensures.no_fault (c.loop-written.invariant.counting ∙ alone)
          ∙ c.loop-written.invariant.no_fault alone;
    }
