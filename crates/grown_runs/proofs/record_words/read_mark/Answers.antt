use Rattle.grown_runs.proofs.Words.{◌/◌, ◌^◌, ◌∙◌, ap, bit_and, refl, sym, arith, Same, unplaced_in}
use Rattle.grown_runs.proofs.Table.ReadWords.{record_of_word-is, record_in-skipped}
use Rattle.grown_runs.proofs.record_words.read_mark.Goals as goal

pub returns-in-0 : goal.returns-in-0
returns-in-0 c = record {
  read = record_of_word-is c.args.word c.args.first 0 c.placed_in.result c.if-word-lt-WRITTEN.false c.in-0.is c.placed_in.ensures;
}

pub returns-in-1 : goal.returns-in-1
returns-in-1 c = record {
  read =
      record_of_word-is c.args.word c.args.first 1 c.unplaced_in.result c.if-word-lt-WRITTEN.false c.in-1.is
      (c.unplaced_in.ensures ∙ ap (λ node. unplaced_in c.args.word (Same node)) c.last_in.ensures);
}

pub returns-in-2 : goal.returns-in-2
returns-in-2 c = record {
  read = record_of_word-is c.args.word c.args.first 2 c.unplaced_in-in-2.result c.if-word-lt-WRITTEN.false c.in-2.is c.unplaced_in-in-2.ensures;
}

pub returns-in_default : goal.returns-in_default
returns-in_default c = record {
  read =
      record_of_word-is c.args.word c.args.first (bit_and (c.args.word / 2 ^ 42) 3) c.unplaced_in-in_default.result c.if-word-lt-WRITTEN.false refl
      (c.unplaced_in-in_default.ensures ∙ sym (record_in-skipped (bit_and (c.args.word / 2 ^ 42) 3) c.args.word c.args.first (grind arith)));
}
