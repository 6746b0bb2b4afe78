use Rattle.report_judge.proofs.Words.{◌≡◌, ◌+◌, ◌≤◌, ◌%◌, ◌-◌, ◌^◌, drop, length, take, true, list_all, prefix_len, is_digit, magnitude}
use Rattle.report_judge.proofs.reading.fields.read_digits.Given as goal

-- the bytes so far are digits
abbrev pub invariant-loop-place : goal.invariant-loop-place
invariant-loop-place l = record {
  within : l.place ≤ length l.text;
  count : prefix_len is_digit l.text ≡ l.place + prefix_len is_digit (drop l.place l.text);
  digital : list_all is_digit (take l.place l.text) ≡ true;
  remainder : l.remainder ≡ magnitude (take l.place l.text) % 2 ^ 64;
}

abbrev pub decreases-loop-place : goal.decreases-loop-place
decreases-loop-place l = length l.text - l.place
