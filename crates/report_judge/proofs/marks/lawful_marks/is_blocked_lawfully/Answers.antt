use Rattle.report_judge.proofs.Words.{refl, iff_false}
use Rattle.report_judge.proofs.marks.lawful_marks.is_blocked_lawfully.Goals as goal

pub returns-then-is_clear_from_nearest : goal.returns-then-is_clear_from_nearest
returns-then-is_clear_from_nearest g c = λ setup same.
    (λ h. cc, λ law. absurd (law.blocked (rw same (c.is_clear_from_nearest.ensures.0 c.if-is_clear_from_nearest.true))))

pub returns : goal.returns
returns g c = λ setup same. (
  λ h. record {
    blocked = λ cleared. iff_false c.is_clear_from_nearest.ensures c.if-is_clear_from_nearest.false (rw same at cleared);
    free = c.is_taken.ensures.free c.if-is_taken.false;
  },
  λ law. refl,
)
