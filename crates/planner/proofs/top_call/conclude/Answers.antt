use Rattle.std.proofs.Common.{inl, inr, arith, ◌∙◌}
use Rattle.planner.proofs.ConcludedCalls.{HasConcluded-answer}
use Rattle.planner.proofs.DecidedStatuses.{IsSuccess-low}
use Rattle.planner.proofs.top_call.conclude.Goals as goal

-- no success ends with the status of a sink that failed
pub write_out-requires : goal.write_out-requires
write_out-requires g c = λ fault.
    let low = IsSuccess-low _ _ _ _ _ (rw c.in-Ok.is at c.requires.3.success) in omega arith

pub returns-in-Ok : goal.returns-in-Ok
returns-in-Ok g c = λ asked before now answered.
    let answer = rw c.in-Ok.is at answered in
    HasConcluded-answer _ _ _ _ c.deref.result.now _ _ _ (inl (rw c.deref.ensures.value answer.success)) answer.unread answer.within
    c.write_out.ensures.done c.write_out.ensures.cut

pub returns-in-Err : goal.returns-in-Err
returns-in-Err g c = λ asked before now answered.
    let answer = rw c.in-Err.is at answered in
    HasConcluded-answer _ _ _ _ c.as_bytes.result.now _ _ _
    (inr (record {
      refusal = c.in-Err.refusal;
      cause = answer.refusal;
      status = c.with_status-done.ensures.status ∙ c.status.ensures;
      nothing = c.with_status-done.ensures.nothing;
      written = c.as_bytes.ensures.value ∙ c.deref-in-Err.ensures.0 ∙ c.line.ensures;
    }))
    answer.unread answer.within c.write_out-in-Err.ensures.done c.write_out-in-Err.ensures.cut
