use Rattle.any_time.proofs.ItemsOfSessions.{batch_items_fall, ends_with_sessions, fails_by_memory, items_of_sessions}
use Rattle.any_time.proofs.laws.items_are_of_sessions.Goals as goal

pub returns-clause-sessions : goal.returns-clause-sessions
returns-clause-sessions c = items_of_sessions

pub returns-clause-fall : goal.returns-clause-fall
returns-clause-fall c = batch_items_fall

pub returns-clause-failed : goal.returns-clause-failed
returns-clause-failed c = fails_by_memory

pub returns-clause-end : goal.returns-clause-end
returns-clause-end c = ends_with_sessions
