use Rattle.step_core.proofs.Seen.Looks.{AreBehind-looks, IsLaterMoment-looks, IsRooted-looks}
use Rattle.step_core.proofs.seen_laws.looks_keep_what_is_seen.Goals as goal

pub returns-clause-behind : goal.returns-clause-behind
returns-clause-behind c = AreBehind-looks

pub returns-clause-later : goal.returns-clause-later
returns-clause-later c = IsLaterMoment-looks

pub returns-clause-rooted : goal.returns-clause-rooted
returns-clause-rooted c = IsRooted-looks
