use Rattle.step_core.proofs.OneView.LawfulSights.{IsLaterMoment-later, KeepsSight-lawful}
use Rattle.step_core.proofs.world_laws.lawful_views_are_sights.Goals as goal

pub returns-clause-keeps : goal.returns-clause-keeps
returns-clause-keeps c = KeepsSight-lawful

pub returns-clause-later : goal.returns-clause-later
returns-clause-later c = IsLaterMoment-later
