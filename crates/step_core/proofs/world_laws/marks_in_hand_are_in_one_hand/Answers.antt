use Rattle.step_core.proofs.Whole.WholeCopies.{one_hand}
use Rattle.step_core.proofs.Parts.MarksInHand.{in_hand}
use Rattle.step_core.proofs.world_laws.marks_in_hand_are_in_one_hand.Goals as goal

pub returns-clause-no_record : goal.returns-clause-no_record
returns-clause-no_record c = λ now is hand held. (in_hand now.run now.words now.views now.id now.view is.world is.at hand held).absent

pub returns-clause-within : goal.returns-clause-within
returns-clause-within c = λ now is hand held. (in_hand now.run now.words now.views now.id now.view is.world is.at hand held).low

pub returns-clause-alone : goal.returns-clause-alone
returns-clause-alone c = one_hand
