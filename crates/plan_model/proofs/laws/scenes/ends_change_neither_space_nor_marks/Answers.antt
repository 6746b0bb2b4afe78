use Rattle.std.proofs.Common.{refl}
use Rattle.plan_model.proofs.laws.scenes.ends_change_neither_space_nor_marks.Goals as goal

pub returns-clause-space : goal.returns-clause-space
returns-clause-space c = λ scene start start_within goals goals_within. refl

pub returns-clause-marks : goal.returns-clause-marks
returns-clause-marks c = λ scene start start_within goals goals_within. refl

pub returns-clause-setup : goal.returns-clause-setup
returns-clause-setup c = λ scene start start_within goals goals_within. refl

pub returns-clause-goals : goal.returns-clause-goals
returns-clause-goals c = λ scene start start_within goals goals_within. refl
