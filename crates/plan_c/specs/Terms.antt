-- What the definitions here say of the crates below and of the types of this one, passed on from one place. Declares nothing.
pub use lib.ListN.{drop}
pub use Rattle.plan_model.specs.Texts.Keys.{number_of_kind}
pub use Rattle.planner.specs.CheckedTexts.{RefusesSceneText}
pub use Rattle.planner.specs.Conclusions.{Succeeds}
pub use Rattle.planner.specs.Refusals.{status_of, status_of_verdict}
pub use Rattle.planner.specs.declared.answers.Answer.{Answer}
pub use Rattle.planner.specs.declared.commands.Command.{Command}
pub use Rattle.planner.specs.declared.refusals.Refusal.{Refusal}
pub use Rattle.planner.specs.Terms.{Broken, ClearAt, IsVerdict, Lawful, MOST_TEXT_BYTES, Spells, Task, Verdict, space_of, supported}
