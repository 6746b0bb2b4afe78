use Rattle.plan_work.proofs.Words.{inl, inr, subst, GoesOn-trans, ending_as, EndsAsSeen}
use Rattle.plan_work.proofs.extension_laws.placed_marks_bring_falls_down.Goals as goal

pub returns-clause-linked : goal.returns-clause-linked
returns-clause-linked c = λ before after k entry extended is.
    let ended = (subst (λ o. EndsAsSeen before after k entry (ending_as entry o)) is extended.outcome).1.outcome in (
      ended.linked_at,
      GoesOn-trans before ended.chosen_at ended.linked_at ended.chosen.since ended.in_turn,
      ended.rewired.until,
      ended.rewired.written,
      ended.rewired.posted,
    )

pub returns-clause-fallen : goal.returns-clause-fallen
returns-clause-fallen c = λ before after k entry extended is.
    let ended = (subst (λ o. EndsAsSeen before after k entry (ending_as entry o)) is extended.outcome).1.outcome in (
      ended.linked_at,
      GoesOn-trans before ended.chosen_at ended.linked_at ended.chosen.since ended.in_turn,
      ended.rewired.until,
      λ n fall apart. elim (ended.rewired.spread n fall) [
        | inl within ↦ within
        | inr lost ↦ elim apart [
          | inl far ↦ absurd (far lost.listed)
          | inr own ↦ absurd (lost.elsewhere own)
        ]
      ],
    )
