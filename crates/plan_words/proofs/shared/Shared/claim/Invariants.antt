use Rattle.plan_words.proofs.Words.{◌≡◌, KeepsHand, SeesAsBefore, BelongsTo, HasWholeShare, with_view, IsLater, sees, ChangesOnly, IsCounter, Counter}
use Rattle.plan_words.proofs.GoingOn.{HasGoneOn}
use Rattle.plan_words.proofs.Scanning.{left_over}
use Rattle.plan_words.proofs.shared.Shared.claim.Given as goal

abbrev pub invariant-tries : goal.invariant-tries
invariant-tries l = record {
  belongs : BelongsTo l.pass l.self;
  kept : KeepsHand l.fn.pass.view l.pass.view;
  later : IsLater l.fn.pass.view l.pass.view;
  goes_on : HasGoneOn l.fn.pass.view l.pass.view;
  others : ChangesOnly IsCounter (sees l.fn.pass.view) (sees l.pass.view);
  alone : l.pass ≡ with_view l.fn.pass l.pass.view;
  whole : HasWholeShare l.fn.pass.view → SeesAsBefore l.fn.pass.view l.pass.view;
}

abbrev pub decreases-tries : goal.decreases-tries
decreases-tries l = left_over l.pass.view.run.strips l.limit (λ g. sees l.pass.view (Counter g))
