-- What a session that is watched has given after some steps, what the sink has taken, and how both end.
use Rattle.path_watch.proofs.Words.{◌≡◌, ℕ, zero, suc, List, [], ◌∷◌, ◌++◌, map, Option, Some, None, IsSome, IsSomeAnd, Ok, inl, inr, refl, sym, subst}
use Rattle.path_watch.proofs.Words.{FoldsTo-push, chained_keeps, map-append, FoldsTo, SinkState, IsSettled, Scene, state_of_grown, Grown, items_fall_on}
use Rattle.path_watch.proofs.Words.{AreBetterPaths-gathered, EndsWith-gathered, there_some, ArePolled, Gathers, HasGiven, IsNew, IsOver, Polls, SessionState}
use Rattle.path_watch.proofs.Words.{Better, IsRunBySlices-finished, IsSessionOf, IsRunBySlices, block, end_text, Comes, Cuts, Hands, Takes, pendings, EndsAfter}
use Rattle.path_watch.proofs.Words.{HandsEnd, IsAfter, Refuses, TakesBlocks, Watches, Ending}
use Rattle.planner.specs.declared.refusals.Refusal.TheVariants as refusals
use Rattle.path_watch.proofs.GivenItems.{ArePolled-end, ArePolled-item}
use Rattle.path_watch.specs.declared.watching.Ending.TheVariants as endings

has_run : (run : Option Grown) (P : Grown → Type 0) → IsSomeAnd run P → IsSome run
has_run None P h = absurd h
has_run (Some run) P h = refl

has_after : (before after : Option Grown) (P : Grown → Grown → Type 0) → IsSomeAnd before (λ b. IsSomeAnd after (P b)) → IsSome after
has_after None after P h = absurd h
has_after (Some b) after P h = has_run after (P b) h

-- a session that has its run keeps it while it waits
keeps_run : (n : ℕ) (s t : SessionState) → FoldsTo Polls s (pendings n) t → IsSome s.run → IsSome t.run
keeps_run zero s t h some = subst (λ (u : SessionState). IsSome u.run) h some
keeps_run (suc n) s t h some = keeps_run n h.0 t h.2 (has_after s.run h.0.run _ h.1.2)

-- and at its end
pub keeps_run_at_end : (s t : SessionState) → Comes s None t → IsSome s.run → IsSome t.run
keeps_run_at_end s t h some = subst (λ (u : SessionState). IsSome u.run) (sym h.gives.1) (keeps_run h.count s h.between h.waits some)

-- what steps with these items have come to, from this session and this sink
pub record Reached (s : SessionState) (k : SinkState) (items : List Better) (now : SessionState × SinkState) : Type 0 where
  pub polled : ArePolled s items now.0
  pub some : IsSome now.0.run
  pub taken : TakesBlocks k items now.1

one_step : (s : SessionState) (k : SinkState) (items : List Better) (p q : SessionState × SinkState) (item : Better) → Reached s k items p
    → Hands p item q → Reached s k (items ++ item ∷ []) q
one_step s k items p q item h step = record {
  polled = ArePolled-item s items p.0 q.0 item h.polled step.comes;
  some = has_run q.0.run _ step.stands;
  taken = subst (λ (texts : List (List ℕ)). FoldsTo Takes k texts q.1) (sym (map-append block items (item ∷ [])))
      (FoldsTo-push Takes k (map block items) p.1 (block item) q.1 h.taken step.taken);
}

pub Reached-steps : (s : SessionState) (k : SinkState) (items : List Better) (now : SessionState × SinkState) → IsSome s.run
    → FoldsTo Hands (s, k) items now → Reached s k items now
Reached-steps s k items now some steps =
    chained_keeps Hands (λ xs q. Reached s k xs q) (λ xs p item q h step. one_step s k xs p q item h step) items (s, k) now
    (record { polled = ([], refl, refl); some = some; taken = refl }) steps

module _ (workers slice : ℕ) (scene : Scene) (s : SessionState) (session : IsSessionOf workers slice scene s) where
  pub fresh_run : IsSome s.run
  fresh_run = has_run s.run (IsNew session.task) session.fresh.run

  pub IsAfter-polled : (items : List Better) (t : SessionState) (run : Grown) → ArePolled s items t → t.run ≡ Some run
      → IsAfter workers slice scene items run
  IsAfter-polled items t run h there =
      let law = (items_fall_on session.task workers slice s t h.0 session.fresh h.1).0 in (
        session.task,
        session.of_scene,
        subst (λ (r : Option Grown). HasGiven session.task workers slice items r) there
            (subst (λ (xs : List Better). HasGiven session.task workers slice xs t.run) h.2 law),
      )

  pub IsRunBySlices-polled : (items : List Better) (t : SessionState) (run : Grown) → ArePolled s items t → IsOver t → t.run ≡ Some run
      → IsRunBySlices workers slice scene run items
  IsRunBySlices-polled items t run h over there =
      let gathers : Gathers s [] t items = (h.0, h.1, over, sym h.2) in
      IsRunBySlices-finished workers slice scene session.task items run session.of_scene (record {
        ended = EndsWith-gathered session.task workers slice s t [] items run refl session.fresh gathers there;
        better = AreBetterPaths-gathered session.task workers slice s t [] items run refl session.fresh gathers there;
      })

  module _ (k mid now : SinkState) (items : List Better) where
    -- memory was out
    refused : (run : Grown) (ending : Ending) → IsAfter workers slice scene items run → Refuses mid now refusals.Memory ending
        → EndsAfter workers slice scene items mid now ending
    refused run (endings.Refused it) after h = ((run, after), h)
    refused run (endings.CutRefusal it) after h = ((run, after), h)
    refused run ending after h = absurd h

    -- the session came to its end
    ended : (run : Grown) (ending : Ending) → IsAfter workers slice scene items run → IsRunBySlices workers slice scene run items
        → HandsEnd mid now run ending → EndsAfter workers slice scene items mid now ending
    ended run (endings.Ended it has_path) after whole h =
        (subst (λ (r : Grown). IsRunBySlices workers slice scene r items) (sym h.0) whole, h.1, h.2)
    ended run (endings.Cut it) after whole h =
        (end_text it, inr (refl, subst (λ (r : Grown). IsRunBySlices workers slice scene r items) (sym h.0) whole), h.1)
    ended run (endings.Refused it) after whole h = ((run, after), h)
    ended run (endings.CutRefusal it) after whole h = ((run, after), h)

    -- the block of an item was cut
    cut : (there : Option Grown) (t : SessionState) (item : Better) (ending : Ending) → t.run ≡ there → ArePolled s (items ++ item ∷ []) t
        → IsSomeAnd there (λ run. run.limit ≡ item.marks) → IsSomeAnd there (λ run. ending ≡ endings.Cut run) → Cuts mid (block item) now
        → EndsAfter workers slice scene items mid now ending
    cut None t item ending is h marks ends cuts = absurd marks
    cut (Some run) t item ending is h marks ends cuts =
        subst (EndsAfter workers slice scene items mid now) (sym ends)
        (block item, inl (item, refl, marks, IsAfter-polled (items ++ item ∷ []) t run h is), cuts)

    pub Watches-refused : (t : SessionState) (ending : Ending) → Reached s k items (t, mid) → Refuses mid now refusals.Memory ending
        → Watches workers slice scene k now ending
    Watches-refused t ending h refuses =
        let run = there_some t.run h.some in
        record {
          items = items;
          then = mid;
          blocks = h.taken;
          ends = refused run.0 ending (IsAfter-polled items t run.0 h.polled run.1) refuses;
        }

    pub Watches-cut : (t u : SessionState) (item : Better) (ending : Ending) → Reached s k items (t, mid) → Comes t (Some (Ok item)) u
        → IsSomeAnd u.run (λ run. run.limit ≡ item.marks) → IsSomeAnd u.run (λ run. ending ≡ endings.Cut run) → Cuts mid (block item) now
        → Watches workers slice scene k now ending
    Watches-cut t u item ending h comes marks ends cuts = record {
      items = items;
      then = mid;
      blocks = h.taken;
      ends = cut u.run u item ending refl (ArePolled-item s items t u item h.polled comes) marks ends cuts;
    }

    pub Watches-ended : (t u : SessionState) (run : Grown) (ending : Ending) → Reached s k items (t, mid) → Comes t None u → u.run ≡ Some run
        → HandsEnd mid now run ending → Watches workers slice scene k now ending
    Watches-ended t u run ending h comes is hands =
        let polled = ArePolled-end s items t u h.polled comes in
        let over = subst IsOver (sym comes.gives.1) comes.gives.0 in
        record {
          items = items;
          then = mid;
          blocks = h.taken;
          ends = ended run ending (IsAfter-polled items u run polled is) (IsRunBySlices-polled items u run polled over is) hands;
        }

    -- and as its call says
    over : (there : Option Grown) (t u : SessionState) (ending : Ending) → u.run ≡ there → Reached s k items (t, mid) → Comes t None u
        → IsSomeAnd there (λ run. HandsEnd mid now run ending) → Watches workers slice scene k now ending
    over None t u ending is h comes hands = absurd hands
    over (Some run) t u ending is h comes hands = Watches-ended t u run ending h comes is hands

    pub Watches-over : (t u : SessionState) (ending : Ending) → Reached s k items (t, mid) → Comes t None u
        → IsSomeAnd u.run (λ run. HandsEnd mid now run ending) → Watches workers slice scene k now ending
    Watches-over t u ending h comes hands = over u.run t u ending refl h comes hands

  -- the run at the end is settled
  settled : (there : Option Grown) (items : List Better) (u : SessionState) → u.run ≡ there → IsSome there → ArePolled s items u → IsOver u
      → IsSomeAnd there (λ run. IsSettled (state_of_grown run))
  settled None items u is some polled over = cc
  settled (Some run) items u is some polled over = (IsRunBySlices-polled items u run polled over is).whole.settled

  pub settled_at_end : (k mid : SinkState) (items : List Better) (t u : SessionState) → Reached s k items (t, mid) → Comes t None u
      → IsSomeAnd u.run (λ run. IsSettled (state_of_grown run))
  settled_at_end k mid items t u h comes =
      settled u.run items u refl (keeps_run_at_end t u comes h.some) (ArePolled-end s items t u h.polled comes)
      (subst IsOver (sym comes.gives.1) comes.gives.0)
