-- What a worker leaves.
use Rattle.std.specs.Prelude.{◌≡◌, ◌≢◌, ◌+◌, ◌≤◌, ◌⊎◌, ◌++◌, ℕ, [], ◌∷◌, All, IsSome, List, None, Option, Some, map, option_to_list}
use Rattle.plan_work.specs.Terms.{AllFull, AreBehind, Away, GoesOn, MayClaim, PassState, Record, RecordOf, SharedState, Stopped, View, Worker, Working, sees}
use Rattle.plan_work.specs.Terms.{share, worker_of}
use Rattle.plan_work.specs.Extensions.{IsExtended}
use Rattle.plan_work.specs.OneWorker.{HandlesRest}

-- What a pass keeps that has worked up to a limit: it may claim, has its share, and works as the same worker. The greatest limit that it
-- knows of is the one from before, or this one.
pub record HasWorked (shared : SharedState) (before after : PassState) (limit : ℕ) : Type 0 where
  pub may_claim : MayClaim shared after
  pub same_share : share after.view ≡ share before.view
  pub worker : worker_of after.view.crew ≡ worker_of before.view.crew
  pub most : (after.view.most ≡ before.view.most) ⊎ (after.view.most ≡ limit)

-- It has done so until it saw no mark left below the limit. One worker alone does so as the textbook does.
pub record HasDone (shared : SharedState) (limit : ℕ) (before after : PassState) : Type 0 where
  pub goes_on : GoesOn before.view after.view
  pub worked : HasWorked shared before after limit
  pub none_left : AllFull after.view limit
  pub textbook : shared.workers ≡ 1 → HandlesRest before.view after.view limit

-- ---- workers
-- workers that have these passes
abbrev pub workers_with : List PassState → List Worker
workers_with = map Working

-- a worker has a pass that may claim
pub record IsReady (shared : SharedState) (worker : Worker) : Type 0 where
  pub pass : PassState
  pub has : worker ≡ Working pass
  pub may_claim : MayClaim shared pass

-- what is left of the pass of a worker that has stopped
abbrev pub left_by : Worker → Option PassState
left_by (Stopped left) = Some left
left_by status = None

-- it is there
abbrev pub HasLeft : Worker → Type 0
HasLeft worker = IsSome (left_by worker)

-- a worker had a pass, which has worked up to a limit, and has what is left of it
pub record HasStopped (shared : SharedState) (limit : ℕ) (before after : Worker) : Type 0 where
  pub pass : PassState
  pub left : PassState
  pub had : before ≡ Working pass
  pub has : after ≡ Stopped left
  pub done : HasDone shared limit pass left

-- what is left of the passes of workers
abbrev pub left_of : List Worker → List PassState
left_of [] = []
left_of (worker ∷ crew) = option_to_list (left_by worker) ++ left_of crew

-- ---- marks
-- Between two moments of the call mark k was handled, as `extend` promises, and the record stands that was made of it.
pub record WasExtended (before after : View) (k : ℕ) : Type 0 where
  pub entry : Record
  pub begun : View
  pub ended : View
  pub since : GoesOn before begun
  pub until : GoesOn ended after
  pub extended : IsExtended begun ended k entry
  pub kept : sees after (RecordOf k) ≡ sees ended (RecordOf k)

-- so was each mark whose record is seen now and was not before
abbrev pub AllExtended : View → View → Type 0
AllExtended before after = (k : ℕ) → sees before (RecordOf k) ≡ 0 → sees after (RecordOf k) ≢ 0 → WasExtended before after k

-- ---- joins
-- the shares of some passes
abbrev pub shares_of : List PassState → ℕ
shares_of [] = 0
shares_of (pass ∷ passes) = share pass.view + shares_of passes

-- A pass has taken over all these: it has their shares, has seen at least what each had, and the greatest limit that it knows of is at most the
-- greatest of theirs.
pub record HasTakenOver (shared : SharedState) (passes : List PassState) (after : PassState) : Type 0 where
  pub may_claim : MayClaim shared after
  pub all_shares : share after.view ≡ shares_of passes
  pub seen : All (λ pass. AreBehind (sees pass.view) (sees after.view)) passes
  pub most : (limit : ℕ) → All (λ pass. pass.view.most ≤ limit) passes → after.view.most ≤ limit
