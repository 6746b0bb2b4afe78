-- Which mark a claim takes, by the counters that the pass has seen.
use Rattle.std.specs.Prelude.{◌≡◌, ◌≢◌, ℕ, ◌+◌, ◌%◌, ◌<◌, ◌≤◌, ◌⊎◌, ◌==◌, max, Bool, true, false, Some, ◌-◌, List, [], ◌∷◌, None}
use Rattle.plan_words.specs.Terms.{ChangesOnly, Counter, IsCounter, SharedRun, View, Word, WritesWord, counters, crew_from, get_elem?, is_claimed, last_look}
use Rattle.plan_words.specs.Terms.{mark_of, member_of, new_hand, quota_of, sees, some, strip_of_mark}
use Rattle.plan_words.specs.States.{worker_of, BelongsTo, GoesOn, HasWholeShare, PassState, SharedState, with_view, new_pass, run_in}

-- the next mark of strip g that is not claimed, by the counter seen
abbrev pub next_mark : View → ℕ → ℕ
next_mark view g = mark_of view.run g (sees view (Counter g))

-- a worker looks after its own strips first
abbrev pub is_own : SharedRun → ℕ → ℕ → Bool
is_own run worker g = g % run.workers == worker

-- For the worker, mark k of strip g goes before mark m of strip h: its own strips go before the others, and of two marks of either the lesser number.
abbrev pub GoesBefore : SharedRun → ℕ → ℕ → ℕ → ℕ → ℕ → Type 0
GoesBefore run worker g k h m =
    ((is_own run worker g ≡ true) × (is_own run worker h ≡ false)) ⊎ ((is_own run worker g ≡ is_own run worker h) × (k ≤ m))

-- mark k of strip g goes before the next mark of each other strip that has one below the limit
abbrev pub IsFirst : View → ℕ → ℕ → ℕ → ℕ → Type 0
IsFirst view worker limit g k = (h : ℕ) → h < view.run.strips → h ≢ g → next_mark view h < limit → GoesBefore view.run worker g k h (next_mark view h)

-- each strip's counter was looked at after the first so many steps of the pass
abbrev pub AllLoaded : View → ℕ → Type 0
AllLoaded view steps = (g : ℕ) → g < view.run.strips → steps < last_look view (Counter g)

-- each strip's counter was seen at or above its quota below the limit
abbrev pub AllFull : View → ℕ → Type 0
AllFull view limit = (g : ℕ) → g < view.run.strips → quota_of view.run.strips g limit ≤ sees view (Counter g)

-- No mark below its greatest limit is left: it has seen each strip's counter at or above its quota below a limit that is no less.
pub record HasNoneLeft (view : View) : Type 0 where
  pub limit : ℕ
  pub most : view.most ≤ limit
  pub full : AllFull view limit

-- share, hand and limit stay
pub record KeepsHand (before after : View) : Type 0 where
  pub crew : after.crew ≡ before.crew
  pub most : after.most ≡ before.most
  pub hand : after.hand ≡ before.hand

-- the next mark of strip g, in round c, is below the limit, and goes first
pub record IsOpen (view : View) (worker limit g c : ℕ) : Type 0 where
  pub strip : g < view.run.strips
  pub round : c ≡ sees view (Counter g)
  pub low : mark_of view.run g c < limit
  pub first : IsFirst view worker limit g (mark_of view.run g c)

-- Mark k was claimed: it is in hand, and went first by the counters seen. Its strip's counter had been lower, and is just above it.
pub record IsClaimed (before after : View) (limit k : ℕ) : Type 0 where
  pub low : k < limit
  pub hand : after.hand ≡ Some (new_hand k)
  pub crew : after.crew ≡ before.crew
  pub most : after.most ≡ max before.most limit
  pub first : IsFirst after (worker_of before.crew) limit (strip_of_mark after.run.strips k) k
  pub next : next_mark after (strip_of_mark after.run.strips k) ≡ k + after.run.strips
  pub rose : sees before (Counter (strip_of_mark after.run.strips k)) < sees after (Counter (strip_of_mark after.run.strips k))

-- ---- a claim of a pass with the share of all workers
-- Each strip is one of the worker's own: so it is for an only worker, and for worker 0 if there is one strip.
abbrev pub OwnsAllStrips : SharedRun → ℕ → Type 0
OwnsAllStrips run worker = (g : ℕ) → g < run.strips → is_own run worker g ≡ true

-- every word is seen as it was
abbrev pub SeesAsBefore : View → View → Type 0
SeesAsBefore before after = (name : Word) → sees after name ≡ sees before name

-- the counter of mark k's strip is seen at 1 more than it was, and every other word as it was
abbrev pub RaisesCounter : View → View → ℕ → Type 0
RaisesCounter before after k =
    let name : Word = Counter (strip_of_mark before.run.strips k) in WritesWord name (sees before name + 1) (sees before) (sees after)

-- mark k is the least that is not claimed, by the counters seen
pub record IsLeastOpen (view : View) (k : ℕ) : Type 0 where
  pub before : (j : ℕ) → j < k → is_claimed view.run.strips (counters (sees view)) j ≡ true
  pub here : is_claimed view.run.strips (counters (sees view)) k ≡ false

-- ---- how a claim finds it
-- Counters were loaded, and nothing else was done.
pub record LoadsCounters (shared : SharedState) (before after : PassState) : Type 0 where
  pub belongs : BelongsTo after shared
  pub goes_on : GoesOn before.view after.view
  pub kept : KeepsHand before.view after.view
  pub others : ChangesOnly IsCounter (sees before.view) (sees after.view)
  pub view_alone : after ≡ with_view before after.view
  pub whole : HasWholeShare before.view → SeesAsBefore before.view after.view

-- This number is the next mark of a strip of this kind.
pub record IsNextOf (view : View) (kind : ℕ → Type 0) (mark : ℕ) : Type 0 where
  pub strip : ℕ
  pub within : strip < view.run.strips
  pub here : kind strip
  pub next : next_mark view strip ≡ mark

-- The counters of the strips of a kind, and of no others, were loaded, and this is the least of their next marks and of one number more.
pub record IsLeastNext (before after : View) (kind : ℕ → Type 0) (most least : ℕ) : Type 0 where
  pub loaded : (g : ℕ) → g < after.run.strips → kind g → before.steps < last_look after (Counter g)
  pub apart : (g : ℕ) → (kind g → ⊥) → sees after (Counter g) ≡ sees before (Counter g)
  pub at_most : least ≤ most
  pub below : (g : ℕ) → g < after.run.strips → kind g → least ≤ next_mark after g
  pub held : (least ≡ most) ⊎ IsNextOf after kind least

-- ---- The passes of all workers, made one by one from the pass that stands for them all.
-- the pass stands for worker w alone, and has seen what the first pass had
abbrev pub IsPassOf : SharedState → PassState → ℕ → PassState → Type 0
IsPassOf shared first w pass =
    BelongsTo pass shared × (pass.view.crew ≡ member_of (run_in shared) (sees first.view) w ∷ []) × (pass.view.most ≡ first.view.most)
    × (pass.view.hand ≡ None) × (sees pass.view ≡ sees first.view) × (pass.view.best ≡ first.view.best) × (pass ≡ new_pass pass.table pass.view)

-- Before worker w has a pass of its own, the first pass stands for worker 0 and for those from w on.
pub record StandsFor (shared : SharedState) (first : PassState) (w : ℕ) (pass : PassState) : Type 0 where
  pub belongs : BelongsTo pass shared
  pub crew : pass.view.crew ≡ member_of (run_in shared) (sees first.view) 0 ∷ crew_from (run_in shared) (sees first.view) w (shared.workers - w)
  pub most : pass.view.most ≡ first.view.most
  pub hand : pass.view.hand ≡ None
  pub seen : sees pass.view ≡ sees first.view
  pub best : pass.view.best ≡ first.view.best
  pub lists : pass ≡ new_pass pass.table pass.view

-- each pass of a list has it for the number after its place
abbrev pub each_after : (ℕ → PassState → Type 0) → List PassState → Type 0
each_after has passes = (i : ℕ) (pass : PassState) → get_elem? passes i ≡ some pass → has (i + 1) pass
