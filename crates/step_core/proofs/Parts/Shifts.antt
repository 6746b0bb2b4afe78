-- A step of one view: the moment, what the view becomes, and the words afterwards.
use Rattle.step_core.proofs.Words.{◌≡◌, ◌≢◌, ◌+◌, ◌≤◌, ◌∙◌, ℕ, List, set, sym, some, get_elem?, AreBehind, Words, Best, EachView, IsMoment, Moment, IsViewOf}
use Rattle.step_core.proofs.Words.{sum_by, SharedRun, View}
use Rattle.step_core.proofs.Parts.ViewLists.{at-set, each-set, sum-set}

pub record Shift : Type 0 where
  pub now : Moment
  pub then : View
  pub after : Words

-- The view makes one step, and the words go on.
pub record IsShift (s : Shift) : Type 0 where
  pub moment : IsMoment s.now
  pub of_run : IsViewOf s.now.run s.then
  pub one_more : s.then.steps ≡ s.now.view.steps + 1
  pub go : AreBehind s.now.words s.after
  pub best : s.after Best ≤ s.now.words Best

-- a step of this view
abbrev pub shift_at : SharedRun → Words → List View → ℕ → View → View → Words → Shift
shift_at run words views id view then after =
    record { now = record { run = run; words = words; views = views; id = id; view = view }; then = then; after = after }

-- the views afterwards
abbrev pub later_views : Shift → List View
later_views s = set s.now.views s.now.id s.then

module _ {s : Shift} (is : IsShift s) where
  pub at-then : get_elem? (later_views s) s.now.id ≡ some s.then
  at-then = at-set s.now.views s.now.id s.now.view s.then is.moment.at

  -- what holds of the view that stepped, and of the others, holds of each
  pub each-later :
      (has : View → Type 0) → ((i : ℕ) (u : View) → i ≢ s.now.id → get_elem? s.now.views i ≡ some u → has u) → has s.then → EachView (later_views s) has
  each-later has others own = each-set s.now.views s.now.id s.then has others own

  -- of a sum over the views one number is another now
  pub sum-later : (f : View → ℕ) → sum_by f (later_views s) + f s.now.view ≡ sum_by f s.now.views + f s.then
  sum-later f = sum-set f s.now.views s.now.id s.now.view s.then is.moment.at

  pub same_run : s.then.run ≡ s.now.view.run
  same_run = is.of_run.run_is ∙ sym is.moment.own
