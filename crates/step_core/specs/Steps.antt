-- One step of a pass: one load, store or exchange of one word, or of none in a split or a join. Of each kind: what it asks of the view that makes
-- it, the word that it writes with what it leaves there, and the views afterwards.
use Rattle.std.specs.Prelude.{◌≡◌, ◌≢◌, ℕ, suc, ◌+◌, ◌<◌, ◌≤◌, Bool, Option, Some, None, List, [], ◌∷◌, ◌++◌, length, slice_set}
use Rattle.step_core.specs.Terms.{Best, ChildOf, Count, Counter, FirstOf, FitsWord, Hand, Member, Point, PointOf, Record, RecordOf, SharedRun, Stage, TreeOf}
use Rattle.step_core.specs.Terms.{View, Word, Words, WritesWord, get_elem?, point_word, record_word, some, tree_word}
use Rattle.step_core.specs.SeenBests.{IsInformed, IsUnskipped, MayPost}
use Rattle.step_core.specs.SeenRecords.{MayRecord}
use Rattle.step_core.specs.Stages.{MayBeRecorded}
use Rattle.step_core.specs.ViewSteps.{best_loaded, best_with, claimed, counted, finished, half, joined, linked, loaded, looker, lowered, mark_of}
use Rattle.step_core.specs.ViewSteps.{pair_in_hand, parted, pointed, posted, stepped, steps_then, treed, worker_apart}
use Rattle.step_core.specs.ViewTrees.{IsSteered, LeadsTo, MayHang, MayLoad, MayLower}
use Rattle.step_core.specs.Views.{sees, share, spent}
use Rattle.step_core.specs.Worlds.{IsWorld}
use Rattle.step_core.specs.declared.views.Stage.TheVariants as stages

-- ---- moments and steps
-- A moment between two steps: the run, its words, the views of its passes, and the view at an index, which steps next.
pub record Moment : Type 0 where
  pub run : SharedRun
  pub words : Words
  pub views : List View
  pub id : ℕ
  pub view : View

-- The law of worlds holds, and the view that steps is one of the run's.
pub record IsMoment (now : Moment) : Type 0 where
  pub world : IsWorld now.run now.words now.views
  pub at : get_elem? now.views now.id ≡ some now.view
  pub own : now.view.run ≡ now.run

-- how many steps each view has made when this one has stepped
abbrev pub steps_by : Moment → List ℕ
steps_by now = steps_then now.views now.id now.view

-- A claim of the next mark of a strip below a limit; a load of a word; for the mark in hand the point of its node, steered from another, its
-- first word, its tree word, its link as a child on one side, and its count; a lower of the cost of a node; a load of the best word, and a post
-- of a goal node to it; the record of the mark in hand; a split that hands on the second worker, and one that hands on none; and a join with
-- the view at another index.
pub data Step : Type 0 where
  Claim : (strip limit : ℕ) → Step
  Load : (name : Word) → Step
  WritePoint : (hand : Hand) (nearest : ℕ) (at : Point) → Step
  WriteFirst : (hand : Hand) (parent cost : ℕ) → Step
  WriteTree : (hand : Hand) → Step
  Link : (hand : Hand) (node : ℕ) (side : Bool) → Step
  Add : (hand : Hand) → Step
  Lower : (node parent cost : ℕ) → Step
  LoadBest : Step
  Post : (node : ℕ) → Step
  Finish : (hand : Hand) (entry : Record) → Step
  HandOn : Step
  Look : Step
  Join : (other : ℕ) (taken : View) → Step

-- ---- what a step asks of the view that makes it
-- a share, nothing in hand, and a mark of the strip below a limit, which is at most the number of marks
pub record MayClaim (now : Moment) (strip limit : ℕ) : Type 0 where
  pub part : 0 < share now.view
  pub idle : now.view.hand ≡ None
  pub of_run : strip < now.run.strips
  pub below : mark_of now.run strip (now.words (Counter strip)) < limit
  pub within : limit ≤ length now.run.marks

-- the view has this in hand, and it has come so far
pub record Holds (view : View) (hand : Hand) (stage : Stage) : Type 0 where
  pub held : view.hand ≡ Some hand
  pub far : hand.stage ≡ stage

-- the words of the node in hand are written, and the way of its point leads to the place, which is empty
pub record MayLink (now : Moment) (hand : Hand) (node : ℕ) (side : Bool) : Type 0 where
  pub holds : Holds now.view hand stages.Treed
  pub leads : LeadsTo now.view hand.point node side
  pub empty : now.words (ChildOf node side) ≡ 0

-- a share; and the tree word was seen last as it is, with a higher cost than that of a seen parent and the edge
pub record MayCheapen (now : Moment) (node parent cost : ℕ) : Type 0 where
  pub part : 0 < share now.view
  pub may : MayLower now.view node parent cost
  pub as_seen : now.words (TreeOf node) ≡ sees now.view (TreeOf node)

-- The record is of the first worker of the crew, in its next turn. It says that the mark was placed if its node is counted, and anything else
-- only if its node is not linked. What it says is borne out by what the view has seen.
pub record MayFinish (view : View) (hand : Hand) (entry : Record) : Type 0 where
  pub held : view.hand ≡ Some hand
  pub member : Member
  pub crew : List Member
  pub first : view.crew ≡ member ∷ crew
  pub fits : FitsWord entry
  pub worker : entry.worker ≡ member.worker
  pub turn : entry.turn ≡ member.turn
  pub stage : MayBeRecorded hand.stage entry.outcome
  pub true : MayRecord view hand entry

-- another view of the run, and nothing in either hand
pub record MayJoin (now : Moment) (other : ℕ) (taken : View) : Type 0 where
  pub apart : other ≢ now.id
  pub at : get_elem? now.views other ≡ some taken
  pub own : taken.run ≡ now.run
  pub idle : now.view.hand ≡ None
  pub idle_other : taken.hand ≡ None

-- what each kind asks
abbrev pub MayStep : Moment → Step → Type 0
MayStep now (Step.Claim strip limit) = MayClaim now strip limit
MayStep now (Step.Load name) = MayLoad now.view name
MayStep now (Step.WritePoint hand nearest at) =
    Holds now.view hand stages.Claimed × IsSteered now.view hand.mark nearest at × IsUnskipped now.view hand
MayStep now (Step.WriteFirst hand parent cost) = Holds now.view hand stages.Pointed × MayHang now.view hand parent cost
MayStep now (Step.WriteTree hand) = Holds now.view hand stages.Half
MayStep now (Step.Link hand node side) = MayLink now hand node side
MayStep now (Step.Add hand) = Holds now.view hand stages.Linked
MayStep now (Step.Lower node parent cost) = MayCheapen now node parent cost
MayStep now Step.LoadBest = IsInformed now.run
MayStep now (Step.Post node) = MayPost now.view node
MayStep now (Step.Finish hand entry) = MayFinish now.view hand entry
MayStep now Step.HandOn = Unit {0}
MayStep now Step.Look = Unit {0}
MayStep now (Step.Join other taken) = MayJoin now other taken

-- ---- the word that it writes
-- the word with what is left there; a step that only loads writes none
abbrev pub written : Moment → Step → Option (Word × ℕ)
written now (Step.Claim strip limit) = Some (Counter strip, now.words (Counter strip) + 1)
written now (Step.WritePoint hand nearest at) = Some (PointOf (suc hand.mark), point_word at)
written now (Step.WriteFirst hand parent cost) = Some (FirstOf (suc hand.mark), tree_word parent cost)
written now (Step.WriteTree hand) = Some (TreeOf (suc hand.mark), pair_in_hand hand)
written now (Step.Link hand node side) = Some (ChildOf node side, suc hand.mark)
written now (Step.Add hand) = Some (Count, now.words Count + 1)
written now (Step.Lower node parent cost) = Some (TreeOf node, tree_word parent cost)
written now (Step.Post node) = Some (Best, best_with now.view node (now.words Best))
written now (Step.Finish hand entry) = Some (RecordOf hand.mark, record_word entry)
written now other = None

-- the words are then these
abbrev pub Leaves : Words → Option (Word × ℕ) → Words → Type 0
Leaves words None after = after ≡ words
Leaves words (Some left) after = WritesWord left.0 left.1 words after

-- ---- the views afterwards
-- the view that stepped
abbrev pub view_after : Moment → Step → View
view_after now (Step.Claim strip limit) = claimed now.view strip (now.words (Counter strip)) limit (steps_by now)
view_after now (Step.Load name) = loaded now.view name (now.words name)
view_after now (Step.WritePoint hand nearest at) = pointed now.view hand nearest at
view_after now (Step.WriteFirst hand parent cost) = half now.view hand parent cost
view_after now (Step.WriteTree hand) = treed now.view hand
view_after now (Step.Link hand node side) = linked now.view hand node side (steps_by now)
view_after now (Step.Add hand) = counted now.view hand (now.words Count + 1) (steps_by now)
view_after now (Step.Lower node parent cost) = lowered now.view node parent cost (steps_by now)
view_after now Step.LoadBest = best_loaded now.view (now.words Best)
view_after now (Step.Post node) = posted now.view node (now.words Best) (steps_by now)
view_after now (Step.Finish hand entry) = finished now.view hand.mark (record_word entry)
view_after now Step.HandOn = parted now.view
view_after now Step.Look = stepped now.view
view_after now (Step.Join other taken) = joined now.view taken

-- all views: a split adds one, a join spends one
abbrev pub views_after : Moment → Step → List View
views_after now Step.HandOn = slice_set now.views now.id (parted now.view) ++ worker_apart now.view ∷ []
views_after now Step.Look = slice_set now.views now.id (stepped now.view) ++ looker now.view ∷ []
views_after now (Step.Join other taken) = slice_set (slice_set now.views now.id (joined now.view taken)) other spent
views_after now step = slice_set now.views now.id (view_after now step)

-- One step at this moment: it may be made, and leaves these words.
pub record Steps (now : Moment) (step : Step) (after : Words) : Type 0 where
  pub may : MayStep now step
  pub leaves : Leaves now.words (written now step) after
