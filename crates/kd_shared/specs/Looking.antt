-- What calls that look at nodes leave of a pass.
use Rattle.std.specs.Prelude.{◌≡◌, ◌≢◌, ℕ, ◌<◌, Bool, Option, Some, None, length}
use Rattle.kd_shared.specs.Terms.{BelongsTo, ChangesOnly, FillsPlaces, GoesOn, GoesOn-trans, HasLooked, HasLooked-trans, HasWholeShare, IsLaterMoment}
use Rattle.kd_shared.specs.Terms.{IsLaterMoment-later, IsOnWay, KeepsHand, KeepsSight, KeepsSight-lawful, MOST_NODES, NamesChildOrPoint, PassState, Point}
use Rattle.kd_shared.specs.Terms.{SearchLists, SeesAsBefore, SharedState, Sight, StandsAt, View, ap, arith, depth_within, point_at, sees, sight_in, sym}
use Rattle.kd_shared.specs.Terms.{tree_seen, with_view, ◌∙◌}

-- ---- What a load of a point or of a child shows, from the moment before it to the moment after.
-- no point was seen in between
abbrev pub KeepsPoints : Sight → Sight → Type 0
KeepsPoints before after = (n : ℕ) → point_at after.seen.points n ≡ point_at before.seen.points n

-- but that of node m
abbrev pub KeepsOtherPoints : Sight → Sight → ℕ → Type 0
KeepsOtherPoints before after m = (n : ℕ) → n ≢ m → point_at after.seen.points n ≡ point_at before.seen.points n

-- The point of node n was loaded: it is p.
pub record LoadsPoint (before after : Sight) (n : ℕ) (p : Point) : Type 0 where
  pub later : IsLaterMoment before after
  pub keeps : KeepsSight after
  pub stands : StandsAt after.seen.points n p
  pub others : KeepsOtherPoints before after n

-- a step in between found that node n has no child on this side
abbrev pub FindsEmpty : Sight → Sight → ℕ → Bool → Type 0
FindsEmpty before after n side = before.steps < after.found_empty n side

-- what a load of a child of node n found
abbrev pub FindsChild : Sight → Sight → ℕ → Bool → Option ℕ → Type 0
FindsChild before after n side None = FindsEmpty before after n side
FindsChild before after n side (Some child) = after.seen.child n side ≡ Some child

-- The child of node n on this side was loaded, if it has one.
pub record LoadsChild (before after : Sight) (n : ℕ) (side : Bool) (child : Option ℕ) : Type 0 where
  pub later : IsLaterMoment before after
  pub keeps : KeepsSight after
  pub finds : FindsChild before after n side child
  pub points : KeepsPoints before after

-- ---- looking
-- What was seen stays seen, and of all words none is seen anew but children and points.
pub record GoesOnLooking (before after : View) : Type 0 where
  pub goes_on : GoesOn before after
  pub others : ChangesOnly NamesChildOrPoint (sees before) (sees after)

-- It only looks: what is seen otherwise was looked at by one of its steps, and share, limit and hand stay too. A pass with the share of all workers sees
-- nothing new.
pub record OnlyLooks (before after : View) : Type 0 where
  pub looks : GoesOnLooking before after
  pub looked : HasLooked before after
  pub kept : KeepsHand before after
  pub whole : HasWholeShare before → SeesAsBefore before after

-- the pass is that of the same tree, and all its lists but that of searches stay
pub record KeepsLists (before after : PassState) : Type 0 where
  pub table : after.table ≡ before.table
  pub near : after.lists.near ≡ before.lists.near
  pub around : after.lists.around ≡ before.lists.around
  pub waiting : after.lists.waiting ≡ before.lists.waiting

-- the pass with another view and other lists of its search
abbrev pub searched : PassState → View → SearchLists → PassState
searched pass view search = record pass { view = view; lists = record pass.lists { search = search } }

-- A pass of this tree only looks, and nothing but its view changes.
pub record PassLooks (shared : SharedState) (before after : PassState) : Type 0 where
  pub belongs : BelongsTo after shared
  pub looks : OnlyLooks before.view after.view
  pub view_alone : after ≡ with_view before after.view

-- ---- What calls that look at nodes leave of a pass, one after another.
pub GoesOnLooking-trans : (before mid after : View) → GoesOnLooking before mid → GoesOnLooking mid after → GoesOnLooking before after
GoesOnLooking-trans before mid after one other = record {
  goes_on = GoesOn-trans before mid after one.goes_on other.goes_on;
  others = λ name k. other.others name k ∙ one.others name k;
}

-- the share of all workers stays
pub HasWholeShare-looks : (before after : View) → OnlyLooks before after → HasWholeShare before → HasWholeShare after
HasWholeShare-looks before after looks whole =
    ap (λ crew. length crew) looks.kept.crew ∙ whole ∙ sym (ap (λ run. run.workers) looks.looks.goes_on.later.run)

pub OnlyLooks-trans : (before mid after : View) → OnlyLooks before mid → OnlyLooks mid after → OnlyLooks before after
OnlyLooks-trans before mid after one other = record {
  looks = GoesOnLooking-trans before mid after one.looks other.looks;
  looked = HasLooked-trans before mid after one.looks.goes_on.later other.looks.goes_on.later one.looked other.looked;
  kept = record { crew = other.kept.crew ∙ one.kept.crew; most = other.kept.most ∙ one.kept.most; hand = other.kept.hand ∙ one.kept.hand };
  whole = λ all name. other.whole (HasWholeShare-looks before mid one all) name ∙ one.whole all name;
}

module _ (shared : SharedState) where
  pub PassLooks-trans : (before mid after : PassState) → PassLooks shared before mid → PassLooks shared mid after → PassLooks shared before after
  PassLooks-trans before mid after one other = record {
    belongs = other.belongs;
    looks = OnlyLooks-trans before.view mid.view after.view one.looks other.looks;
    view_alone = other.view_alone ∙ ap (λ p. with_view p after.view) one.view_alone;
  }

  -- what was seen stays seen
  pub PassLooks-fills : (before after : PassState) → PassLooks shared before after
      → FillsPlaces (tree_seen before.view).child (tree_seen after.view).child (tree_seen before.view).points (tree_seen after.view).points
  PassLooks-fills before after h = (IsLaterMoment-later before.view after.view h.looks.looks.goes_on.later).seen.places

  -- what was found empty later was found so since
  pub PassLooks-empty : (before mid after : PassState) (n : ℕ) (side : Bool) → PassLooks shared before mid
      → FindsEmpty (sight_in mid.view) (sight_in after.view) n side → FindsEmpty (sight_in before.view) (sight_in after.view) n side
  PassLooks-empty before mid after n side h empty =
      omega (arith, empty, (IsLaterMoment-later before.view mid.view h.looks.looks.goes_on.later).steps)

  -- no way is longer than there are nodes
  pub PassLooks-short : (before after : PassState) (q : Point) (depth n : ℕ) → PassLooks shared before after
      → IsOnWay (tree_seen after.view).child (tree_seen after.view).points q depth n → depth < MOST_NODES
  PassLooks-short before after q depth n h way =
      let lawful = h.looks.looks.goes_on.lawful in
      let few = depth_within (sight_in after.view) (length after.view.run.marks) (KeepsSight-lawful after.view lawful) lawful.within q depth n way in
      omega (arith, few, lawful.run.marks)
