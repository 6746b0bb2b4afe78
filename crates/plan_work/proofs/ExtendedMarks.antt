-- A mark is handled in steps: what the first of them leave, and what all of them leave together.
use Rattle.plan_work.proofs.Words.{◌≡◌, ℕ, ◌≤◌, Some, inl, refl, sym, ap, ◌∙◌, subst, arith, IfSome, IsSome, is_some, Clear, space_of, IsFree, point_of}
use Rattle.plan_work.proofs.Words.{EndsSince, IsSwept, Point, Blocked, Record, point_of-stands, EndsSince-later, IsBounded, Count, Counter, PointOf, RecordOf}
use Rattle.plan_work.proofs.Words.{point_of_word, Reached, SameNode, NoWay, Steered, ending_of, BelongsTo, GoesOn, PassState, SharedState, turn_of, with_view}
use Rattle.plan_work.proofs.Words.{worker_of, BelongsTo-later, GoesOn-trans, SeesBestSince-trans, IsLaterMoment-later, KeepsSight-lawful}
use Rattle.plan_work.proofs.Words.{point_at-seen, seen-within, IsUnskipped, MayRecord, one_turn_more, pointed, IsSteered, SeesPoint, sight_in, run_sizes, sees}
use Rattle.plan_work.proofs.Words.{setup_in, tree_seen, has_node-recorded, present_recorded, Hand, SharedRun, Pointed, View, stands_later, OnlyLooks}
use Rattle.plan_work.proofs.Words.{HandlesMark, HasSteered, ReachesAsSeen, HasReached, HasFilledNear, HasRecorded, IsFilledSince, IsSteeredAndHandled}
use Rattle.plan_work.proofs.Words.{IsSteeredTo, KeepsRecords, MayPlace, own_unplaced, Steering}
use Rattle.grown_runs.proofs.Common.{Same}
use Rattle.plan_work.proofs.HeldMarks.{holding, if_held}
use Rattle.plan_work.proofs.KeptRecords.{KeepsRecords-looks, KeepsRecords-trans}
use Rattle.plan_work.proofs.KeptSights.{HasSteered-still}
use Rattle.plan_work.proofs.RecordedMarks.{HandlesMark-recorded, IsSteeredTo-still, MaySteer-steered, others_still}
use Rattle.plan_work.proofs.SkippedMarks.{IsUnskipped-kept}
use Rattle.plan_work.proofs.SteeredOutcomes.{WasSteered-to}
use Rattle.plan_work.proofs.TriedMarks.{HasFilledNear-still}

-- ---- one after another

-- a mark is handled after calls that saw no record anew
pub HandlesMark-after : (shared : SharedState) (before mid after : PassState) (k : ℕ) (entry : Record) → KeepsRecords shared before mid
    → HandlesMark shared mid after k entry → HandlesMark shared before after k entry
HandlesMark-after shared before mid after k entry keeps handles = record {
  may_claim = handles.may_claim;
  goes_on = GoesOn-trans before.view mid.view after.view keeps.goes_on handles.goes_on;
  stored = handles.stored;
  worker = handles.worker ∙ ap worker_of keeps.crew;
  turn = handles.turn ∙ ap turn_of keeps.crew;
  others = λ j apart. handles.others j apart ∙ keeps.records j;
  counters = λ g. handles.counters g ∙ keeps.counters g;
  best = SeesBestSince-trans before.view mid.view after.view keeps.goes_on handles.goes_on keeps.best handles.best;
  crew = handles.crew ∙ ap one_turn_more keeps.crew;
  most = handles.most ∙ keeps.most;
}

-- a node was steered to p from the nearest one, by a search; so none of those whose records are seen is nearer
pub IsSteeredTo-found : (shared : SharedState) (before after : PassState) (k m : ℕ) (from p : Point) → KeepsRecords shared before after
    → HasSteered before.view after.view k m from p → IsSteeredTo after.view k m p
IsSteeredTo-found shared before after k m from p keeps h = record {
  from = from;
  stands = h.stands;
  point_is = h.point_is;
  not_above = λ n there.
      h.not_above n
      (present_recorded before.view keeps.goes_on.was_lawful n (sym (has_node-recorded before.view after.view keeps.records n) ∙ there));
}

-- A search has found a node that steers mark k, which is in this hand, and another has looked for the point.
pub record HasLooked (shared : SharedState) (before steering found : PassState) (k : ℕ) (s : Steering) : Type 0 where
  pub hand : Hand
  pub held : found.view.hand ≡ Some hand
  pub was_held : before.view.hand ≡ Some hand
  pub mark : hand.mark ≡ k
  pub keeps : KeepsRecords shared before found
  pub begun : GoesOn before.view steering.view
  pub goes_on : GoesOn steering.view found.view
  pub steers : HasSteered before.view found.view k s.nearest s.from s.point

pub HasLooked-looks :
    (shared : SharedState) (before steering found : PassState) (k : ℕ) (s : Steering) → IsSome before.view.hand
    → IfSome before.view.hand (λ hand. hand.mark ≡ k) → KeepsRecords shared before steering → steering.view.hand ≡ before.view.hand
    → BelongsTo found shared → OnlyLooks steering.view found.view → HasSteered before.view steering.view k s.nearest s.from s.point
    → HasLooked shared before steering found k s
HasLooked-looks shared before steering found k s some mark one same still two steers =
    let own = holding before.view (λ hand. hand.mark ≡ k) some mark in
    record {
      hand = own.hand;
      held = two.kept.hand ∙ same ∙ own.held;
      was_held = own.held;
      mark = own.says;
      keeps = KeepsRecords-trans shared before steering found one (KeepsRecords-looks shared steering found still two);
      begun = one.goes_on;
      goes_on = two.looks.goes_on;
      steers = HasSteered-still before.view steering.view found.view one.goes_on two.looks.goes_on k s.nearest s.from s.point steers;
    }

-- a segment from the node that was found is blocked, as the pass sees its point
pub blocked_here :
    (shared : SharedState) (before steering found : PassState) (k : ℕ) (s : Steering) → HasLooked shared before steering found k s
    → ¬ Clear (space_of shared.task.scene) s.from s.point
    → ¬ Clear (setup_in found.view.run).space (point_of (tree_seen found.view).points s.nearest) s.point
blocked_here shared before steering found k s looked blocked clear =
    let at = point_of-stands (tree_seen found.view).points s.nearest s.from looked.steers.stands in
    blocked
    (subst (λ (r : SharedRun). Clear (setup_in r).space s.from s.point) looked.keeps.belongs.run
    (subst (λ q. Clear (setup_in found.view.run).space q s.point) at clear))

-- ---- a point that no node is seen at

free_still : (before after : View) → after.run ≡ before.run → ((n : ℕ) → sees after (PointOf n) ≡ sees before (PointOf n)) → (p : Point)
    → IsFree (tree_seen before).points p → IsFree (tree_seen after).points p
free_still before after run same p free j stands =
    let low = seen-within (run_sizes after.run) (sees after) j (ap is_some stands) in
    let was = subst (λ r. j ≤ (run_sizes r).marks) run low in
    free j
    (point_at-seen (run_sizes before.run) (sees before) j was ∙ ap point_of_word (sym (same j))
    ∙ sym (point_at-seen (run_sizes after.run) (sees after) j low) ∙ stands)

-- a point whose way came to a place found empty is swept, also since an earlier moment
swept_since : (first before after done : View) → GoesOn first before → GoesOn before after → GoesOn after done → (p : Point)
    → EndsSince (sight_in after) before.steps p → IsSwept (sight_in done) first.steps p
swept_since first before after done one two three p ends free = record {
  depth = there.depth;
  node = there.node;
  point = there.point;
  on_way = there.on_way;
  stands = there.stands;
  other = there.other;
  empty = omega (arith, there.empty, one.later.steps);
}
  where
    there : EndsSince (sight_in done) before.steps p
    there = EndsSince-later (sight_in after) (sight_in done) (IsLaterMoment-later after done three.later)
        (KeepsSight-lawful after three.was_lawful) before.steps p ends

-- ---- marks that end without a node

module _
    (shared : SharedState) (before found : PassState) (hand : Hand) (k m : ℕ) (from p : Point) (keeps : KeepsRecords shared before found)
    (steers : HasSteered before.view found.view k m from p) (held : found.view.hand ≡ Some hand) (mark : hand.mark ≡ k) where
  -- another node stands at the point
  pub MayRecord-found : IsUnskipped found.view hand → (j : ℕ) → SeesPoint found.view j p
      → IfSome found.view.hand (λ h. MayRecord found.view h (own_unplaced found.view m (Same j)))
  MayRecord-found unskipped j stands =
      if_held found.view (λ h. MayRecord found.view h (own_unplaced found.view m (Same j))) hand held
      (MaySteer-steered found.view hand k m p (own_unplaced found.view m (Same j)) (SameNode j)
      (IsSteeredTo-found shared before found k m from p keeps steers) mark (unskipped, stands))

  -- or the segment to it is blocked
  pub MayRecord-blocked : IsUnskipped found.view hand → IsFree (tree_seen found.view).points p
      → ¬ Clear (setup_in found.view.run).space (point_of (tree_seen found.view).points m) p
      → IfSome found.view.hand (λ h. MayRecord found.view h (own_unplaced found.view m Blocked))
  MayRecord-blocked unskipped free blocked =
      if_held found.view (λ h. MayRecord found.view h (own_unplaced found.view m Blocked)) hand held
      (MaySteer-steered found.view hand k m p (own_unplaced found.view m Blocked) NoWay
      (IsSteeredTo-found shared before found k m from p keeps steers) mark (unskipped, record { blocked = blocked; free = λ i own. free i }))

  module _ (done : PassState) (entry : Record) (recorded : HasRecorded shared found done entry) where
    handles : HandlesMark shared before done k entry
    handles = HandlesMark-recorded shared before found done hand k entry keeps recorded held mark

    extended : (reached : Reached) → ending_of entry ≡ Steered m reached → ReachesAsSeen before.view done.view k m reached p
        → IsSteeredAndHandled before.view done.view k entry
    extended reached is ended = record {
      stored = handles.stored;
      nearest = m;
      reached = reached;
      ending = is;
      steered =
          WasSteered-to before.view done.view k m from p reached
          (HasSteered-still before.view found.view done.view keeps.goes_on recorded.goes_on k m from p steers) ended;
    }

    pub IsExtended-found : (j : ℕ) → entry ≡ own_unplaced found.view m (Same j) → SeesPoint found.view j p → IsSteeredAndHandled before.view done.view k entry
    IsExtended-found j is stands = extended (SameNode j) (ap ending_of is) (stands_later found.view done.view recorded.goes_on j p stands)

    pub IsExtended-blocked : (steering : View) → GoesOn before.view steering → GoesOn steering found.view → entry ≡ own_unplaced found.view m Blocked
        → IsFree (tree_seen found.view).points p → EndsSince (sight_in found.view) steering.steps p
        → ¬ Clear (setup_in found.view.run).space (point_of (tree_seen found.view).points m) p → IsSteeredAndHandled before.view done.view k entry
    IsExtended-blocked steering one two is free ends blocked =
        let last = ap (λ (x : PassState). x.view) (recorded.view hand held) in
        let at : point_of (tree_seen done.view).points m ≡ point_of (tree_seen found.view).points m =
        point_of-stands (tree_seen done.view).points m from (stands_later found.view done.view recorded.goes_on m from steers.stands)
        ∙ sym (point_of-stands (tree_seen found.view).points m from steers.stands) in
        extended NoWay (ap ending_of is) record {
          blocked = λ clear.
              blocked
              (subst (λ (r : SharedRun). Clear (setup_in r).space (point_of (tree_seen found.view).points m) p) recorded.goes_on.later.run
              (subst (λ q. Clear (setup_in done.view.run).space q p) at clear));
          free = free_still found.view done.view recorded.goes_on.later.run
              (λ n. others_still found.view done.view hand entry held last keeps.goes_on.lawful (PointOf n) (λ e. cc)) p free;
          swept = swept_since before.view steering found.view done.view one two recorded.goes_on p ends;
        }

-- ---- marks whose point is written

module _
    (shared : SharedState) (before found : PassState) (hand : Hand) (k m : ℕ) (from p : Point) (keeps : KeepsRecords shared before found)
    (steers : HasSteered before.view found.view k m from p) (held : found.view.hand ≡ Some hand) (mark : hand.mark ≡ k) where
  pub IsSteered-found : IfSome found.view.hand (λ h. IsSteered found.view h.mark m p)
  IsSteered-found =
      if_held found.view (λ h. IsSteered found.view h.mark m p) hand held
      (subst (λ j. IsSteered found.view j m p) (sym mark) record { from = from; seen = steers.stands; reached = steers.point_is })

  module _ (written : PassState) (goes_on : GoesOn found.view written.view) (is : written ≡ with_view found (pointed found.view hand m p)) where
    then : written.view ≡ pointed found.view hand m p
    then = ap (λ (x : PassState). x.view) is

    pub KeepsRecords-written : KeepsRecords shared before written
    KeepsRecords-written = record {
      belongs = BelongsTo-later shared found written (ap (λ (x : PassState). x.table) is) goes_on keeps.belongs;
      goes_on = GoesOn-trans before.view found.view written.view keeps.goes_on goes_on;
      records = λ j. ap (λ v. sees v (RecordOf j)) then ∙ keeps.records j;
      counters = λ g. ap (λ v. sees v (Counter g)) then ∙ keeps.counters g;
      best = SeesBestSince-trans before.view found.view written.view keeps.goes_on goes_on keeps.best (inl (ap (λ v. v.best) then));
      crew = ap (λ v. v.crew) then ∙ keeps.crew;
      most = ap (λ v. v.most) then ∙ keeps.most;
    }

    -- the near list, filled by the search that steered, is filled still
    pub IsFilledSince-written : (class : ℕ) → HasFilledNear before.view found.view p class found.lists.search.found
        → IsFilledSince shared before written p class
    unfolding KeepsRecords-written
    IsFilledSince-written class filled = record {
      keeps = KeepsRecords-written;
      filled =
          subst (HasFilledNear before.view written.view p class) (sym (ap (λ (x : PassState). x.lists.search.found) is))
          (HasFilledNear-still before.view found.view written.view p class found.lists.search.found goes_on (ap (λ v. sees v Count) then) filled);
    }

    pub MayPlace-written : IsUnskipped found.view hand → IsBounded p → Clear (space_of shared.task.scene) from p → MayPlace shared written k m p
    unfolding KeepsRecords-written
    MayPlace-written unskipped bounded clear = record {
      unskipped = IsUnskipped-kept found.view written.view hand (record hand { stage = Pointed; nearest = m; point = p }) goes_on.later.run refl refl unskipped;
      belongs = KeepsRecords-written.belongs;
      hand = record hand { stage = Pointed; nearest = m; point = p };
      held = ap (λ v. v.hand) then;
      mark = mark;
      pointed = record { stage = refl; nearest = refl; point = refl };
      bounded = bounded;
      steered =
          IsSteeredTo-still found.view written.view k m p goes_on (λ j. ap (λ v. sees v (RecordOf j)) then)
          (IsSteeredTo-found shared before found k m from p keeps steers);
      clear =
          subst (λ q. Clear (space_of shared.task.scene) q p)
          (sym (point_of-stands (tree_seen written.view).points m from (stands_later found.view written.view goes_on m from steers.stands))) clear;
    }

-- Once its node was handled, the mark is handled from the first moment.
pub IsExtended-written :
    (shared : SharedState) (before steering found written done : PassState) (k : ℕ) (s : Steering) (entry : Record)
    → HasLooked shared before steering found k s → GoesOn found.view written.view → HandlesMark shared written done k entry
    → HasReached before.view done.view k entry s.nearest s.point → IsSteeredAndHandled before.view done.view k entry
IsExtended-written shared before steering found written done k s entry looked goes_on handles ended = record {
  stored = handles.stored;
  nearest = s.nearest;
  reached = ended.reached;
  ending = ended.ending;
  steered =
      WasSteered-to before.view done.view k s.nearest s.from s.point ended.reached
      (HasSteered-still before.view found.view done.view looked.keeps.goes_on
      (GoesOn-trans found.view written.view done.view goes_on handles.goes_on) k s.nearest s.from s.point looked.steers)
      ended.as_seen;
}
