-- What a pass may record of a mark that was steered to p from the nearest node, and that it was handled then.
use Rattle.plan_work.proofs.Words.{◌≡◌, ◌≢◌, ℕ, zero, suc, ◌+◌, true, Some, length, inl, refl, sym, ap, ◌∙◌, subst, arith, false, IfSome, filter_agree}
use Rattle.plan_work.proofs.Words.{range_with_len, mark_at, IsNotAbove, distance_to, is_placed, point_of, steered, Point, Outcome, Record, Reached}
use Rattle.plan_work.proofs.Words.{ending_as, IsPresent-stands, point_of-stands, record_of_word-packed, has_node, record_at, Word, WritesWord, Counter, FirstOf}
use Rattle.plan_work.proofs.Words.{RecordOf, IsFirstWord, record_of_word, record_word, GoesOn, MayClaim, PassState, SharedState, turn_of, with_view, worker_of}
use Rattle.plan_work.proofs.Words.{GoesOn-trans, SeesBestSince-trans, entry_fits, is_own_node-earlier, has_node-recorded, own_recorded, present_recorded}
use Rattle.plan_work.proofs.Words.{WritesWord-saw, IsLawfulView, MayEnd, MayReach, MayRecord, MaySteer, is_own_node, own_count, has_count, has_first, finished}
use Rattle.plan_work.proofs.Words.{one_turn_more, pair_in_hand, sees, tree_seen, Hand, SharedRun, Stage, Claimed, Pointed}
use Rattle.plan_work.proofs.Words.{View, stands_later, HandlesMark, HasRecorded, IsSteeredTo, KeepsRecords, own_unplaced}
use Rattle.std.specs.List.{filter}
use Rattle.grown_runs.proofs.Common.{Placed}
use Rattle.plan_work.proofs.HeldMarks.{of_held}
use Rattle.plan_work.proofs.KeptSights.{IsNotAbove-still}

-- a worker has as many own nodes while no record is seen anew
pub own_count-same : (before after : View) (entry : Record) → GoesOn before after → ((k : ℕ) → sees after (RecordOf k) ≡ sees before (RecordOf k))
    → own_count after entry ≡ own_count before entry
own_count-same before after entry goes_on records =
    ap (λ (r : SharedRun). length (filter (is_own_node after entry) (range_with_len 0 (length r.marks + 1)))) goes_on.later.run
    ∙ ap length (filter_agree (is_own_node after entry) (is_own_node before entry) same (range_with_len 0 (length before.run.marks + 1)))
  where
    same : (n : ℕ) → is_own_node after entry n ≡ is_own_node before entry n
    same zero = refl
    same (suc k) = sym (is_own_node-earlier before (sees after) entry goes_on.later.seen (λ j of_worker. sym (records j)) (suc k))

-- ---- steering

-- A node that steered to p has done so still, while no record is seen anew.
pub IsSteeredTo-still :
    (before after : View) (k m : ℕ) (p : Point) → GoesOn before after → ((j : ℕ) → sees after (RecordOf j) ≡ sees before (RecordOf j))
    → IsSteeredTo before k m p → IsSteeredTo after k m p
IsSteeredTo-still before after k m p goes_on records h =
    let run = goes_on.later.run in
    let here = IsPresent-stands (tree_seen before).points m h.from h.stands in
    record {
      from = h.from;
      stands = stands_later before after goes_on m h.from h.stands;
      point_is = h.point_is ∙ ap (λ r. steered h.from (mark_at r.marks k) r.step) (sym run);
      not_above = λ n there.
          let was : has_node (sees before) n ≡ true = sym (has_node-recorded before after records n) ∙ there in
          subst (λ r. IsNotAbove (distance_to (mark_at r.marks k) (tree_seen after).points) m n) (sym run)
          (IsNotAbove-still before after goes_on (mark_at before.run.marks k) m n here (present_recorded before goes_on.was_lawful n was)
          (h.not_above n was));
    }

-- So the mark may be recorded as what it may be at p.
pub MaySteer-steered :
    (view : View) (hand : Hand) (k m : ℕ) (p : Point) (entry : Record) (reached : Reached)
    → IsSteeredTo view k m p → hand.mark ≡ k → MayReach view hand entry m reached p → MaySteer view hand entry m reached
MaySteer-steered view hand k m p entry reached h mark ended =
    let points = (tree_seen view).points in
    let at : p ≡ steered (point_of points m) (mark_at view.run.marks hand.mark) view.run.step =
    h.point_is
    ∙ ap (λ q. steered q (mark_at view.run.marks k) view.run.step) (sym (point_of-stands points m h.from h.stands))
    ∙ ap (λ j. steered (point_of points m) (mark_at view.run.marks j) view.run.step) (sym mark) in
    record {
      present = IsPresent-stands points m h.from h.stands;
      nearest = λ i own.
          subst (λ j. IsNotAbove (distance_to (mark_at view.run.marks j) points) m i) (sym mark) (h.not_above i (own_recorded view entry i own));
      outcome = subst (MayReach view hand entry m reached) at ended;
    }

-- ---- records

-- all other words are seen as before the record was stored
pub others_still : (view after : View) (hand : Hand) (entry : Record) → view.hand ≡ Some hand → after ≡ finished view hand.mark (record_word entry)
    → IsLawfulView view → (name : Word) → name ≢ RecordOf hand.mark → sees after name ≡ sees view name
others_still view after hand entry held is lawful name apart =
    let writes : WritesWord (RecordOf hand.mark) (record_word entry) (sees view) (sees (finished view hand.mark (record_word entry))) =
    WritesWord-saw view.run view lawful.of_run (RecordOf hand.mark) (lawful.mark hand held) (record_word entry) (record_word entry) in
    ap (λ v. sees v name) is ∙ writes.others name apart

-- a record of an unplaced mark says nothing of a first word
pub IsFirstWord-unplaced : (view : View) (nearest : ℕ) (outcome : Outcome) (first : ℕ) → is_placed outcome ≡ false
    → IsFirstWord (own_unplaced view nearest outcome) first
IsFirstWord-unplaced view nearest outcome first unplaced = record {
  word = λ placed. (let no = sym (ap is_placed placed) ∙ unplaced in cc);
  parent = omega arith;
  cost = omega arith;
}

-- what is counted has its first word
has_first-counted : (stage : Stage) → has_count stage ≡ true → has_first stage ≡ true
has_first-counted Claimed counted = cc
has_first-counted Pointed counted = cc
has_first-counted stage counted = refl

-- That of a placed one has the parent and the cost in hand, as the first word has.
pub IsFirstWord-placed :
    (view : View) (hand : Hand) (entry : Record) → IsLawfulView view → view.hand ≡ Some hand → has_count hand.stage ≡ true → entry.outcome ≡ Placed
    → MayRecord view hand entry → (first : ℕ) → first ≡ pair_in_hand hand → IsFirstWord entry first
IsFirstWord-placed view hand entry lawful held counted placed may first is =
    let ended = (subst (λ o. MayEnd view hand entry (ending_as entry o)) placed may).outcome in
    let fits = lawful.pair_fits hand held (has_first-counted hand.stage counted) in
    record {
      word = λ same. omega (arith, is, ended.parent_is, ended.cost_is);
      parent = omega (arith, ended.parent_is, fits.0);
      cost = omega (arith, ended.cost_is, fits.1);
    }

-- So the record that stands there is the one that was stored.
pub HasRecorded-finished :
    (shared : SharedState) (before after : PassState) (entry own : Record) → entry ≡ own → MayClaim shared after → GoesOn before.view after.view
    → IfSome before.view.hand (λ hand. after ≡ with_view before (finished before.view hand.mark (record_word entry)))
    → own.worker ≡ worker_of before.view.crew → own.turn ≡ turn_of before.view.crew
    → IfSome before.view.hand (λ hand. MayRecord before.view hand own)
    → ((hand : Hand) → before.view.hand ≡ Some hand → IsFirstWord own (sees before.view (FirstOf (suc hand.mark)))) → HasRecorded shared before after entry
HasRecorded-finished shared before after entry own same may_claim goes_on finish worker turn may first =
    subst (HasRecorded shared before after) (sym same) recorded
  where
    lawful : IsLawfulView before.view
    lawful = goes_on.was_lawful

    then : (hand : Hand) → before.view.hand ≡ Some hand → after ≡ with_view before (finished before.view hand.mark (record_word own))
    then hand held =
        subst (λ e. after ≡ with_view before (finished before.view hand.mark (record_word e))) same
        (of_held before.view (λ h. after ≡ with_view before (finished before.view h.mark (record_word entry))) hand held finish)

    stands : (hand : Hand) → before.view.hand ≡ Some hand → record_at (sees after.view) hand.mark ≡ Some own
    stands hand held =
        let word : ℕ = record_word own in
        let is : after.view ≡ finished before.view hand.mark word = ap (λ (p : PassState). p.view) (then hand held) in
        let writes : WritesWord (RecordOf hand.mark) word (sees before.view) (sees (finished before.view hand.mark word)) =
        WritesWord-saw before.view.run before.view lawful.of_run (RecordOf hand.mark) (lawful.mark hand held) word word in
        let here : sees after.view (RecordOf hand.mark) ≡ word = ap (λ v. sees v (RecordOf hand.mark)) is ∙ writes.here in
        let kept : sees after.view (FirstOf (suc hand.mark)) ≡ sees before.view (FirstOf (suc hand.mark)) =
        others_still before.view after.view hand own held is lawful (FirstOf (suc hand.mark)) (λ e. cc) in
        ap (λ w. record_of_word w (sees after.view (FirstOf (suc hand.mark)))) here ∙ ap (record_of_word word) kept
        ∙ record_of_word-packed own (sees before.view (FirstOf (suc hand.mark)))
        (entry_fits before.view hand own lawful held worker turn (of_held before.view (λ h. MayRecord before.view h own) hand held may)) (first hand held)

    recorded : HasRecorded shared before after own
    recorded = record { may_claim = may_claim; goes_on = goes_on; view = then; stored = stands; worker = worker; turn = turn }

-- The record is stored, after calls that saw none anew.
pub HandlesMark-recorded :
    (shared : SharedState) (before mid after : PassState) (hand : Hand) (k : ℕ) (entry : Record) → KeepsRecords shared before mid
    → HasRecorded shared mid after entry → mid.view.hand ≡ Some hand → hand.mark ≡ k → HandlesMark shared before after k entry
HandlesMark-recorded shared before mid after hand k entry keeps recorded held mark =
    let lawful = keeps.goes_on.lawful in
    let word : ℕ = record_word entry in
    let is = ap (λ (p : PassState). p.view) (recorded.view hand held) in
    let writes : WritesWord (RecordOf hand.mark) word (sees mid.view) (sees (finished mid.view hand.mark word)) =
    WritesWord-saw mid.view.run mid.view lawful.of_run (RecordOf hand.mark) (lawful.mark hand held) word word in
    record {
      may_claim = recorded.may_claim;
      goes_on = GoesOn-trans before.view mid.view after.view keeps.goes_on recorded.goes_on;
      stored = ap (record_at (sees after.view)) (sym mark) ∙ recorded.stored hand held;
      worker = recorded.worker ∙ ap worker_of keeps.crew;
      turn = recorded.turn ∙ ap turn_of keeps.crew;
      others = λ j apart.
          ap (λ v. sees v (RecordOf j)) is ∙ writes.others (RecordOf j) (λ e. apart (let same : j ≡ hand.mark = cc in same ∙ mark)) ∙ keeps.records j;
      counters = λ g. ap (λ v. sees v (Counter g)) is ∙ writes.others (Counter g) (λ e. cc) ∙ keeps.counters g;
      best = SeesBestSince-trans before.view mid.view after.view keeps.goes_on recorded.goes_on keeps.best (inl (ap (λ v. v.best) is));
      crew = ap (λ v. v.crew) is ∙ ap one_turn_more keeps.crew;
      most = ap (λ v. v.most) is ∙ keeps.most;
    }
