-- The best word was loaded, or the scene is not informed: what that leaves of a pass, and of what is said of the mark since.
use Rattle.plan_work.proofs.Words.{◌≡◌, ◌≢◌, ◌⊎◌, ℕ, suc, ◌<◌, ◌≤◌, ◌^◌, true, false, cond, inl, inr, Some, None, [], ◌∷◌, ◌++◌, length, ◌+◌, refl, sym}
use Rattle.plan_work.proofs.Words.{ap, ◌∙◌, subst, arith, IfSome, IsSome, Option, cases_Bool, same_Some, mark_at, Ends, Handles}
use Rattle.plan_work.proofs.Words.{IsBestGoalNode, mark_bound, IsSwept, sum_of, Point, FirstHanging, Reached, NewNode, SameNode, NoWay, ending_of, Skipped}
use Rattle.plan_work.proofs.Words.{Record, MayBeCheaper-not_skipping, goals-some, record_at, Counter, RecordOf, TreeOf, best_cost_in, WritesWord, Best}
use Rattle.plan_work.proofs.Words.{best_node_in, best_of_word, cost_in, no_best, record_word, FindsGoalNode, SeesAsBefore, BelongsTo-later, GoesOn-trans}
use Rattle.plan_work.proofs.Words.{no_goals, BelongsTo, GoesOn, PassState, SharedState, run_in, SeesBestSince, turn_of, with_view, worker_of, EndsAsSeen}
use Rattle.plan_work.proofs.Words.{ReachesAsSeen, HandlesMark, IsExtended, IsPlacedAt, MayExtend, WasNeighbour, WasNotSkipped, WasSkipped, WasSteered}
use Rattle.plan_work.proofs.Words.{steered_point, HasLoadedBest, HasRecorded, KeepsRecords, own_unplaced, IsNotSkippedIn, SeesTextbook, WorksAlone}
use Rattle.plan_work.proofs.Words.{IsLawfulView, IsInformed, IsUnskipped, MayBeSkipped, SeesGoal, best_loaded, best_taken, finished, hand_with_best, nat_tests}
use Rattle.plan_work.proofs.Words.{last_look, sight_in, sees, setup_in, tree_seen, Hand, SharedRun, Stage, Claimed, View, cost_seen}
use Rattle.plan_model.specs.Trees.BestNode.{bound_of}
use Rattle.plan_work.proofs.AloneMarks.{KeepsRun-refl, SeesTextbook-recorded, SeesTextbook-still, WorksAlone-recorded, WorksAlone-still}
use Rattle.plan_work.proofs.HeldMarks.{Holding, holding, if_held, of_held}
use Rattle.plan_work.proofs.MirroredTrees.{Mirrors-absent}
use Rattle.plan_work.proofs.RecordedMarks.{HandlesMark-recorded}
use Rattle.plan_work.proofs.SkippedAlone.{IsBestGoalNode-found, IsNotSkippedIn-best, within-found}
use Rattle.plan_work.proofs.WholeLists.{SeesButCount-all}

-- a hand for which nothing is written has the best then
pub hand-loaded : (hand : Hand) (word : ℕ) → hand.stage ≡ Claimed → best_taken hand.stage hand word ≡ record hand { best = Some word }
hand-loaded hand word claimed = ap (λ (s : Stage). best_taken s hand word) claimed

pub held-loaded : (view : View) (hand : Hand) (word : ℕ) → view.hand ≡ Some hand → hand.stage ≡ Claimed
    → (best_loaded view word).hand ≡ Some (record hand { best = Some word })
held-loaded view hand word held claimed = ap (λ o. hand_with_best o word) held ∙ ap Some (hand-loaded hand word claimed)

-- the pass keeps its records, and may extend still
module _
    (shared : SharedState) (before after : PassState) (k word : ℕ) (may : MayExtend shared before k)
    (is : after ≡ with_view before (best_loaded before.view word)) (goes_on : GoesOn before.view after.view) where
  then : after.view ≡ best_loaded before.view word
  then = ap (λ (p : PassState). p.view) is

  pub KeepsRecords-loaded : WritesWord Best (before.view.steps + 1) (last_look before.view) (last_look after.view) → KeepsRecords shared before after
  KeepsRecords-loaded looked = record {
    belongs = BelongsTo-later shared before after (ap (λ (p : PassState). p.table) is) goes_on may.belongs;
    goes_on = goes_on;
    records = λ j. ap (λ (v : View). sees v (RecordOf j)) then;
    counters = λ g. ap (λ (v : View). sees v (Counter g)) then;
    best = inr (omega (arith, looked.here));
    crew = ap (λ (v : View). v.crew) then;
    most = ap (λ (v : View). v.most) then;
  }

  pub MayExtend-loaded : MayExtend shared after k
  MayExtend-loaded =
      let own = holding before.view (λ hand. hand.stage ≡ Claimed) may.hand may.claimed in
      let mark = of_held before.view (λ hand. hand.mark ≡ k) own.hand own.held may.mark in
      let now : Hand = record own.hand { best = Some word } in
      let held : after.view.hand ≡ Some now = ap (λ (v : View). v.hand) then ∙ held-loaded before.view own.hand word own.held own.says in
      record {
        belongs = BelongsTo-later shared before after (ap (λ (p : PassState). p.table) is) goes_on may.belongs;
        hand = subst IsSome (sym held) refl;
        mark = if_held after.view (λ hand. hand.mark ≡ k) now held mark;
        claimed = if_held after.view (λ hand. hand.stage ≡ Claimed) now held own.says;
      }

-- the pass goes on from itself, if nothing was done
pub KeepsRecords-refl : (shared : SharedState) (pass : PassState) → BelongsTo pass shared → GoesOn pass.view pass.view → KeepsRecords shared pass pass
KeepsRecords-refl shared pass belongs goes_on = record {
  belongs = belongs;
  goes_on = goes_on;
  records = λ j. refl;
  counters = λ g. refl;
  best = inl refl;
  crew = refl;
  most = refl;
}

-- ---- informed scenes

goals_are : (shared : SharedState) (view : View) → view.run ≡ run_in shared → shared.task.scene.informed ≡ true → view.run.goals ≡ shared.task.scene.goals
goals_are shared view run informed = ap (λ r. r.goals) run ∙ ap (λ b. cond b shared.task.scene.goals []) informed

-- where the scene is informed, marks may be skipped
pub informed_here : (shared : SharedState) (view : View) → view.run ≡ run_in shared → shared.task.scene.informed ≡ true → IsInformed view.run
informed_here shared view run informed none =
    omega (arith, goals-some shared.task.scene, ap (λ l. length l) (sym (goals_are shared view run informed) ∙ none))

-- the bound of a mark is that by the goals of the scene
pub mark_bound-informed : (shared : SharedState) (view : View) (mark : Point) → view.run ≡ run_in shared → shared.task.scene.informed ≡ true
    → mark_bound (setup_in view.run) mark ≡ bound_of shared.task.scene.start shared.task.scene.goals mark
mark_bound-informed shared view mark run informed =
    ap (λ goals. bound_of view.run.start goals mark) (goals_are shared view run informed)
    ∙ ap (λ (r : SharedRun). bound_of r.start shared.task.scene.goals mark) run

-- ---- what was found

none_found : (word : ℕ) → best_of_word word ≡ None → word ≡ no_best
none_found word told = grind (arith, nat_tests)

some_found : (word g cost : ℕ) → best_of_word word ≡ Some (g, cost) → (word ≢ no_best) × (g ≡ best_node_in word) × (cost ≡ best_cost_in word)
some_found word g cost told = (λ none. grind (arith, nat_tests), grind (arith, nat_tests), grind (arith, nat_tests))

module _
    (shared : SharedState) (before after : PassState) (k bound : ℕ) (may : MayExtend shared before k) (informed : shared.task.scene.informed ≡ true)
    (is : after ≡ with_view before (best_loaded before.view after.view.best)) (goes_on : GoesOn before.view after.view)
    (bound_is : bound ≡ bound_of shared.task.scene.start shared.task.scene.goals (mark_at shared.task.marks k)) where
  claimed_hand : Holding before.view (λ hand. hand.stage ≡ Claimed)
  claimed_hand = holding before.view (λ hand. hand.stage ≡ Claimed) may.hand may.claimed

  abbrev best_hand : Hand
  best_hand = record claimed_hand.hand { best = Some after.view.best }

  best_held : after.view.hand ≡ Some best_hand
  best_held = ap (λ (p : PassState). p.view.hand) is ∙ held-loaded before.view claimed_hand.hand after.view.best claimed_hand.held claimed_hand.says

  best_run : after.view.run ≡ run_in shared
  best_run = goes_on.later.run ∙ may.belongs.run

  best_bound : mark_bound (setup_in after.view.run) (mark_at after.view.run.marks claimed_hand.hand.mark) ≡ bound
  best_bound =
      mark_bound-informed shared after.view (mark_at after.view.run.marks claimed_hand.hand.mark) best_run informed
      ∙ ap (λ (r : SharedRun). bound_of shared.task.scene.start shared.task.scene.goals (mark_at r.marks claimed_hand.hand.mark)) best_run
      ∙ ap (λ m. bound_of shared.task.scene.start shared.task.scene.goals (mark_at shared.task.marks m))
      (of_held before.view (λ hand. hand.mark ≡ k) claimed_hand.hand claimed_hand.held may.mark)
      ∙ sym bound_is

  pub MayBeSkipped-loaded : (g cost : ℕ) → best_of_word after.view.best ≡ Some (g, cost) → cost ≤ bound
      → IfSome after.view.hand (λ hand. MayBeSkipped after.view hand g)
  MayBeSkipped-loaded g cost told low =
      let found = some_found after.view.best g cost told in
      if_held after.view (λ hand. MayBeSkipped after.view hand g) best_hand best_held
      (record {
        claimed = claimed_hand.says;
        word = after.view.best;
        taken = refl;
        some_node = found.0;
        node = found.1;
        within = omega (arith, low, found.2, best_bound);
      })

  pub IsUnskipped-none : best_of_word after.view.best ≡ None → IfSome after.view.hand (IsUnskipped after.view)
  IsUnskipped-none told =
      if_held after.view (IsUnskipped after.view) best_hand best_held
      (λ marks. (after.view.best, refl, λ some. absurd (some (none_found after.view.best told))))

  pub IsUnskipped-above : (g cost : ℕ) → best_of_word after.view.best ≡ Some (g, cost) → bound < cost
      → IfSome after.view.hand (IsUnskipped after.view)
  IsUnskipped-above g cost told above =
      let found = some_found after.view.best g cost told in
      if_held after.view (IsUnskipped after.view) best_hand best_held (λ marks. (after.view.best, refl, λ some. omega (arith, above, found.2, best_bound)))

-- the goal node that was found costs no more than the best word says
pub FindsGoalNode-found : (view : View) (word g cost : ℕ) → best_of_word word ≡ Some (g, cost) → FindsGoalNode view (g, cost)
    → FindsGoalNode view (g, best_cost_in word)
FindsGoalNode-found view word g cost told finds = record {
  goal = finds.goal;
  written = finds.written;
  paid = omega (arith, finds.paid, (some_found word g cost told).2);
}

-- in a scene that is not informed no mark is skipped
pub IsUnskipped-plain : (shared : SharedState) (pass : PassState) → BelongsTo pass shared → shared.task.scene.informed ≡ false
    → IfSome pass.view.hand (IsUnskipped pass.view)
IsUnskipped-plain shared pass belongs plain = of_any pass.view.hand
  where
    of_any : (o : Option Hand) → IfSome o (IsUnskipped pass.view)
    of_any None = tt
    of_any (Some hand) = λ informed. absurd (informed (no_goals shared pass.view belongs.run plain))

-- ---- what is said since the load is said since the entry

module _ (before after : View) (word k : ℕ) (goes_on : GoesOn before (best_loaded before word)) where
  abbrev since : View
  since = best_loaded before word

  -- what was swept since the load was swept since the entry
  pub swept-earlier : (q : Point) → IsSwept (sight_in after) since.steps q → IsSwept (sight_in after) before.steps q
  swept-earlier q swept free =
      let ends = swept free in
      record {
        depth = ends.depth;
        node = ends.node;
        point = ends.point;
        on_way = ends.on_way;
        stands = ends.stands;
        other = ends.other;
        empty = omega (arith, ends.empty);
      }

  abbrev neighbour : (class : ℕ) (p : Point) (i : ℕ) → WasNeighbour before after class p i → WasNeighbour since after class p i
  neighbour class p i was = record { at = was.at; stands = was.stands; near = was.near; clear = was.clear }

  placed-earlier : (first : FirstHanging) (p : Point) → IsPlacedAt since after k first p → IsPlacedAt before after k first p
  placed-earlier first p placed = record {
    stands = placed.stands;
    class_is = placed.class_is;
    looked = omega (arith, placed.looked);
    swept = λ q near. swept-earlier q (placed.swept q near);
    chosen_at = placed.chosen_at;
    linked_at = placed.linked_at;
    in_turn = placed.in_turn;
    chosen = record {
      since = GoesOn-trans before since placed.chosen_at goes_on placed.chosen.since;
      loaded = λ i was. omega (arith, placed.chosen.loaded i (neighbour first.class p i was));
      least = λ i was. placed.chosen.least i (neighbour first.class p i was);
    };
    rewired = record {
      until = placed.rewired.until;
      stood = placed.rewired.stood;
      written = placed.rewired.written;
      posted = placed.rewired.posted;
      pairs = λ i was. placed.rewired.pairs i (neighbour first.class p i was);
      most = λ i was. placed.rewired.most i (neighbour first.class p i was);
      spread = placed.rewired.spread;
    };
  }

  reached-earlier : (m : ℕ) (reached : Reached) (p : Point) → ReachesAsSeen since after k m reached p → ReachesAsSeen before after k m reached p
  reached-earlier m (NewNode first) p placed = placed-earlier first p placed
  reached-earlier m (SameNode j) p stands = stands
  reached-earlier m NoWay p blocked = record { blocked = blocked.blocked; free = blocked.free; swept = swept-earlier p blocked.swept }

  pub WasSteered-earlier : (m : ℕ) (reached : Reached) → WasSteered since after k m reached → WasSteered before after k m reached
  WasSteered-earlier m reached was = record {
    from = was.from;
    steered = record {
      stands = was.steered.stands;
      point_is = was.steered.point_is;
      not_above = was.steered.not_above;
      swept = λ q near. swept-earlier q (was.steered.swept q near);
    };
    outcome = reached-earlier m reached (steered_point after k m) was.outcome;
  }

-- ---- a mark that was not skipped

module _ (shared : SharedState) (before mid : PassState) (k : ℕ) (may : MayExtend shared before k) (loaded : HasLoadedBest shared before mid) where
  -- the best was loaded, or nothing was done
  cases : (shared.task.scene.informed ≡ true) ⊎ (shared.task.scene.informed ≡ false)
  cases = cases_Bool shared.task.scene.informed

  then_loaded : shared.task.scene.informed ≡ true → mid.view ≡ best_loaded before.view mid.view.best
  then_loaded e = ap (λ (p : PassState). p.view) (loaded.informed e)

  then_plain : shared.task.scene.informed ≡ false → mid.view ≡ before.view
  then_plain e = ap (λ (p : PassState). p.view) (loaded.plain e)

  -- in hand is what was loaded
  held_best : shared.task.scene.informed ≡ true → IfSome mid.view.hand (λ hand. (hand.mark ≡ k) × (hand.best ≡ Some mid.view.best))
  held_best e =
      let own = holding before.view (λ hand. hand.stage ≡ Claimed) may.hand may.claimed in
      let mark = of_held before.view (λ hand. hand.mark ≡ k) own.hand own.held may.mark in
      let now : Hand = record own.hand { best = Some mid.view.best } in
      let held : mid.view.hand ≡ Some now =
      ap (λ (v : View). v.hand) (then_loaded e) ∙ held-loaded before.view own.hand mid.view.best own.held own.says in
      if_held mid.view (λ hand. (hand.mark ≡ k) × (hand.best ≡ Some mid.view.best)) now held (mark, refl)

  -- where marks may be skipped, the scene is informed
  informed-run : (after : View) → GoesOn mid.view after → IsInformed after.run → shared.task.scene.informed ≡ true
  informed-run after goes_on informed = elim cases [
    | inl e ↦ e
    | inr e ↦ absurd (informed (no_goals shared after (goes_on.later.run ∙ loaded.keeps.belongs.run) e))
  ]

  -- ---- of a pass that works alone

  same_words : SeesAsBefore before.view mid.view
  same_words name = elim cases [
    | inl e ↦ ap (λ v. sees v name) (then_loaded e)
    | inr e ↦ ap (λ v. sees v name) (then_plain e)
  ]

  pub WorksAlone-loaded : WorksAlone before.view k → WorksAlone mid.view k
  WorksAlone-loaded alone = WorksAlone-still before.view mid.view k loaded.keeps.goes_on.later.run loaded.keeps.crew alone

  pub SeesTextbook-loaded : SeesTextbook before.view k → SeesTextbook mid.view k
  SeesTextbook-loaded book = SeesTextbook-still before.view mid.view k loaded.keeps.goes_on.later (SeesButCount-all before.view mid.view same_words) book

  module _ (some : IsSome mid.view.hand) (unskipped : IfSome mid.view.hand (IsUnskipped mid.view)) where
    -- the best that was loaded is none, or costs more than the bound of the mark
    above : IsInformed mid.view.run → shared.task.scene.informed ≡ true
        → mid.view.best ≢ no_best → mark_bound (setup_in mid.view.run) (mark_at mid.view.run.marks k) < best_cost_in mid.view.best
    above informed e found =
        let own = holding mid.view (IsUnskipped mid.view) some unskipped in
        let best = of_held mid.view (λ hand. (hand.mark ≡ k) × (hand.best ≡ Some mid.view.best)) own.hand own.held (held_best e) in
        let says = own.says informed in
        let same : says.0 ≡ mid.view.best = same_Some says.0 mid.view.best (sym says.1 ∙ best.1) in
        subst (λ m. mark_bound (setup_in mid.view.run) (mark_at mid.view.run.marks m) < best_cost_in mid.view.best) best.0
        (subst (λ w. mark_bound (setup_in mid.view.run) (mark_at mid.view.run.marks own.hand.mark) < best_cost_in w) same
        (says.2 (λ none. found (sym same ∙ none))))

    pub WasNotSkipped-loaded : (after : View) → GoesOn mid.view after → SeesBestSince mid.view after → WasNotSkipped before.view after k
    WasNotSkipped-loaded after goes_on best informed =
        let e = informed-run after goes_on informed in
        let here : IsInformed mid.view.run = subst IsInformed goes_on.later.run informed in (
          mid.view.best,
          subst (λ v. GoesOn v after) (then_loaded e) goes_on,
          subst (λ v. SeesBestSince v after) (then_loaded e) best,
          λ found.
              subst (λ (r : SharedRun). mark_bound (setup_in r) (mark_at r.marks k) < best_cost_in mid.view.best) (sym goes_on.later.run)
              (above here e found),
        )

    -- what was said since the load is said since the entry
    pub WasSteered-loaded : (after : View) (m : ℕ) (reached : Reached) → WasSteered mid.view after k m reached → WasSteered before.view after k m reached
    WasSteered-loaded after m reached was = elim cases [
      | inl e ↦
          WasSteered-earlier before.view after mid.view.best k (subst (GoesOn before.view) (then_loaded e) loaded.keeps.goes_on) m reached
          (subst (λ v. WasSteered v after k m reached) (then_loaded e) was)
      | inr e ↦ subst (λ v. WasSteered v after k m reached) (then_plain e) was
    ]

    pub IsNotSkippedIn-loaded : SeesTextbook mid.view k → IsNotSkippedIn mid.view k
    IsNotSkippedIn-loaded book = elim cases [
      | inl e ↦
          IsNotSkippedIn-best mid.view book.tree book.nodes loaded.keeps.goes_on.lawful book.best k
          (above (informed_here shared mid.view loaded.keeps.belongs.run e) e)
      | inr e ↦
          MayBeCheaper-not_skipping (setup_in mid.view.run) (cost_seen mid.view) (tree_seen mid.view).points (mark_at mid.view.run.marks k)
          (no_goals shared mid.view loaded.keeps.belongs.run e)
    ]

-- ---- a mark that was skipped

module _
    (shared : SharedState) (before mid done : PassState) (k g : ℕ) (may : MayExtend shared before k) (loaded : HasLoadedBest shared before mid)
    (informed : shared.task.scene.informed ≡ true) (some : IsSome mid.view.hand)
    (skipped : IfSome mid.view.hand (λ hand. MayBeSkipped mid.view hand g)) (entry : Record) (recorded : HasRecorded shared mid done entry)
    (is : entry ≡ own_unplaced mid.view g Skipped) where
  own : Holding mid.view (λ hand. MayBeSkipped mid.view hand g)
  own = holding mid.view (λ hand. MayBeSkipped mid.view hand g) some skipped

  best : (own.hand.mark ≡ k) × (own.hand.best ≡ Some mid.view.best)
  best =
      of_held mid.view (λ hand. (hand.mark ≡ k) × (hand.best ≡ Some mid.view.best)) own.hand own.held (held_best shared before mid k may loaded informed)

  same : own.says.word ≡ mid.view.best
  same = same_Some own.says.word mid.view.best (sym own.says.taken ∙ best.1)

  within : best_cost_in mid.view.best ≤ mark_bound (setup_in mid.view.run) (mark_at mid.view.run.marks k)
  within =
      subst (λ m. best_cost_in mid.view.best ≤ mark_bound (setup_in mid.view.run) (mark_at mid.view.run.marks m)) best.0
      (subst (λ w. best_cost_in w ≤ mark_bound (setup_in mid.view.run) (mark_at mid.view.run.marks own.hand.mark)) same own.says.within)

  node : g ≡ best_node_in mid.view.best
  node = own.says.node ∙ ap best_node_in same

  pub HandlesMark-skipped : HandlesMark shared before done k entry
  HandlesMark-skipped = HandlesMark-recorded shared before mid done own.hand k entry loaded.keeps recorded own.held best.0

  was_skipped : WasSkipped before.view done.view k entry g
  was_skipped = record {
    informed = subst IsInformed (sym recorded.goes_on.later.run) (informed_here shared mid.view loaded.keeps.belongs.run informed);
    word = mid.view.best;
    some_node = λ none. own.says.some_node (same ∙ none);
    node = node;
    within =
        subst (λ (r : SharedRun). best_cost_in mid.view.best ≤ mark_bound (setup_in r) (mark_at r.marks k)) (sym recorded.goes_on.later.run) within;
    steps =
        ap (λ (p : PassState). p.view) (recorded.view own.hand own.held) ∙ ap (λ m. finished mid.view m (record_word entry)) best.0
        ∙ ap (λ v. finished v k (record_word entry)) (then_loaded shared before mid k may loaded informed);
  }

  pub IsExtended-skipped : IsExtended before.view done.view k entry
  IsExtended-skipped = record {
    stored = ap (record_at (sees done.view)) (sym best.0) ∙ recorded.stored own.hand own.held;
    outcome = subst (EndsAsSeen before.view done.view k entry) (sym (ap ending_of is)) was_skipped;
  }

  -- of a pass that works alone
  pub AloneNext-skipped : FindsGoalNode before.view (g, best_cost_in mid.view.best) → WorksAlone before.view k → SeesTextbook before.view k
      → WorksAlone done.view (suc k) × SeesTextbook done.view (suc k)
  AloneNext-skipped finds begun read = (
    WorksAlone-recorded shared mid.view mid done own.hand k entry recorded own.held best.0 (KeepsRun-refl mid.view k) alone,
    SeesTextbook-recorded shared mid.view mid done own.hand k entry recorded own.held best.0 (KeepsRun-refl mid.view k) book (book.tree ++ None ∷ [])
        handles (Mirrors-absent mid.view book.tree book.nodes) book.best,
  )
    where
      alone : WorksAlone mid.view k
      alone = WorksAlone-loaded shared before mid k may loaded begun

      book : SeesTextbook mid.view k
      book = SeesTextbook-loaded shared before mid k may loaded read

      loads : mid.view ≡ best_loaded before.view mid.view.best
      loads = then_loaded shared before mid k may loaded informed

      found : FindsGoalNode mid.view (best_node_in mid.view.best, best_cost_in mid.view.best)
      found = record {
        goal = subst (SeesGoal mid.view) node (subst (λ v. SeesGoal v g) (sym loads) finds.goal);
        written = subst (λ n. 2 ^ 63 ≤ sees mid.view (TreeOf n)) node (subst (λ v. 2 ^ 63 ≤ sees v (TreeOf g)) (sym loads) finds.written);
        paid =
            subst (λ n. cost_in (sees mid.view (TreeOf n)) ≤ best_cost_in mid.view.best) node
            (omega (arith, finds.paid, ap (λ v. cost_in (sees v (TreeOf g))) loads));
      }

      lawful : IsLawfulView mid.view
      lawful = loaded.keeps.goes_on.lawful

      best_goal : IsBestGoalNode (setup_in mid.view.run) book.tree g
      best_goal =
          subst (IsBestGoalNode (setup_in mid.view.run) book.tree) (sym node)
          (IsBestGoalNode-found mid.view book.tree book.nodes lawful book.best found)

      costs_within : sum_of book.tree g ≤ mark_bound (setup_in mid.view.run) (mark_at mid.view.run.marks k)
      costs_within =
          subst (λ n. sum_of book.tree n ≤ mark_bound (setup_in mid.view.run) (mark_at mid.view.run.marks k)) (sym node)
          (within-found mid.view book.tree book.nodes lawful book.best found _ within)

      handles : Handles (setup_in mid.view.run) book.tree k (mark_at mid.view.run.marks k) entry (book.tree ++ None ∷ [])
      handles = record {
        worker = recorded.worker ∙ ap worker_of alone.crew;
        turn = recorded.turn ∙ ap turn_of alone.crew;
        ends =
            subst (λ e. Ends (setup_in mid.view.run) book.tree k (mark_at mid.view.run.marks k) e (book.tree ++ None ∷ [])) (sym (ap ending_of is))
            (record { best = best_goal; within = costs_within; added = refl });
      }
