-- What a pass knows of the mark in its hand: the node that it was steered from is the nearest of those whose records are seen, as later views say too.
use Rattle.shared_tree_tests.proofs.Words.{◌≡◌, ◌≤◌, ◌+◌, ℕ, suc, Bool, true, false, Some, refl, sym, ap, ◌∙◌, subst, IfSome, Clear, mark_at, space_of, cost_of}
use Rattle.shared_tree_tests.proofs.Words.{squared_distance, distance_to, IsPresent, point_of, Point, IsPresent-stands, StandsAt-present, point_of-stands}
use Rattle.shared_tree_tests.proofs.Words.{has_node, WritesWord, PointOf, RecordOf, TreeOf, IsNearestSeen, IsPlaced, IsPlacing, IsSame, Placing, GoesOn}
use Rattle.shared_tree_tests.proofs.Words.{SharedState, run_in, at_hand, if_hand, MayHang-nearest, IsLater, IsLawfulView, has_link, has_point, pointed, MayHang}
use Rattle.shared_tree_tests.proofs.Words.{SeesCost, SeesNode, SeesPoint, sight_in, sees, setup_in, tree_seen, has_node-recorded, present_recorded}
use Rattle.shared_tree_tests.proofs.Words.{SeesPoint-later, Hand, Stage, Counted, Pointed, Treed, View, HangsBelowNearest, IsNearestRecorded, SteersFrom}
use Rattle.kd_shared.specs.declared.placing.Placing.TheVariants.{Placed, Same}

-- what a search for the nearest node finds
pub IsNearestRecorded-found :
    (before after : View) (q : Point) (m : ℕ) → IsLawfulView after → IsNearestSeen (sight_in before) (sight_in after) q m → IsNearestRecorded after q m
IsNearestRecorded-found before after q m lawful found n here = found.nearest.not_above n (present_recorded after lawful n here)

-- the node that a hand was steered from is seen
pub present_nearest : (view : View) (nearest : ℕ) → IsLawfulView view → SteersFrom nearest view → IsPresent (tree_seen view).points nearest
present_nearest view nearest lawful steers =
    let step = (lawful.tree.holds steers.hand steers.held).steered_from steers.written in
    subst (IsPresent (tree_seen view).points) steers.nearest_is (IsPresent-stands (tree_seen view).points steers.hand.nearest step.from step.seen)

pub sees_nearest : (view : View) (nearest : ℕ) → IsLawfulView view → SteersFrom nearest view → SeesNode view nearest
sees_nearest view nearest lawful steers = lawful.tree.rooted.points nearest (present_nearest view nearest lawful steers)

-- the mark in hand has no record before its node is linked
pub unrecorded-hand :
    (view : View) (hand : Hand) → IsLawfulView view → view.hand ≡ Some hand → has_link hand.stage ≡ false → has_node (sees view) (suc hand.mark) ≡ false
unrecorded-hand view hand lawful held unlinked = by_test (has_node (sees view) (suc hand.mark)) refl
  where
    by_test : (b : Bool) → has_node (sees view) (suc hand.mark) ≡ b → has_node (sees view) (suc hand.mark) ≡ false
    by_test false e = e
    by_test true e = absurd (lawful.unseen hand held unlinked (lawful.tree.rooted.points (suc hand.mark) (lawful.tree.placed hand.mark e)))

-- ---- a later view that has seen the same records

module _ (before after : View) (later : IsLater before after) (lawful : IsLawfulView before)
    (records : (k : ℕ) → sees after (RecordOf k) ≡ sees before (RecordOf k)) where
  point_of-kept : (n : ℕ) → IsPresent (tree_seen before).points n → point_of (tree_seen after).points n ≡ point_of (tree_seen before).points n
  point_of-kept n here =
      point_of-stands (tree_seen after).points n (point_of (tree_seen before).points n)
      (SeesPoint-later before after later.run later.seen n (point_of (tree_seen before).points n) (StandsAt-present (tree_seen before).points n here))

  pub IsNearestRecorded-later :
      (q : Point) (m : ℕ) → IsPresent (tree_seen before).points m → IsNearestRecorded before q m → IsNearestRecorded after q m
  IsNearestRecorded-later q m present not_above n here =
      let was : has_node (sees before) n ≡ true = sym (has_node-recorded before after records n) ∙ here in
      let best = ap (λ p. squared_distance p q) (point_of-kept m present) in
      let other = ap (λ p. squared_distance p q) (point_of-kept n (present_recorded before lawful n was)) in
      let order = not_above n was in
      record {
        least = subst (λ d. d ≤ distance_to q (tree_seen after).points n) (sym best)
            (subst (λ d. distance_to q (tree_seen before).points m ≤ d) (sym other) order.least);
        first = λ e. order.first (sym other ∙ e ∙ best);
      }

  pub SteersFrom-later :
      (nearest : ℕ) (steers : SteersFrom nearest before) (hand : Hand) → after.hand ≡ Some hand → hand.mark ≡ steers.hand.mark
      → hand.nearest ≡ steers.hand.nearest → has_point hand.stage ≡ true → SteersFrom nearest after
  SteersFrom-later nearest steers hand held mark same written = record {
    hand = hand;
    held = held;
    written = written;
    nearest_is = same ∙ steers.nearest_is;
    not_above =
        subst (λ k. IsNearestRecorded after (mark_at after.run.marks k) nearest) (sym mark)
        (subst (λ run. IsNearestRecorded after (mark_at run.marks steers.hand.mark) nearest) (sym later.run)
        (IsNearestRecorded-later (mark_at before.run.marks steers.hand.mark) nearest (present_nearest before nearest lawful steers) steers.not_above));
  }

  pub SteersFrom-kept : (nearest : ℕ) → SteersFrom nearest before → after.hand ≡ before.hand → SteersFrom nearest after
  SteersFrom-kept nearest steers same = SteersFrom-later nearest steers steers.hand (same ∙ steers.held) refl refl steers.written

  pub HangsBelowNearest-later :
      (nearest cost : ℕ) (hangs : HangsBelowNearest nearest cost before) (stage : Stage) → has_point stage ≡ true
      → after.hand ≡ Some (record hangs.steers.hand { stage = stage }) → HangsBelowNearest nearest cost after
  unfolding SteersFrom-later
  HangsBelowNearest-later nearest cost hangs stage written held = record {
    steers = SteersFrom-later nearest hangs.steers (record hangs.steers.hand { stage = stage }) held refl refl written;
    parent_is = hangs.parent_is;
    cost_is = hangs.cost_is;
    clear =
        subst (λ run. Clear (setup_in run).space (point_of (tree_seen after).points nearest) hangs.steers.hand.point) (sym later.run)
        (subst (λ p. Clear (setup_in before.run).space p hangs.steers.hand.point)
        (sym (point_of-kept nearest (present_nearest before nearest lawful hangs.steers))) hangs.clear);
    unrecorded = has_node-recorded before after records (suc hangs.steers.hand.mark) ∙ hangs.unrecorded;
  }

  pub HangsBelowNearest-kept : (nearest cost : ℕ) → HangsBelowNearest nearest cost before → after.hand ≡ before.hand → HangsBelowNearest nearest cost after
  HangsBelowNearest-kept nearest cost hangs same =
      HangsBelowNearest-later nearest cost hangs hangs.steers.hand.stage hangs.steers.written (same ∙ hangs.steers.held)

  -- the parent and the cost of the node in hand were written
  pub HangsBelowNearest-hung :
      (shared : SharedState) (nearest cost : ℕ) (steers : SteersFrom nearest before) (from p : Point) → before.run ≡ run_in shared
      → has_link steers.hand.stage ≡ false → p ≡ steers.hand.point → SeesPoint before nearest from → Clear (space_of shared.task.scene) from p
      → after.hand ≡ Some (record steers.hand { stage = Treed; parent = nearest; cost = cost }) → HangsBelowNearest nearest cost after
  unfolding SteersFrom-later
  HangsBelowNearest-hung shared nearest cost steers from p own unlinked is seen clear held = record {
    steers = SteersFrom-later nearest steers (record steers.hand { stage = Treed; parent = nearest; cost = cost }) held refl refl refl;
    parent_is = refl;
    cost_is = refl;
    clear =
        let here = point_of-stands (tree_seen after).points nearest from (SeesPoint-later before after later.run later.seen nearest from seen) in
        subst (λ q. Clear (setup_in after.run).space (point_of (tree_seen after).points nearest) q) is
        (subst (λ q. Clear (setup_in after.run).space q p) (sym here)
        (subst (λ run. Clear (setup_in run).space from p) (sym (later.run ∙ own)) clear));
    unrecorded = has_node-recorded before after records (suc steers.hand.mark) ∙ unrecorded-hand before steers.hand lawful steers.held unlinked;
  }

  -- it was tried to place it
  pub HangsBelowNearest-placing :
      (nearest cost : ℕ) (result : Placing) → HangsBelowNearest nearest cost before → IfSome before.hand (λ hand. IsPlacing after hand result)
      → HangsBelowNearest nearest cost after
  HangsBelowNearest-placing nearest cost Placed hangs placed =
      HangsBelowNearest-later nearest cost hangs Counted refl
      (at_hand (λ hand. IsPlaced after hand) before.hand hangs.steers.hand hangs.steers.held placed).counted
  HangsBelowNearest-placing nearest cost (Same j) hangs placed =
      HangsBelowNearest-later nearest cost hangs hangs.steers.hand.stage hangs.steers.written
      (at_hand (λ hand. IsSame after hand j) before.hand hangs.steers.hand hangs.steers.held placed).unchanged

-- the point of a node and its tree word were looked at
pub SteersFrom-looked :
    (before mid after : View) (nearest n m x y : ℕ) → GoesOn before mid → GoesOn mid after → WritesWord (PointOf n) x (sees before) (sees mid)
    → WritesWord (TreeOf m) y (sees mid) (sees after) → mid.hand ≡ before.hand → after.hand ≡ mid.hand → SteersFrom nearest before → SteersFrom nearest after
SteersFrom-looked before mid after nearest n m x y first then point pair one other steers =
    SteersFrom-kept mid after then.later then.was_lawful (λ k. pair.others (RecordOf k) (λ e. cc)) nearest
    (SteersFrom-kept before mid first.later first.was_lawful (λ k. point.others (RecordOf k) (λ e. cc)) nearest steers one) other

-- the point in hand was written, steered from a node that was found nearest to the mark
pub SteersFrom-written :
    (found mid after : View) (hand : Hand) (nearest x : ℕ) (q from p : Point) → GoesOn found mid → GoesOn mid after
    → WritesWord (PointOf nearest) x (sees found) (sees mid) → after ≡ pointed mid hand nearest p → IsPresent (tree_seen found).points nearest
    → SeesPoint mid nearest from → q ≡ mark_at found.run.marks hand.mark → IsNearestRecorded found q nearest → SteersFrom nearest after
SteersFrom-written found mid after hand nearest x q from p first then point is present seen mark not_above = record {
  hand = record hand { stage = Pointed; nearest = nearest; point = p };
  held = ap (λ v. v.hand) is;
  written = refl;
  nearest_is = refl;
  not_above =
      subst (λ run. IsNearestRecorded after (mark_at run.marks hand.mark) nearest) (sym (then.later.run ∙ first.later.run))
      (subst (λ p. IsNearestRecorded after p nearest) mark
      (IsNearestRecorded-later mid after then.later then.was_lawful (λ k. ap (λ v. sees v (RecordOf k)) is) q nearest
      (IsPresent-stands (tree_seen mid).points nearest from seen)
      (IsNearestRecorded-later found mid first.later first.was_lawful (λ k. point.others (RecordOf k) (λ e. cc)) q nearest present not_above)));
}

-- the node in hand may hang below the node that it was steered from
pub MayHang-steered :
    (shared : SharedState) (view : View) (nearest cost edge : ℕ) (from p : Point) → view.run ≡ run_in shared → IsLawfulView view → SteersFrom nearest view
    → SeesCost view nearest from cost → Clear (space_of shared.task.scene) from p → IfSome view.hand (λ h. p ≡ h.point) → edge ≡ cost_of from p
    → IfSome view.hand (λ h. MayHang view h nearest (cost + edge))
MayHang-steered shared view nearest cost edge from p own lawful steers seen clear is edge_is =
    let hand : Hand = steers.hand in
    let point : p ≡ hand.point = at_hand (λ h. p ≡ h.point) view.hand hand steers.held is in
    let free = subst (λ q. Clear (setup_in view.run).space from q) point (subst (λ r. Clear (setup_in r).space from p) (sym own) clear) in
    let sum : cost + edge ≡ cost + cost_of from hand.point = ap (λ e. cost + e) (edge_is ∙ ap (cost_of from) point) in
    if_hand (λ h. MayHang view h nearest (cost + edge)) view.hand hand steers.held
    (subst (λ m. MayHang view hand m (cost + edge)) steers.nearest_is
    (subst (MayHang view hand hand.nearest) (sym sum)
    (MayHang-nearest view hand from cost lawful steers.held steers.written (subst (λ m. SeesCost view m from cost) (sym steers.nearest_is) seen) free)))
