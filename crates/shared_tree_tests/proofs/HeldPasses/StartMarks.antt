-- A mark that lies on the start ends there: no node is nearer, and the start is where the step to it leads.
use Rattle.shared_tree_tests.proofs.Words.{◌≡◌, ℕ, ◌*◌, [], Some, sym, ap, ◌∙◌, subst, arith, abs_diff, IfSome, mark_at, squared_distance, distance_to}
use Rattle.shared_tree_tests.proofs.Words.{IsPresent, point_of, steered, Point, Record, ending_as, IsPresent-stands, point_of-stands, steered-near, if_hand}
use Rattle.shared_tree_tests.proofs.Words.{MayEnd, MayRecord, SeesPoint, tree_seen, Hand, View}
use Rattle.grown_runs.proofs.Common.{Same}

squared_distance-same : (p : Point) → squared_distance p p ≡ 0
squared_distance-same p =
    let across : abs_diff p.x p.x ≡ 0 = omega arith in
    let up : abs_diff p.y p.y ≡ 0 = omega arith in
    omega (arith, ap (λ (g : ℕ). g * g) across, ap (λ (g : ℕ). g * g) up)

module _ (view : View) (hand : Hand) (entry : Record) (seen : SeesPoint view 0 (mark_at view.run.marks hand.mark)) (nearest : entry.nearest ≡ 0)
    (none : view.run.goals ≡ []) where
  nearest_at : point_of (tree_seen view).points entry.nearest ≡ mark_at view.run.marks hand.mark
  nearest_at = ap (point_of (tree_seen view).points) nearest ∙ point_of-stands (tree_seen view).points 0 (mark_at view.run.marks hand.mark) seen

  at_mark : distance_to (mark_at view.run.marks hand.mark) (tree_seen view).points entry.nearest ≡ 0
  at_mark =
      ap (λ p. squared_distance p (mark_at view.run.marks hand.mark)) nearest_at ∙ squared_distance-same (mark_at view.run.marks hand.mark)

  stays : mark_at view.run.marks hand.mark
      ≡ steered (point_of (tree_seen view).points entry.nearest) (mark_at view.run.marks hand.mark) view.run.step
  stays = sym (steered-near _ _ view.run.step (omega (arith, at_mark)))

  MayRecord-start : entry.outcome ≡ Same 0 → MayRecord view hand entry
  MayRecord-start outcome = subst (λ o. MayEnd view hand entry (ending_as entry o)) (sym outcome) record {
    present = subst (IsPresent (tree_seen view).points) (sym nearest) (IsPresent-stands (tree_seen view).points 0 (mark_at view.run.marks hand.mark) seen);
    nearest = λ i own. record { least = omega (arith, at_mark); first = λ e. omega (arith, nearest) };
    outcome = (λ informed. absurd (informed none), subst (SeesPoint view 0) stays seen);
  }

pub may_finish-start :
    (view : View) (hand : Hand) (entry : Record) → view.hand ≡ Some hand → SeesPoint view 0 (mark_at view.run.marks hand.mark) → entry.nearest ≡ 0
    → view.run.goals ≡ [] → entry.outcome ≡ Same 0 → IfSome view.hand (λ h. MayRecord view h entry)
may_finish-start view hand entry held seen nearest none outcome =
    if_hand (λ h. MayRecord view h entry) view.hand hand held (MayRecord-start view hand entry seen nearest none outcome)
