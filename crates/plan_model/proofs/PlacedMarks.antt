-- A mark that is placed by all that a closed run holds, and its record, which is lawful in the tree with the new node.
use Rattle.plan_model.proofs.Words.{◌≡◌, ℕ, suc, ◌+◌, ◌≤◌, List, Option, arith, refl, sym, ap, ◌∙◌, subst, ◌≢◌, Contains, IsTrue, is_some, Point, Placed}
use Rattle.plan_model.proofs.Words.{Record, NewNode, ending_as, first_hanging, Clear, cost_of, IsFirstLeast, is_within, cost_through_by, point_at, StandsAt}
use Rattle.plan_model.proofs.Words.{IsPresent, point_of, node_count, class_of, radius_of, radius_of_class, TreeState, recorded_or, first_cost_of, GrowsInto}
use Rattle.plan_model.proofs.Words.{IsAllowedEdge, Hangs, KeepsOrder, KeepsFirstCosts, earlier_count, IsNeighbour, first_cost_through, IsChosenLawfully}
use Rattle.plan_model.proofs.Words.{HangsLawfully, IsSteeredLawfully, HasLawfulEnding, IsClosed, Setup, MayBeCheaper, near_new, IsCandidate, SteersTo}
use Rattle.plan_model.proofs.NewNodes.{IsPresent-stands}
use Rattle.plan_model.proofs.OrderLaws.{Hangs-grows}
use Rattle.plan_model.proofs.TreeStateLaws.{point_at-grows, point_of-grows, node_count-grows}
use Rattle.plan_model.proofs.ClosedLaws.{KeepsFirstCosts-closed}
use Rattle.plan_model.proofs.RecordLaws.{class_of-le}
use Rattle.plan_model.proofs.ListMembers.{Contains-after}
use Rattle.plan_model.proofs.NearNodes.{IsReachable, candidate-reachable, Contains-near}
use Rattle.plan_model.proofs.NextRecords.{RecordsMark}
use Rattle.plan_model.proofs.NextMarks.{EndsLawfully, node-absent, early-present, earlier_count-le, IsSteeredLawfully-steers}

-- the cost of reaching p by way of node i, by its kept cost
abbrev pub kept_cost_through : TreeState → Point → ℕ → ℕ
kept_cost_through state p i = cost_through_by state.cost state.points p i

-- A parent for a new node at p is chosen by kept costs: the candidate with the least pair of cost through it and number.
pub record ChoosesParent (setup : Setup) (before : TreeState) (mark : Point) (entry : Record) (p : Point) : Type 0 where
  pub cheaper : MayBeCheaper setup before.cost before.points mark
  pub steers : SteersTo setup before.points mark entry.nearest p
  pub clear : Clear setup.space (point_of before.points entry.nearest) p
  pub parent : IsFirstLeast (kept_cost_through before p) (IsCandidate setup before.points entry.nearest p) entry.first_parent
  pub cost : entry.first_cost ≡ kept_cost_through before p entry.first_parent
  pub of_class : entry.class ≡ class_of (node_count before.points)

-- What the placing of mark k leaves: the tree has grown by its node alone in the order law, and no near node with a clear edge is
-- dearer than by way of it.
pub record LeavesPlaced (setup : Setup) (before after : TreeState) (k : ℕ) (entry : Record) (p : Point) : Type 0 where
  pub records : RecordsMark before.record_of after.record_of k entry
  pub order : KeepsOrder setup after
  pub grows : GrowsInto before after
  pub firsts : KeepsFirstCosts setup after
  pub stands : StandsAt after.points (suc k) p
  pub elsewhere : (i : ℕ) → i ≢ suc k → point_at after.points i ≡ point_at before.points i
  pub reached : (i : ℕ) → Contains (near_new setup before.points p) i → Clear setup.space (point_of before.points i) p
      → after.cost i ≤ entry.first_cost + cost_of (point_of before.points i) p

module _
    (setup : Setup) (marks : List Point) (k : ℕ) (before after : TreeState) (mark : Point) (entry : Record) (p : Point)
    (closed : IsClosed setup marks k before) (chooses : ChoosesParent setup before mark entry p) where
  abbrev f : ℕ
  f = entry.first_parent

  not_new : (i : ℕ) → IsPresent before.points i → i ≢ suc k
  not_new i h e = node-absent setup marks k before closed (subst (IsPresent before.points) e h)

  -- the first parent is present, and its edge is allowed
  pub parent-reachable : IsReachable before.points p setup.step f
  parent-reachable = candidate-reachable setup before.points mark entry.nearest p f chooses.steers chooses.parent.member

  pub parent-allowed : IsAllowedEdge setup (point_of before.points f) p
  parent-allowed = record { clear = chooses.parent.member.clear; short = parent-reachable.short }

  -- so the node may hang below it at its first cost
  pub parent-hangs : Hangs setup before (suc k) p f entry.first_cost
  parent-hangs = record {
    present = parent-reachable.present;
    other = not_new f parent-reachable.present;
    edge = parent-allowed;
    above = omega (arith, chooses.cost);
  }

  module _ (leaves : LeavesPlaced setup before after k entry p) where
    early : (i : ℕ) → IsNeighbour setup after entry entry.class p i → IsPresent before.points i
    early i h = early-present setup marks k before closed after entry leaves.records leaves.grows i h.earlier

    same_point : (i : ℕ) → IsPresent before.points i → point_of after.points i ≡ point_of before.points i
    same_point i h = point_of-grows before after leaves.grows i h

    same_edge : (i : ℕ) → IsPresent before.points i → cost_of (point_of after.points i) p ≡ cost_of (point_of before.points i) p
    same_edge i h = ap (λ a. cost_of a p) (same_point i h)

    -- ---- what the worker knows

    -- no candidate was a cheaper parent
    below_candidate : (i : ℕ) → IsPresent before.points i → IsCandidate setup before.points entry.nearest p i
        → entry.first_cost ≤ first_cost_through after p i
    below_candidate i h candidate =
        let kept = (KeepsFirstCosts-closed setup marks k before closed).kept i h in
        omega (arith, chooses.cost, (chooses.parent.not_above i candidate).least, kept, leaves.grows.first_costs i h, same_edge i h)

    neighbour_near : (i : ℕ) → IsNeighbour setup after entry entry.class p i → IsPresent before.points i → Contains (near_new setup before.points p) i
    neighbour_near i h here =
        let within : ℕ → Option Point → Type 0 = λ c o. IsTrue (is_within p (radius_of_class setup.step setup.gamma c) o) in
        let of_class : within (class_of (node_count before.points)) (point_at after.points i) =
        subst (λ c. within c (point_at after.points i)) chooses.of_class h.near in
        let was : within (class_of (node_count before.points)) (point_at before.points i) =
        subst (within (class_of (node_count before.points))) (point_at-grows before after leaves.grows i here) of_class in
        Contains-near before.points p (radius_of setup.step setup.gamma (node_count before.points)) i was

    neighbour_clear : (i : ℕ) → IsNeighbour setup after entry entry.class p i → IsPresent before.points i → Clear setup.space (point_of before.points i) p
    neighbour_clear i h here = subst (λ a. Clear setup.space a p) (same_point i here) h.clear

    chosen_lawfully : IsChosenLawfully setup after entry entry.nearest (first_hanging entry) p (node_count after.points)
    chosen_lawfully = record {
      clear = subst (λ a. Clear setup.space a p) (sym (same_point entry.nearest chooses.steers.nearest.member)) chooses.clear;
      of_class = record {
        low =
            omega (
              arith,
              chooses.of_class,
              class_of-le (earlier_count after entry) (node_count before.points)
                  (earlier_count-le setup marks k before closed after entry leaves.records leaves.grows),
            );
        high =
            omega (
              arith,
              chooses.of_class,
              class_of-le (node_count before.points) (node_count after.points) (node_count-grows before after leaves.grows),
            );
      };
      chosen = λ i h.
          let here = early i h in
          below_candidate i here (record {
            among = Contains-after entry.nearest (near_new setup before.points p) i (neighbour_near i h here);
            clear = neighbour_clear i h here;
          });
      rewired = λ i h.
          let here = early i h in
          omega (arith, leaves.reached i (neighbour_near i h here) (neighbour_clear i h here), same_edge i here);
    }

    -- ---- what the tree knows

    own_first_cost : first_cost_of after (suc k) ≡ entry.first_cost
    own_first_cost = ap (recorded_or (after.written_cost (suc k))) leaves.records.recorded

    hangs_lawfully : HangsLawfully setup after k entry.nearest (first_hanging entry) p
    hangs_lawfully =
        let m : ℕ = entry.nearest in
        let m_here : IsPresent before.points m = chooses.steers.nearest.member in
        let f_here : IsPresent before.points f = parent-reachable.present in
        let own = IsPresent-stands after.points (suc k) p leaves.stands in
        record {
          stands = leaves.stands;
          hangs = Hangs-grows setup before after leaves.grows (suc k) p f entry.first_cost parent-hangs;
          nearest_other = not_new m m_here;
          below_first = below_candidate f f_here chooses.parent.member;
          below_nearest = below_candidate m m_here (record { among = (0, omega arith, refl); clear = chooses.clear });
          bounded = omega (arith, own_first_cost, leaves.firsts.bounded (suc k) own);
          kept = omega (arith, own_first_cost, leaves.firsts.kept (suc k) own);
        }

    -- ---- the mark

    placed_lawfully : IsSteeredLawfully setup after k mark entry entry.nearest (NewNode (first_hanging entry))
    placed_lawfully =
        IsSteeredLawfully-steers setup marks k before closed after entry leaves.records leaves.grows mark p entry.nearest
        (NewNode (first_hanging entry)) chooses.cheaper chooses.steers (record { by_worker = chosen_lawfully; by_tree = hangs_lawfully })

    -- A placed mark ends lawfully.
    pub EndsLawfully-placed : entry.outcome ≡ Placed → EndsLawfully setup before after k mark entry
    EndsLawfully-placed placed = record {
      records = leaves.records;
      order = leaves.order;
      grows = leaves.grows;
      lawful = subst (λ o. HasLawfulEnding setup after k mark entry (ending_as entry o)) (sym placed) placed_lawfully;
      others = λ j apart h. ap is_some (sym (leaves.elsewhere (suc j) (λ e. apart (omega (arith, e))))) ∙ h;
      own = ((λ h. placed), (λ e. IsPresent-stands after.points (suc k) p leaves.stands));
    }
