-- One open link in a closed run: if an earlier node stands where it begins, the mark where it ends is placed there or ends at a node there,
-- unless it is skipped.
use Rattle.route_laws.proofs.Words.{◌≡◌, ◌⊎◌, inl, inr, ℕ, zero, suc, ◌≤◌, List, arith, refl, sym, subst, HasGoalNode, IsOpenLink}
use Rattle.route_laws.proofs.Common.{Point, Outcome, Placed, Same, Blocked, Skipped, Record, squared_distance, Reached, ending_as, IsClosed, HasLawfulEnding}
use Rattle.route_laws.proofs.Common.{ReachesLawfully, IsEarlier, IsSteeredLawfully, Setup, ClearAt, IsPresent, StandsAt, point_of, TreeState, point_of-stands}
use Rattle.route_laws.proofs.Common.{Clear-last, steered-near}

module _ (setup : Setup) (marks : List Point) (limit : ℕ) (state : TreeState) (closed : IsClosed setup marks limit state) where
  -- each node of a closed run is clear
  pub ClearAt-node : (n : ℕ) → IsPresent state.points n → ClearAt setup.space (point_of state.points n)
  ClearAt-node zero h =
      let begins : point_of state.points 0 ≡ setup.start = point_of-stands state.points 0 setup.start closed.order.start_stands in
      subst (ClearAt setup.space) (sym begins) closed.order.start_clear
  ClearAt-node (suc n) h =
      Clear-last setup.space (point_of state.points (state.parent (suc n))) (point_of state.points (suc n)) (closed.order.hangs n h).edge.clear

  module _ (k n : ℕ) (a b : Point) (entry : Record) (stands : StandsAt state.points n a) (earlier : IsEarlier state entry n) (link : IsOpenLink setup a b) where
    abbrev nearest : Point
    nearest = point_of state.points entry.nearest

    -- the nearest node is no farther from b than a is
    pub near : (reached : Reached) → IsSteeredLawfully setup state k b entry entry.nearest reached → squared_distance nearest b ≤ squared_distance a b
    near reached steers =
        subst (λ p. squared_distance nearest b ≤ squared_distance p b) (point_of-stands state.points n a stands) (steers.nearest n earlier).least

    -- so it steers to b itself
    pub ends_at :
        (reached : Reached) → IsSteeredLawfully setup state k b entry entry.nearest reached
        → ReachesLawfully setup state k entry entry.nearest reached b
    ends_at reached steers =
        subst (ReachesLawfully setup state k entry entry.nearest reached)
        (steered-near nearest b setup.step (omega (arith, near reached steers, link.short))) steers.outcome

    -- a node was placed at b, or one stands there at which the mark ended, or there is a goal node
    abbrev pub EndsThere : Type 0
    EndsThere =
        ((n : ℕ) × (((n ≡ suc k) × (entry.outcome ≡ Placed)) ⊎ (entry.outcome ≡ Same n)) × StandsAt state.points n b)
        ⊎ HasGoalNode setup.goals state.points

    pub EndsThere-lawful : (outcome : Outcome) → entry.outcome ≡ outcome → HasLawfulEnding setup state k b entry (ending_as entry outcome) → EndsThere
    EndsThere-lawful Placed e h = inl (suc k, inl (refl, e), (ends_at _ h).by_tree.stands)
    EndsThere-lawful (Same j) e h = inl (j, inr e, ends_at _ h)
    EndsThere-lawful Blocked e h =
        absurd ((ends_at _ h).blocked (link.clear nearest (ClearAt-node entry.nearest h.present) (near _ h)))
    EndsThere-lawful Skipped e h = inr (entry.nearest, h.goal)
