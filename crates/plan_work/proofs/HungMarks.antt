-- The node in hand gets its parent and its cost.
use Rattle.plan_work.proofs.Words.{◌≡◌, ℕ, ◌≤◌, ◌∷◌, List, inl, refl, sym, ap, ◌∙◌, subst, arith, All, Contains, slice_index_or, All-contains, Contains-get_or}
use Rattle.plan_work.proofs.Words.{Clear, ConfigurationSpace, cost_of, IsPresent, point_at, point_of, Point, Contains-after}
use Rattle.plan_work.proofs.Words.{Contains-first, StandsAt-present, Counter, RecordOf, TreeOf, BelongsTo, GoesOn, PassState, SharedState, with_view}
use Rattle.plan_work.proofs.Words.{BelongsTo-later, IsHung, IsPointed, KeepsRecords, half, treed, IsCostBelow, MayHang, sees, setup_in, tree_seen, Hand, Half}
use Rattle.plan_work.proofs.Words.{View, IsBestParentSeen, IsLoadedSince, Parent, SeesPair, cost_seen, seen_cost_through}
use Rattle.plan_work.proofs.FilledNear.{looked_since}

module _ (space : ConfigurationSpace) (view : View) (hand : Hand) (p : Point) (nearest : ℕ) (near : List ℕ) (parent : Parent)
    (pointed : IsPointed hand nearest p) (best : IsBestParentSeen space view p (nearest ∷ near) parent) where
  -- the node may hang below the parent that was chosen
  pub MayHang-chosen : IsPresent (tree_seen view).points nearest → SeesPair view nearest → Clear space (point_of (tree_seen view).points nearest) p
      → IsCostBelow view p parent.node parent.cost → MayHang view hand parent.node parent.cost
  MayHang-chosen present pair clear below =
      let points = (tree_seen view).points in
      let not_above = best.least.not_above nearest record { among = Contains-first nearest near; clear = clear } in
      record {
        below = subst (λ q. IsCostBelow view q parent.node parent.cost) (sym pointed.point) below;
        nearest_at = point_of points nearest;
        nearest_cost = cost_seen view nearest;
        nearest = record {
          stands =
              ap (λ n. point_at points n) pointed.nearest ∙ StandsAt-present points nearest present;
          written = subst (SeesPair view) (sym pointed.nearest) pair;
          cost_is = ap (cost_seen view) (sym pointed.nearest);
        };
        chosen = omega (arith, not_above.least, best.cost, ap (cost_of (point_of points nearest)) pointed.point);
      }

  -- and costs no more than through any near node
  pub chosen_near : (i : ℕ) → Contains near i → Clear space (point_of (tree_seen view).points i) p → parent.cost ≤ seen_cost_through view p i
  chosen_near i among clear =
      omega (arith, best.cost, (best.least.not_above i record { among = Contains-after nearest near i among; clear = clear }).least)

-- After both words are written the node hangs.
pub IsHung-written :
    (space : ConfigurationSpace) (view : View) (own : Hand) (m : ℕ) (p : Point) (parent : Parent) (near : List ℕ) (then : View) → IsPointed own m p
    → then ≡ treed (half view own parent.node parent.cost) (record own { stage = Half; parent = parent.node; cost = parent.cost })
    → space ≡ (setup_in view.run).space
    → All (SeesPair view) (m ∷ near) → (steps : ℕ) → All (IsLoadedSince steps view) (m ∷ near) → GoesOn view then
    → ((i : ℕ) → Contains near i → Clear space (point_of (tree_seen view).points i) p → parent.cost ≤ seen_cost_through view p i)
    → IsHung steps then own parent near
IsHung-written space view own m p parent near then pointed is same pairs steps loaded goes_on chosen =
    subst (λ v. IsHung steps v own parent near) (sym is) record {
      held = refl;
      pairs = λ k d below. All-contains (SeesPair view) (m ∷ near) _ pairs (Contains-after m near _ (Contains-get_or near k d below));
      loaded = λ k d below.
          let n : ℕ = slice_index_or near k d in
          subst (λ v. IsLoadedSince steps v n) is
          (looked_since (TreeOf n) steps view then goes_on
          (All-contains (IsLoadedSince steps view) (m ∷ near) n loaded (Contains-after m near n (Contains-get_or near k d below))));
      chosen = λ i among clear.
          omega (
            arith,
            chosen i among
                (subst (λ q. Clear space (point_of (tree_seen view).points i) q) pointed.point
                (subst (λ s. Clear s (point_of (tree_seen view).points i) own.point) (sym same) clear)),
            ap (cost_of (point_of (tree_seen view).points i)) pointed.point,
          );
    }

-- No record was seen anew.
pub KeepsRecords-written :
    (shared : SharedState) (before after : PassState) (own : Hand) (parent cost : ℕ) → BelongsTo before shared
    → after ≡ with_view before (treed (half before.view own parent cost) (record own { stage = Half; parent = parent; cost = cost }))
    → GoesOn before.view after.view → KeepsRecords shared before after
KeepsRecords-written shared before after own parent cost belongs is goes_on = record {
  belongs = BelongsTo-later shared before after (ap (λ (p : PassState). p.table) is) goes_on belongs;
  goes_on = goes_on;
  records = λ k. ap (λ (p : PassState). sees p.view (RecordOf k)) is;
  counters = λ g. ap (λ (p : PassState). sees p.view (Counter g)) is;
  best = inl (ap (λ (p : PassState). p.view.best) is);
  crew = ap (λ (p : PassState). p.view.crew) is;
  most = ap (λ (p : PassState). p.view.most) is;
}
