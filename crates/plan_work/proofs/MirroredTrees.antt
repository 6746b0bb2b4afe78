-- A view that mirrors a tree of the textbook: what it sees is what the tree says, and it mirrors the tree after the next mark.
use Rattle.plan_work.proofs.Words.{◌≡◌, ◌≢◌, ℕ, suc, ◌+◌, ◌^◌, ◌≤◌, Option, Some, None, List, [], ◌∷◌, ◌++◌, map, arith, sym, ap, ◌∙◌, subst, inl, inr, All}
use Rattle.plan_work.proofs.Words.{Contains, is_some, unwrap_or, range_with_len, cases_eq, All-contains, Clear, cost_of, squared_distance, IsFirstLeast}
use Rattle.plan_work.proofs.Words.{IsNotAbove, distance_to, IsOpenTo, KeepsOrder, IsPresent, point_at, point_of, steered, IsBestParent, Nodes, Setup, SteersTo}
use Rattle.plan_work.proofs.Words.{near_new, cost_through, parent_of, parent_or_zero, points_of, sum_of, state_of, Point, Record, AddsNode, point_at-same}
use Rattle.plan_work.proofs.Words.{AddsNode-placed, PlacesNode, RecordsNext, sum-placed, HaveSameNodes-absent, node_at-absent, seen_point, PointOf, TreeOf}
use Rattle.plan_work.proofs.Words.{cost_in, parent_in, point_of_word, sum-same, SeesPoint, run_sizes, sees, setup_in, tree_seen, View, Mirrors}
use Rattle.plan_work.proofs.Words.{seen_cost_through}

-- ---- what it sees

-- the order of two numbers goes by their keys alone
IsNotAbove-keys : (one other : ℕ → ℕ) (m i : ℕ) → one m ≡ other m → one i ≡ other i → IsNotAbove one m i → IsNotAbove other m i
IsNotAbove-keys one other m i own far h = record {
  least = omega (arith, own, far, h.least);
  first = λ e. h.first (omega (arith, own, far, e));
}

module _ (view : View) (tree : Nodes) (mirrors : Mirrors view tree) where
  abbrev seen : List (Option Point)
  seen = (tree_seen view).points

  pub point_of-mirrored : (n : ℕ) → point_of seen n ≡ point_of (points_of tree) n
  point_of-mirrored n = ap (λ o. unwrap_or o (record { x = 0; y = 0 })) (mirrors.points n)

  pub present-mirrored : (n : ℕ) → IsPresent seen n → IsPresent (points_of tree) n
  present-mirrored n h = ap is_some (sym (mirrors.points n)) ∙ h

  pub present-seen : (n : ℕ) → IsPresent (points_of tree) n → IsPresent seen n
  present-seen n h = ap is_some (mirrors.points n) ∙ h

  distance-mirrored : (q : Point) (n : ℕ) → distance_to q seen n ≡ distance_to q (points_of tree) n
  distance-mirrored q n = ap (λ a. squared_distance a q) (point_of-mirrored n)

  pub seen_cost_through-mirrored : (p : Point) (n : ℕ) → IsPresent (points_of tree) n → seen_cost_through view p n ≡ cost_through tree p n
  seen_cost_through-mirrored p n h =
      ap (λ c. c + cost_of (point_of seen n) p) (mirrors.costs n h) ∙ ap (λ a. sum_of tree n + cost_of a p) (point_of-mirrored n)

  -- the nearest node of the tree steers to the point
  pub SteersTo-mirrored : (mark p : Point) (m : ℕ) → SteersTo (setup_in view.run) seen mark m p → SteersTo (setup_in view.run) (points_of tree) mark m p
  SteersTo-mirrored mark p m steers = record {
    nearest = record {
      member = present-mirrored m steers.nearest.member;
      not_above = λ i h.
          IsNotAbove-keys (distance_to mark seen) (distance_to mark (points_of tree)) m i (distance-mirrored mark m) (distance-mirrored mark i)
          (steers.nearest.not_above i (present-seen i h));
    };
    reached = steers.reached ∙ ap (λ a. steered a mark view.run.step) (point_of-mirrored m);
  }

  -- and the best parent by the costs seen is the best by the sums
  pub IsBestParent-mirrored :
      (p : Point) (nearest f : ℕ) (near : List ℕ) → near ≡ near_new (setup_in view.run) (points_of tree) p → All (IsPresent seen) (nearest ∷ near)
      → IsFirstLeast (seen_cost_through view p) (IsOpenTo (setup_in view.run).space seen p (nearest ∷ near)) f
      → IsBestParent (setup_in view.run) tree nearest p f
  IsBestParent-mirrored p nearest f near is present best = record {
    member = record {
      among = subst (λ ns. Contains (nearest ∷ ns) f) is best.member.among;
      clear = subst (λ a. Clear (setup_in view.run).space a p) (point_of-mirrored f) best.member.clear;
    };
    not_above = λ i h.
        let among : Contains (nearest ∷ near) i = subst (λ ns. Contains (nearest ∷ ns) i) (sym is) h.among in
        IsNotAbove-keys (seen_cost_through view p) (cost_through tree p) f i (seen_cost_through-mirrored p f (stands f best.member.among))
        (seen_cost_through-mirrored p i (stands i among))
        (best.not_above i record {
          among = among;
          clear = subst (λ a. Clear (setup_in view.run).space a p) (sym (point_of-mirrored i)) h.clear;
        });
  }
    where
      stands : (i : ℕ) → Contains (nearest ∷ near) i → IsPresent (points_of tree) i
      stands i among = present-mirrored i (All-contains (IsPresent seen) (nearest ∷ near) i present among)

  -- With an absent number more it is mirrored still.
  pub Mirrors-absent : Mirrors view (tree ++ None ∷ [])
  Mirrors-absent = record {
    points = λ n. mirrors.points n ∙ sym (same n);
    written = λ n h. mirrors.written n (was n h);
    parents = λ n h. mirrors.parents n (was n h) ∙ ap parent_or_zero (sym (node_at-absent tree n));
    costs = λ n h. mirrors.costs n (was n h) ∙ sym (sum-same (tree ++ None ∷ []) tree n (HaveSameNodes-absent tree));
  }
    where
      same : (n : ℕ) → point_at (points_of (tree ++ None ∷ [])) n ≡ point_at (points_of tree) n
      same n = point_at-same (tree ++ None ∷ []) tree n (node_at-absent tree n)

      was : (n : ℕ) → IsPresent (points_of (tree ++ None ∷ [])) n → IsPresent (points_of tree) n
      was n h = ap is_some (sym (same n)) ∙ h

-- ---- later views

-- the points are seen as before
pub points_still : (before after : View) → after.run ≡ before.run → ((n : ℕ) → sees after (PointOf n) ≡ sees before (PointOf n))
    → (tree_seen after).points ≡ (tree_seen before).points
points_still before after run same =
    ap (λ r. map (seen_point (sees after)) (range_with_len 0 ((run_sizes r).marks + 1))) run
    ∙ (λ t. map (λ n. point_of_word (same n t)) (range_with_len 0 ((run_sizes before.run).marks + 1)))

module _ (before after : View) (run : after.run ≡ before.run) (points : (n : ℕ) → sees after (PointOf n) ≡ sees before (PointOf n))
    (trees : (n : ℕ) → sees after (TreeOf n) ≡ sees before (TreeOf n)) (tree : Nodes) (mirrors : Mirrors before tree) where
  pub Mirrors-still : Mirrors after tree
  Mirrors-still = record {
    points = λ n. ap (λ ps. point_at ps n) (points_still before after run points) ∙ mirrors.points n;
    written = λ n h. subst (λ w. 2 ^ 63 ≤ w) (sym (trees n)) (mirrors.written n h);
    parents = λ n h. ap parent_in (trees n) ∙ mirrors.parents n h;
    costs = λ n h. ap cost_in (trees n) ∙ mirrors.costs n h;
  }

-- ---- a new node

-- Later the node of mark k is seen at p, under this parent at this cost; all others are seen as before.
pub record SeesNewNode (before after : View) (k f : ℕ) (p : Point) (cost : ℕ) : Type 0 where
  pub stands : SeesPoint after (suc k) p
  pub written : 2 ^ 63 ≤ sees after (TreeOf (suc k))
  pub parent : parent_in (sees after (TreeOf (suc k))) ≡ f
  pub cost_is : cost_in (sees after (TreeOf (suc k))) ≡ cost
  pub points : (n : ℕ) → n ≢ suc k → point_at (tree_seen after).points n ≡ point_at (tree_seen before).points n
  pub trees : (n : ℕ) → n ≢ suc k → sees after (TreeOf n) ≡ sees before (TreeOf n)

module _
    (setup : Setup) (before after : View) (tree : Nodes) (records : List Record) (k f : ℕ) (p : Point) (entry : Record)
    (mirrors : Mirrors before tree) (next : RecordsNext tree records k) (order : KeepsOrder setup (state_of tree records))
    (places : PlacesNode setup tree k f p entry) (new : SeesNewNode before after k f p (cost_through tree p f)) where
  abbrev longer : Nodes
  longer = tree ++ Some (record { point = p; parent = f }) ∷ []

  adds : AddsNode setup (state_of tree records) (state_of longer (records ++ entry ∷ [])) (suc k) f p
  adds = AddsNode-placed setup tree records k f p entry next order places

  kept_point : (n : ℕ) → n ≢ suc k → point_at (points_of longer) n ≡ point_at (points_of tree) n
  kept_point n apart = adds.elsewhere n apart

  kept_present : (n : ℕ) → n ≢ suc k → IsPresent (points_of longer) n → IsPresent (points_of tree) n
  kept_present n apart h = ap is_some (sym (kept_point n apart)) ∙ h

  -- So the tree with the new node is mirrored.
  pub Mirrors-placed : Mirrors after (tree ++ Some (record { point = p; parent = f }) ∷ [])
  Mirrors-placed = record {
    points = λ n.
        elim (cases_eq n (suc k)) [
          | inl e ↦ ap (point_at (tree_seen after).points) e ∙ new.stands ∙ sym adds.stands ∙ ap (point_at (points_of longer)) (sym e)
          | inr apart ↦ new.points n apart ∙ mirrors.points n ∙ sym (kept_point n apart)
        ];
    written = λ n h.
        elim (cases_eq n (suc k)) [
          | inl e ↦ subst (λ m. 2 ^ 63 ≤ sees after (TreeOf m)) (sym e) new.written
          | inr apart ↦ subst (λ w. 2 ^ 63 ≤ w) (sym (new.trees n apart)) (mirrors.written n (kept_present n apart h))
        ];
    parents = λ n h.
        elim (cases_eq n (suc k)) [
          | inl e ↦ ap (λ m. parent_in (sees after (TreeOf m))) e ∙ new.parent ∙ sym adds.parent ∙ ap (parent_of longer) (sym e)
          | inr apart ↦
              let was = kept_present n apart h in
              ap parent_in (new.trees n apart) ∙ mirrors.parents n was ∙ sym (adds.kept.parents n was)
        ];
    costs = λ n h.
        elim (cases_eq n (suc k)) [
          | inl e ↦
              ap (λ m. cost_in (sees after (TreeOf m))) e ∙ new.cost_is ∙ sym (sum-placed setup tree records k f p entry next order places)
              ∙ ap (sum_of longer) (sym e)
          | inr apart ↦
              let was = kept_present n apart h in
              ap cost_in (new.trees n apart) ∙ mirrors.costs n was ∙ sym (adds.kept.costs n was)
        ];
  }
