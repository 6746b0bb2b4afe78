-- The choice of the best parent among nodes whose costs were seen.
use Rattle.tree_rewire.proofs.Words.{◌≡◌, ℕ, ◌+◌, ◌≤◌, ◌*◌, List, ◌∷◌, [], ◌++◌, Some, drop, take, arith, refl, sym, ap, ◌∙◌, subst, All, Contains, slice_get}
use Rattle.tree_rewire.proofs.Words.{drop_more, take_more, All-contains, All-push, Contains-get_or, get_or_from_slice_get, slice_get_within, Point, Clear}
use Rattle.tree_rewire.proofs.Words.{ConfigurationSpace, space_of, cost_of, squared_distance, IsNotAbove, IsPresent, point_of}
use Rattle.tree_rewire.proofs.Words.{StandsAt-present, GoesOn, SharedState, run_in, IsCostBelow, SeesPoint, setup_in, tree_seen, IsPresent-later, View}
use Rattle.tree_rewire.proofs.Words.{IsBestParentSeen, IsInReach, NamesNothing, SeesAnew, SeesPair, cost_seen, seen_cost_through, Parent}
use Rattle.tree_rewire.proofs.CostSteps.{seen_cost_through-same, point_of-same}
use Rattle.tree_rewire.proofs.SeenCosts.{point_later}

-- what holds of all on a list holds of the one that is read
pub All-read : (P : ℕ → Type 0) (ns : List ℕ) (i n : ℕ) → slice_get ns i ≡ Some n → All P ns → P n
All-read P ns i n read all =
    All-contains P ns n all
    (subst (Contains ns) (get_or_from_slice_get ns i n 0 read) (Contains-get_or ns i 0 (slice_get_within ns i n read)))

-- and so of one that is read of the same list later
pub near_read : (P : ℕ → Type 0) (ns now : List ℕ) (i n : ℕ) → now ≡ ns → slice_get now i ≡ Some n → All P ns → P n
near_read P ns now i n same read all = All-read P ns i n (ap (λ ms. slice_get ms i) (sym same) ∙ read) all

-- the first i on a list, and the one that is read there
pub take_read : (ns now : List ℕ) (i n : ℕ) → now ≡ ns → slice_get now i ≡ Some n → take (i + 1) ns ≡ take i ns ++ n ∷ []
take_read ns now i n same read =
    let here : slice_get ns i ≡ Some n = ap (λ ms. slice_get ms i) (sym same) ∙ read in
    take_more ns i 0 (slice_get_within ns i n here) ∙ ap (λ m. take i ns ++ m ∷ []) (get_or_from_slice_get ns i n 0 here)

-- and the rest from there
pub drop_read : (ns now : List ℕ) (i n : ℕ) → now ≡ ns → slice_get now i ≡ Some n → drop i ns ≡ n ∷ drop (i + 1) ns
drop_read ns now i n same read =
    let here : slice_get ns i ≡ Some n = ap (λ ms. slice_get ms i) (sym same) ∙ read in
    drop_more ns i 0 (slice_get_within ns i n here) ∙ ap (λ m. m ∷ drop (i + 1) ns) (get_or_from_slice_get ns i n 0 here)

-- one more
pub All-more : (P : ℕ → Type 0) (ns more : List ℕ) (n : ℕ) → more ≡ ns ++ n ∷ [] → All P ns → P n → All P more
All-more P ns more n e all here = subst (All P) (sym e) (All-push P ns n all here)

-- the cost through a node, by its cost seen and its point that was loaded
pub read_through : (before after : View) (p from : Point) (n cost : ℕ) → GoesOn before after → IsPresent (tree_seen before).points n
    → SeesPoint after n from → cost ≡ cost_seen before n → cost + cost_of from p ≡ seen_cost_through before p n
read_through before after p from n cost goes_on present found cost_is =
    omega (arith, cost_is, ap (λ q. cost_of q p) (point_later before after goes_on n from present found))

-- ---- if no word is seen anew, all is as it was

module _ (space : ConfigurationSpace) {before after : View} (same : SeesAnew NamesNothing before after) (p : Point) where
  IsNotAbove-after : (m n : ℕ) → IsNotAbove (seen_cost_through before p) m n → IsNotAbove (seen_cost_through after p) m n
  IsNotAbove-after m n h = record {
    least = omega (arith, h.least, seen_cost_through-same same p m, seen_cost_through-same same p n);
    first = λ e. h.first (omega (arith, e, seen_cost_through-same same p m, seen_cost_through-same same p n));
  }

  pub clear_before : (n : ℕ) → Clear space (point_of (tree_seen after).points n) p → Clear space (point_of (tree_seen before).points n) p
  clear_before n = subst (λ q. Clear space q p) (point_of-same same n)

  pub clear_after : (n : ℕ) → Clear space (point_of (tree_seen before).points n) p → Clear space (point_of (tree_seen after).points n) p
  clear_after n = subst (λ q. Clear space q p) (sym (point_of-same same n))

  -- the best then is so still
  pub IsBestParentSeen-after : (among : List ℕ) (parent : Parent) → IsBestParentSeen space before p among parent
      → IsBestParentSeen space after p among parent
  IsBestParentSeen-after among parent best = record {
    least = record {
      member = record { among = best.least.member.among; clear = clear_after parent.node best.least.member.clear };
      not_above = λ i own.
          IsNotAbove-after parent.node i (best.least.not_above i (record { among = own.among; clear = clear_before i own.clear }));
    };
    cost = best.cost ∙ sym (seen_cost_through-same same p parent.node);
  }

-- ---- the new node may hang below the best

-- nodes in reach are present
pub All-present : (view : View) (p : Point) (ns : List ℕ) → All (IsInReach view p) ns → All (IsPresent (tree_seen view).points) ns
All-present view p ns all = λ k d below. (all k d below).present

-- a node that is present stays where it is
pub points_later : (before after : View) (n : ℕ) → GoesOn before after → IsPresent (tree_seen before).points n
    → point_of (tree_seen after).points n ≡ point_of (tree_seen before).points n
points_later before after n goes_on present =
    point_later before after goes_on n (point_of (tree_seen after).points n) present
    (StandsAt-present (tree_seen after).points n (IsPresent-later before after goes_on.later.run goes_on.later.seen n present))

pub IsInReach-later : (before after : View) (p : Point) (n : ℕ) → GoesOn before after → IsInReach before p n → IsInReach after p n
IsInReach-later before after p n goes_on h =
    record {
      present = IsPresent-later before after goes_on.later.run goes_on.later.seen n h.present;
      short = subst (λ q. squared_distance q p ≤ after.run.step * after.run.step) (sym (points_later before after n goes_on h.present))
          (subst (λ r. squared_distance (point_of (tree_seen before).points n) p ≤ r.step * r.step) (sym goes_on.later.run) h.short);
    }

pub IsCostBelow-best : (shared : SharedState) (before after : View) (p : Point) (among : List ℕ) (parent : Parent) → after.run ≡ run_in shared
    → GoesOn before after → All (IsInReach before p) among → All (SeesPair after) among
    → IsBestParentSeen (space_of shared.task.scene) after p among parent → IsCostBelow after p parent.node parent.cost
IsCostBelow-best shared before after p among parent own goes_on reach pairs best =
    let m = parent.node in
    let is_open = best.least.member in
    let here = IsInReach-later before after p m goes_on (All-contains (IsInReach before p) among m reach is_open.among) in
    record {
      from = point_of (tree_seen after).points m;
      parent_cost = cost_seen after m;
      seen = record {
        stands = StandsAt-present (tree_seen after).points m here.present;
        written = All-contains (SeesPair after) among m pairs is_open.among;
        cost_is = refl;
      };
      edge = record {
        clear = subst (λ r. Clear (setup_in r).space (point_of (tree_seen after).points m) p) (sym own) is_open.clear;
        short = here.short;
      };
      cost_is = best.cost;
    }
