-- Decisions of what was seen of small trees, of which nothing is said of number 6 and above.
use Rattle.plan_model_tests.proofs.Words.{◌≡◌, ℕ, zero, suc, ◌<◌, ◌≤◌, Bool, true, false, Option, Some, None, List, length, refl, sym, ap, arith, inl, inr, ◌⊎◌}
use Rattle.plan_model_tests.proofs.Words.{is_some, IsPresent-below, Point, Record, StandsAt, point_at, HasSeenAtLeast, IsSeen, KeepsOrLowers, SeenTree}
use Rattle.plan_model_tests.proofs.Words.{IsLaterMoment, KeepsOrFindsEmpty, Sight, Children, FillsPlaces}
use Rattle.plan_model_tests.proofs.Decisions.{are_equal, both, each_below, either, given, in_option, is_absent, is_at_most, is_point, like, of-none, of-some}
use Rattle.plan_model_tests.proofs.Decisions.{some_below}

-- ---- numbers and sides
abbrev pub past_5 : ℕ → ℕ
past_5 n = suc (suc (suc (suc (suc (suc n)))))

module _ (P : ℕ → Type 0) (past : (n : ℕ) → P (past_5 n)) where
  pub by-numbers : P 0 → P 1 → P 2 → P 3 → P 4 → P 5 → (n : ℕ) → P n
  by-numbers a b c d e f zero = a
  by-numbers a b c d e f (suc zero) = b
  by-numbers a b c d e f (suc (suc zero)) = c
  by-numbers a b c d e f (suc (suc (suc zero))) = d
  by-numbers a b c d e f (suc (suc (suc (suc zero)))) = e
  by-numbers a b c d e f (suc (suc (suc (suc (suc zero))))) = f
  by-numbers a b c d e f (suc (suc (suc (suc (suc (suc n)))))) = past n

  pub by-number : ((n : ℕ) → n < 6 → P n) → (n : ℕ) → P n
  by-number h = by-numbers (h 0 (omega arith)) (h 1 (omega arith)) (h 2 (omega arith)) (h 3 (omega arith)) (h 4 (omega arith)) (h 5 (omega arith))

  abbrev pub each_number : ((n : ℕ) → Dec (P n)) → Dec ((n : ℕ) → P n)
  each_number test = like by-number (λ h n _. h n) (each_below P test 6)

module _ (P : Bool → Type 0) where
  pub by-side : P false × P true → (side : Bool) → P side
  by-side h false = h.0
  by-side h true = h.1

  abbrev pub each_side : ((side : Bool) → Dec (P side)) → Dec ((side : Bool) → P side)
  each_side test = like by-side (λ h. (h false, h true)) (both (test false) (test true))

-- ---- places
abbrev pub is_number : (o : Option ℕ) (m : ℕ) → Dec (o ≡ Some m)
is_number None m = no (of-none (λ _. ⊥) m)
is_number (Some n) m = like (ap Some) (of-some (λ k. n ≡ k) n refl m) (are_equal n m)

pub none-past : {T : Type 0} (o : Option T) (t : T) (P : Type 0) → o ≡ None → o ≡ Some t → P
none-past o t P none some = cc

module _ (child after : Children) (past : (n : ℕ) (side : Bool) → child (past_5 n) side ≡ None) where
  abbrev pub keeps_children : Dec ((n m : ℕ) (side : Bool) → child n side ≡ Some m → after n side ≡ Some m)
  keeps_children =
      each_number (λ n. (m : ℕ) (side : Bool) → child n side ≡ Some m → after n side ≡ Some m)
      (λ n m side. none-past (child (past_5 n) side) m (after (past_5 n) side ≡ Some m) (past n side))
      (λ n. like (λ f m side. f side m) (λ f side m. f m side)
      (each_side (λ side. (m : ℕ) → child n side ≡ Some m → after n side ≡ Some m)
      (λ side. in_option (λ m. after n side ≡ Some m) (child n side) (is_number (after n side)))))

  abbrev pub fills_places : (points later : List (Option Point)) → Dec (FillsPlaces child after points later)
  fills_places points later =
      given keeps_children (λ h. h.children) (λ a.
      given
      (each_below (λ n. (p : Point) → StandsAt points n p → StandsAt later n p)
      (λ n. in_option (StandsAt later n) (point_at points n) (is_point (point_at later n))) (length points)) (λ h n _. h.nodes n) (λ b.
      yes (record { children = a; nodes = λ n p h. b n (IsPresent-below points n (ap is_some h)) p h })))

-- ---- parents with costs
pub pair-by : (p q : ℕ × ℕ) → (p.0 ≡ q.0) × (p.1 ≡ q.1) → p ≡ q
pair-by p q h = λ i. (h.0 i, h.1 i)

abbrev pub is_pair : (p q : ℕ × ℕ) → Dec (p ≡ q)
is_pair p q = like (pair-by p q) (λ e. (ap (λ (r : ℕ × ℕ). r.0) e, ap (λ (r : ℕ × ℕ). r.1) e)) (both (are_equal p.0 q.0) (are_equal p.1 q.1))

abbrev pub KeepsOrLowersTo : Option (ℕ × ℕ) → ℕ × ℕ → Type 0
KeepsOrLowersTo o pair = (now : ℕ × ℕ) × (o ≡ Some now) × ((now ≡ pair) ⊎ (now.1 < pair.1))

pub none-now : (pair : ℕ × ℕ) → ¬ KeepsOrLowersTo None pair
none-now pair (now, e, h) = cc

abbrev pub keeps_or_lowers_to : (o : Option (ℕ × ℕ)) (pair : ℕ × ℕ) → Dec (KeepsOrLowersTo o pair)
keeps_or_lowers_to None pair = no (none-now pair)
keeps_or_lowers_to (Some now) pair =
    like (λ h. (now, refl, h)) (λ h. of-some (λ (p : ℕ × ℕ). (p ≡ pair) ⊎ (p.1 < pair.1)) h.0 h.2 now (sym h.1))
    (either (is_pair now pair) (is_at_most (suc now.1) pair.1))

-- ---- more was seen
-- nothing was seen of number 6 and above
pub record IsSmall (seen : SeenTree) : Type 0 where
  pub child : (n : ℕ) (side : Bool) → seen.child (past_5 n) side ≡ None
  pub pairs : (n : ℕ) → seen.parent_and_cost (past_5 n) ≡ None

module _ (before after : SeenTree) (small : IsSmall before)
    (records : Dec ((k : ℕ) (entry : Record) → before.record_of k ≡ Some entry → after.record_of k ≡ Some entry))
    (counters : Dec ((strip : ℕ) → before.counter strip ≤ after.counter strip)) where
  abbrev pub has_seen_at_least : Dec (HasSeenAtLeast before after)
  has_seen_at_least =
      given (fills_places before.child after.child small.child before.points after.points) (λ h. h.places) (λ a.
      given
      (each_number (KeepsOrLowers before after)
      (λ n pair. none-past (before.parent_and_cost (past_5 n)) pair (KeepsOrLowersTo (after.parent_and_cost (past_5 n)) pair) (small.pairs n))
      (λ n. in_option (KeepsOrLowersTo (after.parent_and_cost n)) (before.parent_and_cost n) (keeps_or_lowers_to (after.parent_and_cost n))))
      (λ h. h.pairs) (λ b.
      given records (λ h. h.records) (λ c.
      given counters (λ h. h.counters) (λ d.
      given (is_at_most before.count after.count) (λ h. h.count) (λ e.
      yes (record { places = a; pairs = b; records = c; counters = d; count = e }))))))

-- ---- seen nodes
module _ (seen : SeenTree) (small : IsSmall seen) (n : ℕ) where
  abbrev pub IsChildOf : ℕ → Type 0
  IsChildOf a = (seen.child a false ≡ Some n) ⊎ (seen.child a true ≡ Some n)

  pub child-below : (a : ℕ) (side : Bool) → seen.child a side ≡ Some n → a < 6
  child-below =
      by-number (λ a. (side : Bool) → seen.child a side ≡ Some n → a < 6)
      (λ a side. none-past (seen.child (past_5 a) side) n (past_5 a < 6) (small.child a side)) (λ a below side e. below)

  pub child-of : (a : ℕ) × (a < 6) × IsChildOf a → (a : ℕ) × (side : Bool) × (seen.child a side ≡ Some n)
  child-of (a, below, inl e) = (a, false, e)
  child-of (a, below, inr e) = (a, true, e)

  pub of-child : (a : ℕ) × (side : Bool) × (seen.child a side ≡ Some n) → (a : ℕ) × (a < 6) × IsChildOf a
  of-child (a, false, e) = (a, child-below a false e, inl e)
  of-child (a, true, e) = (a, child-below a true e, inr e)

  abbrev pub is_seen : Dec (IsSeen seen n)
  is_seen =
      either (are_equal n 0)
      (like child-of of-child (some_below IsChildOf (λ a. either (is_number (seen.child a false) n) (is_number (seen.child a true) n)) 6))

-- ---- later moments
abbrev pub keeps_or_finds_empty : (before after : Sight) (n : ℕ) (side : Bool) → Dec (KeepsOrFindsEmpty before after n side)
keeps_or_finds_empty before after n side =
    either (are_equal (after.found_empty n side) (before.found_empty n side))
    (both (is_at_most (suc before.steps) (after.found_empty n side)) (is_absent (before.seen.child n side)))

module _ (before after : Sight) (past : (n : ℕ) (side : Bool) → KeepsOrFindsEmpty before after (past_5 n) side) where
  abbrev pub is_later : Dec (HasSeenAtLeast before.seen after.seen) → Dec (IsLaterMoment before after)
  is_later seen =
      given seen (λ h. h.seen) (λ a.
      given (is_at_most before.steps after.steps) (λ h. h.steps) (λ b.
      given
      (each_number (λ n. (side : Bool) → KeepsOrFindsEmpty before after n side) past
      (λ n. each_side (KeepsOrFindsEmpty before after n) (keeps_or_finds_empty before after n))) (λ h. h.empty) (λ c.
      yes (record { seen = a; steps = b; empty = c }))))

-- where no mark has a record
abbrev pub no_records : (after : ℕ → Option Record) → Dec ((k : ℕ) (entry : Record) → None ≡ Some entry → after k ≡ Some entry)
no_records after = yes (λ k entry. of-none (λ e. after k ≡ Some e) entry)

-- where all counters are the same
abbrev pub counted : (few many : ℕ) → Dec ((strip : ℕ) → few ≤ many)
counted few many = like (λ h strip. h) (λ h. h 0) (is_at_most few many)
