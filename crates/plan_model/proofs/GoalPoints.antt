-- The lattice points of goals, as a list: a point is one of them exactly if it lies in one of the boxes.
use Rattle.plan_model.proofs.Words.{◌≡◌, ◌⊎◌, ℕ, zero, suc, ◌-◌, ◌<◌, ◌≤◌, List, [], ◌∷◌, map, sym, ap, subst, arith, inl, inr, Contains, IsTrue, flat_map}
use Rattle.plan_model.proofs.Words.{and_parts, le-leb, leb-true, Contains-append_left, Contains-append_right, Contains-append_cases, length-range_with_len}
use Rattle.plan_model.proofs.Words.{get_or-range_with_len, Goal, Point, is_in_goal, lies_in_goals, numbers_between, points_of_goal, and_from, or_left, or_right}
use Rattle.plan_model.proofs.Words.{or_cases}
use Rattle.plan_model.proofs.ListMembers.{Contains-first, Contains-after}

-- ---- lists made of lists

-- the first member, or one of the others
first_or_after : {A : Type 0} → (x : A) (xs : List A) (y : A) → Contains (x ∷ xs) y → (x ≡ y) ⊎ Contains xs y
first_or_after x xs y (zero, l, is) = inl is
first_or_after x xs y (suc k, l, is) = inr (k, omega (arith, l), is)

-- what is in the list that one member gives is in the whole
Contains-flat_map :
    {A B : Type 0} → (f : A → List B) (xs : List A) (x : A) (y : B) → Contains xs x → Contains (f x) y → Contains (flat_map f xs) y
Contains-flat_map f [] x y (k, l, is) h = absurd (omega (arith, l))
Contains-flat_map f (a ∷ xs) x y (zero, l, is) h = Contains-append_left (f a) (flat_map f xs) y (subst (λ b. Contains (f b) y) (sym is) h)
Contains-flat_map f (a ∷ xs) x y (suc k, l, is) h =
    Contains-append_right (f a) (flat_map f xs) y (Contains-flat_map f xs x y (k, omega (arith, l), is) h)

-- and each in the whole is in the list that some member gives
from_flat_map : {A B : Type 0} → (f : A → List B) (xs : List A) (y : B) → Contains (flat_map f xs) y → (x : A) × Contains xs x × Contains (f x) y
from_flat_map f [] y (k, l, is) = absurd (omega (arith, l))
from_flat_map f (a ∷ xs) y h =
    elim (Contains-append_cases (f a) (flat_map f xs) y h) [
      | inl own ↦ (a, Contains-first a xs, own)
      | inr rest ↦ (let r = from_flat_map f xs y rest in (r.0, Contains-after a xs r.0 r.1, r.2))
    ]

pub Contains-map : {A B : Type 0} → (f : A → B) (xs : List A) (x : A) → Contains xs x → Contains (map f xs) (f x)
Contains-map f [] x (k, l, is) = absurd (omega (arith, l))
Contains-map f (a ∷ xs) x (zero, l, is) = (0, omega arith, ap f is)
Contains-map f (a ∷ xs) x (suc k, l, is) = Contains-after (f a) (map f xs) (f x) (Contains-map f xs x (k, omega (arith, l), is))

pub from_map : {A B : Type 0} → (f : A → B) (xs : List A) (y : B) → Contains (map f xs) y → (x : A) × Contains xs x × (f x ≡ y)
from_map f [] y (k, l, is) = absurd (omega (arith, l))
from_map f (a ∷ xs) y h =
    elim (first_or_after (f a) (map f xs) y h) [
      | inl e ↦ (a, Contains-first a xs, e)
      | inr rest ↦ (let r = from_map f xs y rest in (r.0, Contains-after a xs r.0 r.1, r.2))
    ]

-- ---- numbers

Contains-between : (low high n : ℕ) → low ≤ n → n ≤ high → Contains (numbers_between low high) n
Contains-between low high n l h = (
  n - low,
  omega (arith, length-range_with_len low (suc high - low), l, h),
  omega (arith, get_or-range_with_len low (suc high - low) (n - low) n (omega (arith, l, h)), l),
)

from_between : (low high n : ℕ) → Contains (numbers_between low high) n → (low ≤ n) × (n ≤ high)
from_between low high n (k, l, is) =
    let below : k < suc high - low = omega (arith, length-range_with_len low (suc high - low), l) in
    let at = get_or-range_with_len low (suc high - low) k n below in
    (omega (arith, at, is), omega (arith, at, is, below))

-- ---- points

-- both coordinates are in the ranges of the box
pub record IsInside (goal : Goal) (z : Point) : Type 0 where
  pub left : goal.low.x ≤ z.x
  pub right : z.x ≤ goal.high.x
  pub bottom : goal.low.y ≤ z.y
  pub top : z.y ≤ goal.high.y

-- which is what the test of a goal says
pub in_goal_parts : (goal : Goal) (z : Point) → IsTrue (is_in_goal goal z) → IsInside goal z
in_goal_parts goal z h =
    let both = and_parts _ _ h in
    let across = and_parts _ _ both.0 in
    let up = and_parts _ _ both.1 in
    record {
      left = leb-true _ _ across.0;
      right = leb-true _ _ across.1;
      bottom = leb-true _ _ up.0;
      top = leb-true _ _ up.1;
    }

pub is_in_goal-true : (goal : Goal) (z : Point) → IsInside goal z → IsTrue (is_in_goal goal z)
is_in_goal-true goal z h =
    and_from _ _ (and_from _ _ (le-leb _ _ h.left) (le-leb _ _ h.right)) (and_from _ _ (le-leb _ _ h.bottom) (le-leb _ _ h.top))

-- a lattice point lies in a box exactly if it is one of the points of the box
pub Contains-in_goal : (goal : Goal) (z : Point) → IsTrue (is_in_goal goal z) → Contains (points_of_goal goal) z
Contains-in_goal goal z h =
    let inside = in_goal_parts goal z h in
    let column : Contains (numbers_between goal.low.x goal.high.x) z.x =
    Contains-between goal.low.x goal.high.x z.x inside.left inside.right in
    let row : Contains (numbers_between goal.low.y goal.high.y) z.y =
    Contains-between goal.low.y goal.high.y z.y inside.bottom inside.top in
    let at : ℕ → ℕ → Point = λ x y. record { x = x; y = y } in
    Contains-flat_map (λ x. map (at x) (numbers_between goal.low.y goal.high.y)) (numbers_between goal.low.x goal.high.x) z.x z column
    (Contains-map (at z.x) (numbers_between goal.low.y goal.high.y) z.y row)

pub in_goal-Contains : (goal : Goal) (z : Point) → Contains (points_of_goal goal) z → IsTrue (is_in_goal goal z)
in_goal-Contains goal z h =
    let at : ℕ → ℕ → Point = λ x y. record { x = x; y = y } in
    let column = from_flat_map (λ x. map (at x) (numbers_between goal.low.y goal.high.y)) (numbers_between goal.low.x goal.high.x) z h in
    let row = from_map (at column.0) (numbers_between goal.low.y goal.high.y) z column.2 in
    let across = from_between goal.low.x goal.high.x column.0 column.1 in
    let up = from_between goal.low.y goal.high.y row.0 row.1 in
    let inside : IsTrue (is_in_goal goal (at column.0 row.0)) =
    is_in_goal-true goal (at column.0 row.0) (record { left = across.0; right = across.1; bottom = up.0; top = up.1 }) in
    subst (λ p. IsTrue (is_in_goal goal p)) row.2 inside

-- it lies in one of the goals exactly if it is one of their points
pub Contains-in_goals : (goals : List Goal) (z : Point) → IsTrue (lies_in_goals goals z) → Contains (flat_map points_of_goal goals) z
Contains-in_goals [] z h = cc
Contains-in_goals (goal ∷ goals) z h =
    elim (or_cases (is_in_goal goal z) (lies_in_goals goals z) h) [
      | inl own ↦ Contains-append_left (points_of_goal goal) (flat_map points_of_goal goals) z (Contains-in_goal goal z own)
      | inr rest ↦ Contains-append_right (points_of_goal goal) (flat_map points_of_goal goals) z (Contains-in_goals goals z rest)
    ]

pub in_goals-Contains : (goals : List Goal) (z : Point) → Contains (flat_map points_of_goal goals) z → IsTrue (lies_in_goals goals z)
in_goals-Contains [] z (k, l, is) = absurd (omega (arith, l))
in_goals-Contains (goal ∷ goals) z h =
    elim (Contains-append_cases (points_of_goal goal) (flat_map points_of_goal goals) z h) [
      | inl own ↦ or_left (is_in_goal goal z) (lies_in_goals goals z) (in_goal-Contains goal z own)
      | inr rest ↦ or_right (is_in_goal goal z) (lies_in_goals goals z) (in_goals-Contains goals z rest)
    ]
