-- How many nodes are present: not fewer if each present node stays, and one more if one number more has a node.
use Rattle.plan_model.proofs.Words.{◌≡◌, ℕ, zero, suc, ◌+◌, ◌≤◌, Bool, true, cond, List, [], ◌∷◌, length, Option, arith, refl, sym, ap, ◌∙◌, ◌≢◌, is_some}
use Rattle.plan_model.proofs.Words.{count_by, range_with_len, false_from_ne_true, count_by-le-length, Point, point_at, IsPresent, node_count}
use Rattle.plan_model.proofs.ChainLaws.{node_count-cons}
use Rattle.plan_model.proofs.CountsBelow.{one_or_none, count-first}

-- the points from number 1 on
abbrev rest : List (Option Point) → List (Option Point)
rest [] = []
rest (o ∷ points) = points

node_count-rest : (points : List (Option Point)) → node_count points ≡ cond (is_some (point_at points 0)) 1 0 + node_count (rest points)
node_count-rest [] = refl
node_count-rest (o ∷ points) = node_count-cons o points

point_at-rest : (points : List (Option Point)) (i : ℕ) → point_at (rest points) i ≡ point_at points (suc i)
point_at-rest [] i = refl
point_at-rest (o ∷ points) i = refl

length-rest : (points : List (Option Point)) (n : ℕ) → length points ≤ suc n → length (rest points) ≤ n
length-rest [] n h = omega arith
length-rest (o ∷ points) n h = omega (arith, h)

-- if each node of the one list is present in the other, the other has as many at least
pub node_count-le : (one other : List (Option Point)) → ((i : ℕ) → IsPresent one i → IsPresent other i) → node_count one ≤ node_count other
node_count-le [] other h = omega arith
node_count-le (o ∷ one) other h =
    let here = one_or_none (is_some o) (is_some (point_at other 0)) (h 0) in
    let later = node_count-le one (rest other) (λ i present. ap is_some (point_at-rest other i) ∙ h (suc i) present) in
    omega (arith, node_count-cons o one, node_count-rest other, here, later)

-- lists with the same points have as many nodes
pub node_count-same : (one other : List (Option Point)) → ((i : ℕ) → point_at other i ≡ point_at one i) → node_count other ≡ node_count one
node_count-same one other same =
    let up = node_count-le one other (λ i h. ap is_some (same i) ∙ h) in
    let down = node_count-le other one (λ i h. ap is_some (sym (same i)) ∙ h) in
    omega (arith, up, down)

-- if the other list has a node at one number more, it has one node more
pub node_count-one_more :
    (one other : List (Option Point)) (n : ℕ) → ¬ IsPresent one n → IsPresent other n → ((i : ℕ) → i ≢ n → point_at other i ≡ point_at one i)
    → node_count other ≡ suc (node_count one)
node_count-one_more one other zero absent here same =
    let later = node_count-same (rest one) (rest other) (λ i. point_at-rest other i ∙ same (suc i) (λ e. omega arith) ∙ sym (point_at-rest one i)) in
    let some : ◌≡◌ {A = ℕ} (cond (is_some (point_at other 0)) 1 0) 1 = ap (λ t. cond {A = ℕ} t 1 0) here in
    let none : ◌≡◌ {A = ℕ} (cond (is_some (point_at one 0)) 1 0) 0 = ap (λ t. cond {A = ℕ} t 1 0) (false_from_ne_true (is_some (point_at one 0)) absent) in
    omega (arith, node_count-rest one, node_count-rest other, later, some, none)
node_count-one_more one other (suc n) absent here same =
    let later =
    node_count-one_more (rest one) (rest other) n (λ h. absent (ap is_some (sym (point_at-rest one n)) ∙ h)) (ap is_some (point_at-rest other n) ∙ here)
    (λ i apart. point_at-rest other i ∙ same (suc i) (λ e. apart (omega arith)) ∙ sym (point_at-rest one i)) in
    let first = ap (λ o. cond {A = ℕ} (is_some o) 1 0) (same 0 (λ e. omega arith)) in
    omega (arith, node_count-rest one, node_count-rest other, later, first)

-- no more numbers pass a test than there are nodes, if all that pass are present
pub count-le_node_count :
    (points : List (Option Point)) (test : ℕ → Bool) (n : ℕ) → ((i : ℕ) → test i ≡ true → IsPresent points i)
    → count_by test (range_with_len 0 n) ≤ node_count points
count-le_node_count points test zero h = omega arith
count-le_node_count points test (suc n) h =
    let here = one_or_none (test 0) (is_some (point_at points 0)) (h 0) in
    let later =
    count-le_node_count (rest points) (λ k. test (suc k)) n (λ i passes. ap is_some (point_at-rest points i) ∙ h (suc i) passes) in
    omega (arith, count-first test n, node_count-rest points, here, later)

-- as many pass a test as there are nodes, if those pass that have a node
count-present :
    (points : List (Option Point)) (test : ℕ → Bool) (n : ℕ) → length points ≤ n → ((i : ℕ) → test i ≡ is_some (point_at points i))
    → count_by test (range_with_len 0 n) ≡ node_count points
count-present [] test zero l same = refl
count-present (o ∷ points) test zero l same = absurd (omega (arith, l))
count-present points test (suc n) l same =
    let here = ap (λ t. cond {A = ℕ} t 1 0) (same 0) in
    let later =
    count-present (rest points) (λ k. test (suc k)) n (length-rest points n l) (λ i. same (suc i) ∙ ap is_some (sym (point_at-rest points i))) in
    omega (arith, count-first test n, node_count-rest points, here, later)

-- the nodes but node 0 are as many as the numbers that pass a test, if those pass whose next number has a node
pub count-next :
    (points : List (Option Point)) (test : ℕ → Bool) (n : ℕ) → IsPresent points 0 → length points ≤ suc n
    → ((i : ℕ) → test i ≡ is_some (point_at points (suc i))) → node_count points ≡ suc (count_by test (range_with_len 0 n))
count-next points test n start l same =
    let others = count-present (rest points) test n (length-rest points n l) (λ i. same i ∙ ap is_some (sym (point_at-rest points i))) in
    let first : ◌≡◌ {A = ℕ} (cond (is_some (point_at points 0)) 1 0) 1 = ap (λ t. cond {A = ℕ} t 1 0) start in
    omega (arith, node_count-rest points, others, first)

-- there are no more nodes than numbers
pub node_count-length : (points : List (Option Point)) → node_count points ≤ length points
node_count-length points = count_by-le-length is_some points
