-- An edge costs at most as much as two edges over a third point.
use Rattle.plan_model.proofs.Words.{◌≡◌, ℕ, ◌+◌, ◌-◌, ◌*◌, ◌<◌, ◌≤◌, inl, inr, arith, cases_lt, mul-le, abs_diff, Point, cost_of, squared_distance}
use Rattle.plan_model.proofs.RootLaws.{root_ceiling-is, lt-from_squares}

ordered_product : (u d : ℕ) → 2 * (u * (u + d)) ≤ u * u + (u + d) * (u + d)
ordered_product u d = omega arith

-- twice a product is at most the sum of the squares
double_product : (u v : ℕ) → 2 * (u * v) ≤ u * u + v * v
double_product u v =
    elim (cases_lt u v) [
      | inl h ↦ (let e : u + (v - u) ≡ v = omega arith in rw e at (ordered_product u (v - u)))
      | inr h ↦ (let e : v + (u - v) ≡ u = omega arith in let turned = rw e at (ordered_product v (u - v)) in omega arith)
    ]

-- the square of the inner product of two vectors is at most the product of their squares
inner_product : (p q r s : ℕ) → (p * r + q * s) * (p * r + q * s) ≤ (p * p + q * q) * (r * r + s * s)
inner_product p q r s = omega (arith, double_product (p * s) (q * r))

le_from_squares : (m n : ℕ) → m * m ≤ n * n → m ≤ n
le_from_squares m n h = let more : m < n + 1 = lt-from_squares m (n + 1) (n * n) h (omega arith) in omega arith

-- if the squares of x and y are at least k times those of two vectors, x * y is at least k times their inner product
roots_reach : (k p q r s x y : ℕ) → k * (p * p + q * q) ≤ x * x → k * (r * r + s * s) ≤ y * y → k * (p * r + q * s) ≤ x * y
roots_reach k p q r s x y first second =
    let scaled : (k * k) * ((p * r + q * s) * (p * r + q * s)) ≤ (k * k) * ((p * p + q * q) * (r * r + s * s)) =
    mul-le (k * k) _ (k * k) _ (omega arith) (inner_product p q r s)
    in
    let both : (k * (p * p + q * q)) * (k * (r * r + s * s)) ≤ (x * x) * (y * y) = mul-le _ _ _ _ first second in
    le_from_squares (k * (p * r + q * s)) (x * y) (omega arith)

-- and the square of x + y at least k times that of a vector that is in no coordinate greater than their sum
sum_reaches : (k p q r s x y t u : ℕ) → k * (p * p + q * q) ≤ x * x → k * (r * r + s * s) ≤ y * y → t ≤ p + r → u ≤ q + s
    → k * (t * t + u * u) ≤ (x + y) * (x + y)
sum_reaches k p q r s x y t u first second horizontal vertical =
    let across = mul-le t t (p + r) (p + r) horizontal horizontal in
    let up = mul-le u u (q + s) (q + s) vertical vertical in
    let scaled : k * (t * t + u * u) ≤ k * ((p + r) * (p + r) + (q + s) * (q + s)) = mul-le k _ k _ (omega arith) (omega arith) in
    omega (arith, roots_reach k p q r s x y first second)

over_third : (a b c : ℕ) → abs_diff a c ≤ abs_diff a b + abs_diff b c
over_third a b c = omega arith

pub cost_of-triangle : (a b c : Point) → cost_of a c ≤ cost_of a b + cost_of b c
cost_of-triangle a b c =
    let first = (root_ceiling-is (65536 * squared_distance a b)).reaches in
    let second = (root_ceiling-is (65536 * squared_distance b c)).reaches in
    let across = over_third a.x b.x c.x in
    let up = over_third a.y b.y c.y in
    let reached : 65536 * squared_distance a c ≤ (cost_of a b + cost_of b c) * (cost_of a b + cost_of b c) =
    sum_reaches 65536 _ _ _ _ (cost_of a b) (cost_of b c) _ _ first second across up
    in
    (root_ceiling-is (65536 * squared_distance a c)).least (cost_of a b + cost_of b c) reached
