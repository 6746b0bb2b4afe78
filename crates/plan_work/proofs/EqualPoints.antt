-- Lists of points that have the same point at each number: the same nodes are near, and as many.
use Rattle.plan_work.proofs.Words.{◌≡◌, ℕ, zero, suc, ◌+◌, ◌≤◌, Bool, false, cond, Option, None, List, [], ◌∷◌, ◌++◌, length, arith, sym, ap, ◌∙◌}
use Rattle.plan_work.proofs.Words.{range_with_len, append-nil, get_or_past, filter-append, filter_agree, is_within, near, node_count, point_at, radius_of}
use Rattle.plan_work.proofs.Words.{Setup, near_new, Point, range-more, node_count-same}
use Rattle.std.specs.Prelude.{filter}

-- numbers past all that pass add none
filter-longer : (test : ℕ → Bool) (n d : ℕ) → ((i : ℕ) → n ≤ i → test i ≡ false)
    → filter test (range_with_len 0 (n + d)) ≡ filter test (range_with_len 0 n)
filter-longer test n zero past = let e : n + 0 ≡ n = omega arith in ap (λ m. filter test (range_with_len 0 m)) e
filter-longer test n (suc d) past =
    let e : n + suc d ≡ n + d + 1 = omega arith in
    let most : List ℕ = filter test (range_with_len 0 (n + d)) in
    ap (λ m. filter test (range_with_len 0 m)) e ∙ ap (filter test) (range-more (n + d))
    ∙ filter-append test (range_with_len 0 (n + d)) ((n + d) ∷ [])
    ∙ ap (λ b. most ++ cond b ((n + d) ∷ []) []) (past (n + d) (omega arith)) ∙ append-nil most ∙ filter-longer test n d past

module _ (one other : List (Option Point)) (same : (n : ℕ) → point_at one n ≡ point_at other n) where
  none_past : (points : List (Option Point)) (p : Point) (r i : ℕ) → length points ≤ i → is_within p r (point_at points i) ≡ false
  none_past points p r i past = ap (is_within p r) (get_or_past points i None past)

  pub near-same : (p : Point) (r : ℕ) → near one p r ≡ near other p r
  near-same p r =
      let f : ℕ → Bool = λ i. is_within p r (point_at one i) in
      let g : ℕ → Bool = λ i. is_within p r (point_at other i) in
      let m : ℕ = length one in
      let n : ℕ = length other in
      let turn : m + n ≡ n + m = omega arith in
      sym (filter-longer f m n (none_past one p r))
      ∙ filter_agree f g (λ i. ap (is_within p r) (same i)) (range_with_len 0 (m + n)) ∙ ap (λ a. filter g (range_with_len 0 a)) turn
      ∙ filter-longer g n m (none_past other p r)

  pub count-same : node_count one ≡ node_count other
  count-same = node_count-same other one same

  -- the near nodes of a new node
  pub near_new-same : (setup : Setup) (p : Point) → near_new setup one p ≡ near_new setup other p
  near_new-same setup p = ap (λ n. near one p (radius_of setup.step setup.gamma n)) count-same
      ∙ near-same p (radius_of setup.step setup.gamma (node_count other))
