-- What a walk over a disc may skip: points in bands below or above it, and in a band those left or right of it.
use Rattle.point_bands.proofs.Words.{◌≡◌, ℕ, ◌+◌, ◌-◌, ◌*◌, ◌/◌, ◌%◌, ◌^◌, ◌<◌, ◌≤◌, List, length, All, arith, inl, inr, subst, sym, ap, ◌∙◌, min, bit_and}
use Rattle.point_bands.proofs.Words.{bit_or, abs_diff, IsNonDecreasingBy, cases_eq, cases_lt, mul-le, or_shifted, pow-add, and_high_mask, div-div-eq-div-mul}
use Rattle.point_bands.proofs.Words.{div-mul-le_self, mul-div_cancel, shr_mono, IsBounded, Point, IsInColumns, IsWithin, band_key, lowest_row, HasNoneBetween}
use Rattle.point_bands.proofs.Words.{nowhere, numbered_at, Numbered}

-- a difference above the reach has a square above that of the disc
past_reach : (square reach gap rest : ℕ) → square < (reach + 1) * (reach + 1) → reach < gap → square < gap * gap + rest
past_reach square reach gap rest low far =
    let wide = mul-le (reach + 1) (reach + 1) gap gap (omega (arith, far)) (omega (arith, far)) in
    omega (arith, wide, low)

past_reach_up : (square reach gap rest : ℕ) → square < (reach + 1) * (reach + 1) → reach < gap → square < rest + gap * gap
past_reach_up square reach gap rest low far = omega (arith, past_reach square reach gap rest low far)

module _ (center : Point) (square reach : ℕ) (low : square < (reach + 1) * (reach + 1)) (p : Point) where
  out_left : p.x < center.x - reach → ¬ IsWithin center square p
  out_left left within =
      absurd (omega (
        arith,
        within,
        past_reach square reach (abs_diff p.x center.x) (abs_diff p.y center.y * abs_diff p.y center.y) low (omega (arith, left)),
      ))

  out_right : center.x + reach < p.x → ¬ IsWithin center square p
  out_right right within =
      absurd (omega (
        arith,
        within,
        past_reach square reach (abs_diff p.x center.x) (abs_diff p.y center.y * abs_diff p.y center.y) low (omega (arith, right)),
      ))

  out_below : p.y < center.y - reach → ¬ IsWithin center square p
  out_below below within =
      absurd (omega (
        arith,
        within,
        past_reach_up square reach (abs_diff p.y center.y) (abs_diff p.x center.x * abs_diff p.x center.x) low (omega (arith, below)),
      ))

  out_above : center.y + reach < p.y → ¬ IsWithin center square p
  out_above above within =
      absurd (omega (
        arith,
        within,
        past_reach_up square reach (abs_diff p.y center.y) (abs_diff p.x center.x * abs_diff p.x center.x) low (omega (arith, above)),
      ))

-- a column at most the reach away from the center's
pub in_columns : (center : Point) (square reach : ℕ) → reach * reach ≤ square → (p : Point) → center.x - reach ≤ p.x → p.x ≤ center.x + reach
    → IsInColumns center square p
in_columns center square reach reached p left right =
    let gap = abs_diff p.x center.x in
    omega (arith, mul-le gap gap reach reach (omega (arith, left, right)) (omega (arith, left, right)), reached)

-- one position more at the front of those that have none
pub HasNoneBetween-after : (center : Point) (square : ℕ) (points : List Numbered) (at limit : ℕ)
    → ¬ IsWithin center square (numbered_at points at).point
    → ((j : ℕ) → at + 1 ≤ j → j < limit → ¬ IsWithin center square (numbered_at points j).point)
    → HasNoneBetween center square points at limit
HasNoneBetween-after center square points at limit here later j from to =
    elim (cases_eq j at) [
      | inl same ↦ subst (λ i. ¬ IsWithin center square (numbered_at points i).point) (sym same) here
      | inr other ↦ later j (omega (arith, from, other)) to
    ]

-- ---- bands

lowest_row-mono : (h y z : ℕ) → y ≤ z → lowest_row h y ≤ lowest_row h z
lowest_row-mono h y z up = mul-le (y / 2 ^ h) (2 ^ h) (z / 2 ^ h) (2 ^ h) (shr_mono {a = y} {b = z} h up) (omega arith)

-- of two bands the upper one begins a height or more above the lower one
next_row : (h y z : ℕ) → lowest_row h y < lowest_row h z → lowest_row h y + 2 ^ h ≤ lowest_row h z
next_row h y z below =
    elim (cases_lt (y / 2 ^ h) (z / 2 ^ h)) [
      | inl less ↦ (
          let one_on = mul-le (y / 2 ^ h + 1) (2 ^ h) (z / 2 ^ h) (2 ^ h) (omega (arith, less)) (omega arith) in
          omega (arith, one_on))
      | inr more ↦ absurd (omega (arith, mul-le (z / 2 ^ h) (2 ^ h) (y / 2 ^ h) (2 ^ h) more (omega arith), below))
    ]

-- the bits of a row that the mask keeps, above those of a column
pub masked_place : (h y x : ℕ) → h < 32 → y < 4294967296 → x < 4294967296
    → bit_or (bit_and (y * 4294967296 % 18446744073709551616) (18446744073709551616 - 2 ^ (32 + h))) x ≡ lowest_row h y * 4294967296 + x
masked_place h y x few row column =
    let fits : y * 4294967296 % 18446744073709551616 ≡ y * 4294967296 = omega (arith, row) in
    let width : 2 ^ (32 + h) ≡ 4294967296 * 2 ^ h = pow-add 2 32 h in
    let band : y * 4294967296 / 2 ^ (32 + h) ≡ y / 2 ^ h =
    ap (λ w. y * 4294967296 / w) width ∙ sym (div-div-eq-div-mul (y * 4294967296) 4294967296 (2 ^ h))
    ∙ ap (λ n. n / 2 ^ h) (mul-div_cancel y (omega arith)) in
    let kept : bit_and (y * 4294967296) (18446744073709551616 - 2 ^ (32 + h)) ≡ lowest_row h y * 4294967296 =
    and_high_mask 64 (32 + h) (omega (arith, few)) (y * 4294967296) (omega (arith, row))
    ∙ (λ i. band i * width i) ∙ omega arith in
    ap (λ n. bit_or (bit_and n (18446744073709551616 - 2 ^ (32 + h))) x) fits ∙ ap (λ n. bit_or n x) kept ∙ or_shifted (lowest_row h y) 32 x column

-- ---- in the order of bands

module _ (center : Point) (square reach height_log : ℕ) (points : List Numbered) (at : ℕ)
    (low : square < (reach + 1) * (reach + 1)) (bounded : All (λ n. IsBounded n.point) points)
    (sorted : IsNonDecreasingBy (band_key height_log) points) (central : IsBounded center) where
  -- a position with the band and the column of its point
  no_less : (j : ℕ) → at ≤ j → j < length points → band_key height_log (numbered_at points at) ≤ band_key height_log (numbered_at points j)
  no_less j later inside = sorted at j nowhere later inside

  -- what is below the lowest band, or in it and left of the disc
  pub none_below : (j : ℕ) → j < length points
      → band_key height_log (numbered_at points j) < lowest_row height_log (center.y - reach) * 4294967296 + (center.x - reach)
      → ¬ IsWithin center square (numbered_at points j).point
  none_below j inside before =
      let n = numbered_at points j in
      elim (cases_lt n.point.y (center.y - reach)) [
        | inl below ↦ out_below center square reach low n.point below
        | inr up ↦ (
            let rows = lowest_row-mono height_log (center.y - reach) n.point.y up in
            out_left center square reach low n.point (omega (arith, rows, before)))
      ]

  -- what is in the band of a position, from there on, and left of the disc
  pub none_left : (j : ℕ) → at ≤ j → j < length points
      → band_key height_log (numbered_at points j) < lowest_row height_log (numbered_at points at).point.y * 4294967296 + (center.x - reach)
      → ¬ IsWithin center square (numbered_at points j).point
  none_left j later inside before =
      out_left center square reach low (numbered_at points j).point
      (omega (arith, no_less j later inside, before, (bounded j nowhere inside).right, central.right))

  -- what is in the band of a position right of the disc, from there on, or in the next band and left of the disc
  pub none_right : (j : ℕ) → at ≤ j → j < length points → center.x + reach < (numbered_at points at).point.x
      → band_key height_log (numbered_at points j)
      < (lowest_row height_log (numbered_at points at).point.y + 2 ^ height_log) * 4294967296 + (center.x - reach)
      → ¬ IsWithin center square (numbered_at points j).point
  none_right j later inside right before =
      let n = numbered_at points j in
      let here = (numbered_at points at).point.y in
      let up = no_less j later inside in
      let column = (bounded j nowhere inside).right in
      elim (cases_lt (lowest_row height_log here) (lowest_row height_log n.point.y)) [
        | inl above ↦ out_left center square reach low n.point (omega (arith, next_row height_log here n.point.y above, before, column, central.right))
        | inr same ↦ out_right center square reach low n.point (omega (arith, same, up, column, right))
      ]

  -- what is from a position on whose band is above the disc
  pub none_above : (j : ℕ) → at ≤ j → j < length points
      → min (center.y + reach) 4294967295 < lowest_row height_log (numbered_at points at).point.y
      → ¬ IsWithin center square (numbered_at points j).point
  none_above j later inside above =
      let n = numbered_at points j in
      let limits = bounded j nowhere inside in
      out_above center square reach low n.point
      (omega (arith, no_less j later inside, above, div-mul-le_self n.point.y (2 ^ height_log), limits.right, limits.top))
