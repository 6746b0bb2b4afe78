-- A mark in hand has no record yet, and is one of the marks. A claim takes one mark more.
use Rattle.step_core.proofs.Words.{◌≡◌, ◌≢◌, ◌+◌, ◌*◌, ◌/◌, ◌%◌, ◌<◌, ◌≤◌, ◌∙◌, ◌==◌, ℕ, suc, Bool, true, false, List, length, Option, Some, None, refl, sym}
use Rattle.step_core.proofs.Words.{ap, inl, inr, arith, cond, is_some, some, get_elem?, cases_eq, eq-eqb, ne_eqb, ltb-true, div-add-mod', mod_below, is_claimed}
use Rattle.step_core.proofs.Words.{once_if, Record, IsCutAt-quota, is_claimed-now, is_claimed-other, not_claimed-yet, record_at, Words, Counter, holds, share}
use Rattle.step_core.proofs.Words.{ClaimedMarks, counters, greatest_limit, holders, is_recorded, limit_of, SharedRun, View, Hand, IsWorld}
use Rattle.step_core.proofs.Parts.ViewLists.{maximum-most, sum-one}

-- ---- 0 or 1

pub once_if-most : (b : Bool) → once_if b ≤ 1
once_if-most true = omega arith
once_if-most false = omega arith

pub once_if-true : (b : Bool) → 1 ≤ once_if b → b ≡ true
once_if-true true h = refl
once_if-true false h = absurd (omega (arith, h))

pub once_if-same : (a b : Bool) → once_if a ≡ once_if b → a ≡ b
once_if-same true true e = refl
once_if-same false false e = refl
once_if-same true false e = absurd (omega (arith, e))
once_if-same false true e = absurd (omega (arith, e))

pub once_if-false : (b : Bool) → once_if b ≡ 0 → b ≡ false
once_if-false true h = absurd (omega (arith, h))
once_if-false false h = refl

pub no_record : (o : Option Record) → is_some o ≡ false → o ≡ None
no_record None e = refl
no_record (Some entry) e = cc

-- ---- a claim

-- One counter goes up by one: one mark more is claimed.
pub once_if-claimed :
    (strips : ℕ) (before after : ℕ → ℕ) (g k : ℕ) → 0 < strips → g < strips → after g ≡ before g + 1 → ((h : ℕ) → h ≢ g → after h ≡ before h)
    → once_if (is_claimed strips after k) ≡ once_if (is_claimed strips before k) + once_if (before g * strips + g == k)
once_if-claimed strips before after g k enough strip up others =
    let next : after g ≡ suc (before g) = omega (arith, up) in
    elim (cases_eq (before g * strips + g) k) [
      | inl e ↦ (
          let now : is_claimed strips after k ≡ true = ap (is_claimed strips after) (sym e) ∙ is_claimed-now strips enough before after g strip next others in
          let yet : is_claimed strips before k ≡ false =
          ap (is_claimed strips before) (sym e) ∙ not_claimed-yet strips enough before after g strip next others in
          let here : once_if (before g * strips + g == k) ≡ 1 = ap once_if (eq-eqb (before g * strips + g) k e) in
          let a : once_if (is_claimed strips after k) ≡ 1 = ap once_if now in
          let b : once_if (is_claimed strips before k) ≡ 0 = ap once_if yet in
          omega (arith, here, a, b))
      | inr apart ↦ (
          let same = ap once_if (is_claimed-other strips enough before after g strip next others k (λ e. apart (sym e))) in
          let none : once_if (before g * strips + g == k) ≡ 0 = ap once_if (ne_eqb (before g * strips + g) k apart) in
          omega (arith, same, none))
    ]

-- ---- a mark in hand

pub limit_of-most : (view : View) → limit_of view ≤ view.most
limit_of-most view = by_test (share view == 0)
  where
    by_test : (b : Bool) → cond b 0 view.most ≤ view.most
    by_test true = omega arith
    by_test false = omega arith

module _ (run : SharedRun) (words : Words) (views : List View) (some_strip : 0 < run.strips) (numbers : ClaimedMarks run words views) where
  pub greatest_limit-most : greatest_limit views ≤ length run.marks
  greatest_limit-most = maximum-most limit_of views (length run.marks) (λ i view e. omega (arith, limit_of-most view, numbers.limits i view e))

  -- a mark below its strip's counter is below the greatest limit
  pub claimed-below : (k : ℕ) → is_claimed run.strips (counters words) k ≡ true → k < greatest_limit views
  claimed-below k claimed =
      let g : ℕ = k % run.strips in
      let within : g < run.strips = mod_below k run.strips some_strip in
      let low : k / run.strips < words (Counter g) = ltb-true (k / run.strips) (words (Counter g)) claimed in
      let cut = IsCutAt-quota run.strips g (greatest_limit views) within in
      let below = cut.below_limit (k / run.strips) (omega (arith, low, numbers.quotas g within)) in
      omega (arith, below, div-add-mod' k run.strips)

  -- a mark in hand is claimed and not recorded, and is one of the marks
  pub record IsInHand (k : ℕ) : Type 0 where
    pub absent : record_at words k ≡ None
    pub low : k < length run.marks

  IsInHand-held : (id : ℕ) (view : View) (k : ℕ) → get_elem? views id ≡ some view → holds k view.hand ≡ true → IsInHand k
  IsInHand-held id view k at held =
      let one : once_if (holds k view.hand) ≡ 1 = ap once_if held in
      let count : once_if (holds k view.hand) ≤ holders k views = sum-one (λ u. once_if (holds k u.hand)) views id view at in
      let balance = numbers.each_once k in
      let top = once_if-most (is_claimed run.strips (counters words) k) in
      let claimed = once_if-true (is_claimed run.strips (counters words) k) (omega (arith, balance, one, count)) in
      record {
        absent = no_record (record_at words k) (once_if-false (is_recorded words k) (omega (arith, balance, one, count, top)));
        low = omega (arith, claimed-below k claimed, greatest_limit-most);
      }

-- a mark in hand has no record, and is one of the marks
pub in_hand :
    (run : SharedRun) (words : Words) (views : List View) (id : ℕ) (view : View) → (world : IsWorld run words views) → get_elem? views id ≡ some view
    → (hand : Hand) → view.hand ≡ Some hand → IsInHand run words views world.run_is.strips.0 world.numbers hand.mark
in_hand run words views id view world at hand held =
    IsInHand-held run words views world.run_is.strips.0 world.numbers id view hand.mark at (ap (holds hand.mark) held ∙ eq-eqb hand.mark hand.mark refl)

-- a mark with a record is one of the marks
pub recorded-below : {run : SharedRun} {words : Words} {views : List View} → IsWorld run words views → (k : ℕ) (entry : Record) → record_at words k ≡ Some entry
    → k < length run.marks
recorded-below {run} {words} {views} world k entry e =
    let one : once_if (is_recorded words k) ≡ 1 = ap (λ o. once_if (is_some o)) e in
    let claimed = once_if-true (is_claimed run.strips (counters words) k) (omega (arith, one, world.numbers.each_once k)) in
    omega (
      arith,
      claimed-below run words views world.run_is.strips.0 world.numbers k claimed,
      greatest_limit-most run words views world.run_is.strips.0 world.numbers,
    )
