use Rattle.report_judge.proofs.Words.{◌≡◌, ℕ, ◌+◌, ◌-◌, ◌<◌, eqb, length, get_or, arith, ap, ◌∙◌, subst, inl, inr, ◌≢◌, AllPairs, IsDistinct}
use Rattle.report_judge.proofs.Words.{IsStrictlyIncreasing, cases_lt, Decides-eqb, get_or_default, AllPairs-from_increasing, IsPermutation-sym}
use Rattle.report_judge.proofs.Words.{IsDistinct-IsPermutation, AllPairs-from_IsDistinct, IsDistinct-from_AllPairs, nat_tests}
use Rattle.report_judge.proofs.repeats.are_different.Goals as goal

pub loop-place-preserved : goal.loop-place-preserved
loop-place-preserved c = λ k low.
    let items = c.sort_unstable_by_key.new.self.items in
    let place = c.loop-place.place in
    elim (cases_lt (k + 1) place) [
      | inl before ↦ c.loop-place.invariant k before
      | inr past ↦ (
          let here : k + 1 ≡ place = omega (arith, low, past) in
          let there : k ≡ place - 1 = omega (arith, low, past) in
          let inside : place < length items =
          omega (arith, c.loop-place-test.true, c.len-place-end.ensures, c.sort_unstable_by_key.new.self.ok) in
          let one : c.index.result.now ≡ get_or items (place - 1) 0 =
          c.index.ensures ∙ get_or_default items (place - 1) c.index.result.now 0 (omega (arith, inside)) in
          let other : c.index-in-loop-place.result.now ≡ get_or items place 0 =
          c.index-in-loop-place.ensures ∙ get_or_default items place c.index-in-loop-place.result.now 0 inside in
          omega (arith, one, other, c.if-index.false, ap (λ i. get_or items i 0) here, ap (λ i. get_or items i 0) there))
    ]

flips : (x y : ℕ) → eqb x y ≡ eqb y x
flips x y = grind (arith, nat_tests)

pub returns : goal.returns
returns c = λ h k inside j before same.
    let keys = c.args.keys.now in
    let copy = c.in_ok-sorted.sorted.items in
    let sorted = c.sort_unstable_by_key.new.self.items in
    let items : copy ≡ keys = c.in_ok-sorted.ensures.items_if_clones_equal (λ x y e. e) in
    let rising : IsStrictlyIncreasing sorted = λ i low.
    c.loop-place.invariant i
    (omega (arith, low, c.loop-place-test.false, c.len-place-end.ensures, c.sort_unstable_by_key.new.self.ok)) in
    let apart : AllPairs (λ x y. x ≢ y) sorted = λ a b d up low e. omega (arith, AllPairs-from_increasing sorted rising a b d up low, e) in
    let own : IsDistinct eqb copy =
    IsDistinct-IsPermutation eqb flips sorted copy (IsPermutation-sym copy sorted c.sort_unstable_by_key.ensures.permutation)
    (IsDistinct-from_AllPairs Decides-eqb sorted apart) in
    AllPairs-from_IsDistinct Decides-eqb keys (subst (IsDistinct eqb) items own) j k 0 before inside same
