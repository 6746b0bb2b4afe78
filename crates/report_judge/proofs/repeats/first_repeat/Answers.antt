use Rattle.report_judge.proofs.Words.{◌≡◌, ℕ, Bool, true, false, cond, eqb, ltb, get_or, arith, refl, sym, ap, ◌∙◌, inl, inr, below_more, ◌||◌, nat_cmp, is_eq}
use Rattle.report_judge.proofs.Words.{cases_order, eq-eqb, ne_eqb, lt-ltb, le-ltb, list_any_more, not-false, not-true}
use Rattle.report_judge.proofs.Laws.FirstBreakLaws.{IsNewKey-none, IsNewKey-some}
use Rattle.report_judge.proofs.repeats.first_repeat.Goals as goal

-- whether a number is in a set after a key was added
with_key : (key q : ℕ) (had : Bool) → cond (is_eq (nat_cmp key q)) true had ≡ (had || eqb q key)
with_key key q had =
    elim (cases_order key q) [
      | inl same ↦ by_tests had (le-ltb key q (omega (arith, same))) (eq-eqb key q same) (eq-eqb q key (sym same))
      | inr (inl less) ↦ less_tests had (lt-ltb key q less) (ne_eqb q key (λ e. omega (arith, e, less)))
      | inr (inr more) ↦
          more_tests had (le-ltb key q (omega (arith, more))) (ne_eqb key q (λ e. omega (arith, e, more))) (ne_eqb q key (λ e. omega (arith, e, more)))
    ]
  where
    by_tests : (had : Bool) → ltb key q ≡ false → eqb key q ≡ true → eqb q key ≡ true → cond (is_eq (nat_cmp key q)) true had ≡ (had || eqb q key)
    by_tests true a b c = rw (a, b) refl
    by_tests false a b c = rw (a, b, c) refl

    less_tests : (had : Bool) → ltb key q ≡ true → eqb q key ≡ false → cond (is_eq (nat_cmp key q)) true had ≡ (had || eqb q key)
    less_tests true a c = rw a refl
    less_tests false a c = rw (a, c) refl

    more_tests : (had : Bool) → ltb key q ≡ false → eqb key q ≡ false → eqb q key ≡ false → cond (is_eq (nat_cmp key q)) true had ≡ (had || eqb q key)
    more_tests true a b c = rw (a, b) refl
    more_tests false a b c = rw (a, b, c) refl

pub returns-then-not-branch : goal.returns-then-not-branch
returns-then-not-branch c =
    let key = get_or c.args.keys.now c.loop-place.place 0 in
    let had = not-false _ (sym c.in_ok-insert.ensures.added ∙ c.if-not-branch.true) in (
      c.loop-place-test.true,
      c.loop-place.invariant.new,
      IsNewKey-some c.args.keys.now c.loop-place.place c.loop-place-test.true (sym (c.loop-place.invariant.seen key) ∙ had),
    )

pub loop-place-preserved : goal.loop-place-preserved
loop-place-preserved c =
    let key = get_or c.args.keys.now c.loop-place.place 0 in
    let new = not-true _ (sym c.in_ok-insert.ensures.added ∙ c.if-not-branch.false) in
    record {
      new = below_more _ _ c.loop-place.invariant.new
          (IsNewKey-none c.args.keys.now c.loop-place.place c.loop-place-test.true (sym (c.loop-place.invariant.seen key) ∙ new));
      seen = λ q.
          c.in_ok-insert.ensures.updates.0 q
          ∙ ap (cond (is_eq (nat_cmp key q)) true) (c.loop-place.invariant.seen q)
          ∙ with_key key q _
          ∙ sym (list_any_more (eqb q) c.args.keys.now c.loop-place.place 0 c.loop-place-test.true);
    }
