-- What a claim of a pass with the share of all workers leaves: it finds the counters as it has seen them, and takes the least mark left.
use Rattle.plan_words.proofs.Words.{◌≡◌, ℕ, ◌+◌, ◌*◌, ◌/◌, ◌%◌, ◌<◌, ◌≤◌, true, List, [], ◌∷◌, refl, sym, ap, ◌∙◌, subst, inl, inr, arith, ◌==◌, cond, length}
use Rattle.plan_words.proofs.Words.{cases_eq, cases_lt, le-ltb, lt-ltb, div-add-mod', div-mul-add, mod-mul-add, mod_below, mul-le, is_claimed, Word, Words}
use Rattle.plan_words.proofs.Words.{WritesWord, Best, ChildOf, Count, Counter, FirstOf, PointOf, RecordOf, TreeOf, GoesBefore, IsLeastOpen, IsOpen, KeepsHand}
use Rattle.plan_words.proofs.Words.{OwnsAllStrips, RaisesCounter, SeesAsBefore, is_own, next_mark, BelongsTo, HasWholeShare, PassState, SharedState, worker_of}
use Rattle.plan_words.proofs.Words.{IsLawfulView, mark_of, sees, counters, Member, View}
use lib.ListN.{get_elem?}
use mathlib.Core.Option.{some}
use Rattle.std.proofs.lemmas.Bool.{eq-eqb}

-- the share stays
pub HasWholeShare-kept : (before after : View) → KeepsHand before after → after.run ≡ before.run → HasWholeShare before → HasWholeShare after
HasWholeShare-kept before after kept run whole = ap length kept.crew ∙ whole ∙ ap (λ r. r.workers) (sym run)

-- a counter that is seen again as it was
pub same_counter :
    (g x : ℕ) (before after : Words) → WritesWord (Counter g) x before after → x ≡ before (Counter g) → (name : Word) → after name ≡ before name
same_counter g x before after writes same (Counter h) =
    elim (cases_eq h g) [
      | inl e ↦ ap (λ i. after (Counter i)) e ∙ writes.here ∙ same ∙ ap (λ i. before (Counter i)) (sym e)
      | inr apart ↦ writes.others (Counter h) (λ e. apart cc)
    ]
same_counter g x before after writes same Count = writes.others Count (λ e. cc)
same_counter g x before after writes same Best = writes.others Best (λ e. cc)
same_counter g x before after writes same (PointOf n) = writes.others (PointOf n) (λ e. cc)
same_counter g x before after writes same (ChildOf n side) = writes.others (ChildOf n side) (λ e. cc)
same_counter g x before after writes same (TreeOf n) = writes.others (TreeOf n) (λ e. cc)
same_counter g x before after writes same (FirstOf n) = writes.others (FirstOf n) (λ e. cc)
same_counter g x before after writes same (RecordOf k) = writes.others (RecordOf k) (λ e. cc)

-- one load more of the scan
pub whole_loaded :
    (old : View) (pass after : PassState) (g x : ℕ) → KeepsHand old pass.view → pass.view.run ≡ old.run → (HasWholeShare old → SeesAsBefore old pass.view)
    → WritesWord (Counter g) x (sees pass.view) (sees after.view)
    → (HasWholeShare pass.view → x ≡ sees pass.view (Counter g)) → HasWholeShare old → SeesAsBefore old after.view
whole_loaded old pass after g x kept run as_before writes found whole name =
    same_counter g x (sees pass.view) (sees after.view) writes (found (HasWholeShare-kept old pass.view kept run whole)) name ∙ as_before whole name

-- and one scan more of the claim
pub whole_twice :
    (old mid after : View) → KeepsHand old mid → mid.run ≡ old.run → (HasWholeShare old → SeesAsBefore old mid) → (HasWholeShare mid → SeesAsBefore mid after)
    → HasWholeShare old → SeesAsBefore old after
whole_twice old mid after kept run first then whole name = then (HasWholeShare-kept old mid kept run whole) name ∙ first whole name

-- ---- the mark that is claimed

worker-alone : (crew : List Member) (n : ℕ) → n ≡ 1 → ((member : Member) → get_elem? crew 0 ≡ some member → member.worker < n) → worker_of crew ≡ 0
worker-alone [] n one below = refl
worker-alone (member ∷ crew) n one below = omega (arith, below member refl, one)

-- all strips are a single worker's own
pub OwnsAllStrips-alone : (view : View) → IsLawfulView view → view.run.workers ≡ 1 → OwnsAllStrips view.run (worker_of view.crew)
OwnsAllStrips-alone view lawful one g low =
    let rest : g % 1 ≡ 0 = omega arith in
    eq-eqb (g % view.run.workers) (worker_of view.crew)
    (ap (λ n. g % n) one ∙ rest ∙ sym (worker-alone view.crew view.run.workers one (lawful.worker 0)))

module _
    (shared : SharedState) (strips limit g c : ℕ) (before : View) (mid : PassState) (strips_are : strips ≡ shared.task.scene.strips)
    (belongs : BelongsTo mid shared) (run : mid.view.run ≡ before.run) (as_before : SeesAsBefore before mid.view)
    (open_g : IsOpen mid.view (worker_of before.crew) limit g c) where
  sized : before.run.strips ≡ strips
  sized = ap (λ r. r.strips) (sym run ∙ belongs.run) ∙ sym strips_are

  low : g < before.run.strips
  low = subst (λ r. g < r.strips) run open_g.strip

  strip : (c * strips + g) % before.run.strips ≡ g
  strip = ap (λ s. (c * strips + g) % s) sized ∙ mod-mul-add c strips g (omega (arith, low, sized))

  counter : sees before (Counter g) ≡ c
  counter = sym (open_g.round ∙ as_before (Counter g))

  pub RaisesCounter-exchanged :
      (x : ℕ) (after : PassState) → x ≡ c → WritesWord (Counter g) (cond (x == c) (c + 1) x) (sees mid.view) (sees after.view)
      → RaisesCounter before after.view (c * strips + g)
  RaisesCounter-exchanged x after found seen =
      subst (λ s. WritesWord (Counter s) (sees before (Counter s) + 1) (sees before) (sees after.view)) (sym strip) (record {
        here = seen.here ∙ ap (λ b. cond b (c + 1) x) (eq-eqb x c found) ∙ ap (λ n. n + 1) (sym counter);
        others = λ other apart. seen.others other apart ∙ as_before other;
      })

  -- all strips are its own, so the least mark goes first
  module _ (own : OwnsAllStrips before.run (worker_of before.crew)) where
    least : (h m : ℕ) → h < before.run.strips → GoesBefore mid.view.run (worker_of before.crew) g (mark_of mid.view.run g c) h m
        → mark_of mid.view.run g c ≤ m
    least h m in_run (inl other) =
        (let gone = sym other.1 ∙ ap (λ r. is_own r (worker_of before.crew) h) run ∙ own h in_run in cc)
    least h m in_run (inr order) = order.1

    number : mark_of mid.view.run g c ≡ c * strips + g
    number = ap (λ r. c * r.strips + g) run ∙ ap (λ s. c * s + g) sized

    claimed_below : (j : ℕ) → j < c * strips + g → is_claimed before.run.strips (counters (sees before)) j ≡ true
    claimed_below j below =
        elim (cases_lt (j / before.run.strips) (sees before (Counter (j % before.run.strips)))) [
          | inl less ↦ lt-ltb (j / before.run.strips) (sees before (Counter (j % before.run.strips))) less
          | inr past ↦ absurd (unclaimed past)
        ]
      where
        unclaimed : sees before (Counter (j % before.run.strips)) ≤ j / before.run.strips → ⊥
        unclaimed past =
            let G : ℕ = before.run.strips in
            let h : ℕ = j % G in
            let n : ℕ = sees before (Counter h) in
            let row = mul-le n G (j / G) G past (omega arith) in
            let whole = div-add-mod' j G in
            let next : next_mark mid.view h ≡ n * G + h =
            ap (λ r. mark_of r h (sees mid.view (Counter h))) run ∙ ap (mark_of before.run h) (as_before (Counter h)) in
            elim (cases_eq h g) [
              | inl e ↦ (
                  let same : n ≡ c = ap (λ i. sees before (Counter i)) e ∙ counter in
                  let rows : n * G ≡ c * strips = ap (λ i. i * G) same ∙ ap (λ s. c * s) sized in
                  omega (arith, below, row, whole, e, rows))
              | inr apart ↦ (
                  let in_run = mod_below j G (omega (arith, low)) in
                  let under : next_mark mid.view h < limit = omega (arith, next, row, whole, below, number, open_g.low) in
                  let first = open_g.first h (subst (λ r. h < r.strips) (sym run) in_run) apart under in
                  omega (arith, least h (next_mark mid.view h) in_run first, next, row, whole, below, number))
            ]

    pub IsLeastOpen-first : IsLeastOpen before (c * strips + g)
    IsLeastOpen-first = record {
      before = claimed_below;
      here =
          let round : (c * strips + g) / before.run.strips ≡ c =
          ap (λ s. (c * strips + g) / s) sized ∙ div-mul-add c strips g (omega (arith, low, sized)) in
          le-ltb ((c * strips + g) / before.run.strips) (sees before (Counter ((c * strips + g) % before.run.strips)))
          (omega (arith, round, ap (λ i. sees before (Counter i)) strip, counter));
    }
