-- What the loads of a claim leave of a pass, and what a claim leaves.
use Rattle.plan_words.proofs.Words.{◌≡◌, ◌≢◌, ℕ, ◌+◌, ◌-◌, ◌*◌, ◌%◌, ◌<◌, ◌≤◌, max, true, Option, Some, None, refl, sym, ap, ◌∙◌, subst, inl, inr, arith}
use Rattle.plan_words.proofs.Words.{◌==◌, cond, IfNone, ne_eqb, mod-mul-add, mul-le, sum-le, ChangesOnly, IsCounter, Words}
use Rattle.plan_words.proofs.Words.{WritesWord, Counter, AllLoaded, GoesBefore, IsClaimed, IsFirst, IsOpen, KeepsHand, LoadsCounters, next_mark}
use Rattle.plan_words.proofs.Words.{BelongsTo, GoesOn, HasWholeShare, PassState, SharedState, with_view, worker_of, IsLater, claimed, last_note, loaded}
use Rattle.plan_words.proofs.Words.{mark_of, new_hand, sees, SharedRun, View}
use Rattle.std.proofs.lemmas.Bool.{eq-eqb}
use Rattle.plan_words.proofs.GoingOn.{BelongsTo-later, GoesOn-refl, GoesOn-trans}
use Rattle.plan_words.proofs.Scanning.{left_over, sum_less}
use Rattle.plan_words.proofs.WholeClaims.{same_counter, whole_twice}

-- ---- one load of the scan

pub kept_loaded : (old : View) (pass after : PassState) (g x : ℕ) → after ≡ with_view pass (loaded pass.view (Counter g) x) → KeepsHand old pass.view
    → KeepsHand old after.view
kept_loaded old pass after g x is kept = subst (λ p. KeepsHand old p.view) (sym is) (record { crew = kept.crew; most = kept.most; hand = kept.hand })

pub KeepsHand-trans : (before mid after : View) → KeepsHand before mid → KeepsHand mid after → KeepsHand before after
KeepsHand-trans before mid after first then = record { crew = then.crew ∙ first.crew; most = then.most ∙ first.most; hand = then.hand ∙ first.hand }

-- no word but counters is seen anew
pub counters_twice : (before mid after : Words) → ChangesOnly IsCounter before mid → ChangesOnly IsCounter mid after → ChangesOnly IsCounter before after
counters_twice before mid after first then name apart = then name apart ∙ first name apart

pub counters_changed :
    (g x : ℕ) (before mid after : Words) → ChangesOnly IsCounter before mid → WritesWord (Counter g) x mid after → ChangesOnly IsCounter before after
counters_changed g x before mid after first writes name apart = writes.others name (λ e. apart (subst IsCounter (sym e) tt)) ∙ first name apart

-- of the pass nothing changes but its view, by one step more
pub view_alone-more : (before mid after : PassState) (view : View) → mid ≡ with_view before mid.view → after ≡ with_view mid view
    → after ≡ with_view before after.view
view_alone-more before mid after view alone is =
    is ∙ ap (λ (p : PassState). with_view p view) alone ∙ ap (with_view before) (sym (ap (λ (p : PassState). p.view) is))

-- nothing was loaded yet
pub LoadsCounters-none : (shared : SharedState) (pass : PassState) → BelongsTo pass shared → LoadsCounters shared pass pass
LoadsCounters-none shared pass belongs = record {
  belongs = belongs;
  goes_on = GoesOn-refl pass.view belongs.lawful;
  kept = record { crew = refl; most = refl; hand = refl };
  others = λ name apart. refl;
  view_alone = refl;
  whole = λ all name. refl;
}

pub LoadsCounters-one :
    (shared : SharedState) (pass after : PassState) (g x : ℕ) → BelongsTo pass shared → after ≡ with_view pass (loaded pass.view (Counter g) x)
    → GoesOn pass.view after.view → WritesWord (Counter g) x (sees pass.view) (sees after.view)
    → (HasWholeShare pass.view → x ≡ sees pass.view (Counter g)) → LoadsCounters shared pass after
LoadsCounters-one shared pass after g x belongs is goes_on seen found = record {
  belongs = BelongsTo-later shared pass after (ap (λ (p : PassState). p.table) is) goes_on belongs;
  goes_on = goes_on;
  kept = kept_loaded pass.view pass after g x is (record { crew = refl; most = refl; hand = refl });
  others = λ name apart. seen.others name (λ e. apart (subst IsCounter (sym e) tt));
  view_alone = view_alone-more pass pass after (loaded pass.view (Counter g) x) refl is;
  whole = λ all. same_counter g x (sees pass.view) (sees after.view) seen (found all);
}

pub LoadsCounters-both : (shared : SharedState) (before mid after : PassState) → LoadsCounters shared before mid → LoadsCounters shared mid after
    → LoadsCounters shared before after
LoadsCounters-both shared before mid after first then = record {
  belongs = then.belongs;
  goes_on = GoesOn-trans before.view mid.view after.view first.goes_on then.goes_on;
  kept = KeepsHand-trans before.view mid.view after.view first.kept then.kept;
  others = counters_twice (sees before.view) (sees mid.view) (sees after.view) first.others then.others;
  view_alone = view_alone-more before mid after after.view first.view_alone then.view_alone;
  whole = whole_twice before.view mid.view after.view first.kept first.goes_on.later.run first.whole then.whole;
}

-- ---- a claim

-- what was looked at since stays so
pub loaded_since : (steps : ℕ) (view then : View) → AllLoaded view steps → IsLater view then → steps ≤ view.steps → AllLoaded then steps
loaded_since steps view then loaded later order g strip =
    elim (later.looked (Counter g)) [
      | inl same ↦ omega (arith, same, loaded g (subst (λ r. g < r.strips) later.run strip))
      | inr since ↦ omega (arith, since, order)
    ]

-- and so it is by fewer steps
pub loaded_before : (steps more : ℕ) (view : View) → AllLoaded view more → steps ≤ more → AllLoaded view steps
loaded_before steps more view loaded order g strip = omega (arith, loaded g strip, order)

-- the mark of an open strip is claimed by an exchange that finds its round
pub IsClaimed-exchanged :
    (shared : SharedState) (strips limit g c x : ℕ) (before : View) (mid after : PassState) → strips ≡ shared.task.scene.strips → BelongsTo mid shared
    → KeepsHand before mid.view → IsLater before mid.view → IsOpen mid.view (worker_of before.crew) limit g c → x ≡ c
    → after ≡ with_view mid (cond (x == c) (claimed mid.view g c limit (last_note after.view)) (loaded mid.view (Counter g) x))
    → WritesWord (Counter g) (cond (x == c) (c + 1) x) (sees mid.view) (sees after.view) → IsClaimed before after.view limit (c * strips + g)
IsClaimed-exchanged shared strips limit g c x before mid after strips_are belongs kept later open_g found is seen =
    let run : SharedRun = mid.view.run in
    let own : run.strips ≡ strips = ap (λ r. r.strips) belongs.run ∙ sym strips_are in
    let yes : (x == c) ≡ true = eq-eqb x c found in
    let now : after.view ≡ claimed mid.view g c limit (last_note after.view) =
    ap (λ p. p.view) is ∙ ap (λ b. cond b (claimed mid.view g c limit (last_note after.view)) (loaded mid.view (Counter g) x)) yes in
    let run_is : after.view.run ≡ run = ap (λ v. v.run) now in
    let here : sees after.view (Counter g) ≡ c + 1 = seen.here ∙ ap (λ b. cond b (c + 1) x) yes in
    let strip : (c * strips + g) % after.view.run.strips ≡ g =
    ap (λ s. (c * strips + g) % s) (ap (λ r. r.strips) run_is ∙ own) ∙ mod-mul-add c strips g (omega (arith, open_g.strip, own)) in
    let number : mark_of run g c ≡ c * strips + g = ap (λ s. c * s + g) own in
    record {
      low = omega (arith, number, open_g.low);
      hand = ap (λ v. v.hand) now ∙ ap (λ k. Some (new_hand k)) number;
      crew = ap (λ v. v.crew) now ∙ kept.crew;
      most = ap (λ v. v.most) now ∙ ap (λ m. max m limit) kept.most;
      first =
          subst (λ s. IsFirst after.view (worker_of before.crew) limit s (c * strips + g)) (sym strip)
          (λ h low apart open_h. first_stays h (subst (λ r. h < r.strips) run_is low) apart now number open_h);
      next =
          subst (λ s. next_mark after.view s ≡ c * strips + g + after.view.run.strips) (sym strip)
          (next_is now own here);
      rose =
          subst (λ s. sees before (Counter s) < sees after.view (Counter s)) (sym strip) (omega (arith, later.seen (Counter g), open_g.round, here));
    }
  where
    next_is : after.view ≡ claimed mid.view g c limit (last_note after.view) → mid.view.run.strips ≡ strips → sees after.view (Counter g) ≡ c + 1
        → next_mark after.view g ≡ c * strips + g + after.view.run.strips
    next_is now own here =
        let same : after.view.run.strips ≡ strips = ap (λ v. v.run.strips) now ∙ own in
        ap (λ r. mark_of r g (sees after.view (Counter g))) (ap (λ v. v.run) now) ∙ ap (mark_of mid.view.run g) here ∙ ap (λ s. (c + 1) * s + g) own
        ∙ omega (arith, same)

    first_stays :
        (h : ℕ) → h < mid.view.run.strips → h ≢ g → after.view ≡ claimed mid.view g c limit (last_note after.view) → mark_of mid.view.run g c ≡ c * strips + g
        → next_mark after.view h < limit → GoesBefore after.view.run (worker_of before.crew) g (c * strips + g) h (next_mark after.view h)
    first_stays h low apart now number open_h =
        let run_is : after.view.run ≡ mid.view.run = ap (λ v. v.run) now in
        let same : next_mark after.view h ≡ next_mark mid.view h =
        ap (λ r. mark_of r h (sees after.view (Counter h))) run_is ∙ ap (mark_of mid.view.run h) (seen.others (Counter h) (λ e. apart cc)) in
        subst (λ r. GoesBefore r (worker_of before.crew) g (c * strips + g) h (next_mark after.view h)) (sym run_is)
        (subst (λ m. GoesBefore mid.view.run (worker_of before.crew) g (c * strips + g) h m) (sym same)
        (subst (λ k. GoesBefore mid.view.run (worker_of before.crew) g k h (next_mark mid.view h)) number
        (open_g.first h low apart (omega (arith, open_h, same)))))

-- ---- that a claim ends

-- an exchange that fails has seen a higher counter
pub claim_nearer :
    (limit g c x : ℕ) (first : View) (mid after : PassState) → 0 < mid.view.run.strips → IsLater first mid.view → IsLater mid.view after.view
    → IsOpen mid.view (worker_of first.crew) limit g c → x ≢ c → WritesWord (Counter g) (cond (x == c) (c + 1) x) (sees mid.view) (sees after.view)
    → left_over after.view.run.strips limit (λ h. sees after.view (Counter h)) < left_over first.run.strips limit (λ h. sees first (Counter h))
claim_nearer limit g c x first mid after some_strip to_mid to_after open_g other seen =
    let G : ℕ = mid.view.run.strips in
    let here : sees after.view (Counter g) ≡ x = seen.here ∙ ap (λ b. cond b (c + 1) x) (ne_eqb x c other) in
    let rows : c * 1 ≤ c * G = mul-le c 1 c G (omega arith) (omega (arith, some_strip)) in
    let low : c < limit = omega (arith, rows, open_g.low) in
    let down : left_over G limit (λ h. sees mid.view (Counter h)) ≤ left_over G limit (λ h. sees first (Counter h)) =
    sum-le (λ h. limit - sees mid.view (Counter h)) (λ h. limit - sees first (Counter h)) G (λ h strip. omega (arith, to_mid.seen (Counter h))) in
    let less : left_over G limit (λ h. sees after.view (Counter h)) < left_over G limit (λ h. sees mid.view (Counter h)) =
    sum_less (λ h. limit - sees after.view (Counter h)) (λ h. limit - sees mid.view (Counter h)) G g open_g.strip
    (λ h strip. omega (arith, to_after.seen (Counter h))) (omega (arith, here, open_g.round, other, to_after.seen (Counter g), low)) in
    let a : left_over after.view.run.strips limit (λ h. sees after.view (Counter h)) ≡ left_over G limit (λ h. sees after.view (Counter h)) =
    ap (λ r. left_over r.strips limit (λ h. sees after.view (Counter h))) to_after.run in
    let b : left_over first.run.strips limit (λ h. sees first (Counter h)) ≡ left_over G limit (λ h. sees first (Counter h)) =
    ap (λ r. left_over r.strips limit (λ h. sees first (Counter h))) (sym to_mid.run) in
    omega (arith, a, b, down, less)

-- ---- the next try

pub kept_exchanged :
    (old : View) (mid after : PassState) (g c limit x : ℕ) → x ≢ c
    → after ≡ with_view mid (cond (x == c) (claimed mid.view g c limit (last_note after.view)) (loaded mid.view (Counter g) x))
    → KeepsHand old mid.view → KeepsHand old after.view
kept_exchanged old mid after g c limit x other is kept =
    let now : after ≡ with_view mid (loaded mid.view (Counter g) x) =
    is ∙ ap (λ b. with_view mid (cond b (claimed mid.view g c limit (last_note after.view)) (loaded mid.view (Counter g) x))) (ne_eqb x c other) in
    kept_loaded old mid after g x now kept

pub IfNone-any : {A : Type 0} → (o : Option A) (claim : Type 0) → claim → IfNone o claim
IfNone-any None claim holds = holds
IfNone-any (Some a) claim holds = tt

pub IfNone-then : {A : Type 0} → (o : Option A) {P Q : Type 0} → IfNone o P → (P → Q) → IfNone o Q
IfNone-then None holds follows = follows holds
IfNone-then (Some a) holds follows = tt
