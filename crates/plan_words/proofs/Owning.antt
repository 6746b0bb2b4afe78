-- What a call of a shared tree owes to its table, and what a load tells, by what the tree and the pass keep.
use Rattle.plan_words.proofs.Words.{◌≡◌, ◌≢◌, ℕ, ◌+◌, ◌<◌, ◌≤◌, ◌^◌, Bool, true, false, List, [], length, refl, sym, ap, ◌∙◌, subst, arith, ◌==◌, cond, TableId}
use Rattle.plan_words.proofs.Words.{Allows, Me, step, Aim, Opening, SitsAt, FindsAsSeen, Loads, Tells, BelongsTo, GoesOn, HasWholeShare, IsTableOf, PassState}
use Rattle.plan_words.proofs.Words.{SharedState, new_pass, run_in, with_view, Word, WritesWord, Count, Counter, HasWord, place_of, place_of-within}
use Rattle.plan_words.proofs.Words.{IsLawfulView, MayLoad, claimed, loaded, place_in, saw_at, last_look, run_sizes, sees, WritesWord-looked, WritesWord-saw}
use Rattle.plan_words.proofs.Words.{SharedRun, View, WordPlaces}
use mathlib.Core.Option.{none}
use Rattle.plan_words.proofs.Allowing.{Kept, may_load}

module _ (table : TableId) (key : Opening) (run : SharedRun) (places : WordPlaces) (fits : IsTableOf table key run places) where
  -- a word of the run stands in the table
  pub in_table : (name : Word) (place : ℕ) → HasWord (run_sizes run) name → place ≡ place_of (run_sizes run) name → place < table.words
  in_table name place here at_place = omega (arith, at_place, fits.words, place_of-within (run_sizes run) name here)

  pub some_word : 0 < table.words
  some_word = in_table Count 0 tt refl

  pub may_load_here :
      (seat : TableId) (id place : ℕ) (me : Me Aim View) (name : Word) → seat ≡ table → me.0.run ≡ run → HasWord (run_sizes run) name
      → MayLoad me.0 name → place ≡ place_of (run_sizes run) name
      → (seat ≡ table) × (place < table.words) × Allows (Kept key) table.slots id me place (λ x. x) (Loads (step table.slots place 0 0 none) me)
  may_load_here seat id place me name same own here may at_place =
      (same, in_table name place here at_place, may_load table key run places fits table.slots id place me name here at_place own may)

-- ---- what a load tells

module _ (view : View) (lawful : IsLawfulView view) (name : Word) (here : HasWord (run_sizes view.run) name) where
  -- the word is seen as it was found
  pub sees-loaded : (x : ℕ) → sees (loaded view name x) name ≡ x
  sees-loaded x = (WritesWord-saw view.run view lawful.of_run name here x x).here

-- of all words it is seen now, by the pass as its caller has it
pub sees_told :
    (outer inner then : View) (name : Word) (place x : ℕ) → inner ≡ outer → IsLawfulView inner → HasWord (run_sizes inner.run) name
    → place ≡ place_in inner name
    → then ≡ saw_at inner place x x → WritesWord name x (sees outer) (sees then)
sees_told outer inner then name place x same lawful here at_place is =
    subst (λ v. WritesWord name x (sees v) (sees then)) same
    (subst (λ v. WritesWord name x (sees inner) (sees v)) (sym is)
    (subst (λ n. WritesWord name x (sees inner) (sees (saw_at inner n x x))) (sym at_place) (WritesWord-saw inner.run inner lawful.of_run name here x x)))

-- and this step was the last on it
pub looks_told :
    (outer inner then : View) (name : Word) (place x : ℕ) → inner ≡ outer → IsLawfulView inner → HasWord (run_sizes inner.run) name
    → place ≡ place_in inner name
    → then ≡ saw_at inner place x x → WritesWord name (outer.steps + 1) (last_look outer) (last_look then)
looks_told outer inner then name place x same lawful here at_place is =
    subst (λ v. WritesWord name (v.steps + 1) (last_look v) (last_look then)) same
    (subst (λ v. WritesWord name (inner.steps + 1) (last_look inner) (last_look v)) (sym is)
    (subst (λ n. WritesWord name (inner.steps + 1) (last_look inner) (last_look (saw_at inner n x x))) (sym at_place)
    (WritesWord-looked inner.run inner lawful.of_run name here x x)))

-- with the whole share it is found as that pass has seen it
pub found_whole :
    (outer inner : View) (name : Word) (place x : ℕ) → inner ≡ outer → FindsAsSeen inner place x → name ≢ Count → MayLoad inner name
    → place ≡ place_in inner name → HasWholeShare outer → x ≡ sees outer name
found_whole outer inner name place x same finds apart may at_place whole =
    finds (subst HasWholeShare (sym same) whole) name apart may at_place ∙ ap (λ v. sees v name) same

-- what an exchange leaves of the counter
pub sees_exchanged :
    (outer inner then : View) (g c limit place x : ℕ) (steps : List ℕ) → inner ≡ outer → IsLawfulView inner → g < inner.run.strips
    → place ≡ place_in inner (Counter g) → then ≡ cond (x == c) (claimed inner g c limit steps) (saw_at inner place x x)
    → WritesWord (Counter g) (cond (x == c) (c + 1) x) (sees outer) (sees then)
sees_exchanged outer inner then g c limit place x steps same lawful strip at_place is =
    subst (λ v. WritesWord (Counter g) (cond (x == c) (c + 1) x) (sees v) (sees then)) same
    (subst (λ v. WritesWord (Counter g) (cond (x == c) (c + 1) x) (sees inner) (sees v)) (sym is) (by_test (x == c)))
  where
    by_test : (b : Bool) → WritesWord (Counter g) (cond b (c + 1) x) (sees inner) (sees (cond b (claimed inner g c limit steps) (saw_at inner place x x)))
    by_test true = WritesWord-saw inner.run inner lawful.of_run (Counter g) strip c (c + 1)
    by_test false =
        subst (λ n. WritesWord (Counter g) x (sees inner) (sees (saw_at inner n x x))) (sym at_place)
        (WritesWord-saw inner.run inner lawful.of_run (Counter g) strip x x)

-- The count of nodes fits a `u32`, and so does the counter of a strip.
pub count_fits : (view : View) (place x : ℕ) → IsLawfulView view → place ≡ place_in view Count → IsLawfulView (saw_at view place x x) → x < 2 ^ 32
count_fits view place x lawful at_place told =
    let then = subst (λ n. IsLawfulView (saw_at view n x x)) at_place told in
    omega (arith, sees-loaded view lawful Count tt x, then.count, lawful.run.marks)

pub counter_most :
    (view : View) (place g x : ℕ) → IsLawfulView view → g < view.run.strips → place ≡ place_in view (Counter g) → IsLawfulView (saw_at view place x x)
    → x ≤ length view.run.marks
counter_most view place g x lawful strip at_place told =
    let then = subst (λ n. IsLawfulView (saw_at view n x x)) at_place told in
    omega (arith, sees-loaded view lawful (Counter g) strip x, then.counter g strip)

-- ---- a pass and its view

-- a step leaves all of a pass but its view
pub with_view_told :
    (outer inner : PassState) (table : TableId) (then : View) (step : View → View) → inner ≡ outer → table ≡ inner.table → then ≡ step inner.view
    → record inner { table = table; view = then } ≡ with_view outer (step outer.view)
with_view_told outer inner table then step same table_is view_is =
    ap (λ t. record inner { table = t; view = then }) table_is ∙ ap (with_view inner) view_is ∙ ap (λ p. with_view p (step p.view)) same

-- and its steps go on
pub goes_on_told : (outer inner : PassState) (then view : View) → inner ≡ outer → then ≡ view → GoesOn inner.view view → GoesOn outer.view then
goes_on_told outer inner then view same is on = subst (λ p. GoesOn p.view then) same (subst (GoesOn inner.view) (sym is) on)

pub tells_on : (outer : View) (me after : Me Aim View) (view : View) → me.0 ≡ outer → Tells me view after → GoesOn outer after.0
tells_on outer me after view same told = subst (λ v. GoesOn v after.0) same (subst (GoesOn me.0) (sym told.view_is) told.goes_on)

-- ---- belonging

-- a pass and a tree by what they keep
pub same_table : (pass : PassState) (shared : SharedState) (inner : PassState) (whole : SharedState) → inner ≡ pass → whole ≡ shared
    → BelongsTo pass shared → inner.table ≡ whole.table
same_table pass shared inner whole pass_is shared_is belongs = ap (λ p. p.table) pass_is ∙ belongs.table ∙ sym (ap (λ s. s.table) shared_is)

pub same_run : (pass : PassState) (shared : SharedState) (inner : PassState) (whole : SharedState) → inner ≡ pass → whole ≡ shared
    → BelongsTo pass shared → inner.view.run ≡ run_in whole
same_run pass shared inner whole pass_is shared_is belongs = ap (λ p. p.view.run) pass_is ∙ belongs.run ∙ sym (ap run_in shared_is)

-- its seat is that of a pass of the tree
pub SitsAt-pass : (pass : PassState) (shared : SharedState) (inner : PassState) (table : TableId) (me : Me Aim View) → inner ≡ pass
    → table ≡ inner.table → me.0 ≡ inner.view → me.1 ≡ [] → BelongsTo pass shared → SitsAt shared table me
SitsAt-pass pass shared inner table me is table_is view_is slots belongs = record {
  table_is = table_is ∙ ap (λ p. p.table) is ∙ belongs.table;
  run = ap (λ v. v.run) view_is ∙ ap (λ p. p.view.run) is ∙ belongs.run;
  lawful = subst IsLawfulView (sym (view_is ∙ ap (λ p. p.view) is)) belongs.lawful;
  slots = slots;
}

-- and what is said of the pass is said of its seat
pub BelongsTo-seat : (pass : PassState) (shared : SharedState) (inner : PassState) → inner ≡ pass → BelongsTo pass shared
    → BelongsTo (new_pass inner.table inner.view) shared
BelongsTo-seat pass shared inner is belongs = record {
  table = ap (λ p. p.table) is ∙ belongs.table;
  run = ap (λ p. p.view.run) is ∙ belongs.run;
  lawful = subst (λ p. IsLawfulView p.view) (sym is) belongs.lawful;
}
