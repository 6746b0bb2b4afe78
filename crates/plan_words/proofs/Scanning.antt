-- The least next mark of the strips of a kind, by the counters that a pass loads one after another.
use Rattle.plan_words.proofs.Words.{◌≡◌, ◌≢◌, ℕ, ◌+◌, ◌-◌, ◌*◌, ◌/◌, ◌%◌, ◌<◌, ◌≤◌, ◌⊎◌, zero, suc, refl, sym, ap, ◌∙◌, subst, inl, inr, arith}
use Rattle.plan_words.proofs.Words.{cases_eq, cases_lt, min, ne_eqb, range_with_len, sum_by, sum-le, sum-more, true, false, div-add-mod', div-mul-add}
use Rattle.plan_words.proofs.Words.{mod-mul-add, mod_below, mul-le, WritesWord, Counter, IsCutAt-quota, quota_of, AllFull, AllLoaded, GoesBefore}
use Rattle.plan_words.proofs.Words.{IsLeastNext, IsOpen, is_own, next_mark, IsLater, last_look, mark_of, sees, View}
use Rattle.std.proofs.lemmas.Bool.{eq-eqb}

-- ---- one load after another

-- no strip was looked at yet
pub IsLeastNext-none : (view : View) (kind : ℕ → Type 0) (most least : ℕ) → least ≡ most → ((g : ℕ) → kind g → ⊥) → IsLeastNext view view kind most least
IsLeastNext-none view kind most least is none = record {
  loaded = λ g low here. absurd (none g here);
  apart = λ g other. refl;
  at_most = omega (arith, is);
  below = λ g low here. absurd (none g here);
  held = inl is;
}

-- one strip is looked at
pub IsLeastNext-one :
    (before after : View) (n x least then : ℕ) → n < after.run.strips → WritesWord (Counter n) x (sees before) (sees after)
    → WritesWord (Counter n) (before.steps + 1) (last_look before) (last_look after) → then ≡ min least (mark_of after.run n x)
    → IsLeastNext before after (λ g. g ≡ n) least then
IsLeastNext-one before after n x least then low seen looked is =
    let here : next_mark after n ≡ mark_of after.run n x = ap (mark_of after.run n) seen.here in
    record {
      loaded = λ g in_run e. omega (arith, ap (λ h. last_look after (Counter h)) e, looked.here);
      apart = λ g other. seen.others (Counter g) (λ e. other cc);
      at_most = omega (arith, is);
      below = λ g in_run e. omega (arith, ap (next_mark after) e, here, is);
      held = elim (cases_lt (mark_of after.run n x) least) [
        | inl less ↦ inr (record { strip = n; within = low; here = refl; next = here ∙ omega (arith, is, less) })
        | inr enough ↦ inl (omega (arith, is, enough))
      ];
    }

-- strips of another kind are looked at next
pub IsLeastNext-both :
    (before mid after : View) (P Q R : ℕ → Type 0) (most least then : ℕ) → IsLater before mid → IsLater mid after → IsLeastNext before mid P most least
    → IsLeastNext mid after Q least then → ((g : ℕ) → g < after.run.strips → R g → P g ⊎ Q g) → ((g : ℕ) → P g → R g) → ((g : ℕ) → Q g → R g)
    → ((g : ℕ) → P g → Q g → ⊥) → IsLeastNext before after R most then
IsLeastNext-both before mid after P Q R most least then to_mid to_after first second split of_first of_second apart = record {
  loaded = λ g low is. elim (split g low is) [
    | inl p ↦ (elim (to_after.looked (Counter g)) [
      | inl same ↦ omega (arith, same, first.loaded g (in_mid g low) p)
      | inr since ↦ omega (arith, since, to_mid.steps)
    ])
    | inr q ↦ omega (arith, to_mid.steps, second.loaded g low q)
  ];
  apart = λ g other. second.apart g (λ q. other (of_second g q)) ∙ first.apart g (λ p. other (of_first g p));
  at_most = omega (arith, first.at_most, second.at_most);
  below = λ g low is. elim (split g low is) [
    | inl p ↦ omega (arith, first.below g (in_mid g low) p, next_stays g p, second.at_most)
    | inr q ↦ second.below g low q
  ];
  held = elim second.held [
    | inl same ↦ (elim first.held [
      | inl none ↦ inl (same ∙ none)
      | inr held ↦ inr (record {
        strip = held.strip;
        within = subst (λ r. held.strip < r.strips) (sym to_after.run) held.within;
        here = of_first held.strip held.here;
        next = next_stays held.strip held.here ∙ held.next ∙ sym same;
      })
    ])
    | inr held ↦ inr (record { strip = held.strip; within = held.within; here = of_second held.strip held.here; next = held.next })
  ];
}
  where
    in_mid : (g : ℕ) → g < after.run.strips → g < mid.run.strips
    in_mid g low = subst (λ r. g < r.strips) to_after.run low

    next_stays : (g : ℕ) → P g → next_mark after g ≡ next_mark mid g
    next_stays g p = ap (λ r. mark_of r g (sees after (Counter g))) to_after.run ∙ ap (mark_of mid.run g) (second.apart g (apart g p))

-- the same strips, told in another way
pub IsLeastNext-same : (before after : View) (P Q : ℕ → Type 0) (most least : ℕ) → IsLeastNext before after P most least
    → ((g : ℕ) → g < after.run.strips → Q g → P g) → ((g : ℕ) → P g → Q g) → IsLeastNext before after Q most least
IsLeastNext-same before after P Q most least scanned to from = record {
  loaded = λ g low is. scanned.loaded g low (to g low is);
  apart = λ g other. scanned.apart g (λ p. other (from g p));
  at_most = scanned.at_most;
  below = λ g low is. scanned.below g low (to g low is);
  held = elim scanned.held [
    | inl none ↦ inl none
    | inr held ↦ inr (record { strip = held.strip; within = held.within; here = from held.strip held.here; next = held.next })
  ];
}

-- ---- the strips of one worker, each so many after the last

mod_most : (n w : ℕ) → n % w ≤ n
mod_most n w = omega (arith, div-add-mod' n w)

pub none_before : (owner w g : ℕ) → owner < w → g < owner → g % w ≢ owner
none_before owner w g low under is = omega (arith, mod_most g w, is, under)

pub own_turn : (owner w : ℕ) → owner < w → owner % w ≡ owner
own_turn owner w low =
    let same : owner ≡ 0 * w + owner = omega arith in
    ap (λ n. n % w) same ∙ mod-mul-add 0 w owner low

pub turn_stays : (strip w owner : ℕ) → 0 < w → strip % w ≡ owner → (strip + w) % w ≡ owner
turn_stays strip w owner some is =
    let more : strip + w ≡ (strip / w + 1) * w + strip % w = omega (arith, div-add-mod' strip w) in
    ap (λ n. n % w) more ∙ mod-mul-add (strip / w + 1) w (strip % w) (mod_below strip w some) ∙ is

pub next_turn : (g strip w owner : ℕ) → strip % w ≡ owner → g % w ≡ owner → g < strip + w → (g < strip) ⊎ (g ≡ strip)
next_turn g strip w owner strip_is g_is below =
    let of_g = div-add-mod' g w in
    let of_strip = div-add-mod' strip w in
    elim (cases_lt (strip / w) (g / w)) [
      | inl less ↦ (
          let rows = mul-le (strip / w + 1) w (g / w) w (omega (arith, less)) (omega arith) in
          absurd (omega (arith, rows, of_g, of_strip, strip_is, g_is, below)))
      | inr enough ↦ (
          let rows = mul-le (g / w) w (strip / w) w enough (omega arith) in
          elim (cases_eq g strip) [
            | inl e ↦ inr e
            | inr other ↦ inl (omega (arith, rows, of_g, of_strip, strip_is, g_is, other))
          ])
    ]

-- one strip more of the same worker
pub IsLeastNext-turn :
    (before mid after : View) (n x w owner most least then : ℕ) → IsLater before mid → IsLater mid after → 0 < w → n % w ≡ owner → n < after.run.strips
    → WritesWord (Counter n) x (sees mid) (sees after) → WritesWord (Counter n) (mid.steps + 1) (last_look mid) (last_look after)
    → then ≡ min least (mark_of after.run n x) → IsLeastNext before mid (λ g. (g < n) × (g % w ≡ owner)) most least
    → IsLeastNext before after (λ g. (g < n + w) × (g % w ≡ owner)) most then
IsLeastNext-turn before mid after n x w owner most least then to_mid to_after some turn low seen looked is scanned =
    IsLeastNext-both before mid after (λ g. (g < n) × (g % w ≡ owner)) (λ g. g ≡ n) (λ g. (g < n + w) × (g % w ≡ owner)) most least then to_mid to_after
    scanned (IsLeastNext-one mid after n x least then low seen looked is)
    (λ g in_run here. elim (next_turn g n w owner turn here.1 here.0) [ inl less ↦ inl (less, here.1) | inr e ↦ inr e ])
    (λ g here. (omega (arith, here.0), here.1)) (λ g e. (omega (arith, e, some), ap (λ k. k % w) e ∙ turn)) (λ g here e. omega (arith, here.0, e))

-- ---- the other workers, one after another

pub IsLeastNext-owner :
    (before mid after : View) (w n worker most least then : ℕ) → IsLater before mid → IsLater mid after → n ≢ worker
    → IsLeastNext before mid (λ g. (g % w < n) × (g % w ≢ worker)) most least → IsLeastNext mid after (λ g. g % w ≡ n) least then
    → IsLeastNext before after (λ g. (g % w < n + 1) × (g % w ≢ worker)) most then
IsLeastNext-owner before mid after w n worker most least then to_mid to_after other first second =
    IsLeastNext-both before mid after (λ g. (g % w < n) × (g % w ≢ worker)) (λ g. g % w ≡ n) (λ g. (g % w < n + 1) × (g % w ≢ worker)) most least then
    to_mid to_after first second
    (λ g low here. elim (cases_eq (g % w) n) [ inl e ↦ inr e | inr apart ↦ inl (omega (arith, here.0, apart), here.1) ])
    (λ g here. (omega (arith, here.0), here.1)) (λ g e. (omega (arith, e), λ own. other (sym e ∙ own))) (λ g here e. omega (arith, here.0, e))

-- its own strips are looked at already
pub IsLeastNext-own :
    (before after : View) (w n worker most least : ℕ) → n ≡ worker → IsLeastNext before after (λ g. (g % w < n) × (g % w ≢ worker)) most least
    → IsLeastNext before after (λ g. (g % w < n + 1) × (g % w ≢ worker)) most least
IsLeastNext-own before after w n worker most least own scanned =
    IsLeastNext-same before after (λ g. (g % w < n) × (g % w ≢ worker)) (λ g. (g % w < n + 1) × (g % w ≢ worker)) most least scanned
    (λ g low here. (omega (arith, here.0, here.1, own), here.1)) (λ g here. (omega (arith, here.0), here.1))

-- ---- the mark that goes first

-- Of the worker's own strips and of the others the least next marks are known.
module _ (before mid after : View) (n w limit own other : ℕ) (n_is : after.run.workers ≡ n) (to_mid : IsLater before mid) (to_after : IsLater mid after)
    (of_own : IsLeastNext before mid (λ g. g % n ≡ w) limit own)
    (of_others : IsLeastNext mid after (λ g. g % n ≢ w) limit other) where
  in_mid : (g : ℕ) → g < after.run.strips → g < mid.run.strips
  in_mid g low = subst (λ r. g < r.strips) to_after.run low

  own_is : (g : ℕ) → g % n ≡ w → is_own after.run w g ≡ true
  own_is g is = eq-eqb (g % after.run.workers) w (ap (λ m. g % m) n_is ∙ is)

  other_is : (g : ℕ) → g % n ≢ w → is_own after.run w g ≡ false
  other_is g not = ne_eqb (g % after.run.workers) w (λ is. not (ap (λ m. g % m) (sym n_is) ∙ is))

  own_stays : (g : ℕ) → g % n ≡ w → next_mark after g ≡ next_mark mid g
  own_stays g is =
      ap (λ r. mark_of r g (sees after (Counter g))) to_after.run ∙ ap (mark_of mid.run g) (of_others.apart g (λ apart. apart is))

  pub AllLoaded-both : AllLoaded after before.steps
  AllLoaded-both g low =
      elim (cases_eq (g % n) w) [
        | inl is ↦ (elim (to_after.looked (Counter g)) [
          | inl same ↦ omega (arith, same, of_own.loaded g (in_mid g low) is)
          | inr since ↦ omega (arith, since, to_mid.steps)
        ])
        | inr not ↦ omega (arith, to_mid.steps, of_others.loaded g low not)
      ]

  pub AllFull-both : limit ≤ own → limit ≤ other → AllFull after limit
  AllFull-both own_full other_full g low =
      let cut = IsCutAt-quota after.run.strips g limit low in
      let past : limit ≤ next_mark after g = elim (cases_eq (g % n) w) [
        | inl is ↦ omega (arith, own_stays g is, of_own.below g (in_mid g low) is, own_full)
        | inr not ↦ omega (arith, of_others.below g low not, other_full)
      ] in
      elim (cases_lt (sees after (Counter g)) (quota_of after.run.strips g limit)) [
        | inl less ↦ absurd (omega (arith, cut.below_limit (sees after (Counter g)) less, past))
        | inr enough ↦ enough
      ]

  -- a next mark of strip g is told by its strip and its round
  open_at : (g first : ℕ) → g < after.run.strips → next_mark after g ≡ first → first < limit
      → ((h : ℕ) → h < after.run.strips → h ≢ g → next_mark after h < limit → GoesBefore after.run w g first h (next_mark after h))
      → IsOpen after w limit (first % after.run.strips) (first / after.run.strips)
  open_at g first low is below goes =
      let c : ℕ = sees after (Counter g) in
      let strip : first % after.run.strips ≡ g = ap (λ n. n % after.run.strips) (sym is) ∙ mod-mul-add c after.run.strips g low in
      let round : first / after.run.strips ≡ c = ap (λ n. n / after.run.strips) (sym is) ∙ div-mul-add c after.run.strips g low in
      subst (λ s. IsOpen after w limit s (first / after.run.strips)) (sym strip) (subst (IsOpen after w limit g) (sym round) (record {
        strip = low;
        round = refl;
        low = omega (arith, is, below);
        first = λ h in_run apart open_h. subst (λ k. GoesBefore after.run w g k h (next_mark after h)) (sym is) (goes h in_run apart open_h);
      }))

  pub IsOpen-own : own < limit → IsOpen after w limit (own % after.run.strips) (own / after.run.strips)
  IsOpen-own below =
      elim of_own.held [
        | inl none ↦ absurd (omega (arith, none, below))
        | inr held ↦ open_at held.strip own (subst (λ r. held.strip < r.strips) (sym to_after.run) held.within)
            (own_stays held.strip held.here ∙ held.next) below
            (λ h low apart open_h. elim (cases_eq (h % n) w) [
              | inl is ↦ inr (
                own_is held.strip held.here ∙ sym (own_is h is),
                omega (arith, own_stays h is, of_own.below h (in_mid h low) is),
              )
              | inr not ↦ inl (own_is held.strip held.here, other_is h not)
            ])
      ]

  pub IsOpen-other : limit ≤ own → other < limit → IsOpen after w limit (other % after.run.strips) (other / after.run.strips)
  IsOpen-other full below =
      elim of_others.held [
        | inl none ↦ absurd (omega (arith, none, below))
        | inr held ↦ open_at held.strip other held.within held.next below
            (λ h low apart open_h. elim (cases_eq (h % n) w) [
              | inl is ↦ absurd (omega (arith, own_stays h is, of_own.below h (in_mid h low) is, full, open_h))
              | inr not ↦ inr (
                other_is held.strip held.here ∙ sym (other_is h not),
                of_others.below h low not,
              )
            ])
      ]

-- ---- that a claim ends

-- how far the counters seen are from the limit
abbrev pub left_over : ℕ → ℕ → (ℕ → ℕ) → ℕ
left_over strips limit counters = sum_by (λ g. limit - counters g) (range_with_len 0 strips)

pub sum_less : (f h : ℕ → ℕ) (n k : ℕ) → k < n → ((j : ℕ) → j < n → f j ≤ h j) → f k < h k → sum_by f (range_with_len 0 n) < sum_by h (range_with_len 0 n)
sum_less f h zero k low le less = absurd (omega (arith, low))
sum_less f h (suc n) k low le less =
    elim (cases_eq n k) [
      | inl e ↦ omega (arith, sum-more f n, sum-more h n, sum-le f h n (λ j under. le j (omega (arith, under))), ap f e, ap h e, less)
      | inr apart ↦
          omega (
            arith,
            sum-more f n,
            sum-more h n,
            sum_less f h n k (omega (arith, low, apart)) (λ j under. le j (omega (arith, under))) less,
            le n (omega arith),
          )
    ]
