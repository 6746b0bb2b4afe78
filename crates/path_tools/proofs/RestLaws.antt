-- The order of choices, and the least rests of positions.
use Rattle.std.proofs.Common.{◌≡◌, ℕ, suc, ◌<◌, ◌≤◌, ◌⊎◌, inl, inr, List, [], ◌∷◌, length, arith, refl, sym, ap, ◌∙◌, subst}
use Rattle.std.proofs.lemmas.Bool.{cases_lt}
use Rattle.grown_runs.proofs.Common.{Point, ConfigurationSpace, cost_of, Clear, path_point, cost_of_choice, cost_of-triangle}
use Rattle.path_tools.specs.SmoothPaths.{IsNotAfter, IsChoiceNotAbove, IsClearRest, BeginsBelow, IsLeastRest}

-- ---- positions from the front

pub IsNotAfter-refl : (choice : List ℕ) → IsNotAfter choice choice
IsNotAfter-refl [] = tt
IsNotAfter-refl (i ∷ choice) = (omega arith, λ e. IsNotAfter-refl choice)

pub IsNotAfter-trans : (a b c : List ℕ) → IsNotAfter a b → IsNotAfter b c → IsNotAfter a c
IsNotAfter-trans [] b c first second = tt
IsNotAfter-trans (i ∷ a) [] c first second = absurd first
IsNotAfter-trans (i ∷ a) (j ∷ b) [] first second = absurd second
IsNotAfter-trans (i ∷ a) (j ∷ b) (k ∷ c) first second = (
  omega (arith, first.0, second.0),
  λ e. IsNotAfter-trans a b c (first.1 (omega (arith, e, first.0, second.0))) (second.1 (omega (arith, e, first.0, second.0))),
)

-- of two lists with as many positions, each not after the other, there is one
pub IsNotAfter-same : (a b : List ℕ) → length a ≡ length b → IsNotAfter a b → IsNotAfter b a → a ≡ b
IsNotAfter-same [] [] e first second = refl
IsNotAfter-same [] (j ∷ b) e first second = absurd (omega (arith, e))
IsNotAfter-same (i ∷ a) [] e first second = absurd first
IsNotAfter-same (i ∷ a) (j ∷ b) e first second =
    let same : i ≡ j = omega (arith, first.0, second.0) in
    let rest = IsNotAfter-same a b (omega (arith, e)) (first.1 same) (second.1 (sym same)) in
    ap (λ k. k ∷ a) same ∙ ap (λ c. j ∷ c) rest

-- ---- the order of choices

module _ (path : List Point) where
  pub IsChoiceNotAbove-refl : (choice : List ℕ) → IsChoiceNotAbove path choice choice
  IsChoiceNotAbove-refl choice = record { cost = omega arith; points = λ e. omega arith; positions = λ e l. IsNotAfter-refl choice }

  pub IsChoiceNotAbove-trans : (a b c : List ℕ) → IsChoiceNotAbove path a b → IsChoiceNotAbove path b c → IsChoiceNotAbove path a c
  IsChoiceNotAbove-trans a b c first second = record {
    cost = omega (arith, first.cost, second.cost);
    points = λ e. omega (arith, first.points (one e), second.points (other e));
    positions = λ e l.
        let fewer = first.points (one e) in
        let few = second.points (other e) in
        IsNotAfter-trans a b c (first.positions (one e) (omega (arith, l, fewer, few))) (second.positions (other e) (omega (arith, l, fewer, few)));
  }
    where
      one : cost_of_choice path c ≡ cost_of_choice path a → cost_of_choice path b ≡ cost_of_choice path a
      one e = omega (arith, e, first.cost, second.cost)

      other : cost_of_choice path c ≡ cost_of_choice path a → cost_of_choice path c ≡ cost_of_choice path b
      other e = omega (arith, e, first.cost, second.cost)

  -- each of two not above the other
  pub IsChoiceNotAbove-same : (a b : List ℕ) → IsChoiceNotAbove path a b → IsChoiceNotAbove path b a → a ≡ b
  IsChoiceNotAbove-same a b first second =
      let cost : cost_of_choice path b ≡ cost_of_choice path a = omega (arith, first.cost, second.cost) in
      let points : length b ≡ length a = omega (arith, first.points cost, second.points (sym cost)) in
      IsNotAfter-same a b (sym points) (first.positions cost points) (second.positions (sym cost) (sym points))

  -- from one position more before both
  pub IsChoiceNotAbove-after : (i j : ℕ) (a b : List ℕ) → IsChoiceNotAbove path (j ∷ a) (j ∷ b) → IsChoiceNotAbove path (i ∷ j ∷ a) (i ∷ j ∷ b)
  IsChoiceNotAbove-after i j a b h = record {
    cost = omega (arith, h.cost);
    points = λ e. omega (arith, h.points (omega (arith, e)));
    positions = λ e l. (omega arith, λ s. h.positions (omega (arith, e)) (omega (arith, l)));
  }

  pub IsChoiceNotAbove-before : (i j : ℕ) (a b : List ℕ) → IsChoiceNotAbove path (i ∷ j ∷ a) (i ∷ j ∷ b) → IsChoiceNotAbove path (j ∷ a) (j ∷ b)
  IsChoiceNotAbove-before i j a b h = record {
    cost = omega (arith, h.cost);
    points = λ e. omega (arith, h.points (omega (arith, e)));
    positions = λ e l. (h.positions (omega (arith, e)) (omega (arith, l))).1 refl;
  }

  -- one that costs less, or as much with fewer points
  pub IsChoiceNotAbove-less : (a b : List ℕ)
      → (cost_of_choice path a < cost_of_choice path b) ⊎ ((cost_of_choice path a ≡ cost_of_choice path b) × (length a < length b))
      → IsChoiceNotAbove path a b
  IsChoiceNotAbove-less a b (inl less) = record {
    cost = omega (arith, less);
    points = λ e. absurd (omega (arith, less, e));
    positions = λ e l. absurd (omega (arith, less, e));
  }
  IsChoiceNotAbove-less a b (inr fewer) = record {
    cost = omega (arith, fewer.0);
    points = λ e. omega (arith, fewer.1);
    positions = λ e l. absurd (omega (arith, fewer.1, l));
  }

  -- one that goes to an earlier position next, if the other is not such
  pub IsChoiceNotAbove-earlier : (i j k : ℕ) (a b : List ℕ) → j < k
      → ¬ ((cost_of_choice path (i ∷ k ∷ b) < cost_of_choice path (i ∷ j ∷ a))
      ⊎ ((cost_of_choice path (i ∷ k ∷ b) ≡ cost_of_choice path (i ∷ j ∷ a)) × (length (i ∷ k ∷ b) < length (i ∷ j ∷ a))))
      → IsChoiceNotAbove path (i ∷ j ∷ a) (i ∷ k ∷ b)
  IsChoiceNotAbove-earlier i j k a b earlier none = record {
    cost =
        elim (cases_lt (cost_of_choice path (i ∷ k ∷ b)) (cost_of_choice path (i ∷ j ∷ a))) [
          | inl less ↦ absurd (none (inl less))
          | inr h ↦ omega (arith, h)
        ];
    points = λ e.
        elim (cases_lt (length (i ∷ k ∷ b)) (length (i ∷ j ∷ a))) [ inl less ↦ absurd (none (inr (e, less))) | inr h ↦ omega (arith, h) ];
    positions = λ e l. (omega arith, λ s. (omega (arith, earlier), λ same. absurd (omega (arith, earlier, same))));
  }

-- ---- rests

-- all but the first
abbrev rest_of : List ℕ → List ℕ
rest_of [] = []
rest_of (i ∷ choice) = choice

module _ (space : ConfigurationSpace) (path : List Point) where
  -- positions that lead to the last one are on the path
  pub IsClearRest-inside : (i : ℕ) (rest : List ℕ) → IsClearRest space path i rest → i < length path
  IsClearRest-inside i [] h = omega (arith, h)
  IsClearRest-inside i (j ∷ rest) h = omega (arith, h.0, IsClearRest-inside j rest h.2)

  -- no rest costs less than the straight segment to the end
  straight-cheapest : (last i j : ℕ) (rest : List ℕ) → suc last ≡ length path → IsClearRest space path i (j ∷ rest)
      → cost_of (path_point path last) (path_point path i) ≤ cost_of_choice path (i ∷ j ∷ rest)
  straight-cheapest last i j [] is h =
      let same : j ≡ last = omega (arith, is, h.2) in
      let cost = ap (λ k. cost_of (path_point path k) (path_point path i)) same in
      omega (arith, cost)
  straight-cheapest last i j (k ∷ rest) is h =
      let on = straight-cheapest last j k rest is h.2 in
      let over = cost_of-triangle (path_point path last) (path_point path j) (path_point path i) in
      omega (arith, on, over)

  -- nor has it more points, or a later position
  pub IsChoiceNotAbove-straight : (last i : ℕ) (rest : List ℕ) → suc last ≡ length path → i < last → IsClearRest space path i rest
      → IsChoiceNotAbove path (i ∷ last ∷ []) (i ∷ rest)
  IsChoiceNotAbove-straight last i [] is before h = absurd (omega (arith, is, before, h))
  IsChoiceNotAbove-straight last i (j ∷ []) is before h = record {
    cost = let cheapest = straight-cheapest last i j [] is h in omega (arith, cheapest);
    points = λ e. omega arith;
    positions = λ e l. (omega arith, λ s. (omega (arith, is, h.2), λ same. tt));
  }
  IsChoiceNotAbove-straight last i (j ∷ k ∷ rest) is before h = record {
    cost = let cheapest = straight-cheapest last i j (k ∷ rest) is h in omega (arith, cheapest);
    points = λ e. omega arith;
    positions = λ e l. absurd (omega (arith, l));
  }

  -- the least rest is one
  pub IsLeastRest-same : (limit i : ℕ) (a b : List ℕ) → IsLeastRest space path limit i a → IsLeastRest space path limit i b → a ≡ b
  IsLeastRest-same limit i a b one other =
      ap rest_of (IsChoiceNotAbove-same path (i ∷ a) (i ∷ b) (one.not_above b other.clear other.below) (other.not_above a one.clear one.below))

  pub BeginsBelow-inside : (i : ℕ) (rest : List ℕ) → IsClearRest space path i rest → BeginsBelow (length path) rest
  BeginsBelow-inside i [] h = tt
  BeginsBelow-inside i (j ∷ rest) h = IsClearRest-inside j rest h.2

  -- the least rest goes on by the least rest from where it leads
  pub IsLeastRest-next : (i j : ℕ) (rest : List ℕ) → IsLeastRest space path (length path) i (j ∷ rest) → IsLeastRest space path (length path) j rest
  IsLeastRest-next i j rest h = record {
    clear = h.clear.2;
    below = BeginsBelow-inside j rest h.clear.2;
    not_above = λ other clear below.
        IsChoiceNotAbove-before path i j rest other
        (h.not_above (j ∷ other) (h.clear.0, h.clear.1, clear) (IsClearRest-inside j other clear));
  }

  -- at the last position
  pub IsLeastRest-last : (last : ℕ) → suc last ≡ length path → IsLeastRest space path (length path) last []
  IsLeastRest-last last is = record { clear = is; below = tt; not_above = not_above }
    where
      not_above : (other : List ℕ) → IsClearRest space path last other → BeginsBelow (length path) other → IsChoiceNotAbove path (last ∷ []) (last ∷ other)
      not_above [] clear below = IsChoiceNotAbove-refl path (last ∷ [])
      not_above (j ∷ other) clear below = absurd (omega (arith, is, clear.0, below))

  -- the straight segment to the end, if it is clear
  pub IsLeastRest-straight : (last i : ℕ) → suc last ≡ length path → i < last → Clear space (path_point path i) (path_point path last)
      → IsLeastRest space path (length path) i (last ∷ [])
  IsLeastRest-straight last i is before clear = record {
    clear = (before, clear, is);
    below = omega (arith, is);
    not_above = λ other h below. IsChoiceNotAbove-straight last i other is before h;
  }

  -- One more position to begin with: what is not above the least rest from there is the least.
  module _ (limit i : ℕ) (rest : List ℕ) where
    pub IsLeastRest-more : IsClearRest space path i rest → BeginsBelow (suc limit) rest
        → ((other : List ℕ) → IsClearRest space path i other → BeginsBelow limit other → IsChoiceNotAbove path (i ∷ rest) (i ∷ other))
        → ((other : List ℕ) → IsClearRest space path i (limit ∷ other) → IsChoiceNotAbove path (i ∷ rest) (i ∷ limit ∷ other))
        → IsLeastRest space path (suc limit) i rest
    IsLeastRest-more clear below before here = record { clear = clear; below = below; not_above = not_above }
      where
        not_above : (other : List ℕ) → IsClearRest space path i other → BeginsBelow (suc limit) other → IsChoiceNotAbove path (i ∷ rest) (i ∷ other)
        not_above [] h low = before [] h tt
        not_above (j ∷ other) h low =
            elim (cases_lt j limit) [
              | inl less ↦ before (j ∷ other) h less
              | inr not ↦ (
                  let same : limit ≡ j = omega (arith, low, not) in
                  subst (λ k. IsChoiceNotAbove path (i ∷ rest) (i ∷ k ∷ other)) same
                  (here other (subst (λ k. IsClearRest space path i (k ∷ other)) (sym same) h)))
            ]

  -- what begins below a limit begins below a greater one
  BeginsBelow-more : (limit : ℕ) (rest : List ℕ) → BeginsBelow limit rest → BeginsBelow (suc limit) rest
  BeginsBelow-more limit [] h = tt
  BeginsBelow-more limit (j ∷ rest) h = omega (arith, h)

  -- the segment to the next position to begin with is not clear
  pub IsLeastRest-blocked : (limit i : ℕ) (rest : List ℕ) → IsLeastRest space path limit i rest
      → ¬ Clear space (path_point path i) (path_point path limit) → IsLeastRest space path (suc limit) i rest
  IsLeastRest-blocked limit i rest h blocked =
      IsLeastRest-more limit i rest h.clear (BeginsBelow-more limit rest h.below) h.not_above (λ other clear. absurd (blocked clear.1))

  -- it neither costs less, nor as much with fewer points
  pub IsLeastRest-keeps : (limit i j : ℕ) (rest on : List ℕ) → IsLeastRest space path limit i (j ∷ rest) → IsLeastRest space path (length path) limit on
      → ¬ ((cost_of_choice path (i ∷ limit ∷ on) < cost_of_choice path (i ∷ j ∷ rest))
      ⊎ ((cost_of_choice path (i ∷ limit ∷ on) ≡ cost_of_choice path (i ∷ j ∷ rest)) × (length (i ∷ limit ∷ on) < length (i ∷ j ∷ rest))))
      → IsLeastRest space path (suc limit) i (j ∷ rest)
  IsLeastRest-keeps limit i j rest on h from none =
      IsLeastRest-more limit i (j ∷ rest) h.clear (omega (arith, h.below)) h.not_above (λ other clear.
      IsChoiceNotAbove-trans path (i ∷ j ∷ rest) (i ∷ limit ∷ on) (i ∷ limit ∷ other) (IsChoiceNotAbove-earlier path i j limit rest on h.below none)
      (IsChoiceNotAbove-after path i limit on other (from.not_above other clear.2 (BeginsBelow-inside limit other clear.2))))

  -- it does, and its segment is clear
  pub IsLeastRest-takes : (limit i : ℕ) (rest on : List ℕ) → IsLeastRest space path limit i rest → IsLeastRest space path (length path) limit on
      → i < limit → Clear space (path_point path i) (path_point path limit)
      → (cost_of_choice path (i ∷ limit ∷ on) < cost_of_choice path (i ∷ rest))
      ⊎ ((cost_of_choice path (i ∷ limit ∷ on) ≡ cost_of_choice path (i ∷ rest)) × (length (i ∷ limit ∷ on) < length (i ∷ rest)))
      → IsLeastRest space path (suc limit) i (limit ∷ on)
  IsLeastRest-takes limit i rest on h from before clear less =
      IsLeastRest-more limit i (limit ∷ on) (before, clear, from.clear) (omega arith)
      (λ other clear below.
      IsChoiceNotAbove-trans path (i ∷ limit ∷ on) (i ∷ rest) (i ∷ other) (IsChoiceNotAbove-less path (i ∷ limit ∷ on) (i ∷ rest) less)
      (h.not_above other clear below))
      (λ other clear. IsChoiceNotAbove-after path i limit on other (from.not_above other clear.2 (BeginsBelow-inside limit other clear.2)))

  -- the next position alone to begin with
  pub IsLeastRest-first : (i : ℕ) (on : List ℕ) → IsLeastRest space path (length path) (suc i) on → Clear space (path_point path i) (path_point path (suc i))
      → IsLeastRest space path (suc (suc i)) i (suc i ∷ on)
  IsLeastRest-first i on from clear =
      IsLeastRest-more (suc i) i (suc i ∷ on) (omega arith, clear, from.clear) (omega arith) none
      (λ other clear. IsChoiceNotAbove-after path i (suc i) on other (from.not_above other clear.2 (BeginsBelow-inside (suc i) other clear.2)))
    where
      none : (other : List ℕ) → IsClearRest space path i other → BeginsBelow (suc i) other → IsChoiceNotAbove path (i ∷ suc i ∷ on) (i ∷ other)
      none [] h low = absurd (omega (arith, h, IsClearRest-inside (suc i) on from.clear))
      none (j ∷ other) h low = absurd (omega (arith, h.0, low))
