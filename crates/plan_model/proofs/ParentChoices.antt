-- The choice of a parent: the least pair of cost and number among the nodes that were looked at.
use Rattle.plan_model.proofs.Words.{◌≡◌, ℕ, List, [], ◌∷◌, ◌++◌, Option, arith, refl, sym, subst, inl, inr, ◌⊎◌, Contains, Contains-append_left, Contains-push}
use Rattle.plan_model.proofs.Words.{Contains-push_cases, Point, Clear, ConfigurationSpace, IsNotAbove, IsFirstLeast, IsOpenTo, point_of}
use Rattle.plan_model.proofs.LeastPairLaws.{IsNotAbove-refl, IsNotAbove-trans}

module _ (space : ConfigurationSpace) (points : List (Option Point)) (p : Point) where
  -- an open node of one number more was open before, or has that number
  open_cases :
      (among more : List ℕ) (n i : ℕ) → more ≡ among ++ n ∷ [] → IsOpenTo space points p more i → IsOpenTo space points p among i ⊎ (n ≡ i)
  open_cases among more n i e h = elim (Contains-push_cases among n i (subst (λ ns. Contains ns i) e h.among)) [
    | inl before ↦ inl (record { among = before; clear = h.clear })
    | inr last ↦ inr last
  ]

  -- what was open before is so still
  still_open : (among more : List ℕ) (n i : ℕ) → more ≡ among ++ n ∷ [] → IsOpenTo space points p among i → IsOpenTo space points p more i
  still_open among more n i e h = record {
    among = subst (λ ns. Contains ns i) (sym e) (Contains-append_left among (n ∷ []) i h.among);
    clear = h.clear;
  }

  -- the last number is open if its edge is clear
  last_open : (among more : List ℕ) (n : ℕ) → more ≡ among ++ n ∷ [] → Clear space (point_of points n) p → IsOpenTo space points p more n
  last_open among more n e h = record { among = subst (λ ns. Contains ns n) (sym e) (Contains-push among n); clear = h }

  -- one node alone is the best
  pub IsFirstLeast-alone : (key : ℕ → ℕ) (n : ℕ) → Clear space (point_of points n) p → IsFirstLeast key (IsOpenTo space points p (n ∷ [])) n
  IsFirstLeast-alone key n h = record {
    member = last_open [] (n ∷ []) n refl h;
    not_above = λ i own. elim (open_cases [] (n ∷ []) n i refl own) [
      | inl none ↦ absurd (omega (arith, none.among.1))
      | inr last ↦ subst (IsNotAbove key n) last (IsNotAbove-refl key n)
    ];
  }

  -- one node more, which is open and not above the best
  pub IsFirstLeast-takes :
      (key : ℕ → ℕ) (among more : List ℕ) (n best : ℕ) → more ≡ among ++ n ∷ [] → Clear space (point_of points n) p → IsNotAbove key n best
      → IsFirstLeast key (IsOpenTo space points p among) best → IsFirstLeast key (IsOpenTo space points p more) n
  IsFirstLeast-takes key among more n best e clear wins h = record {
    member = last_open among more n e clear;
    not_above = λ i own. elim (open_cases among more n i e own) [
      | inl before ↦ IsNotAbove-trans key n best i wins (h.not_above i before)
      | inr last ↦ subst (IsNotAbove key n) last (IsNotAbove-refl key n)
    ];
  }

  -- one node more, which is not open or loses against the best
  pub IsFirstLeast-keeps :
      (key : ℕ → ℕ) (among more : List ℕ) (n best : ℕ) → more ≡ among ++ n ∷ [] → (Clear space (point_of points n) p → IsNotAbove key best n)
      → IsFirstLeast key (IsOpenTo space points p among) best → IsFirstLeast key (IsOpenTo space points p more) best
  IsFirstLeast-keeps key among more n best e loses h = record {
    member = still_open among more n best e h.member;
    not_above = λ i own. elim (open_cases among more n i e own) [
      | inl before ↦ h.not_above i before
      | inr last ↦ subst (IsNotAbove key best) last (loses (subst (λ j. Clear space (point_of points j) p) (sym last) own.clear))
    ];
  }
