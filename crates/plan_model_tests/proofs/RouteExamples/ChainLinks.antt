-- Which links and chains are in order.
use Rattle.plan_model_tests.proofs.Words.{◌≡◌, ℕ, zero, suc, Some, None, false, List, [], ◌∷◌, Option, slice_get, arith, refl, sym, ap, ◌∙◌, subst, Placed}
use Rattle.plan_model_tests.proofs.Words.{Record, IsNeighbour, Setup, point_of, TreeState, IsChain, IsChainInOrder, IsLinkInOrder, unwrap_or, is_placed-true}
use Rattle.plan_model_tests.proofs.Words.{Outcome, is_placed}
use Rattle.plan_model_tests.proofs.Decisions.{are_equal, both, by_test, either, given}
use Rattle.plan_model_tests.proofs.OrderDecisions.{Clears}
use Rattle.plan_model_tests.proofs.RecordDecisions.{is_neighbour}

-- no link in order leads to the start
pub none_to_start : (setup : Setup) (state : TreeState) (i : ℕ) → ¬ IsLinkInOrder setup state i 0
none_to_start setup state i link = omega (arith, link.number)

module _ (setup : Setup) (state : TreeState) (i k : ℕ) where
  -- the record of a link is that of its later node
  pub record_is : (link : IsLinkInOrder setup state i (suc k)) → state.record_of k ≡ Some link.entry
  record_is link = ap state.record_of (let mark : k ≡ link.mark = omega (arith, link.number) in mark) ∙ link.recorded

  pub none_recorded : state.record_of k ≡ None → ¬ IsLinkInOrder setup state i (suc k)
  none_recorded none link = let e = record_is link in cc

  module _ (entry : Record) (recorded : state.record_of k ≡ Some entry) where
    pub entry_is : (link : IsLinkInOrder setup state i (suc k)) → link.entry ≡ entry
    entry_is link = ap (λ o. unwrap_or {T = Record} o entry) (sym (record_is link) ∙ recorded)

    pub placed-link : IsLinkInOrder setup state i (suc k) → entry.outcome ≡ Placed
    placed-link link = subst (λ r. r.outcome ≡ Placed) (entry_is link) link.placed

    pub neighbour-link : IsLinkInOrder setup state i (suc k) → IsNeighbour setup state entry entry.class (point_of state.points (suc k)) i
    neighbour-link link = subst (λ r. IsNeighbour setup state r r.class (point_of state.points (suc k)) i) (entry_is link) link.neighbour

pub not-placed : (outcome : Outcome) → is_placed outcome ≡ false → ¬ (outcome ≡ Placed)
not-placed outcome e h = let own = ap is_placed h in cc

module _ (setup : Setup) (clears : Clears setup.space) (state : TreeState) (records : List Record) (is : state.record_of ≡ slice_get records) where
  abbrev pub link_by : (i k : ℕ) (o : Option Record) → state.record_of k ≡ o → Dec (IsLinkInOrder setup state i (suc k))
  link_by i k None e = no (none_recorded setup state i k e)
  link_by i k (Some entry) e =
      given (by_test (is_placed entry.outcome) (is_placed-true entry.outcome) (not-placed entry.outcome)) (placed-link setup state i k entry e) (λ a.
      given (is_neighbour setup clears state records is entry entry.class (point_of state.points (suc k)) i) (neighbour-link setup state i k entry e) (λ b.
      yes (record { mark = k; number = refl; entry = entry; recorded = e; placed = a; neighbour = b })))

  abbrev pub is_link : (i n : ℕ) → Dec (IsLinkInOrder setup state i n)
  is_link i zero = no (none_to_start setup state i)
  is_link i (suc k) = link_by i k (state.record_of k) refl

  abbrev pub is_chain_in_order : (nodes : List ℕ) → Dec (IsChainInOrder setup state nodes)
  is_chain_in_order [] = no (λ h. h)
  is_chain_in_order (n ∷ []) = are_equal n 0
  is_chain_in_order (n ∷ i ∷ earlier) = both (is_link i n) (is_chain_in_order (i ∷ earlier))

  abbrev pub is_chain : (n : ℕ) (nodes : List ℕ) → Dec (IsChain setup state n nodes)
  is_chain n [] = are_equal n 0
  is_chain n (i ∷ earlier) = both (either (is_link i n) (is_link n i)) (is_chain_in_order (i ∷ earlier))
