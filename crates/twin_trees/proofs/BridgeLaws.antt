-- There is one bridge between two trees, or none.
use Rattle.twin_trees.proofs.Words.{◌≡◌, ℕ, Option, Some, None, arith, refl, sym, Setup, TreeState, IsBridge, IsTripleNotAbove}

-- two triples of which neither is above the other have the same numbers
same_numbers : (cost a b other_cost c d : ℕ) → IsTripleNotAbove cost a b other_cost c d → IsTripleNotAbove other_cost c d cost a b
    → (a ≡ c) × (b ≡ d)
same_numbers cost a b other_cost c d there back =
    let as_much : other_cost ≡ cost = omega (arith, there.least, back.least) in
    let first : a ≡ c = omega (arith, there.first as_much, back.first (sym as_much)) in
    (first, omega (arith, there.second as_much (sym first), back.second (sym as_much) first))

pub IsBridge-same : (setup : Setup) (one other : TreeState) (bridge found : Option (ℕ × ℕ)) → IsBridge setup one other bridge
    → IsBridge setup one other found → bridge ≡ found
IsBridge-same setup one other None None is_bridge is_found = refl
IsBridge-same setup one other None (Some pair) is_bridge is_found = absurd (is_bridge pair.0 pair.1 is_found.member)
IsBridge-same setup one other (Some pair) None is_bridge is_found = absurd (is_found pair.0 pair.1 is_bridge.member)
IsBridge-same setup one other (Some pair) (Some twin) is_bridge is_found =
    let same = same_numbers _ _ _ _ _ _ (is_bridge.not_above twin.0 twin.1 is_found.member) (is_found.not_above pair.0 pair.1 is_bridge.member) in
    λ i. Some (same.0 i, same.1 i)
