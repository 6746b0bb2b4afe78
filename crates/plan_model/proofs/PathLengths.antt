-- What a path costs, from either end.
use Rattle.plan_model.proofs.Words.{◌≡◌, ◌+◌, List, [], ◌∷◌, ◌++◌, reverse, arith, refl, sym, ap, ◌∙◌, reverse-append, Point, cost_of, length_of_path}
use Rattle.std.proofs.lemmas.List.{append_assoc}
use Rattle.plan_model.proofs.CostLaws.{cost_of-swap}

-- one point more at the end of a path costs one edge more
length_of_path-push :
    (path : List Point) (q p : Point) → length_of_path (path ++ (q ∷ p ∷ [])) ≡ length_of_path (path ++ (q ∷ [])) + cost_of p q
length_of_path-push [] q p = omega arith
length_of_path-push (a ∷ []) q p = omega arith
length_of_path-push (a ∷ b ∷ path) q p = let rest = length_of_path-push (b ∷ path) q p in omega (arith, rest)

reverse-cons : (p : Point) (path : List Point) → reverse (p ∷ path) ≡ reverse path ++ (p ∷ [])
reverse-cons p path = reverse-append (p ∷ []) path

-- a path costs the same backwards
pub length_of_path-reverse : (path : List Point) → length_of_path (reverse path) ≡ length_of_path path
length_of_path-reverse [] = refl
length_of_path-reverse (p ∷ []) = refl
length_of_path-reverse (p ∷ q ∷ path) =
    let two : reverse (p ∷ q ∷ path) ≡ reverse path ++ (q ∷ p ∷ []) =
    reverse-cons p (q ∷ path) ∙ ap (λ ps. ps ++ (p ∷ [])) (reverse-cons q path) ∙ append_assoc (reverse path) (q ∷ []) (p ∷ []) in
    let one = ap length_of_path two ∙ length_of_path-push (reverse path) q p in
    let rest = ap length_of_path (sym (reverse-cons q path)) ∙ length_of_path-reverse (q ∷ path) in
    let swap = cost_of-swap p q in
    omega (arith, one, rest, swap)
