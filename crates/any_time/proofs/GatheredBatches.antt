-- One poll more before a batch's items.
use Rattle.any_time.proofs.Words.{◌≡◌, ◌≢◌, ◌<◌, ◌++◌, ℕ, Bool, true, false, List, [], ◌∷◌, length, get_or, set, length-set, get_or-set_same, get_or-set_other}
use Rattle.any_time.proofs.Words.{Some, None, Ok, Err, inl, nat_eq, if◌then◌else◌, refl, sym, ap, subst, ◌∙◌, arith, append_assoc, append-nil, nat_tests, Ready}
use Rattle.any_time.proofs.Words.{Pending, Memory, GathersBatch, BatchPolls, BatchState, IsBatchOver, Better}

pub after_pending : (b u c : BatchState) (xs ys : List (List Better)) → BatchPolls b Pending u → GathersBatch u xs c ys → GathersBatch b xs c ys
after_pending b u c xs ys p h =
    record { answers = Pending ∷ h.answers; polled = (u, p, h.polled); over = h.over; count = h.count; each = h.each }

none_yet : (xs : List (List Better)) (number : ℕ) → number < length xs → get_or xs number [] ≡ get_or xs number [] ++ []
none_yet xs number within = sym (append-nil (get_or xs number []))

pub at_end : (b c : BatchState) (xs : List (List Better)) → BatchPolls b (Ready None) c → GathersBatch b xs c xs
at_end b c xs p =
    record { answers = Ready None ∷ []; polled = (c, p, refl); over = subst IsBatchOver (sym p.1) p.0; count = refl; each = none_yet xs }

pub at_memory : (b c : BatchState) (e : Memory) (xs : List (List Better)) → BatchPolls b (Ready (Some (Err e))) c → GathersBatch b xs c xs
at_memory b c e xs p =
    record { answers = Ready (Some (Err e)) ∷ []; polled = (c, p, refl); over = inl p.1; count = refl; each = none_yet xs }

-- the list of a number, whether or not it is the item's
longer : (xs : List (List Better)) (ys : List Better) (n number : ℕ) (better : Better) (rest : List Better) (is : Bool) → nat_eq n number ≡ is
    → number < length xs → ys ≡ get_or (set xs n (get_or xs n [] ++ better ∷ [])) number [] ++ rest
    → ys ≡ get_or xs number [] ++ (if is then better ∷ rest else rest)
longer xs ys n number better rest true test within e =
    let same : n ≡ number = grind (arith, nat_tests) in
    let low : n < length xs = omega (arith, same, within) in
    let P : ℕ → Type 0 = λ m. get_or (set xs n (get_or xs n [] ++ better ∷ [])) m [] ≡ get_or xs m [] ++ better ∷ [] in
    let here = subst P same (get_or-set_same xs n _ [] low) in
    e ∙ (ap (λ (zs : List Better). zs ++ rest) here ∙ append_assoc (get_or xs number []) (better ∷ []) rest)
longer xs ys n number better rest false test within e =
    let apart : number ≢ n = grind (arith, nat_tests) in
    e ∙ ap (λ (zs : List Better). zs ++ rest) (get_or-set_other xs n number _ [] apart)

pub after_item : (b u c : BatchState) (n : ℕ) (better : Better) (xs ys : List (List Better)) → BatchPolls b (Ready (Some (Ok (n, better)))) u
    → GathersBatch u (set xs n (get_or xs n [] ++ better ∷ [])) c ys → GathersBatch b xs c ys
after_item b u c n better xs ys p h = record {
  answers = Ready (Some (Ok (n, better))) ∷ h.answers;
  polled = (u, p, h.polled);
  over = h.over;
  count = h.count ∙ length-set xs n _;
  each = λ number within. longer xs (get_or ys number []) n number better _ (nat_eq n number) refl within (h.each number (rw length-set within));
}
