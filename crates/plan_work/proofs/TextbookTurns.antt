-- The records of a textbook run are all of worker 0, one for each mark, so its next turn is the number of marks.
use Rattle.plan_work.proofs.Words.{◌≡◌, ℕ, zero, suc, ◌+◌, ◌<◌, ◌≤◌, true, List, [], ◌∷◌, length, Option, sym, ap, ◌∙◌, inl, inr, arith, slice_get, cases_lt}
use Rattle.plan_work.proofs.Words.{eq-eqb, slice_get_past, HandlesAll, Nodes, Setup, is_of_worker, turns_of, Point, Record, count-all, count-longer, count-same}
use Rattle.plan_work.proofs.Words.{HandlesAll-length}

-- each of worker 0
worker-textbook : (setup : Setup) (k : ℕ) (tree : Nodes) (marks : List Point) (entries : List Record) (after : Nodes)
    → HandlesAll setup k tree marks entries after → (j : ℕ) → j < length entries → is_of_worker 0 (slice_get entries j) ≡ true
worker-textbook setup k tree [] [] after run j low = absurd (omega (arith, low))
worker-textbook setup k tree [] (entry ∷ entries) after run j low = absurd run
worker-textbook setup k tree (mark ∷ marks) [] after run j low = absurd run
worker-textbook setup k tree (mark ∷ marks) (entry ∷ entries) after run zero low =
    eq-eqb entry.worker 0 run.1.worker
worker-textbook setup k tree (mark ∷ marks) (entry ∷ entries) after run (suc j) low =
    worker-textbook setup (k + 1) run.0 marks entries after run.2 j (omega (arith, low))

-- So worker 0 has had as many turns as there are marks.
pub turns-textbook :
    (setup : Setup) (k : ℕ) (tree : Nodes) (marks : List Point) (entries : List Record) (after : Nodes) (record_of : ℕ → Option Record) (most : ℕ)
    → HandlesAll setup k tree marks entries after → ((j : ℕ) → record_of j ≡ slice_get entries j) → length marks ≤ most
    → turns_of record_of most 0 ≡ length marks
turns-textbook setup k tree marks entries after record_of most run same within =
    let many = HandlesAll-length setup k tree marks entries after run in
    count-same (λ j. is_of_worker 0 (record_of j)) (λ j. is_of_worker 0 (slice_get entries j)) most (λ j low. ap (is_of_worker 0) (same j))
    ∙ count-longer (λ j. is_of_worker 0 (slice_get entries j)) (length marks) most within below
    ∙ count-all (λ j. is_of_worker 0 (slice_get entries j)) (length marks)
    (λ j low. worker-textbook setup k tree marks entries after run j (omega (arith, low, many)))
  where
    below : (j : ℕ) → is_of_worker 0 (slice_get entries j) ≡ true → j < length marks
    below j own =
        elim (cases_lt j (length marks)) [
          | inl low ↦ low
          | inr past ↦ (
              let many = HandlesAll-length setup k tree marks entries after run in
              let none = ap (is_of_worker 0) (slice_get_past entries j (omega (arith, past, many))) in
              let no = sym own ∙ none in
              cc)
        ]
