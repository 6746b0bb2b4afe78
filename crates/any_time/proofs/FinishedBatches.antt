-- What the sessions of a batch have come to, once it is at its end.
use Rattle.any_time.proofs.Words.{◌≡◌, ◌<◌, ◌++◌, ℕ, zero, suc, List, [], ◌∷◌, length, map, get_or, Some, false, inl, inr, refl, sym, ap, ◌∙◌, arith}
use Rattle.any_time.proofs.Words.{length-map, Task, Grown, AllEmpty, GathersBatch, HasFinished, betters_of, AllOver, BatchState, IsBatchOver, Gathers, IsFresh}
use Rattle.any_time.proofs.Words.{SessionState, Better}
use Rattle.any_time.proofs.GatheredItems.{AreBetterPaths-gathered, EndsWith-gathered}
use Rattle.any_time.proofs.ItemsOfSessions.{items_of_sessions}

-- the runs by number
run_at : (ss : List SessionState) (runs : List Grown) (i : ℕ) (s : SessionState) (run : Grown) → map (λ (t : SessionState). t.run) ss ≡ map Some runs
    → i < length runs → (get_or ss i s).run ≡ Some (get_or runs i run)
run_at [] [] i s run e within = absurd (omega arith)
run_at [] (r ∷ runs) i s run e within = cc
run_at (t ∷ ss) [] i s run e within = cc
run_at (t ∷ ss) (r ∷ runs) zero s run e within = cc
run_at (t ∷ ss) (r ∷ runs) (suc i) s run e within =
    let f : map (λ (u : SessionState). u.run) ss ≡ map Some runs = cc in run_at ss runs i s run f (omega arith)

all_over : (b : BatchState) → IsBatchOver b → b.failed ≡ false → AllOver b.sessions
all_over b over fine = elim over [ inl failed ↦ cc | inr all ↦ all ]

module _ (b c : BatchState) (xs ys : List (List Better)) (runs : List Grown) (h : GathersBatch b xs c ys)
    (same : map (λ (t : SessionState). t.run) c.sessions ≡ map Some runs) where
  stay : length c.sessions ≡ length b.sessions
  stay = (items_of_sessions b c h.answers h.polled).0

  pub count_of : length runs ≡ length b.sessions
  count_of = let counted : length c.sessions ≡ length runs = simp length-map at (ap length same) in sym counted ∙ stay

  -- the polls of one session
  of_session : AllEmpty xs → length xs ≡ length b.sessions → c.failed ≡ false → (i : ℕ) (s : SessionState) → i < length b.sessions
      → Gathers (get_or b.sessions i s) [] (get_or c.sessions i s) (get_or ys i [])
  of_session empty wide fine i s within =
      let of_i = (items_of_sessions b c h.answers h.polled).1 i s within in
      let listed : i < length xs = omega (arith, within, wide) in
      let items = h.each i listed ∙ ap (λ (zs : List Better). zs ++ betters_of i h.answers) (empty i listed) in
      (of_i.0, of_i.1, all_over c h.over fine i s (omega (arith, within, stay)), items ∙ sym of_i.2)

  pub finished : AllEmpty xs → length xs ≡ length b.sessions → c.failed ≡ false → (task : Task) (workers slice i : ℕ) (s : SessionState) (run : Grown)
      → i < length b.sessions → IsFresh task workers slice (get_or b.sessions i s)
      → HasFinished task workers slice (get_or ys i []) (get_or runs i run)
  finished empty wide fine task workers slice i s run within fresh =
      let gathers = of_session empty wide fine i s within in
      let there = run_at c.sessions runs i s run same (omega (arith, within, count_of)) in
      record {
        ended = EndsWith-gathered task workers slice _ _ [] _ _ refl fresh gathers there;
        better = AreBetterPaths-gathered task workers slice _ _ [] _ _ refl fresh gathers there;
      }
