-- The report of a batch, from scene to scene.
use Rattle.any_time.proofs.Words.{◌≡◌, ◌<◌, ◌+◌, ◌++◌, ◌&&◌, ℕ, suc, Bool, List, ◌∷◌, All, length, get_or, drop, take, sym, ap, subst, ◌∙◌, arith, append_assoc}
use Rattle.any_time.proofs.Words.{drop_more, list_all_more, list_all, IsSettled, state_of_grown, Grown, has_path, batch_report, scene_report, Better}

module _ (runs : List Grown) (i : ℕ) (run : Grown) (within : i < length runs) (run_is : run ≡ get_or runs i run) where
  pub settled_at : All (λ r. IsSettled (state_of_grown r)) runs → IsSettled (state_of_grown run)
  settled_at all = subst (λ (r : Grown). IsSettled (state_of_grown r)) (sym run_is) (all i run within)

  -- whether each run has a path, with one run more
  pub one_path_more : (so_far : Bool) → so_far ≡ list_all has_path (take i runs) → (so_far && has_path run) ≡ list_all has_path (take (i + 1) runs)
  one_path_more so_far is =
      ap (λ (r : Grown). so_far && has_path r) run_is
      ∙ (ap (λ (b : Bool). b && has_path (get_or runs i run)) is ∙ sym (list_all_more has_path runs i run within))

  -- what is left from number i on begins with the report of the scene with this number
  module _ (lists : List (List Better)) (items : List Better) (long : length lists ≡ length runs) (items_are : items ≡ get_or lists i items) where
    split : batch_report i (drop i lists) (drop i runs) ≡ scene_report i items run ++ batch_report (i + 1) (drop (i + 1) lists) (drop (i + 1) runs)
    split =
        let listed : i < length lists = omega (arith, long, within) in
        let next : suc i ≡ i + 1 = omega arith in
        ap (λ (ls : List (List Better)). batch_report i ls (drop i runs)) (drop_more lists i items listed)
        ∙ (ap (λ (rs : List Grown). batch_report i (get_or lists i items ∷ drop (i + 1) lists) rs) (drop_more runs i run within)
        ∙ (ap (λ (ys : List Better). scene_report i ys (get_or runs i run) ++ batch_report (suc i) (drop (i + 1) lists) (drop (i + 1) runs)) (sym items_are)
        ∙ (ap (λ (r : Grown). scene_report i items r ++ batch_report (suc i) (drop (i + 1) lists) (drop (i + 1) runs)) (sym run_is)
        ∙ ap (λ n. scene_report i items run ++ batch_report n (drop (i + 1) lists) (drop (i + 1) runs)) next)))

    pub one_scene_more : (text more whole : List ℕ) → more ≡ text ++ scene_report i items run → text ++ batch_report i (drop i lists) (drop i runs) ≡ whole
        → more ++ batch_report (i + 1) (drop (i + 1) lists) (drop (i + 1) runs) ≡ whole
    one_scene_more text more whole is kept =
        let rest = batch_report (i + 1) (drop (i + 1) lists) (drop (i + 1) runs) in
        ap (λ (zs : List ℕ). zs ++ rest) is
        ∙ (append_assoc text (scene_report i items run) rest ∙ (ap (λ (zs : List ℕ). text ++ zs) (sym split) ∙ kept))
