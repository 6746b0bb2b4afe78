-- What a session gives after polls that gave nothing, and what all of its items are then.
use Rattle.path_watch.proofs.Words.{◌≡◌, ℕ, zero, suc, List, [], ◌∷◌, ◌++◌, append-nil, Option, Some, None, Result, Ok, Err, refl, ap, subst, ◌∙◌}
use Rattle.path_watch.proofs.Words.{FoldsTo-push, FoldsTo, Poll, Ready, Pending, Memory, ArePolled, Answers, betters_among, Polls, SessionState, Better}
use Rattle.path_watch.proofs.Words.{Comes, pendings}

-- ---- one poll more before an item
pub Comes-given : (s t : SessionState) (item : Option (Result Better Memory)) → Polls s (Ready item) t → Comes s item t
Comes-given s t item p = record { count = 0; between = s; waits = refl; gives = p }

pub Comes-pending : (s u t : SessionState) (item : Option (Result Better Memory)) → Polls s Pending u → Comes u item t → Comes s item t
Comes-pending s u t item p h = record { count = suc h.count; between = h.between; waits = (u, p, h.waits); gives = h.gives }

-- ---- all items
pushed : (answers : Answers) (answer : Poll (Option (Result Better Memory)))
    → betters_among (answers ++ answer ∷ []) ≡ betters_among answers ++ betters_among (answer ∷ [])
pushed [] answer = refl
pushed (Pending ∷ answers) answer = pushed answers answer
pushed (Ready None ∷ answers) answer = pushed answers answer
pushed (Ready (Some (Ok item)) ∷ answers) answer = ap (λ items. item ∷ items) (pushed answers answer)
pushed (Ready (Some (Err e)) ∷ answers) answer = pushed answers answer

module _ (s : SessionState) (items : List Better) where
  one_poll : (t u : SessionState) (answer : Poll (Option (Result Better Memory))) → ArePolled s items t → Polls t answer u
      → ArePolled s (items ++ betters_among (answer ∷ [])) u
  one_poll t u answer h p = (
    h.0 ++ answer ∷ [],
    FoldsTo-push Polls s h.0 t answer u h.1 p,
    pushed h.0 answer ∙ ap (λ xs. xs ++ betters_among (answer ∷ [])) h.2,
  )

  no_more : (t : SessionState) → ArePolled s (items ++ []) t → ArePolled s items t
  no_more t h = subst (λ (xs : List Better). ArePolled s xs t) (append-nil items) h

  waited : (n : ℕ) (t u : SessionState) → ArePolled s items t → FoldsTo Polls t (pendings n) u → ArePolled s items u
  waited zero t u h w = subst (ArePolled s items) w h
  waited (suc n) t u h w = waited n w.0 u (no_more w.0 (one_poll t w.0 Pending h w.1)) w.2

  pub ArePolled-item : (t u : SessionState) (item : Better) → ArePolled s items t → Comes t (Some (Ok item)) u → ArePolled s (items ++ item ∷ []) u
  ArePolled-item t u item h c = one_poll c.between u (Ready (Some (Ok item))) (waited c.count t c.between h c.waits) c.gives

  pub ArePolled-end : (t u : SessionState) → ArePolled s items t → Comes t None u → ArePolled s items u
  ArePolled-end t u h c = no_more u (one_poll c.between u (Ready None) (waited c.count t c.between h c.waits) c.gives)
