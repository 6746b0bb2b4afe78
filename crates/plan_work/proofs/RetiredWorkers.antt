-- What is left of the passes of workers, once these have worked.
use Rattle.plan_work.proofs.Words.{◌≡◌, ℕ, zero, suc, ◌<◌, List, length, ap, ◌∙◌, sym, subst, arith, refl, Some, ◌++◌, [], ◌∷◌, All, All-cons, IsSome}
use Rattle.plan_work.proofs.Words.{append_assoc, option_to_list, slice_index_or, take-append_seam, AllFull, GoesOn, MayClaim, PassState, SharedState}
use Rattle.plan_work.proofs.Words.{new_pass, HandlesRest, HasDone, HasLeft, HasStopped, HasWorked, IsReady, left_by, left_of, workers_with}
use Rattle.plan_work.proofs.Words.{Worker, Away, Stopped, Working}
use lib.ListN.{drop, take}

MayClaim-left : (shared : SharedState) (pass : PassState) → MayClaim shared pass → MayClaim shared (new_pass pass.table pass.view)
MayClaim-left shared pass may = record {
  belongs = record { table = may.belongs.table; run = may.belongs.run; lawful = may.belongs.lawful };
  part = may.part;
  idle = may.idle;
}

-- A pass that has worked has done so when its lists are given back.
pub HasDone-left :
    (shared : SharedState) (limit : ℕ) (before after left : PassState) → GoesOn before.view after.view → HasWorked shared before after limit
    → AllFull after.view limit → (shared.workers ≡ 1 → HandlesRest before.view after.view limit) → left ≡ new_pass after.table after.view
    → HasDone shared limit before left
HasDone-left shared limit before after left goes_on worked full textbook is =
    subst (HasDone shared limit before) (sym is)
    (record {
      goes_on = goes_on;
      worked = record {
        may_claim = MayClaim-left shared after worked.may_claim;
        same_share = worked.same_share;
        worker = worked.worker;
        most = worked.most;
      };
      none_left = full;
      textbook = textbook;
    })

-- ---- all of them

-- each worker is ready whose pass may claim
pub all_ready : (shared : SharedState) (passes : List PassState) → All (MayClaim shared) passes → All (IsReady shared) (workers_with passes)
all_ready shared [] may k d low = absurd (omega (arith, low))
all_ready shared (pass ∷ passes) may zero d low = record { pass = pass; has = cc; may_claim = may 0 pass (omega arith) }
all_ready shared (pass ∷ passes) may (suc k) d low =
    all_ready shared passes (λ j e below. may (suc j) e (omega (arith, below))) k d (omega (arith, low))

-- What is left of a worker whose pass is known.
record IsLeftBy (shared : SharedState) (limit : ℕ) (pass : PassState) (after : Worker) : Type 0 where
  left : PassState
  has : left_by after ≡ Some left
  done : HasDone shared limit pass left

IsLeftBy-stopped :
    (shared : SharedState) (limit : ℕ) (pass : PassState) (after : Worker)
    → HasStopped shared limit (Working pass) after → IsLeftBy shared limit pass after
IsLeftBy-stopped shared limit pass after stopped =
    let same : stopped.pass ≡ pass = (let had = stopped.had in cc) in
    record {
      left = stopped.left;
      has = ap left_by stopped.has;
      done = subst (λ p. HasDone shared limit p stopped.left) same stopped.done;
    }

-- Of as many workers as passes, each of which has stopped, as much is left, and that of each has done its part.
pub record HaveStopped (shared : SharedState) (limit : ℕ) (passes : List PassState) (crew : List Worker) : Type 0 where
  pub stopped : All HasLeft crew
  pub count : length (left_of crew) ≡ length passes
  pub done : (k : ℕ) (d : PassState) → k < length passes → HasDone shared limit (slice_index_or passes k d) (slice_index_or (left_of crew) k d)

pub have_stopped :
    (shared : SharedState) (limit : ℕ) (passes : List PassState) (crew : List Worker) → length crew ≡ length (workers_with passes)
    → ((k : ℕ) (d : Worker) → k < length (workers_with passes) → HasStopped shared limit (slice_index_or (workers_with passes) k d) (slice_index_or crew k d))
    → HaveStopped shared limit passes crew
have_stopped shared limit [] [] same each = record {
  stopped = λ k d low. absurd (omega (arith, low));
  count = omega arith;
  done = λ k d low. absurd (omega (arith, low));
}
have_stopped shared limit [] (worker ∷ crew) same each = absurd (omega (arith, same))
have_stopped shared limit (pass ∷ passes) [] same each = absurd (omega (arith, same))
have_stopped shared limit (pass ∷ passes) (worker ∷ crew) same each =
    let first = IsLeftBy-stopped shared limit pass worker (each 0 worker (omega arith)) in
    let rest = have_stopped shared limit passes crew (omega (arith, same)) (λ k d low. each (suc k) d (omega (arith, low))) in
    let here : option_to_list (left_by worker) ≡ first.left ∷ [] = ap (λ o. option_to_list o) first.has in
    let all : left_of (worker ∷ crew) ≡ first.left ∷ left_of crew = ap (λ l. l ++ left_of crew) here in
    record {
      stopped = All-cons HasLeft worker crew (subst (λ o. IsSome o) (sym first.has) refl) rest.stopped;
      count = omega (arith, ap (λ (l : List PassState). length l) all, rest.count);
      done = λ k d low. subst (λ l. HasDone shared limit (slice_index_or (pass ∷ passes) k d) (slice_index_or l k d)) (sym all)
          (each_done first.left first.done rest.done k d low);
    }
  where
    each_done :
        (left : PassState) → HasDone shared limit pass left
        → ((k : ℕ) (d : PassState) → k < length passes → HasDone shared limit (slice_index_or passes k d) (slice_index_or (left_of crew) k d))
        → (k : ℕ) (d : PassState) → k < suc (length passes)
        → HasDone shared limit (slice_index_or (pass ∷ passes) k d) (slice_index_or (left ∷ left_of crew) k d)
    each_done left own others zero d low = own
    each_done left own others (suc k) d low = others k d (omega (arith, low))

-- So they have if they were ready with these passes.
pub have_stopped-ready :
    (shared : SharedState) (limit : ℕ) (passes : List PassState) (ready worked : List Worker) → ready ≡ workers_with passes
    → length worked ≡ length ready
    → ((k : ℕ) (d : Worker) → k < length ready → HasStopped shared limit (slice_index_or ready k d) (slice_index_or worked k d))
    → HaveStopped shared limit passes worked
have_stopped-ready shared limit passes ready worked is same each =
    have_stopped shared limit passes worked (same ∙ ap (λ (l : List Worker). length l) is)
    (subst (λ l. (k : ℕ) (d : Worker) → k < length l → HasStopped shared limit (slice_index_or l k d) (slice_index_or worked k d)) is each)

-- what is written over a whole list is the list then
pub whole_list : (size : ℕ) (worked made : List Worker) → length worked ≡ size → take size (worked ++ drop (length worked) made) ≡ worked
whole_list size worked made same =
    ap (λ n. take n (worked ++ drop (length worked) made)) (sym same) ∙ take-append_seam worked (drop (length worked) made)

-- ---- one after another

-- what is left of some, and of the one that comes next
pub left_of-append : (front back : List Worker) → left_of (front ++ back) ≡ left_of front ++ left_of back
left_of-append [] back = cc
left_of-append (worker ∷ front) back =
    ap (λ l. option_to_list (left_by worker) ++ l) (left_of-append front back)
    ∙ sym (append_assoc (option_to_list (left_by worker)) (left_of front) (left_of back))

pub left_of-last :
    (all rest : List Worker) (last : Worker) (left : PassState) → all ≡ rest ++ last ∷ [] → left_by last ≡ Some left
    → left_of all ≡ left_of rest ++ left ∷ []
left_of-last all rest last left is has =
    ap left_of is ∙ left_of-append rest (last ∷ []) ∙ ap (λ o. left_of rest ++ (option_to_list o ++ [])) has

-- a worker with something left has stopped
pub has_left : (worker : Worker) → HasLeft worker → ((left : PassState) → worker ≡ Stopped left → ⊥) → ⊥
has_left (Working pass) has not = cc
has_left (Stopped left) has not = not left refl
has_left Away has not = cc
