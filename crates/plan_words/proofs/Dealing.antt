-- The world that a shared run begins with, and the passes of all workers, made one by one from the pass that stands for them all.
use Rattle.plan_words.proofs.Words.{◌≡◌, ℕ, zero, suc, ◌+◌, ◌-◌, ◌<◌, ◌≤◌, List, [], ◌∷◌, ◌++◌, length, Some, None, refl, sym, ap, ◌∙◌, subst, arith, All}
use Rattle.plan_words.proofs.Words.{All-cons, All-nil, TableId, skipping_goals, turns_of, state_of_grown, words_of_grown, HoldRun, record_at, sizes_of}
use Rattle.plan_words.proofs.Words.{state_of_words, sizes_in, IsLeastBest, Word, Words, WritesWord, Best, ChildOf, Count, Counter, FirstOf, PointOf, RecordOf}
use Rattle.plan_words.proofs.Words.{TreeOf, word_count, state-best, IsPassOf, StandsFor, each_after, BelongsTo, HoldsWorld, IsTableOf, IsTied}
use Rattle.plan_words.proofs.Words.{MayClaim, PassState, SharedState, StartsAs, first_member, first_view, new_pass, run_in, run_of_opening, with_view}
use Rattle.plan_words.proofs.Words.{without_best, Opening, crew_from, member_of, parted, second_alone, without_second, worker_apart, sees, IsLawfulView}
use Rattle.plan_words.proofs.Words.{IsLawfulView-world, IsWorld-started, Grown, SharedRun, WordPlaces}
use lib.ListN.{get_elem?}
use mathlib.Core.Option.{some, some-injective, some-ne-none}
use Rattle.grown_runs.specs.Table.WordPlaces.{word_at}

-- the workers from w on are w and those past it
crew-more : (run : SharedRun) (words : Words) (w n : ℕ) → w < n
    → crew_from run words w (n - w) ≡ member_of run words w ∷ crew_from run words (w + 1) (n - (w + 1))
crew-more run words w n low =
    let one_more : n - w ≡ suc (n - (w + 1)) = omega (arith, low) in
    ap (crew_from run words w) one_more

-- ---- the first world

module _ (opening : Opening) where
  sized : length opening.grown.words.list.items ≡ word_count (sizes_of opening.grown.task)
  sized = opening.grown.words.sized ∙ ap word_count opening.grown.of_task

  -- it has seen the words of the run
  pub sees-started : sees (first_view opening) ≡ words_of_grown opening.grown
  sees-started = ap (λ s. word_at s opening.grown.words.list.items) (sym opening.grown.of_task)

  pub HoldsWorld-started : HoldsWorld (run_of_opening opening) opening.grown.words.list.items (first_view opening ∷ [])
  HoldsWorld-started = record {
    sized = sized;
    world =
        IsWorld-started opening.grown.task opening.grown.limit opening.workers opening.grown.words.list.items sized
        (subst (HoldRun opening.grown.task opening.grown.limit) (sym sees-started) opening.grown.hold_run)
        (subst (λ words. IsLeastBest (skipping_goals opening.grown.task.scene) (state_of_words (sizes_of opening.grown.task) words) (words Best))
        (sym sees-started) opening.best)
        opening.some opening.few;
  }

  -- the law holds of the first view
  pub IsLawfulView-started : IsLawfulView (first_view opening)
  IsLawfulView-started =
      IsLawfulView-world (run_of_opening opening) (sees (first_view opening)) (first_view opening ∷ []) 0 (first_view opening)
      HoldsWorld-started.world refl refl

  -- the first pass works as worker 0
  pub IsTied-started :
      (turn : ℕ) → turn ≡ turns_of (record_at (words_of_grown opening.grown)) (length opening.grown.task.marks) 0
      → IsTied (first_view opening) (Some (record { worker = 0; turn = turn })) None
  IsTied-started turn is =
      let run = run_of_opening opening in
      let words = sees (first_view opening) in
      let all : opening.workers ≡ opening.workers - 0 = omega arith in
      record {
        member_is =
            ap (λ n. Some (record { worker = 0; turn = n }))
            (is ∙ ap (λ names. turns_of (record_at names) (length opening.grown.task.marks) 0) (sym sees-started))
            ∙ sym (ap first_member (ap (crew_from run words 0) all ∙ crew-more run words 0 opening.workers opening.some));
        hand_is = refl;
        lawful = IsLawfulView-started;
      }

  -- and the table is of this run
  pub IsTableOf-started :
      (table : TableId) (key : Opening) (places : WordPlaces) → table.words ≡ length opening.grown.words.list.items → table.slots ≡ 0 → key ≡ opening
      → places ≡ opening.grown.words.places → IsTableOf table key (run_of_opening opening) places
  IsTableOf-started table key places words slots key_is places_are = record {
    key_is = ap run_of_opening key_is;
    words = words ∙ sized;
    slots = slots;
    places_are = ap sizes_in places_are ∙ opening.grown.of_task;
    run_is = HoldsWorld-started.world.run_is;
  }

-- ---- one pass after another

-- at first it stands for all
pub StandsFor-all :
    (shared : SharedState) (first : PassState) → BelongsTo first shared
    → first.view.crew ≡ crew_from (run_in shared) (sees first.view) 0 shared.workers → first.view.hand ≡ None
    → first ≡ new_pass first.table first.view → StandsFor shared first 1 first
StandsFor-all shared first belongs crew hand lists =
    let some_worker : 0 < shared.workers = omega (arith, belongs.lawful.run.workers.0, ap (λ run. run.workers) belongs.run) in
    let all : shared.workers ≡ shared.workers - 0 = omega arith in
    record {
      belongs = belongs;
      crew =
          crew ∙ ap (crew_from (run_in shared) (sees first.view) 0) all
          ∙ crew-more (run_in shared) (sees first.view) 0 shared.workers some_worker;
      most = refl;
      hand = hand;
      seen = refl;
      best = refl;
      lists = lists;
    }

module _ (shared : SharedState) (first : PassState) (w : ℕ) (pass : PassState) (stands : StandsFor shared first w pass) where
  crew_here : w < shared.workers
      → pass.view.crew ≡ member_of (run_in shared) (sees first.view) 0 ∷ member_of (run_in shared) (sees first.view) w
      ∷ crew_from (run_in shared) (sees first.view) (w + 1) (shared.workers - (w + 1))
  crew_here low =
      stands.crew ∙ ap (λ crew. member_of (run_in shared) (sees first.view) 0 ∷ crew) (crew-more (run_in shared) (sees first.view) w shared.workers low)

  -- worker w is its second
  pub second-next : w < shared.workers → second_alone pass.view.crew ≡ member_of (run_in shared) (sees first.view) w ∷ []
  second-next low = ap second_alone (crew_here low)

  -- and gets a pass of its own
  pub StandsFor-next : (after : PassState) → w < shared.workers → BelongsTo after shared → after ≡ with_view pass (parted pass.view)
      → StandsFor shared first (w + 1) after
  StandsFor-next after low belongs is =
      subst (StandsFor shared first (w + 1)) (sym is) record {
        belongs = subst (λ p. BelongsTo p shared) is belongs;
        crew = ap without_second (crew_here low);
        most = stands.most;
        hand = stands.hand;
        seen = stands.seen;
        best = stands.best;
        lists = ap (λ p. with_view p (parted pass.view)) stands.lists;
      }

  pub IsPassOf-next : (other : PassState) → w < shared.workers → BelongsTo other shared → other ≡ new_pass pass.table (worker_apart pass.view)
      → IsPassOf shared first w other
  IsPassOf-next other low belongs is =
      subst (IsPassOf shared first w) (sym is)
      (subst (λ p. BelongsTo p shared) is belongs, second-next low, stands.most, refl, stands.seen, stands.best, refl)

  -- once all others have one, it stands for worker 0 alone
  pub IsPassOf-first : shared.workers ≤ w → IsPassOf shared first 0 pass
  IsPassOf-first past =
      let none : shared.workers - w ≡ 0 = omega (arith, past) in (
        stands.belongs,
        stands.crew ∙ ap (λ n. member_of (run_in shared) (sees first.view) 0 ∷ crew_from (run_in shared) (sees first.view) w n) none,
        stands.most,
        stands.hand,
        stands.seen,
        stands.best,
        stands.lists,
      )

-- ---- lists of passes

-- one more at the end
each-push :
    (has : ℕ → PassState → Type 0) (passes : List PassState) (last : PassState) → ((i : ℕ) (pass : PassState) → get_elem? passes i ≡ some pass → has i pass)
    → has (length passes) last → (i : ℕ) (pass : PassState) → get_elem? (passes ++ last ∷ []) i ≡ some pass → has i pass
each-push has [] last all own zero pass e = subst (has 0) (some-injective last pass e) own
each-push has [] last all own (suc i) pass e = absurd (some-ne-none pass (sym e))
each-push has (one ∷ passes) last all own zero pass e = all zero pass e
each-push has (one ∷ passes) last all own (suc i) pass e = each-push (λ j. has (suc j)) passes last (λ j. all (suc j)) own i pass e

pub each_after-push :
    (has : ℕ → PassState → Type 0) (passes after : List PassState) (last : PassState) (n : ℕ) → after ≡ passes ++ last ∷ [] → length passes + 1 ≡ n
    → each_after has passes → has n last → each_after has after
each_after-push has passes after last n is counted all own =
    subst (each_after has) (sym is)
    (each-push (λ i. has (i + 1)) passes last all (subst (λ j. has j last) (sym counted) own))

-- one more at the head
head : (has : ℕ → PassState → Type 0) (first : PassState) (passes : List PassState) → has 0 first → each_after has passes
    → (i : ℕ) (pass : PassState) → get_elem? (first ∷ passes) i ≡ some pass → has i pass
head has first passes own all zero pass e = subst (has 0) (some-injective first pass e) own
head has first passes own all (suc i) pass e =
    let next : i + 1 ≡ suc i = omega arith in
    subst (λ j. has j pass) next (all i pass e)

pub each-head :
    (has : ℕ → PassState → Type 0) (first : PassState) (passes after : List PassState) → after ≡ first ∷ passes → has 0 first → each_after has passes
    → (i : ℕ) (pass : PassState) → get_elem? after i ≡ some pass → has i pass
each-head has first passes after is own all i pass e = head has first passes own all i pass (ap (λ l. get_elem? l i) (sym is) ∙ e)

-- ---- the passes that a run starts with

pub StartsAs-pass :
    (shared : SharedState) (grown : Grown) (first : PassState) (w : ℕ) (pass : PassState)
    → without_best (sees first.view) ≡ without_best (words_of_grown grown) → first.view.most ≡ grown.limit
    → IsLeastBest (skipping_goals grown.task.scene) (state_of_grown grown) first.view.best → IsPassOf shared first w pass → StartsAs shared grown w pass
StartsAs-pass shared grown first w pass seen most best is = record {
  belongs = is.0;
  crew = is.1 ∙ ap (λ words. member_of (run_in shared) words w ∷ []) seen;
  most = is.2 ∙ most;
  hand = is.3;
  seen = ap without_best is.4 ∙ seen;
  best = subst (IsLeastBest (skipping_goals grown.task.scene) (state_of_grown grown)) (sym is.5) best;
  lists = is.6;
}

-- whatever is written to the best word, the others are as they were
pub without_best-written : (words after : Words) (x : ℕ) → WritesWord Best x words after → without_best after ≡ without_best words
without_best-written words after x writes = λ t name. sym (each name) t
  where
    each : (name : Word) → without_best words name ≡ without_best after name
    each Best = refl
    each Count = sym (writes.others Count (λ e. cc))
    each (Counter g) = sym (writes.others (Counter g) (λ e. cc))
    each (PointOf n) = sym (writes.others (PointOf n) (λ e. cc))
    each (ChildOf n side) = sym (writes.others (ChildOf n side) (λ e. cc))
    each (TreeOf n) = sym (writes.others (TreeOf n) (λ e. cc))
    each (FirstOf n) = sym (writes.others (FirstOf n) (λ e. cc))
    each (RecordOf k) = sym (writes.others (RecordOf k) (λ e. cc))

-- what is written is the least pair of the run that it is written for, too
pub IsLeastBest-written :
    (grown after : Grown) → after.task ≡ grown.task → WritesWord Best (words_of_grown after Best) (words_of_grown grown) (words_of_grown after)
    → IsLeastBest (skipping_goals grown.task.scene) (state_of_grown grown) (words_of_grown after Best)
    → IsLeastBest (skipping_goals after.task.scene) (state_of_grown after) (words_of_grown after Best)
IsLeastBest-written grown after task writes least =
    let sizes = ap sizes_of task in
    let state : state_of_grown after ≡ state_of_grown grown =
    ap (λ s. state_of_words s (words_of_grown after)) sizes ∙ state-best (words_of_grown grown) (words_of_grown after) _ writes (sizes_of grown.task) in
    subst (λ t. IsLeastBest (skipping_goals t.scene) (state_of_grown after) (words_of_grown after Best)) (sym task)
    (subst (λ s. IsLeastBest (skipping_goals grown.task.scene) s (words_of_grown after Best)) (sym state) least)

-- each may claim a mark
pub MayClaim-starts :
    (shared : SharedState) (grown : Grown) (passes : List PassState)
    → ((w : ℕ) (pass : PassState) → get_elem? passes w ≡ some pass → (n : ℕ) × StartsAs shared grown n pass) → All (MayClaim shared) passes
MayClaim-starts shared grown [] starts = All-nil (MayClaim shared)
MayClaim-starts shared grown (pass ∷ passes) starts =
    let first = (starts 0 pass refl).1 in
    All-cons (MayClaim shared) pass passes
    (record { belongs = first.belongs; part = subst (λ l. 0 < length l) (sym first.crew) (omega arith); idle = first.hand })
    (MayClaim-starts shared grown passes (λ w. starts (suc w)))
