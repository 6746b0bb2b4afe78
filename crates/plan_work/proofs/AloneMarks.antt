-- What a pass that works alone sees, from mark to mark.
use Rattle.plan_work.proofs.Words.{◌≡◌, ◌≢◌, ℕ, suc, ◌+◌, ◌<◌, Some, List, [], ◌∷◌, ◌++◌, length, take, arith, refl, sym, ap, ◌∙◌, subst, inl, inr, slice_get}
use Rattle.plan_work.proofs.Words.{cases_eq, mark_at, Handles, IsTextbookRun, Nodes, Record, RecordsMark-push, record_at, Word, FirstOf, PointOf, RecordOf}
use Rattle.plan_work.proofs.Words.{TreeOf, record_of_word, HasPostedGoals, PassState, SharedState, HasPostedGoals-step, HasRecorded, SeesTextbook, WorksAlone}
use Rattle.plan_work.proofs.Words.{SeesButCount, IsLater, one_turn_more, sees, setup_in, Hand, Member, SharedRun, View, Mirrors}
use Rattle.plan_work.proofs.MirroredTrees.{Mirrors-still}
use Rattle.plan_work.proofs.RecordedMarks.{others_still}
use Rattle.plan_work.proofs.TextbookSteps.{IsTextbookRun-push, RecordsNext-run}

-- ---- the same mark

pub WorksAlone-still : (before after : View) (k : ℕ) → after.run ≡ before.run → after.crew ≡ before.crew → WorksAlone before k → WorksAlone after k
WorksAlone-still before after k run crew alone = record {
  whole = ap (λ members. length members) crew ∙ alone.whole ∙ ap (λ (r : SharedRun). r.workers) (sym run);
  crew = crew ∙ alone.crew;
}

-- a record goes by its own word and the first word of its node
record_still : (before after : View) (j : ℕ) → sees after (RecordOf j) ≡ sees before (RecordOf j) → sees after (FirstOf (suc j)) ≡ sees before (FirstOf (suc j))
    → record_at (sees after) j ≡ record_at (sees before) j
record_still before after j record_is first_is = λ t. record_of_word (record_is t) (first_is t)

-- no word that tells of the tree or the records is seen anew
pub SeesTextbook-kept :
    (before after : View) (k : ℕ) → IsLater before after → ((n : ℕ) → sees after (PointOf n) ≡ sees before (PointOf n))
    → ((n : ℕ) → sees after (TreeOf n) ≡ sees before (TreeOf n)) → ((j : ℕ) → sees after (RecordOf j) ≡ sees before (RecordOf j))
    → ((j : ℕ) → sees after (FirstOf (suc j)) ≡ sees before (FirstOf (suc j))) → SeesTextbook before k → SeesTextbook after k
SeesTextbook-kept before after k later points trees records firsts book = record {
  tree = book.tree;
  records = book.records;
  run = subst (λ (r : SharedRun). IsTextbookRun (setup_in r) (take k r.marks) book.tree book.records) (sym later.run) book.run;
  nodes = Mirrors-still before after later.run points trees book.tree book.nodes;
  recorded = λ j. record_still before after j (records j) (firsts j) ∙ book.recorded j;
  best = HasPostedGoals-step before after later points (λ n goal changed. absurd (changed (trees n))) book.best;
}

pub SeesTextbook-still : (before after : View) (k : ℕ) → IsLater before after → SeesButCount before after → SeesTextbook before k → SeesTextbook after k
SeesTextbook-still before after k later same =
    SeesTextbook-kept before after k later (λ n. same (PointOf n) (λ e. cc)) (λ n. same (TreeOf n) (λ e. cc)) (λ j. same (RecordOf j) (λ e. cc))
    (λ j. same (FirstOf (suc j)) (λ e. cc))

-- ---- the next mark

-- From one view to a later one the run, the crew and the records stay; so do first words, but that of this mark's node.
pub record KeepsRun (begun mid : View) (k : ℕ) : Type 0 where
  pub run : mid.run ≡ begun.run
  pub crew : mid.crew ≡ begun.crew
  pub records : (j : ℕ) → sees mid (RecordOf j) ≡ sees begun (RecordOf j)
  pub firsts : (j : ℕ) → j ≢ k → sees mid (FirstOf (suc j)) ≡ sees begun (FirstOf (suc j))

pub KeepsRun-refl : (view : View) (k : ℕ) → KeepsRun view view k
KeepsRun-refl view k = record { run = refl; crew = refl; records = λ j. refl; firsts = λ j apart. refl }

module _
    (shared : SharedState) (begun : View) (mid done : PassState) (hand : Hand) (k : ℕ) (entry : Record) (recorded : HasRecorded shared mid done entry)
    (held : mid.view.hand ≡ Some hand) (mark : hand.mark ≡ k) (kept : KeepsRun begun mid.view k) where
  below : k < length begun.run.marks
  below = omega (arith, recorded.goes_on.was_lawful.mark hand held, mark, ap (λ (r : SharedRun). length r.marks) kept.run)

  still : (name : Word) → name ≢ RecordOf hand.mark → sees done.view name ≡ sees mid.view name
  still name apart =
      others_still mid.view done.view hand entry held (ap (λ (p : PassState). p.view) (recorded.view hand held)) recorded.goes_on.was_lawful name apart

  -- the worker has had its turn
  pub WorksAlone-recorded : WorksAlone begun k → WorksAlone done.view (suc k)
  WorksAlone-recorded alone =
      let one : k + 1 ≡ suc k = omega arith in
      let own_turn : ℕ → List Member = λ turn. record { worker = 0; turn = turn } ∷ [] in
      let own : mid.view.crew ≡ record { worker = 0; turn = k } ∷ [] = kept.crew ∙ alone.crew in
      let crew : done.view.crew ≡ record { worker = 0; turn = suc k } ∷ [] =
      ap (λ (p : PassState). p.view.crew) (recorded.view hand held) ∙ ap one_turn_more own ∙ ap own_turn one in
      let run : done.view.run ≡ begun.run = recorded.goes_on.later.run ∙ kept.run in
      record {
        whole =
            ap (λ (members : List Member). length members) crew ∙ sym (ap (λ (members : List Member). length members) alone.crew) ∙ alone.whole
            ∙ ap (λ (r : SharedRun). r.workers) (sym run);
        crew = crew;
      }

  -- And if the mark was handled as in the textbook, the run has come past it.
  pub SeesTextbook-recorded :
      (book : SeesTextbook begun k) (now : Nodes) → Handles (setup_in begun.run) book.tree k (mark_at begun.run.marks k) entry now
      → Mirrors mid.view now → HasPostedGoals mid.view → SeesTextbook done.view (suc k)
  SeesTextbook-recorded book now handles mirrors posted =
      let run : done.view.run ≡ begun.run = recorded.goes_on.later.run ∙ kept.run in
      let next = RecordsNext-run (setup_in begun.run) begun.run.marks k book.tree book.records (omega (arith, below)) book.run in
      let pushed = RecordsMark-push book.tree book.records k entry next in
      record {
        tree = now;
        records = book.records ++ entry ∷ [];
        run =
            subst (λ (r : SharedRun). IsTextbookRun (setup_in r) (take (suc k) r.marks) now (book.records ++ entry ∷ [])) (sym run)
            (IsTextbookRun-push (setup_in begun.run) begun.run.marks k book.tree book.records (omega (arith, below)) book.run below entry now handles);
        nodes =
            Mirrors-still mid.view done.view recorded.goes_on.later.run (λ n. still (PointOf n) (λ e. cc)) (λ n. still (TreeOf n) (λ e. cc)) now mirrors;
        best =
            HasPostedGoals-step mid.view done.view recorded.goes_on.later (λ n. still (PointOf n) (λ e. cc))
            (λ n goal changed. absurd (changed (still (TreeOf n) (λ e. cc)))) posted;
        recorded = λ j.
            elim (cases_eq j k) [
              | inl e ↦
                  ap (record_at (sees done.view)) (e ∙ sym mark) ∙ recorded.stored hand held ∙ sym pushed.recorded
                  ∙ ap (slice_get (book.records ++ entry ∷ [])) (sym e)
              | inr apart ↦
                  let record_is = still (RecordOf j) (λ e. apart (let same : j ≡ hand.mark = cc in same ∙ mark)) ∙ kept.records j in
                  let first_is = still (FirstOf (suc j)) (λ e. cc) ∙ kept.firsts j apart in
                  record_still begun done.view j record_is first_is ∙ book.recorded j ∙ sym (pushed.others j apart)
            ];
      }
