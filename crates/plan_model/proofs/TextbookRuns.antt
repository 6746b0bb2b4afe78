-- A textbook run is closed at the number of its marks.
use Rattle.plan_model.proofs.Words.{◌≡◌, ℕ, suc, ◌+◌, ◌<◌, List, [], ◌∷◌, ◌++◌, length, arith, refl, sym, ap, ◌∙◌, subst, append-nil, get_or-append_seam, Point}
use Rattle.plan_model.proofs.Words.{Record, ClearAt, state_of, mark_at, IsClosed, Nodes, Setup, start_alone, HandlesAll, IsTextbookRun}
use Rattle.std.proofs.Common.{length-append, append_assoc}
use Rattle.plan_model.proofs.TextbookStates.{IsClosed-start}
use Rattle.plan_model.proofs.TextbookMarks.{IsTextbookSoFar, IsTextbookSoFar-ends}

-- before its first mark a run is closed
so_far_start : (setup : Setup) (marks : List Point) → ClearAt setup.space setup.start → IsTextbookSoFar setup marks 0 (start_alone setup.start) []
so_far_start setup marks clear = record {
  next = record { nodes = refl; marks = refl };
  closed = IsClosed-start setup marks clear;
  numbered = λ j own h. cc;
}

-- A run that has come past some marks comes past the others.
so_far_all :
    (setup : Setup) (done marks : List Point) (k : ℕ) (tree : Nodes) (records entries : List Record) (after : Nodes) → length done ≡ k
    → IsTextbookSoFar setup (done ++ marks) k tree records → HandlesAll setup k tree marks entries after
    → IsTextbookSoFar setup (done ++ marks) (length (done ++ marks)) after (records ++ entries)
so_far_all setup done [] k tree records [] after number so_far run =
    let all : List Point = done ++ [] in
    let end : k ≡ length all = sym number ∙ ap length (sym (append-nil done)) in
    let now = subst (λ t. IsTextbookSoFar setup all k t records) (sym run) so_far in
    let here = subst (λ n. IsTextbookSoFar setup all n after records) end now in
    subst (λ rs. IsTextbookSoFar setup all (length all) after rs) (sym (append-nil records)) here
so_far_all setup done [] k tree records (entry ∷ entries) after number so_far run = absurd run
so_far_all setup done (mark ∷ marks) k tree records [] after number so_far run = absurd run
so_far_all setup done (mark ∷ marks) k tree records (entry ∷ entries) after number so_far (mid, handled, later) =
    let all : List Point = done ++ mark ∷ marks in
    let below : k < length all = omega (arith, number, length-append done (mark ∷ marks)) in
    let at : mark ≡ mark_at all k =
    sym (ap (mark_at all) (sym number) ∙ get_or-append_seam done mark marks (record { x = 0; y = 0 })) in
    let next = IsTextbookSoFar-ends setup all k tree records entry mid so_far mark below at handled in
    let same : all ≡ (done ++ mark ∷ []) ++ marks = sym (append_assoc done (mark ∷ []) marks) in
    let more : length (done ++ mark ∷ []) ≡ suc k = omega (arith, length-append done (mark ∷ []), number) in
    let one : k + 1 ≡ suc k = omega arith in
    let rest = subst (λ n. HandlesAll setup n mid marks entries after) one later in
    let next_same = subst (λ ms. IsTextbookSoFar setup ms (suc k) mid (records ++ entry ∷ [])) same next in
    let end = so_far_all setup (done ++ mark ∷ []) marks (suc k) mid (records ++ entry ∷ []) entries after more next_same rest in
    let end_same = subst (λ ms. IsTextbookSoFar setup ms (length ms) after ((records ++ entry ∷ []) ++ entries)) (sym same) end in
    subst (λ rs. IsTextbookSoFar setup all (length all) after rs) (append_assoc records (entry ∷ []) entries) end_same

-- A textbook run from a clear start is closed at the number of its marks, with each node at its sum.
pub IsClosed-textbook :
    (setup : Setup) (marks : List Point) (tree : Nodes) (records : List Record) → ClearAt setup.space setup.start
    → IsTextbookRun setup marks tree records → IsClosed setup marks (length marks) (state_of tree records)
IsClosed-textbook setup marks tree records clear run =
    (so_far_all setup [] marks 0 (start_alone setup.start) [] records tree refl (so_far_start setup marks clear) run).closed
