-- A textbook run up to one of its marks: the run over the marks before it, and how the mark is handled there.
use Rattle.route_laws.proofs.Words.{◌≡◌, ℕ, zero, suc, ◌+◌, List, [], ◌∷◌, ◌++◌, length, Option, Some, arith, refl, sym, ap, ◌∙◌, subst, append_assoc}
use Rattle.route_laws.proofs.Words.{slice_get, append-nil}
use Rattle.route_laws.proofs.Common.{Point, Record, ending_of, Handles, HandlesAll, Nodes}
use Rattle.route_laws.proofs.Common.{Setup, points_of, points_of-ends}

-- no node moves, and numbers are added at the end
abbrev AddsPoints : Nodes → Nodes → Type 0
AddsPoints tree after = (more : List (Option Point)) × (points_of after ≡ points_of tree ++ more)

AddsPoints-trans : (one mid other : Nodes) → AddsPoints one mid → AddsPoints mid other → AddsPoints one other
AddsPoints-trans one mid other (more, e) (rest, f) = (more ++ rest, f ∙ ap (λ points. points ++ rest) e ∙ append_assoc (points_of one) more rest)

AddsPoints-all :
    (setup : Setup) (k : ℕ) (tree : Nodes) (marks : List Point) (entries : List Record) (after : Nodes) → HandlesAll setup k tree marks entries after
    → AddsPoints tree after
AddsPoints-all setup k tree [] [] after run = ([], ap points_of run ∙ sym (append-nil (points_of tree)))
AddsPoints-all setup k tree [] (entry ∷ entries) after run = absurd run
AddsPoints-all setup k tree (mark ∷ marks) [] after run = absurd run
AddsPoints-all setup k tree (mark ∷ marks) (entry ∷ entries) after run =
    let one = points_of-ends setup tree k mark (ending_of entry) run.0 run.1.ends in
    AddsPoints-trans tree run.0 after (one.0 ∷ [], one.1)
    (AddsPoints-all setup (k + 1) run.0 marks entries after run.2)

-- The run from mark k on comes to the i-th mark, which has this record: the marks and the records before it, and the tree there.
pub record ComesTo (setup : Setup) (k : ℕ) (begin : Nodes) (marks : List Point) (entries : List Record) (end : Nodes) (i : ℕ) (entry : Record) : Type 0 where
  pub done : List Point
  pub mark : Point
  pub rest : List Point
  pub marks_are : marks ≡ done ++ mark ∷ rest
  pub so_many : length done ≡ i
  pub records : List Record
  pub tree : Nodes
  pub run : HandlesAll setup k begin done records tree
  pub recorded : (j : ℕ) (own : Record) → slice_get records j ≡ Some own → slice_get entries j ≡ Some own
  pub after : Nodes
  pub handled : Handles setup tree (k + i) mark entry after
  pub points : (more : List (Option Point)) × (points_of end ≡ points_of tree ++ more)

pub ComesTo-each :
    (setup : Setup) (k : ℕ) (begin : Nodes) (marks : List Point) (entries : List Record) (end : Nodes) → HandlesAll setup k begin marks entries end
    → (i : ℕ) (entry : Record) → slice_get entries i ≡ Some entry → ComesTo setup k begin marks entries end i entry
ComesTo-each setup k begin [] [] end run i entry h = cc
ComesTo-each setup k begin [] (own ∷ entries) end run i entry h = absurd run
ComesTo-each setup k begin (mark ∷ marks) [] end run i entry h = absurd run
ComesTo-each setup k begin (mark ∷ marks) (own ∷ entries) end run zero entry h =
    let e : own ≡ entry = cc in
    let none : k ≡ k + 0 = omega arith in
    record {
      done = [];
      mark = mark;
      rest = marks;
      marks_are = refl;
      so_many = refl;
      records = [];
      tree = begin;
      run = refl;
      recorded = λ j other g. cc;
      after = run.0;
      handled = subst (λ n. Handles setup begin n mark entry run.0) none (subst (λ r. Handles setup begin k mark r run.0) e run.1);
      points = AddsPoints-all setup k begin (mark ∷ marks) (own ∷ entries) end run;
    }
ComesTo-each setup k begin (mark ∷ marks) (own ∷ entries) end run (suc i) entry h =
    let later = ComesTo-each setup (k + 1) run.0 marks entries end run.2 i entry h in
    let same : (k + 1) + i ≡ k + suc i = omega arith in
    record {
      done = mark ∷ later.done;
      mark = later.mark;
      rest = later.rest;
      marks_are = ap (λ ms. mark ∷ ms) later.marks_are;
      so_many = ap suc later.so_many;
      records = own ∷ later.records;
      tree = later.tree;
      run = (run.0, run.1, later.run);
      recorded = recorded_before own entries later.records later.recorded;
      after = later.after;
      handled = subst (λ n. Handles setup later.tree n later.mark entry later.after) same later.handled;
      points = later.points;
    }
  where
    recorded_before :
        (first : Record) (all some : List Record) → ((j : ℕ) (other : Record) → slice_get some j ≡ Some other → slice_get all j ≡ Some other)
        → (j : ℕ) (other : Record) → slice_get (first ∷ some) j ≡ Some other → slice_get (first ∷ all) j ≡ Some other
    recorded_before first all some each zero other g = g
    recorded_before first all some each (suc j) other g = each j other g
