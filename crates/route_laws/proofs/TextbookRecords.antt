-- The records of a textbook run: that of mark k is of worker 0 in its turn k, and a mark that ended where a node stood did so at one that
-- an earlier mark gave, or at the start.
use Rattle.route_laws.proofs.Words.{◌≡◌, ℕ, zero, suc, ◌+◌, ◌≤◌, List, [], ◌∷◌, length, Some, arith, refl, subst, slice_get}
use Rattle.route_laws.proofs.Common.{Point, Same, Record, ending_as, ending_of, Ends, Handles}
use Rattle.route_laws.proofs.Common.{HandlesAll, IsTextbookRun, Nodes, Setup, length-ends, start_alone, points_of}
use Rattle.route_laws.proofs.Common.{IsPresent-stands, present_below}

-- The record is of worker 0 in turn k, and names no node that mark k or a later one gives.
pub record IsInTurn (k : ℕ) (entry : Record) : Type 0 where
  pub worker : entry.worker ≡ 0
  pub turn : entry.turn ≡ k
  pub stood : (j : ℕ) → entry.outcome ≡ Same j → j ≤ k

IsInTurn-handled :
    (setup : Setup) (tree : Nodes) (k : ℕ) (mark : Point) (entry : Record) (after : Nodes)
    → Handles setup tree k mark entry after → length tree ≡ suc k → IsInTurn k entry
IsInTurn-handled setup tree k mark entry after e h = record {
  worker = e.worker;
  turn = e.turn;
  stood = λ j same.
      let own = subst (λ o. Ends setup tree k mark (ending_as entry o) after) same e.ends in
      omega (arith, h, present_below tree j (IsPresent-stands (points_of tree) j own.point own.reaches.0));
}

-- each record from mark k on
in_turn_from :
    (setup : Setup) (k : ℕ) (tree : Nodes) (marks : List Point) (entries : List Record) (after : Nodes) → HandlesAll setup k tree marks entries after
    → length tree ≡ suc k → (i : ℕ) (entry : Record) → slice_get entries i ≡ Some entry → IsInTurn (k + i) entry
in_turn_from setup k tree [] [] after run nodes i entry h = cc
in_turn_from setup k tree [] (own ∷ entries) after run nodes i entry h = absurd run
in_turn_from setup k tree (mark ∷ marks) [] after run nodes i entry h = absurd run
in_turn_from setup k tree (mark ∷ marks) (own ∷ entries) after run nodes zero entry h =
    let none : k + 0 ≡ k = omega arith in
    let e : entry ≡ own = cc in
    rw (none, e) (IsInTurn-handled setup tree k mark own run.0 run.1 nodes)
in_turn_from setup k tree (mark ∷ marks) (own ∷ entries) after run nodes (suc i) entry h =
    let same : (k + 1) + i ≡ k + suc i = omega arith in
    let later : length run.0 ≡ suc (k + 1) = omega (arith, nodes, length-ends setup tree k mark (ending_of own) run.0 run.1.ends) in
    subst (λ n. IsInTurn n entry) same (in_turn_from setup (k + 1) run.0 marks entries after run.2 later i entry h)

pub IsInTurn-textbook :
    (setup : Setup) (marks : List Point) (tree : Nodes) (records : List Record) → IsTextbookRun setup marks tree records
    → (k : ℕ) (entry : Record) → slice_get records k ≡ Some entry → IsInTurn k entry
IsInTurn-textbook setup marks tree records run k entry h =
    let none : 0 + k ≡ k = omega arith in
    subst (λ n. IsInTurn n entry) none (in_turn_from setup 0 (start_alone setup.start) marks records tree run refl k entry h)
