-- The standings of a worker's nodes, turn by turn.
use Rattle.report_judge.proofs.Words.{◌≡◌, ℕ, zero, suc, ◌+◌, ◌<◌, true, List, [], ◌∷◌, ◌++◌, length, Option, Some, None, arith, refl, sym, ap, ◌∙◌, slice_get}
use Rattle.report_judge.proofs.Words.{slice_index_or, get_or_append_left, Record, Knot, state_of_lists, AreMarksByTurn, HaveOwnTurns, IsMarkOfTurn, is_before}
use Rattle.report_judge.proofs.Words.{AreStandings, no_standing, place_of, standing_at, standing_of, turns_to, Standing}
use Rattle.std.specs.Prelude.{IfNone, IfSome}
use Rattle.report_judge.proofs.Workers.OwnNodeLaws.{placed_before}

-- the node of a mark; the start's number where there is none
abbrev pub node_of_mark : Option ℕ → ℕ
node_of_mark None = 0
node_of_mark (Some mark) = suc mark

pub node_of_some : (node : ℕ) (o : Option ℕ) → IfNone o (node ≡ 0) → IfSome o (λ m. node ≡ suc m) → node ≡ node_of_mark o
node_of_some node None none some = none
node_of_some node (Some mark) none some = some

-- one standing more leaves those before it
pub standing_pushed : (standings : List Standing) (own : Standing) (place : ℕ) → place < length standings
    → standing_at (standings ++ own ∷ []) place ≡ standing_at standings place
standing_pushed standings own place low = get_or_append_left standings (own ∷ []) no_standing place low

-- by the list of marks each node before a turn is that of its turn
own_mark : (records : List Record) (worker turn mark : ℕ) (entry : Record) → HaveOwnTurns records → slice_get records mark ≡ Some entry
    → entry.worker ≡ worker → entry.turn ≡ turn → (o : Option ℕ) → IsMarkOfTurn records worker turn o → node_of_mark o ≡ suc mark
own_mark records worker turn mark entry own at mine now None told = absurd (told mark entry at (record { worker = mine; turn = now }))
own_mark records worker turn mark entry own at mine now (Some k) told =
    ap suc (own k mark told.0 entry told.1 at (told.2.worker ∙ sym mine) (told.2.turn ∙ sym now))

pub AreStandings-all : (knots : List (Option Knot)) (records : List Record) (worker : ℕ) (order : List (Option ℕ)) (standings : List Standing)
    → HaveOwnTurns records → AreMarksByTurn records worker order → length standings ≡ length order + 1
    → standing_at standings 0 ≡ standing_of (state_of_lists knots records) 0
    → ((turn : ℕ) → turn < length order
    → standing_at standings (suc turn) ≡ standing_of (state_of_lists knots records) (node_of_mark (slice_index_or order turn None)))
    → AreStandings (state_of_lists knots records) worker (length order) standings
AreStandings-all knots records worker order standings own marks long start each = record { long = omega (arith, long); each = by_node }
  where
    by_node : (n : ℕ) → is_before worker (length order) (slice_get records) n ≡ true
        → standing_at standings (place_of (slice_get records) n) ≡ standing_of (state_of_lists knots records) n
    by_node zero before = start
    by_node (suc k) before =
        let there = placed_before worker (length order) (slice_get records k) before in
        let node = own_mark records worker there.entry.turn k there.entry own there.is there.mine refl (slice_index_or order there.entry.turn None)
        (marks there.entry.turn there.low) in
        ap (standing_at standings) (ap turns_to there.is) ∙ each there.entry.turn there.low ∙ ap (standing_of (state_of_lists knots records)) node
