-- The text of a line of counts as words and numbers one after another.
use Rattle.report_judge.proofs.Words.{◌≡◌, ℕ, List, ◌∷◌, ◌++◌, Option, Some, append_assoc, decimal, codes, line, field, line_text, skipped_count, Counts, Tally}

-- the line from the count of blocked marks on
abbrev pub last_counts : ℕ → Option ℕ → List ℕ → List ℕ
last_counts blocked skipped rest = line (codes "blocked" ∷ decimal blocked ∷ skipped_count skipped) ++ rest

front : (nodes placed same : ℕ) (more : List (List ℕ)) (rest : List ℕ)
    → line (
    codes "nodes" ∷ decimal nodes ∷ codes "placed" ∷ decimal placed ∷ codes "same" ∷ decimal same ∷ codes "blocked" ∷ more
    )
    ++ rest
    ≡ field (codes "nodes ") nodes 32 (field (codes "placed ") placed 32 (field (codes "same ") same 32 (line (codes "blocked" ∷ more) ++ rest)))
front nodes placed same more rest = simp append_assoc

pub parts-counts : (tally : Tally) (rest : List ℕ) → line_text (Counts tally) ++ rest
    ≡ field (codes "nodes ") tally.nodes 32
    (field (codes "placed ") tally.placed 32 (field (codes "same ") tally.same 32 (last_counts tally.blocked tally.skipped rest)))
parts-counts tally rest = front tally.nodes tally.placed tally.same (decimal tally.blocked ∷ skipped_count tally.skipped) rest

pub parts-skipped : (blocked skipped : ℕ) (rest : List ℕ) → last_counts blocked (Some skipped) rest
    ≡ field (codes "blocked ") blocked 32 (field (codes "skipped ") skipped 10 rest)
parts-skipped blocked skipped rest = simp append_assoc
