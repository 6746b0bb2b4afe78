-- A textbook run has a record for each mark, and goes on by one mark at its end.
use Rattle.std.proofs.Common.{◌≡◌, ℕ, suc, ◌+◌, List, [], ◌∷◌, ◌++◌, length, arith, refl, ap, subst}
use Rattle.plan_model.proofs.Words.{Point, Record, ending_of, Nodes, Setup, Handles, HandlesAll}
use Rattle.plan_model.proofs.DistinctPoints.{length-ends}

-- there are as many records as marks
pub HandlesAll-length :
    (setup : Setup) (k : ℕ) (tree : Nodes) (marks : List Point) (entries : List Record) (after : Nodes) → HandlesAll setup k tree marks entries after
    → length entries ≡ length marks
HandlesAll-length setup k tree [] [] after run = refl
HandlesAll-length setup k tree (m ∷ marks) (e ∷ entries) after run =
    ap suc (HandlesAll-length setup (k + 1) run.0 marks entries after run.2)
HandlesAll-length setup k tree [] (e ∷ entries) after run = absurd run
HandlesAll-length setup k tree (m ∷ marks) [] after run = absurd run

-- and a number more in the tree for each
pub HandlesAll-nodes :
    (setup : Setup) (k : ℕ) (tree : Nodes) (marks : List Point) (entries : List Record) (after : Nodes) → HandlesAll setup k tree marks entries after
    → length after ≡ length tree + length marks
HandlesAll-nodes setup k tree [] [] after run = omega (arith, ap length run)
HandlesAll-nodes setup k tree (mark ∷ marks) (entry ∷ entries) after (mid, one, rest) =
    omega (arith, HandlesAll-nodes setup (k + 1) mid marks entries after rest, length-ends setup tree k mark (ending_of entry) mid one.ends)
HandlesAll-nodes setup k tree [] (entry ∷ entries) after run = absurd run
HandlesAll-nodes setup k tree (mark ∷ marks) [] after run = absurd run

-- one more mark is handled after the others
pub HandlesAll-push :
    (setup : Setup) (k : ℕ) (tree : Nodes) (marks : List Point) (entries : List Record) (mid : Nodes) (mark : Point) (entry : Record) (after : Nodes)
    → HandlesAll setup k tree marks entries mid
    → Handles setup mid (k + length marks) mark entry after
    → HandlesAll setup k tree (marks ++ mark ∷ []) (entries ++ entry ∷ []) after
HandlesAll-push setup k tree [] [] mid mark entry after run last =
    let P : Nodes → Type 0 = λ t. Handles setup t k mark entry after in
    let Q : ℕ → Type 0 = λ n. Handles setup mid n mark entry after in
    let e : k + 0 ≡ k = omega arith in
    (after, subst P run (subst Q e last), refl)
HandlesAll-push setup k tree (m ∷ marks) (e ∷ entries) mid mark entry after run last =
    let Q : ℕ → Type 0 = λ n. Handles setup mid n mark entry after in
    let q : k + length (m ∷ marks) ≡ k + 1 + length marks = omega arith in
    (run.0, run.1, HandlesAll-push setup (k + 1) run.0 marks entries mid mark entry after run.2 (subst Q q last))
HandlesAll-push setup k tree [] (e ∷ entries) mid mark entry after run last = absurd run
HandlesAll-push setup k tree (m ∷ marks) [] mid mark entry after run last = absurd run
