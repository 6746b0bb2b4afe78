-- Rewiring the near nodes that are dearer than through the new one is rewiring all: the others would stay as they are.
use Rattle.tree_rewire.proofs.Words.{◌≡◌, ◌≢◌, ℕ, zero, suc, ◌+◌, ◌-◌, ◌<◌, ◌≤◌, Bool, true, false, cond, List, [], ◌∷◌, arith, inl, inr, refl, sym, ap, subst}
use Rattle.tree_rewire.proofs.Words.{All, Contains, filter, cases_eq, All-contains, All-head, All-tail, ConfigurationSpace, cost_of, Nodes, Rewires, RewiresOne}
use Rattle.tree_rewire.proofs.Words.{cost_through, AreTight, CostsFall, edge_of, parent_of, points_of, sum_of, AreDistinct, IsPresent, point_of, AreTight-sums}
use Rattle.tree_rewire.proofs.Words.{Contains-after, Contains-first, CostsFall-cheaper_parent, CostsFall-tight, HasCheaperParent, IsPresent-cheaper_parent}
use Rattle.tree_rewire.proofs.Words.{edge_from, parent_kept, parent_new, points_of-cheaper_parent}

-- ---- one node is rewired

module _ (tree after : Nodes) (i n fall : ℕ) (falls : CostsFall (sum_of tree) tree) (change : HasCheaperParent (sum_of tree) tree i n fall after) where
  tight : AreTight (sum_of tree) tree
  tight = AreTight-sums (sum_of tree) (points_of tree) (parent_of tree) falls

  falls_after : CostsFall (sum_of tree) after
  falls_after = CostsFall-cheaper_parent (sum_of tree) tree i n fall after change falls

  tight_after : AreTight (sum_of after) after
  tight_after = AreTight-sums (sum_of tree) (points_of after) (parent_of after) falls_after

  still_present : (j : ℕ) → IsPresent (points_of tree) j → IsPresent (points_of after) j
  still_present = IsPresent-cheaper_parent (sum_of tree) tree i n fall after change

  edge_is : (j m : ℕ) → parent_of after j ≡ m → edge_of after j ≡ cost_of (point_of (points_of tree) m) (point_of (points_of tree) j)
  edge_is = edge_from (sum_of tree) tree i n fall after change

  -- node i costs what its new parent costs and the edge,
  sum_exchanged : (j : ℕ) → suc j ≡ i → IsPresent (points_of tree) (suc j)
      → sum_of after (suc j) ≡ sum_of after n + cost_of (point_of (points_of tree) n) (point_of (points_of tree) (suc j))
  sum_exchanged j e h =
      let parent = parent_new (sum_of tree) tree i n fall after change (suc j) e in
      omega (arith, tight_after.edges j (still_present (suc j) h), ap (sum_of after) parent, edge_is (suc j) n parent)

  -- and every other node what its own parent costs and the edge
  sum_kept : (j : ℕ) → suc j ≢ i → IsPresent (points_of tree) (suc j)
      → sum_of after (suc j)
      ≡ sum_of after (parent_of tree (suc j)) + cost_of (point_of (points_of tree) (parent_of tree (suc j))) (point_of (points_of tree) (suc j))
  sum_kept j apart h =
      let parent = parent_kept (sum_of tree) tree i n fall after change (suc j) apart in
      omega (arith, tight_after.edges j (still_present (suc j) h), ap (sum_of after) parent, edge_is (suc j) (parent_of tree (suc j)) parent)

  -- what costs less than node i costs what it did
  same_below : (most j : ℕ) → IsPresent (points_of tree) j → sum_of tree j < sum_of tree i → sum_of tree j ≤ most → sum_of after j ≡ sum_of tree j
  same_below most zero h below l = omega (arith, tight_after.start, tight.start)
  same_below zero (suc j) h below l = absurd (omega (arith, falls.falls j h, l))
  same_below (suc most) (suc j) h below l =
      let above = same_below most (parent_of tree (suc j)) (falls.parent j h) (omega (arith, falls.falls j h, below)) (omega (arith, falls.falls j h, l)) in
      omega (arith, above, sum_kept j (λ e. omega (arith, ap (sum_of tree) e, below)) h, tight.edges j h)

  pub same_parent : sum_of after n ≡ sum_of tree n
  same_parent = same_below (sum_of tree n) n change.parent (omega (arith, change.cost, change.some)) (omega arith)

  -- and no node costs more
  none_rises_below : (most j : ℕ) → IsPresent (points_of tree) j → sum_of tree j ≤ most → sum_of after j ≤ sum_of tree j
  none_rises_below most zero h l = omega (arith, tight_after.start)
  none_rises_below zero (suc j) h l = absurd (omega (arith, falls.falls j h, l))
  none_rises_below (suc most) (suc j) h l =
      elim (cases_eq (suc j) i) [
        | inl e ↦ (
            let edge = ap (λ k. cost_of (point_of (points_of tree) n) (point_of (points_of tree) k)) e in
            omega (arith, same_parent, edge, sum_exchanged j e h, change.cost, ap (sum_of tree) e))
        | inr apart ↦ (
            let above = none_rises_below most (parent_of tree (suc j)) (falls.parent j h) (omega (arith, falls.falls j h, l)) in
            omega (arith, above, sum_kept j apart h, tight.edges j h))
      ]

  pub none_rises : (j : ℕ) → IsPresent (points_of tree) j → sum_of after j ≤ sum_of tree j
  none_rises j h = none_rises_below (sum_of tree j) j h (omega arith)

  pub falls_on : AreDistinct (points_of tree) → CostsFall (sum_of after) after
  falls_on distinct =
      CostsFall-tight (sum_of tree) (sum_of after) after falls_after tight_after
      (subst AreDistinct (sym (points_of-cheaper_parent (sum_of tree) tree i n fall after change)) distinct)

-- After a look at a near node all stand where they did, the new one costs what it did, and no node more. Sums fall along parents still.
record Relaxed (tree after : Nodes) (n : ℕ) : Type 0 where
  points : points_of after ≡ points_of tree
  falls : CostsFall (sum_of after) after
  sums : (j : ℕ) → IsPresent (points_of tree) j → sum_of after j ≤ sum_of tree j
  own : sum_of after n ≡ sum_of tree n

Relaxed-one : (space : ConfigurationSpace) (tree after : Nodes) (n i : ℕ) → CostsFall (sum_of tree) tree → AreDistinct (points_of tree)
    → IsPresent (points_of tree) n → IsPresent (points_of tree) i → RewiresOne space tree n i after → Relaxed tree after n
Relaxed-one space tree after n i falls distinct parent present (inl (cheaper, is)) =
    let fall : ℕ = sum_of tree i - cost_through tree (point_of (points_of tree) i) n in
    let change : HasCheaperParent (sum_of tree) tree i n fall after =
    record {
      present = present;
      parent = parent;
      some = omega (arith, cheaper.cheaper);
      cost = omega (arith, cheaper.cheaper);
      exchanged = is;
    } in
    record {
      points = points_of-cheaper_parent (sum_of tree) tree i n fall after change;
      falls = falls_on tree after i n fall falls change distinct;
      sums = none_rises tree after i n fall falls change;
      own = same_parent tree after i n fall falls change;
    }
Relaxed-one space tree after n i falls distinct parent present (inr (never, is)) = record {
  points = ap points_of is;
  falls = subst (λ t. CostsFall (sum_of t) t) (sym is) falls;
  sums = λ j h. omega (arith, ap (λ t. sum_of t j) is);
  own = ap (λ t. sum_of t n) is;
}

-- ---- all of them

-- node i costs no more than through node n
abbrev pub IsNoDearer : Nodes → ℕ → ℕ → Type 0
IsNoDearer tree n i = sum_of tree i ≤ cost_through tree (point_of (points_of tree) i) n

IsNoDearer-relaxed : (tree after : Nodes) (n i : ℕ) → Relaxed tree after n → IsPresent (points_of tree) i → IsNoDearer tree n i → IsNoDearer after n i
IsNoDearer-relaxed tree after n i relaxed present never =
    omega (
      arith,
      never,
      relaxed.sums i present,
      relaxed.own,
      ap (λ ps. cost_of (point_of ps n) (point_of ps i)) relaxed.points,
    )

-- Near nodes that fail a test are no dearer than through node n.
pub Rewires-some : (space : ConfigurationSpace) (n : ℕ) (test : ℕ → Bool) (near : List ℕ) (tree last : Nodes) → CostsFall (sum_of tree) tree
    → AreDistinct (points_of tree) → IsPresent (points_of tree) n → All (IsPresent (points_of tree)) near
    → ((i : ℕ) → Contains near i → test i ≡ false → IsNoDearer tree n i) → Rewires space tree n (filter test near) last → Rewires space tree n near last
Rewires-some space n test [] tree last falls distinct parent present never rewired = rewired
Rewires-some space n test (i ∷ near) tree last falls distinct parent present never rewired =
    one_more (test i) refl rewired
    (λ mid relaxed rest.
    Rewires-some space n test near mid last relaxed.falls (subst AreDistinct (sym relaxed.points) distinct)
    (subst (λ ps. IsPresent ps n) (sym relaxed.points) parent) (subst (λ ps. All (IsPresent ps) near) (sym relaxed.points) others)
    (λ j on off.
    IsNoDearer-relaxed tree mid n j relaxed (All-contains (IsPresent (points_of tree)) near j others on) (never j (Contains-after i near j on) off)) rest)
    (Rewires-some space n test near tree last falls distinct parent others (λ j on off. never j (Contains-after i near j on) off))
  where
    here : IsPresent (points_of tree) i
    here = All-head (IsPresent (points_of tree)) i near present

    others : All (IsPresent (points_of tree)) near
    others = All-tail (IsPresent (points_of tree)) i near present

    one_more : (b : Bool) → test i ≡ b → Rewires space tree n (cond b (i ∷ filter test near) (filter test near)) last
        → ((mid : Nodes) → Relaxed tree mid n → Rewires space mid n (filter test near) last → Rewires space mid n near last)
        → (Rewires space tree n (filter test near) last → Rewires space tree n near last) → Rewires space tree n (i ∷ near) last
    one_more true is (mid, one, rest) then skip = (mid, one, then mid (Relaxed-one space tree mid n i falls distinct parent here one) rest)
    one_more false is rest then skip =
        (tree, inr ((λ cheaper. omega (arith, cheaper.cheaper, never i (Contains-first i near) is)), refl), skip rest)
