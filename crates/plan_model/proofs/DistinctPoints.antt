-- No two nodes of a textbook run stand at one point: a node is placed at a free point alone, and rewiring moves none.
use Rattle.plan_model.proofs.Words.{◌≡◌, ℕ, zero, suc, ◌+◌, ◌<◌, List, [], ◌∷◌, ◌++◌, length, set, Option, Some, None, refl, sym, ap, ◌∙◌, subst, arith, inl}
use Rattle.plan_model.proofs.Words.{inr, IsSome, is_some, All, true, option_map, range_with_len, cases_lt, get_or_append_left, get_or_past, length-map, map-set}
use Rattle.plan_model.proofs.Words.{set-get_or, All-head, All-tail, All-weaker, filter_passes, get_or-append_seam, Point, Twig, Record, Ending, Steered}
use Rattle.plan_model.proofs.Words.{NewNode, SameNode, NoWay, SkippedBy, ending_of, ConfigurationSpace, point_at, StandsAt, IsPresent, point_of, IsFree}
use Rattle.plan_model.proofs.Words.{AreDistinct, is_within, near, points_of, Nodes, Setup, start_alone, near_new, with_parent, RewiresOne, Rewires, Ends}
use Rattle.plan_model.proofs.Words.{HandlesAll, IsTextbookRun}
use Rattle.std.proofs.lemmas.List.{length-append}
use Rattle.plan_model.proofs.TreeChanges.{points_of-push, get_or-push_other, get_or-push_absent}
use Rattle.plan_model.proofs.NewNodes.{StandsAt-present, AreDistinct-one_more}

-- ---- points with one number more

-- an absent number at the end leaves points distinct
pub AreDistinct-absent : (points : List (Option Point)) → AreDistinct points → AreDistinct (points ++ None ∷ [])
AreDistinct-absent points h i j p a b = h i j p (sym (get_or-push_absent points i) ∙ a) (sym (get_or-push_absent points j) ∙ b)

-- and so does a node at a free point
pub AreDistinct-placed : (points : List (Option Point)) (q : Point) → IsFree points q → AreDistinct points → AreDistinct (points ++ Some q ∷ [])
AreDistinct-placed points q =
    AreDistinct-one_more points (points ++ Some q ∷ []) (length points) q (get_or-append_seam points (Some q) [] None)
    (get_or-push_other points (Some q))

-- ---- rewiring moves no node

-- a node with another parent stays where it is
pub points_of-with_parent : (tree : Nodes) (i n : ℕ) → IsPresent (points_of tree) i → points_of (with_parent tree i n) ≡ points_of tree
points_of-with_parent tree i n h =
    map-set (option_map (λ (node : Twig). node.point)) tree i (Some (record { point = point_of (points_of tree) i; parent = n }))
    ∙ ap (set (points_of tree) i) (sym (StandsAt-present (points_of tree) i h))
    ∙ set-get_or (points_of tree) i None

-- and so do all nodes when one near node is looked at
points_of-one :
    (space : ConfigurationSpace) (tree : Nodes) (n i : ℕ) (after : Nodes) → IsPresent (points_of tree) i → RewiresOne space tree n i after
    → points_of after ≡ points_of tree
points_of-one space tree n i after h (inl r) = ap points_of r.1 ∙ points_of-with_parent tree i n h
points_of-one space tree n i after h (inr r) = ap points_of r.1

-- rewiring present nodes moves none
pub points_of-rewires :
    (space : ConfigurationSpace) (tree : Nodes) (n : ℕ) (ns : List ℕ) (after : Nodes) → All (IsPresent (points_of tree)) ns → Rewires space tree n ns after
    → points_of after ≡ points_of tree
points_of-rewires space tree n [] after h r = ap points_of r
points_of-rewires space tree n (i ∷ ns) after h r =
    let here : points_of r.0 ≡ points_of tree = points_of-one space tree n i r.0 (All-head (IsPresent (points_of tree)) i ns h) r.1 in
    let P : List (Option Point) → Type 0 = λ points. All (IsPresent points) ns in
    let rest : All (IsPresent (points_of r.0)) ns = subst P (sym here) (All-tail (IsPresent (points_of tree)) i ns h) in
    points_of-rewires space r.0 n ns after rest r.2 ∙ here

-- what is within the radius is present
pub within_present : (p : Point) (r : ℕ) (o : Option Point) → is_within p r o ≡ true → IsSome o
within_present p r None h = cc
within_present p r (Some q) h = refl

-- near nodes are present
pub near-present : (points : List (Option Point)) (p : Point) (r : ℕ) → All (IsPresent points) (near points p r)
near-present points p r =
    All-weaker (λ i. is_within p r (point_at points i) ≡ true) (IsPresent points) (λ i h. within_present p r (point_at points i) h)
    (near points p r) (filter_passes (λ i. is_within p r (point_at points i)) (range_with_len 0 (length points)))

-- a number beyond the points is absent
pub IsPresent-below : (points : List (Option Point)) (i : ℕ) → IsPresent points i → i < length points
IsPresent-below points i h =
    elim (cases_lt i (length points)) [ inl below ↦ below | inr past ↦ (let e = ap is_some (get_or_past points i None past) in cc) ]

-- a present node is present beside one more
pub IsPresent-push : (points : List (Option Point)) (o : Option Point) (i : ℕ) → IsPresent points i → IsPresent (points ++ o ∷ []) i
IsPresent-push points o i h = ap is_some (get_or_append_left points (o ∷ []) None i (IsPresent-below points i h)) ∙ h

-- the near nodes of a placed node are present beside it
pub near-present_beside :
    (setup : Setup) (tree : Nodes) (p : Point) (parent : ℕ)
    → All (IsPresent (points_of (tree ++ Some (record { point = p; parent = parent }) ∷ []))) (near_new setup (points_of tree) p)
near-present_beside setup tree p parent =
    let longer : List (Option Point) = points_of (tree ++ Some (record { point = p; parent = parent }) ∷ []) in
    let node : Option Twig = Some (record { point = p; parent = parent }) in
    let keep : (i : ℕ) → IsPresent (points_of tree) i → IsPresent longer i =
    λ i h. (let Q : List (Option Point) → Type 0 = λ points. IsPresent points i in
    subst Q (sym (points_of-push tree node)) (IsPresent-push (points_of tree) (Some p) i h)) in
    All-weaker (IsPresent (points_of tree)) (IsPresent longer) keep (near_new setup (points_of tree) p) (near-present (points_of tree) p _)

-- ---- one mark

-- an absent number more leaves points distinct
AreDistinct-unplaced : (tree after : Nodes) → after ≡ tree ++ None ∷ [] → AreDistinct (points_of tree) → AreDistinct (points_of after)
AreDistinct-unplaced tree after e h =
    subst AreDistinct (sym (ap points_of e ∙ points_of-push tree None)) (AreDistinct-absent (points_of tree) h)

-- each mark leaves the points of all nodes, and one number more
pub points_of-ends :
    (setup : Setup) (tree : Nodes) (k : ℕ) (mark : Point) (ending : Ending) (after : Nodes)
    → Ends setup tree k mark ending after → (o : Option Point) × (points_of after ≡ points_of tree ++ o ∷ [])
points_of-ends setup tree k mark (Steered m (NewNode first)) after e =
    let node : Option Twig = Some (record { point = e.point; parent = first.parent }) in
    let beside = near-present_beside setup tree e.point first.parent in
    let kept : points_of after ≡ points_of (tree ++ node ∷ []) =
    points_of-rewires setup.space (tree ++ node ∷ []) (suc k) (near_new setup (points_of tree) e.point) after beside e.reaches.rewired in
    (Some e.point, kept ∙ points_of-push tree node)
points_of-ends setup tree k mark (Steered m (SameNode j)) after e = (None, ap points_of e.reaches.1 ∙ points_of-push tree None)
points_of-ends setup tree k mark (Steered m NoWay) after e = (None, ap points_of e.reaches.1 ∙ points_of-push tree None)
points_of-ends setup tree k mark (SkippedBy g) after e = (None, ap points_of e.added ∙ points_of-push tree None)

pub length-ends :
    (setup : Setup) (tree : Nodes) (k : ℕ) (mark : Point) (ending : Ending) (after : Nodes)
    → Ends setup tree k mark ending after → length after ≡ suc (length tree)
length-ends setup tree k mark ending after e =
    let point : Option Twig → Option Point = option_map (λ (node : Twig). node.point) in
    let more = points_of-ends setup tree k mark ending after e in
    omega (arith, length-map after point, length-map tree point, ap length more.1, length-append (points_of tree) (more.0 ∷ []))

-- and leaves points distinct
pub AreDistinct-ends :
    (setup : Setup) (tree : Nodes) (k : ℕ) (mark : Point) (ending : Ending) (after : Nodes)
    → Ends setup tree k mark ending after → AreDistinct (points_of tree) → AreDistinct (points_of after)
unfolding points_of-ends
AreDistinct-ends setup tree k mark (Steered m (NewNode first)) after e h =
    subst AreDistinct (sym (points_of-ends setup tree k mark (Steered m (NewNode first)) after e).1)
    (AreDistinct-placed (points_of tree) e.point e.reaches.free h)
AreDistinct-ends setup tree k mark (Steered m (SameNode j)) after e h = AreDistinct-unplaced tree after e.reaches.1 h
AreDistinct-ends setup tree k mark (Steered m NoWay) after e h = AreDistinct-unplaced tree after e.reaches.1 h
AreDistinct-ends setup tree k mark (SkippedBy g) after e h = AreDistinct-unplaced tree after e.added h

-- the start alone has no other at its point
pub AreDistinct-start : (start : Point) → AreDistinct (points_of (start_alone start))
AreDistinct-start start = λ i j p a b. alone i p a ∙ sym (alone j p b)
  where
    alone : (i : ℕ) (p : Point) → StandsAt (points_of (start_alone start)) i p → i ≡ 0
    alone zero p h = refl
    alone (suc i) p h = cc

-- ---- whole runs

-- points that are distinct before some marks are so after them
AreDistinct-handles_all :
    (setup : Setup) (k : ℕ) (tree : Nodes) (marks : List Point) (entries : List Record) (after : Nodes)
    → HandlesAll setup k tree marks entries after → AreDistinct (points_of tree) → AreDistinct (points_of after)
AreDistinct-handles_all setup k tree [] [] after run h = subst AreDistinct (sym (ap points_of run)) h
AreDistinct-handles_all setup k tree [] (entry ∷ entries) after run h = absurd run
AreDistinct-handles_all setup k tree (mark ∷ marks) [] after run h = absurd run
AreDistinct-handles_all setup k tree (mark ∷ marks) (entry ∷ entries) after run h =
    let mid = AreDistinct-ends setup tree k mark (ending_of entry) run.0 run.1.ends h in
    AreDistinct-handles_all setup (k + 1) run.0 marks entries after run.2 mid

-- no two nodes of a textbook run stand at one point
pub AreDistinct-textbook :
    (setup : Setup) (marks : List Point) (tree : Nodes) (records : List Record)
    → IsTextbookRun setup marks tree records → AreDistinct (points_of tree)
AreDistinct-textbook setup marks tree records run =
    AreDistinct-handles_all setup 0 (start_alone setup.start) marks records tree run (AreDistinct-start setup.start)
