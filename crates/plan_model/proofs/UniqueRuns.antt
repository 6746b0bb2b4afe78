-- The textbook run is one run: the same setup and marks give the same tree and the same records.
use Rattle.plan_model.proofs.Words.{◌≡◌, ℕ, suc, ◌+◌, arith, List, [], ◌∷◌, ◌++◌, Option, Some, refl, sym, ap, ◌∙◌, subst, inl, inr, Point, Scene, Record}
use Rattle.plan_model.proofs.Words.{FirstHanging, Reached, NewNode, SameNode, NoWay, Ending, Steered, SkippedBy, ending_of, record_of_ending}
use Rattle.plan_model.proofs.Words.{ConfigurationSpace, steered, IsPresent, point_of, AreDistinct, distance_to, IsNearest, mark_points, points_of, sum_of}
use Rattle.plan_model.proofs.Words.{IsGoalNode, HaveSameInputs, Nodes, Setup, setup_of, start_alone, cost_through, near_new, IsCandidate, IsBestParent}
use Rattle.plan_model.proofs.Words.{RewiresOne, Rewires, SteersTo, EndsPlaced, EndsSteered, Reaches, Ends, Handles, HandlesAll, IsTextbookRun}
use Rattle.plan_model.proofs.EndingLaws.{record_of_ending-again}
use Rattle.plan_model.proofs.LeastPairLaws.{IsFirstLeast-unique}
use Rattle.plan_model.proofs.DistinctPoints.{AreDistinct-start, AreDistinct-ends}

-- ---- the choices of one mark

-- one node is nearest
pub IsNearest-unique : (points : List (Option Point)) (q : Point) (m n : ℕ) → IsNearest points q m → IsNearest points q n → m ≡ n
IsNearest-unique points q = IsFirstLeast-unique (distance_to q points) (IsPresent points)

-- one parent is best
pub IsBestParent-unique :
    (setup : Setup) (tree : Nodes) (nearest : ℕ) (p : Point) (f g : ℕ)
    → IsBestParent setup tree nearest p f → IsBestParent setup tree nearest p g → f ≡ g
IsBestParent-unique setup tree nearest p = IsFirstLeast-unique (cost_through tree p) (IsCandidate setup (points_of tree) nearest p)

-- one tree comes of looking at a near node
pub RewiresOne-unique :
    (space : ConfigurationSpace) (tree : Nodes) (n i : ℕ) (one other : Nodes)
    → RewiresOne space tree n i one → RewiresOne space tree n i other → one ≡ other
RewiresOne-unique space tree n i one other (inl r) (inl s) = r.1 ∙ sym s.1
RewiresOne-unique space tree n i one other (inl r) (inr s) = absurd (s.0 r.0)
RewiresOne-unique space tree n i one other (inr r) (inl s) = absurd (r.0 s.0)
RewiresOne-unique space tree n i one other (inr r) (inr s) = r.1 ∙ sym s.1

-- and one of looking at all
pub Rewires-unique :
    (space : ConfigurationSpace) (tree : Nodes) (n : ℕ) (ns : List ℕ) (one other : Nodes)
    → Rewires space tree n ns one → Rewires space tree n ns other → one ≡ other
Rewires-unique space tree n [] one other r s = r ∙ sym s
Rewires-unique space tree n (i ∷ ns) one other r s =
    let mid : r.0 ≡ s.0 = RewiresOne-unique space tree n i r.0 s.0 r.1 s.1 in
    let P : Nodes → Type 0 = λ t. Rewires space t n ns other in
    Rewires-unique space r.0 n ns one other r.2 (subst P (sym mid) s.2)

-- two nearest nodes, and two points that are steered to, are the same
pub record SteerAlike (m n : ℕ) (p q : Point) : Type 0 where
  pub nearest : m ≡ n
  pub point : p ≡ q

-- a mark has one nearest node, and steers to one point
pub SteersTo-unique :
    (setup : Setup) (points : List (Option Point)) (mark : Point) (m n : ℕ) (p q : Point)
    → SteersTo setup points mark m p → SteersTo setup points mark n q → SteerAlike m n p q
SteersTo-unique setup points mark m n p q f g =
    let e : m ≡ n = IsNearest-unique points mark m n f.nearest g.nearest in
    record { nearest = e; point = f.reached ∙ ap (λ i. steered (point_of points i) mark setup.step) e ∙ sym g.reached }

-- ---- the ends of one mark

-- two ends of one mark are the same, and so are the trees after it
pub record EndAlike {A : Type 0} (one other : A) (tree others : Nodes) : Type 0 where
  pub ends : one ≡ other
  pub trees : tree ≡ others

module _ (setup : Setup) (tree : Nodes) (k m : ℕ) (p : Point) where
  -- two nodes that are placed at a point are given the same
  EndsPlaced-unique :
      (one other : FirstHanging) (after others : Nodes)
      → EndsPlaced setup tree k m p one after → EndsPlaced setup tree k m p other others → EndAlike (NewNode one) (NewNode other) after others
  EndsPlaced-unique one other after others e f =
      let same : one.parent ≡ other.parent = IsBestParent-unique setup tree m p one.parent other.parent e.parent f.parent in
      let rewired : ℕ → Type 0 =
      λ g. Rewires setup.space (tree ++ Some (record { point = p; parent = g }) ∷ []) (suc k) (near_new setup (points_of tree) p) others in
      record {
        ends = λ i. NewNode (record {
          parent = same i;
          cost = (e.cost ∙ ap (cost_through tree p) same ∙ sym f.cost) i;
          class = (e.of_class ∙ sym f.of_class) i;
        });
        trees =
            Rewires-unique setup.space (tree ++ Some (record { point = p; parent = one.parent }) ∷ []) (suc k) (near_new setup (points_of tree) p)
            after others e.rewired (subst rewired (sym same) f.rewired);
      }

  -- one end is reached: no two nodes stand at one point
  Reaches-unique :
      (one other : Reached) (after others : Nodes) → AreDistinct (points_of tree)
      → Reaches setup tree k m p one after → Reaches setup tree k m p other others → EndAlike one other after others
  Reaches-unique (SameNode i) (SameNode j) after others distinct e f = record { ends = ap SameNode (distinct i j p e.0 f.0); trees = e.1 ∙ sym f.1 }
  Reaches-unique (SameNode i) NoWay after others distinct e f = absurd (f.0.free i e.0)
  Reaches-unique (SameNode i) (NewNode first) after others distinct e f = absurd (f.free i e.0)
  Reaches-unique NoWay (SameNode j) after others distinct e f = absurd (e.0.free j f.0)
  Reaches-unique NoWay NoWay after others distinct e f = record { ends = refl; trees = e.1 ∙ sym f.1 }
  Reaches-unique NoWay (NewNode first) after others distinct e f = absurd (e.0.blocked f.clear)
  Reaches-unique (NewNode one) (SameNode j) after others distinct e f = absurd (e.free j f.0)
  Reaches-unique (NewNode one) NoWay after others distinct e f = absurd (f.0.blocked e.clear)
  Reaches-unique (NewNode one) (NewNode other) after others distinct e f = EndsPlaced-unique one other after others e f

module _ (setup : Setup) (tree : Nodes) (k : ℕ) (mark : Point) where
  -- what is reached from one nearest node is reached from the other
  Reaches-alike :
      (m n : ℕ) (one other : Reached) (after others : Nodes)
      (e : EndsSteered setup tree k mark m one after) → EndsSteered setup tree k mark n other others → Reaches setup tree k m e.point other others
  Reaches-alike m n one other after others e f =
      let steer = SteersTo-unique setup (points_of tree) mark m n e.point f.point e.steers f.steers in
      let P : ℕ → Type 0 = λ i. Reaches setup tree k i e.point other others in
      let Q : Point → Type 0 = λ p. Reaches setup tree k n p other others in
      subst P (sym steer.nearest) (subst Q (sym steer.point) f.reaches)

  -- a mark that ends where a node stands is not blocked
  pub not_same_or_blocked :
      (m n j : ℕ) (after others : Nodes)
      → Ends setup tree k mark (Steered m (SameNode j)) after → ¬ Ends setup tree k mark (Steered n NoWay) others
  not_same_or_blocked m n j after others e f =
      (Reaches-alike m n (SameNode j) NoWay after others e f).0.free j e.reaches.0

  -- it is not placed either
  pub not_same_or_placed :
      (m n j : ℕ) (first : FirstHanging) (after others : Nodes)
      → Ends setup tree k mark (Steered m (SameNode j)) after → ¬ Ends setup tree k mark (Steered n (NewNode first)) others
  not_same_or_placed m n j first after others e f =
      (Reaches-alike m n (SameNode j) (NewNode first) after others e f).free j e.reaches.0

  -- a mark that is blocked is not placed
  pub not_blocked_or_placed :
      (m n : ℕ) (first : FirstHanging) (after others : Nodes)
      → Ends setup tree k mark (Steered m NoWay) after → ¬ Ends setup tree k mark (Steered n (NewNode first)) others
  not_blocked_or_placed m n first after others e f =
      e.reaches.0.blocked (Reaches-alike m n NoWay (NewNode first) after others e f).clear

  -- a mark that a node steers to is not skipped
  pub not_steered_or_skipped :
      (m g : ℕ) (reached : Reached) (after others : Nodes)
      → Ends setup tree k mark (Steered m reached) after → ¬ Ends setup tree k mark (SkippedBy g) others
  not_steered_or_skipped m g reached after others e f = omega (arith, e.cheaper g f.best.member, f.within)

  -- a mark ends in one way
  pub Ends-unique :
      (one other : Ending) (after others : Nodes) → AreDistinct (points_of tree)
      → Ends setup tree k mark one after → Ends setup tree k mark other others → EndAlike one other after others
  Ends-unique (Steered m one) (Steered n other) after others distinct e f =
      let steer = SteersTo-unique setup (points_of tree) mark m n e.point f.point e.steers f.steers in
      let alike =
      Reaches-unique setup tree k m e.point one other after others distinct e.reaches (Reaches-alike m n one other after others e f) in
      record { ends = λ i. Steered (steer.nearest i) (alike.ends i); trees = alike.trees }
  Ends-unique (Steered m one) (SkippedBy g) after others distinct e f = absurd (not_steered_or_skipped m g one after others e f)
  Ends-unique (SkippedBy g) (Steered n other) after others distinct e f = absurd (not_steered_or_skipped n g other others after f e)
  Ends-unique (SkippedBy g) (SkippedBy h) after others distinct e f = record {
    ends = ap SkippedBy (IsFirstLeast-unique (sum_of tree) (IsGoalNode setup.goals (points_of tree)) g h e.best f.best);
    trees = e.added ∙ sym f.added;
  }

  -- and has one record
  Handles-unique :
      (one other : Record) (after others : Nodes) → AreDistinct (points_of tree)
      → Handles setup tree k mark one after → Handles setup tree k mark other others → EndAlike one other after others
  Handles-unique one other after others distinct e f =
      let alike = Ends-unique (ending_of one) (ending_of other) after others distinct e.ends f.ends in
      record {
        ends =
            sym (record_of_ending-again one)
            ∙ (λ i. record_of_ending ((e.worker ∙ sym f.worker) i) ((e.turn ∙ sym f.turn) i) (alike.ends i))
            ∙ record_of_ending-again other;
        trees = alike.trees;
      }

-- ---- whole runs

-- two runs end with the same tree and the same records
pub record RunAlike (one other : List Record) (tree others : Nodes) : Type 0 where
  pub records : one ≡ other
  pub trees : tree ≡ others

-- the same marks give the same tree and records
pub HandlesAll-unique :
    (setup : Setup) (k : ℕ) (tree : Nodes) (marks : List Point) (one other : List Record) (after others : Nodes) → AreDistinct (points_of tree)
    → HandlesAll setup k tree marks one after → HandlesAll setup k tree marks other others → RunAlike one other after others
HandlesAll-unique setup k tree [] [] [] after others distinct r s = record { records = refl; trees = r ∙ sym s }
HandlesAll-unique setup k tree [] [] (f ∷ other) after others distinct r s = absurd s
HandlesAll-unique setup k tree [] (e ∷ one) other after others distinct r s = absurd r
HandlesAll-unique setup k tree (mark ∷ marks) [] other after others distinct r s = absurd r
HandlesAll-unique setup k tree (mark ∷ marks) (e ∷ one) [] after others distinct r s = absurd s
HandlesAll-unique setup k tree (mark ∷ marks) (e ∷ one) (f ∷ other) after others distinct r s =
    let first = Handles-unique setup tree k mark e f r.0 s.0 distinct r.1 s.1 in
    let P : Nodes → Type 0 = λ t. HandlesAll setup (k + 1) t marks other others in
    let kept = AreDistinct-ends setup tree k mark (ending_of e) r.0 r.1.ends distinct in
    let rest = HandlesAll-unique setup (k + 1) r.0 marks one other after others kept r.2 (subst P (sym first.trees) s.2) in
    record { records = ap (λ x. x ∷ one) first.ends ∙ ap (λ xs. f ∷ xs) rest.records; trees = rest.trees }

-- the textbook run ends with one tree
pub IsTextbookRun-one_tree :
    (setup : Setup) (marks : List Point) (one other : Nodes) (records entries : List Record)
    → IsTextbookRun setup marks one records → IsTextbookRun setup marks other entries → one ≡ other
IsTextbookRun-one_tree setup marks one other records entries r s =
    (HandlesAll-unique setup 0 (start_alone setup.start) marks records entries one other (AreDistinct-start setup.start) r s).trees

-- and one list of records
pub IsTextbookRun-one_records :
    (setup : Setup) (marks : List Point) (one other : Nodes) (records entries : List Record)
    → IsTextbookRun setup marks one records → IsTextbookRun setup marks other entries → records ≡ entries
IsTextbookRun-one_records setup marks one other records entries r s =
    (HandlesAll-unique setup 0 (start_alone setup.start) marks records entries one other (AreDistinct-start setup.start) r s).records

-- scenes with the same space, start, step, gamma and goals to skip by have the same setup
pub setup_of-same : (one other : Scene) → HaveSameInputs one other → setup_of one ≡ setup_of other
setup_of-same one other h = λ i. record { space = h.space i; start = h.start i; step = h.step i; gamma = h.gamma i; goals = h.goals i }

-- the run of a scene is that of each scene with the same inputs
pub IsTextbookRun-same_inputs :
    (one other : Scene) (tree : Nodes) (records : List Record) → HaveSameInputs one other
    → IsTextbookRun (setup_of one) (mark_points one) tree records → IsTextbookRun (setup_of other) (mark_points other) tree records
IsTextbookRun-same_inputs one other tree records h r =
    let P : Setup → Type 0 = λ setup. IsTextbookRun setup (mark_points one) tree records in
    let Q : List Point → Type 0 = λ marks. IsTextbookRun (setup_of other) marks tree records in
    subst Q h.marks (subst P (setup_of-same one other h) r)
