-- One near node of a tree that a view with the whole share sees is looked at: it gets the new node as its parent if that is cheaper.
use Rattle.tree_rewire.proofs.Words.{◌≡◌, ◌≢◌, ℕ, ◌+◌, ◌-◌, ◌<◌, ◌^◌, List, ◌∷◌, is_some, arith, inl, inr, refl, sym, ap, ◌∙◌, subst, unwrap_or, cases_eq}
use Rattle.tree_rewire.proofs.Words.{Point, Clear, ConfigurationSpace, cost_of, IsPresent, point_at, point_of, IsCheaperThrough, Nodes, RewiresOne, Rewires}
use Rattle.tree_rewire.proofs.Words.{with_parent, parent_of, points_of, point_of-stands, HasCheaperParent, parent_kept, parent_new, points_of-cheaper_parent}
use Rattle.tree_rewire.proofs.Words.{WritesWord, PointOf, TreeOf, cost_in, parent_in, tree_word, cost_in-tree_word, parent_in-tree_word, GoesOn, HasWholeShare}
use Rattle.tree_rewire.proofs.Words.{IsLater, IsLawfulView, SeesPoint, sees, tree_seen, point_at-kept, View, Mirrors, SeesPair, cost_seen, seen_cost_through}
use Rattle.tree_rewire.proofs.Words.{parent_seen, AllTight, AllTightBut, IsTight, KeepsParents, SeesKnot}
use Rattle.tree_rewire.proofs.MirroredTrees.{AllTight-mirrored, Mirrors-tight}
use Rattle.tree_rewire.proofs.SeenCosts.{SeesPair-later, pair_low}

-- ---- what is cheaper

-- Node n is seen at one point, and node i at another.
module _ (view : View) (tree : Nodes) (n i : ℕ) (from to : Point) (mirrors : Mirrors view tree)
    (parent_stands : SeesPoint view n from) (stands : SeesPoint view i to) where
  pub parent_present : IsPresent (points_of tree) n
  parent_present = sym (ap is_some (mirrors.points n)) ∙ ap is_some parent_stands

  pub node_present : IsPresent (points_of tree) i
  node_present = sym (ap is_some (mirrors.points i)) ∙ ap is_some stands

  from_is : point_of (points_of tree) n ≡ from
  from_is = point_of-stands (points_of tree) n from (sym (mirrors.points n) ∙ parent_stands)

  to_is : point_of (points_of tree) i ≡ to
  to_is = point_of-stands (points_of tree) i to (sym (mirrors.points i) ∙ stands)

  pub edge_is : cost_of (point_of (points_of tree) n) (point_of (points_of tree) i) ≡ cost_of from to
  edge_is = ap (λ q. cost_of q (point_of (points_of tree) i)) from_is ∙ ap (cost_of from) to_is

  -- a lesser cost through node n over a clear edge is what the textbook asks
  pub IsCheaperThrough-seen : (space : ConfigurationSpace) → cost_seen view n + cost_of from to < cost_seen view i → Clear space from to
      → IsCheaperThrough space tree n i
  IsCheaperThrough-seen space less clear = record {
    cheaper = omega (arith, less, edge_is, mirrors.costs n parent_present, mirrors.costs i node_present);
    clear = subst (λ q. Clear space q (point_of (points_of tree) i)) (sym from_is) (subst (Clear space from) (sym to_is) clear);
  }

  -- and it asks for both
  pub less-cheaper_through : (space : ConfigurationSpace) → IsCheaperThrough space tree n i → cost_seen view n + cost_of from to < cost_seen view i
  less-cheaper_through space h = omega (arith, h.cheaper, edge_is, mirrors.costs n parent_present, mirrors.costs i node_present)

  pub Clear-cheaper_through : (space : ConfigurationSpace) → IsCheaperThrough space tree n i → Clear space from to
  Clear-cheaper_through space h = subst (Clear space from) to_is (subst (λ q. Clear space q (point_of (points_of tree) i)) from_is h.clear)

-- ---- the node is lowered

-- Node i is lowered below node n, through which it is cheaper.
module _ (before mid : View) (tree : Nodes) (n i : ℕ) (from to : Point) (lawful : IsLawfulView before) (whole : HasWholeShare before)
    (mirrors : Mirrors before tree)
    (parent_stands : SeesPoint before n from) (stands : SeesPoint before i to) (less : cost_seen before n + cost_of from to < cost_seen before i)
    (later : IsLater before mid) (writes : WritesWord (TreeOf i) (tree_word n (cost_seen before n + cost_of from to)) (sees before) (sees mid)) where
  abbrev cost : ℕ
  cost = cost_seen before n + cost_of from to

  pair : SeesPair before i
  pair = mirrors.written i (node_present before tree n i from to mirrors parent_stands stands)

  parent_pair : SeesPair before n
  parent_pair = mirrors.written n (parent_present before tree n i from to mirrors parent_stands stands)

  small : n < 2 ^ 18
  small = omega (arith, pair_low before n lawful parent_pair, lawful.run.marks)

  low : cost < 2 ^ 44
  low = omega (arith, less, (lawful.pairs i pair).low)

  parent_here : parent_seen mid i ≡ n
  parent_here = ap parent_in writes.here ∙ parent_in-tree_word n cost small

  cost_here : cost_seen mid i ≡ cost
  cost_here = ap cost_in writes.here ∙ cost_in-tree_word n cost small low

  apart : n ≢ i
  apart same = omega (arith, less, ap (cost_seen before) same)

  elsewhere : (m : ℕ) → m ≢ i → sees mid (TreeOf m) ≡ sees before (TreeOf m)
  elsewhere m other = writes.others (TreeOf m) (λ e. other (let same : m ≡ i = cc in same))

  point_same : (m : ℕ) → point_at (tree_seen mid).points m ≡ point_at (tree_seen before).points m
  point_same m = point_at-kept before mid m later (writes.others (PointOf m) (λ e. cc))

  point_of_same : (m : ℕ) → point_of (tree_seen mid).points m ≡ point_of (tree_seen before).points m
  point_of_same m = ap (λ o. unwrap_or o (record { x = 0; y = 0 })) (point_same m)

  -- its cost is exact
  exact_here : IsTight mid i
  exact_here =
      subst (λ k. cost_seen mid i ≡ seen_cost_through mid (point_of (tree_seen mid).points i) k) (sym parent_here)
      (omega (
        arith,
        cost_here,
        ap cost_in (elsewhere n apart),
        ap (λ q. cost_of q (point_of (tree_seen mid).points i)) (point_of-stands (tree_seen mid).points n from (point_same n ∙ parent_stands)),
        ap (cost_of from) (point_of-stands (tree_seen mid).points i to (point_same i ∙ stands)),
      ))

  -- and so are all but those of its children
  pub AllTightBut-lowered : AllTightBut i mid
  AllTightBut-lowered m child knot off =
      elim (cases_eq m i) [
        | inl e ↦ subst (IsTight mid) (sym e) exact_here
        | inr other ↦
            let same = elsewhere m other in
            let parent : ℕ = parent_seen before m in
            let up : parent_seen mid m ≡ parent = ap parent_in same in
            let knot_was : SeesKnot before m = record {
              stands = sym (ap is_some (point_same m)) ∙ knot.stands;
              written = omega (arith, same, knot.written);
            } in
            subst (λ k. cost_seen mid m ≡ seen_cost_through mid (point_of (tree_seen mid).points m) k) (sym up)
            (omega (
              arith,
              AllTight-mirrored before tree lawful whole mirrors m child knot_was,
              ap cost_in same,
              ap cost_in (elsewhere parent (λ e. off (up ∙ e))),
              ap (λ q. cost_of q (point_of (tree_seen mid).points m)) (point_of_same parent),
              ap (cost_of (point_of (tree_seen before).points parent)) (point_of_same m),
            ))
      ]

  -- the tree with the node below its new parent
  abbrev rehung : Nodes
  rehung = with_parent tree i n

  change : HasCheaperParent (cost_seen before) tree i n (cost_seen before i - cost) rehung
  change = record {
    present = node_present before tree n i from to mirrors parent_stands stands;
    parent = parent_present before tree n i from to mirrors parent_stands stands;
    some = omega (arith, less);
    cost = omega (arith, less, edge_is before tree n i from to mirrors parent_stands stands);
    exchanged = refl;
  }

  -- Once what fell has come to all below, the view sees that tree.
  module _ (after : View) (goes_on : GoesOn before after) (whole_then : HasWholeShare after) (later_then : IsLater mid after)
      (kept : KeepsParents mid after) (tight : AllTight after) where
    same_points : points_of rehung ≡ points_of tree
    same_points = points_of-cheaper_parent (cost_seen before) tree i n (cost_seen before i - cost) rehung change

    was_present : (m : ℕ) → IsPresent (points_of rehung) m → IsPresent (points_of tree) m
    was_present m here = subst (λ points. IsPresent points m) same_points here

    points_then : (m : ℕ) → point_at (tree_seen after).points m ≡ point_at (points_of rehung) m
    points_then m =
        point_at-kept mid after m later_then (kept.others (PointOf m) (λ no. no)) ∙ point_same m ∙ mirrors.points m
        ∙ sym (ap (λ points. point_at points m) same_points)

    parents_then : (m : ℕ) → IsPresent (points_of rehung) m → parent_seen after m ≡ parent_of rehung m
    parents_then m here =
        elim (cases_eq m i) [
          | inl e ↦
              kept.parents m ∙ ap (parent_seen mid) e ∙ parent_here
              ∙ sym (parent_new (cost_seen before) tree i n (cost_seen before i - cost) rehung change m e)
          | inr other ↦
              kept.parents m ∙ ap parent_in (elsewhere m other) ∙ mirrors.parents m (was_present m here)
              ∙ sym (parent_kept (cost_seen before) tree i n (cost_seen before i - cost) rehung change m other)
        ]

    pub Mirrors-rewired : Mirrors after rehung
    Mirrors-rewired =
        Mirrors-tight after rehung goes_on.lawful whole_then points_then parents_then
        (λ m here. SeesPair-later before after goes_on m (mirrors.written m (was_present m here))) tight

-- ---- all near nodes

-- Some near nodes are looked at. With the tree that is seen then, rewiring the rest is rewiring all.
pub record IsRewiring (space : ConfigurationSpace) (tree : Nodes) (n : ℕ) (all rest : List ℕ) (view : View) : Type 0 where
  pub now : Nodes
  pub mirrors : Mirrors view now
  pub leads : (last : Nodes) → Rewires space now n rest last → Rewires space tree n all last

-- one more
pub IsRewiring-more : (space : ConfigurationSpace) (tree : Nodes) (n i : ℕ) (all rest more : List ℕ) (view then : View) → rest ≡ i ∷ more
    → (h : IsRewiring space tree n all rest view) → (after : Nodes) × RewiresOne space h.now n i after × Mirrors then after
    → IsRewiring space tree n all more then
IsRewiring-more space tree n i all rest more view then is h one = record {
  now = one.0;
  mirrors = one.2;
  leads = λ last r. h.leads last (subst (λ ns. Rewires space h.now n ns last) (sym is) (one.0, one.1, r));
}
