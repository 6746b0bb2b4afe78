-- The walk of a pass to the nearest node: what its stack holds at each stage.
use Rattle.kd_shared.proofs.Words.{◌≡◌, ℕ, suc, ◌+◌, ◌<◌, ◌≤◌, false, [], length, Some, None, arith, refl, sym, ap, ◌∙◌, subst, Contains, Point, MOST_NODES}
use Rattle.kd_shared.proofs.Words.{squared_distance, KeepsSight, Contains-first, IsPresent-stands, no_search, point_of_spot, BelongsTo, PassState}
use Rattle.kd_shared.proofs.Words.{SharedState, Spot, IsLawfulView, SeesNode, sight_in, tree_seen, KeepsSight-lawful, StacksFar, WalksOn}
use Rattle.kd_shared.proofs.Words.{LoadsPoint, OnlyLooks-trans, KeepsLists, OnlyLooks, PassLooks, searched, IsNearestSeen}
use Rattle.kd_shared.proofs.Looking.{SeesNode-later}
use Rattle.kd_shared.proofs.NearPasses.{KeepsLists-looks, KeepsLists-searched}
use Rattle.kd_shared.proofs.NearestSearch.{HasSought-nearest, HasSought-walks, IsNearer, IsSeeking, IsSeeking-begins, IsSeeking-walks, stands_half}
use Rattle.kd_shared.proofs.WalkedOnce.{IsWalking-few, IsWalking-room}

-- The pass only looks, and its other lists stay. The nearest node so far is at this squared distance, and this one is next.
pub record IsSeekingPass (shared : SharedState) (entry now : PassState) (p : Point) (distance best : ℕ) (here : Spot) (visits : ℕ) : Type 0 where
  pub belongs : BelongsTo now shared
  pub looks : OnlyLooks entry.view now.view
  pub lists : KeepsLists entry now
  pub none_taken : now.lists.search.taken ≡ 0
  pub seeks : IsSeeking (sight_in entry.view) (sight_in now.view) p distance best here now.lists.search.spots visits

-- The start is loaded, and is next.
pub IsSeekingPass-begins : (shared : SharedState) (entry first now : PassState) (p : Point) (distance : ℕ) (here : Spot) → PassLooks shared entry first
    → LoadsPoint (sight_in entry.view) (sight_in first.view) 0 (point_of_spot here) → distance ≡ squared_distance (point_of_spot here) p
    → now ≡ searched first first.view no_search → here.node ≡ 0 → here.by_rows ≡ false → IsSeekingPass shared entry now p distance 0 here 0
IsSeekingPass-begins shared entry first now p distance here passes load distance_is is node by_rows =
    subst (λ state. IsSeekingPass shared entry state p distance 0 here 0) (sym is) (record {
      belongs = record { table = passes.belongs.table; run = passes.belongs.run; lawful = passes.belongs.lawful };
      looks = passes.looks;
      lists = KeepsLists-searched entry first (searched first first.view no_search) no_search (KeepsLists-looks shared entry first passes) refl;
      none_taken = refl;
      seeks = IsSeeking-begins (sight_in entry.view) (sight_in first.view) p distance here load distance_is node by_rows;
    })

-- One visit: of its node and the nearest so far the nearer one stays, and it waits on the stack if its far side is left.
pub record VisitsHere (now half : PassState) (p : Point) (distance best less nearer : ℕ) (here : Spot) : Type 0 where
  pub nearest : IsNearer distance best (squared_distance (point_of_spot here) p) here.node less nearer
  pub looks : OnlyLooks now.view half.view
  pub is : half ≡ searched now half.view (record now.lists.search { spots = half.lists.search.spots })
  pub stacks : StacksFar (sight_in now.view) (sight_in half.view) p less now.lists.search.spots half.lists.search.spots here

module _ {shared : SharedState} {entry now : PassState} {p : Point} {distance best : ℕ} {here : Spot} {visits : ℕ}
    (h : IsSeekingPass shared entry now p distance best here visits) where
  lawful_now : IsLawfulView now.view
  lawful_now = h.looks.looks.goes_on.lawful

  keeps_now : KeepsSight (sight_in now.view)
  keeps_now = KeepsSight-lawful now.view lawful_now

  -- there are no more visits than there can be nodes
  pub visits_low : visits < MOST_NODES
  visits_low =
      let few = IsWalking-few (sight_in now.view) p (length now.view.run.marks) lawful_now.within here now.lists.search.spots visits h.seeks.walking in
      omega (arith, few, lawful_now.run.marks)

  pub here_seen : SeesNode now.view here.node
  here_seen = h.seeks.search.seen here (Contains-first here [])

  pub stack_room : now.lists.search.taken + length now.lists.search.spots ≤ length now.view.run.marks + 1
  stack_room =
      let room = IsWalking-room (sight_in now.view) p (length now.view.run.marks) lawful_now.within here now.lists.search.spots visits h.seeks.walking in
      omega (arith, room, h.none_taken)

  -- the node is visited,
  module _ {half : PassState} {less nearer : ℕ} (v : VisitsHere now half p distance best less nearer here) where
    pub half_seen : SeesNode half.view here.node
    half_seen = SeesNode-later now.view half.view here.node v.looks.looks.goes_on.later here_seen

    pub half_seen_stack : (spot : Spot) → Contains half.lists.search.spots spot → SeesNode half.view spot.node
    half_seen_stack spot k =
        v.stacks.keeps.rooted.points spot.node
        (IsPresent-stands (tree_seen half.view).points spot.node (point_of_spot spot) (stands_half h.seeks keeps_now v.nearest v.stacks spot k))

    -- and another is next, or none
    module _
        (after : PassState) (next_looks : OnlyLooks half.view after.view)
        (after_is : after ≡ searched half after.view (record half.lists.search { spots = after.lists.search.spots })) where
      pub walked_looks : OnlyLooks entry.view after.view
      walked_looks = OnlyLooks-trans entry.view now.view after.view h.looks (OnlyLooks-trans now.view half.view after.view v.looks next_looks)

      pub walked_lists : KeepsLists entry after
      walked_lists =
          KeepsLists-searched entry half after (record half.lists.search { spots = after.lists.search.spots })
          (KeepsLists-searched entry now half (record now.lists.search { spots = half.lists.search.spots }) h.lists v.is) after_is

      pub IsSeekingPass-walks : (child : Spot) → BelongsTo after shared
          → WalksOn (sight_in half.view) (sight_in after.view) p less here half.lists.search.spots after.lists.search.spots (Some child)
          → IsSeekingPass shared entry after p less nearer child (suc visits)
      IsSeekingPass-walks child belongs walks = record {
        belongs = belongs;
        looks = walked_looks;
        lists = walked_lists;
        none_taken = ap (λ (s : PassState). s.lists.search.taken) after_is ∙ ap (λ (s : PassState). s.lists.search.taken) v.is ∙ h.none_taken;
        seeks = IsSeeking-walks h.seeks keeps_now v.nearest v.stacks (sight_in after.view) after.lists.search.spots child walks;
      }

      pub IsSeekingPass-ends : WalksOn (sight_in half.view) (sight_in after.view) p less here half.lists.search.spots after.lists.search.spots None
          → IsNearestSeen (sight_in entry.view) (sight_in after.view) p nearer
      IsSeekingPass-ends walks =
          HasSought-nearest (sight_in entry.view) (sight_in after.view) p less nearer
          (HasSought-walks h.seeks keeps_now v.nearest v.stacks (sight_in after.view) after.lists.search.spots walks)
          (KeepsSight-lawful entry.view h.looks.looks.goes_on.was_lawful) (KeepsSight-lawful after.view walked_looks.looks.goes_on.lawful)
          walked_looks.looks.goes_on.lawful.distinct
