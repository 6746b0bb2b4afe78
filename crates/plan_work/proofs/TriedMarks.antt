-- A mark whose point is written is hung by the nodes near it, and comes to its place.
use Rattle.plan_work.proofs.Words.{◌≡◌, ℕ, ◌+◌, ◌*◌, ◌≤◌, List, arith, sym, ap, ◌∙◌, subst, All, Contains, IfSome, All-contains, cost_of, space_of, Clear}
use Rattle.plan_work.proofs.Words.{ConfigurationSpace, mark_at, squared_distance, distance_to, point_of, class_of, radius_of_class, Point, IsPresent-stands}
use Rattle.plan_work.proofs.Words.{point_of-stands, IsStep-steered, Count, Counter, RecordOf, numbers-weighed, AllWeighed-seen, IsMeasured, IsMeasured-later}
use Rattle.plan_work.proofs.Words.{IsWeighed, GoesOnPlacing, KeepsShare, Placing, SweepsWithin, sight_in, sees, tree_seen, SharedRun, numbers_of, weighed}
use Rattle.plan_work.proofs.Words.{BelongsTo, GoesOn, PassState, SharedState, Found, Hand, View, IsInReach-later, SeesPair-later, IsInReach, cost_seen}
use Rattle.plan_work.proofs.Words.{radius_in, HasCome, HasFilledNear, IsHung, IsSteeredTo, IsTried, KeepsRecords, MayPlace, hung_by, Hanging}
use Rattle.plan_work.proofs.FilledNear.{looked_still}
use Rattle.plan_work.proofs.KeptSights.{SweepsWithin-still, distance_still, point_still}

-- a node that steers to p is at most a step from it
pub reach_of-steered : (view : View) (k m : ℕ) (p : Point) → IsSteeredTo view k m p → IsInReach view p m
reach_of-steered view k m p steered_to =
    let points = (tree_seen view).points in
    record {
      present = IsPresent-stands points m steered_to.from steered_to.stands;
      short =
          subst (λ q. squared_distance q p ≤ view.run.step * view.run.step) (sym (point_of-stands points m steered_to.from steered_to.stands))
          (subst (λ q. squared_distance steered_to.from q ≤ view.run.step * view.run.step) (sym steered_to.point_is)
          (IsStep-steered steered_to.from (mark_at view.run.marks k) view.run.step).short);
    }

-- a clear segment from a node that is seen is clear still
pub clear_still : (space : ConfigurationSpace) (before after : View) (m : ℕ) (p : Point) → GoesOn before after → IsInReach before p m
    → Clear space (point_of (tree_seen before).points m) p → Clear space (point_of (tree_seen after).points m) p
clear_still space before after m p goes_on reach clear =
    subst (λ q. Clear space q p) (sym (point_still before after goes_on m reach.present)) clear

pub clear_of-may :
    (space : ConfigurationSpace) (shared : SharedState) (pass : PassState) (after : View) (k m : ℕ) (p : Point) → GoesOn pass.view after
    → MayPlace shared pass k m p → Clear space (point_of (tree_seen pass.view).points m) p → Clear space (point_of (tree_seen after).points m) p
clear_of-may space shared pass after k m p goes_on may clear =
    clear_still space pass.view after m p goes_on (reach_of-steered pass.view k m p may.steered) clear

-- No record is seen anew while a node is placed.
pub KeepsRecords-placing : (shared : SharedState) (before after : PassState) → BelongsTo after shared → GoesOnPlacing before.view after.view
    → KeepsShare before.view after.view → KeepsRecords shared before after
KeepsRecords-placing shared before after belongs placing share = record {
  belongs = belongs;
  goes_on = placing.goes_on;
  records = λ k. placing.others (RecordOf k) (λ no. no);
  counters = λ g. placing.others (Counter g) (λ no. no);
  best = placing.best;
  crew = share.crew;
  most = share.most;
}

-- A near list stays filled while the count that is seen has its class.
pub HasFilledNear-recounted :
    (before mid after : View) (p : Point) (class : ℕ) (found : List Found) → GoesOn mid after → class ≡ class_of (sees after Count)
    → HasFilledNear before mid p class found → HasFilledNear before after p class found
HasFilledNear-recounted before mid after p class found goes_on is filled =
    let same : radius_in after class ≡ radius_in mid class = ap (λ (run : SharedRun). radius_of_class run.step run.gamma class) goes_on.later.run in
    record {
      class_is = is;
      looked = looked_still before.steps mid after goes_on filled.looked;
      counted = λ entry. omega (arith, filled.counted entry, goes_on.later.seen Count);
      all = λ i q stands close.
          filled.all i q stands (subst (λ r. squared_distance q p ≤ r * r) same close);
      in_reach = λ k d below. IsInReach-later mid after p _ goes_on (filled.in_reach k d below);
      measured = λ k d below. IsMeasured-later mid after p _ goes_on (filled.measured k d below);
      close = λ i among.
          let present = (All-contains (IsInReach mid p) (numbers_of found) i filled.in_reach among).present in
          subst (λ r. distance_to p (tree_seen after).points i ≤ r * r) (sym same)
          (omega (arith, distance_still mid after goes_on p i present, filled.close i among));
      swept =
          subst (λ r. SweepsWithin (sight_in before) (sight_in after) p (r * r)) (sym same)
          (SweepsWithin-still mid after goes_on before p (radius_in mid class * radius_in mid class) filled.swept);
    }

-- so it does while no count is seen anew
pub HasFilledNear-still :
    (before mid after : View) (p : Point) (class : ℕ) (found : List Found) → GoesOn mid after → sees after Count ≡ sees mid Count
    → HasFilledNear before mid p class found → HasFilledNear before after p class found
HasFilledNear-still before mid after p class found goes_on count filled =
    HasFilledNear-recounted before mid after p class found goes_on (filled.class_is ∙ ap class_of (sym count)) filled

-- the node in hand was hung by the nodes found, and tried to be placed
pub IsTried-placing :
    (shared : SharedState) (before hanging_at after : PassState) (hand : Hand) (placing : Placing) (hanging : Hanging)
    → KeepsRecords shared before hanging_at → GoesOnPlacing hanging_at.view after.view
    → hanging_at.lists.search.found ≡ weighed before.lists.search.found
    → after.lists.search.found ≡ hanging_at.lists.search.found → sees hanging_at.view Count ≡ sees before.view Count
    → IsHung before.view.steps hanging_at.view hand hanging.parent (numbers_of before.lists.search.found)
    → HasCome after.view (hung_by hand hanging) placing → IsTried before after hand placing hanging
IsTried-placing shared before hanging_at after hand placing hanging keeps goes_on found last count hung came = record {
  mid = hanging_at.view;
  begun = keeps.goes_on;
  found = last ∙ found;
  counted = count;
  hung = hung;
  ended = goes_on.goes_on;
  count = goes_on.others Count (λ no. no);
  came = came;
}

module _ (before after : PassState) (hand : Hand) (placing : Placing) (hanging : Hanging) (tried : IsTried before after hand placing hanging) where
  -- the records are of the same nodes
  pub numbers-tried : numbers_of after.lists.search.found ≡ numbers_of before.lists.search.found
  numbers-tried = ap numbers_of tried.found ∙ numbers-weighed before.lists.search.found

  -- and have the costs of their edges
  pub AllWeighed-tried : GoesOn before.view after.view → All (IsMeasured before.view hand.point) before.lists.search.found
      → All (IsWeighed after.view hand.point) after.lists.search.found
  AllWeighed-tried goes_on measured =
      let found = before.lists.search.found in
      subst (All (IsWeighed after.view hand.point)) (sym tried.found)
      (AllWeighed-seen before.view after.view hand.point found goes_on measured
      (λ k d below. SeesPair-later tried.mid after.view tried.ended _ (tried.hung.pairs k d below)))

-- each of these nodes with a clear edge costs no more than through the node in hand
abbrev pub IsRewiredBy : SharedState → View → View → List ℕ → Type 0
IsRewiredBy shared before after near =
    IfSome before.hand (λ hand. (i : ℕ) → Contains near i → Clear (space_of shared.task.scene) hand.point (point_of (tree_seen before).points i)
    → cost_seen after i ≤ hand.cost + cost_of hand.point (point_of (tree_seen before).points i))
