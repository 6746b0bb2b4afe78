-- Near lists and nearest nodes of a pass with the share of all workers, while it is shown nothing new but the count.
use Rattle.plan_work.proofs.Words.{◌≡◌, ℕ, ◌+◌, Some, List, length, sym, ap, ◌∙◌, subst, mark_at, ConfigurationSpace, cost_of, IsLeastParent, Parent, near}
use Rattle.plan_work.proofs.Words.{IsOpenTo, IsPresent, node_count, point_of, class_of, radius_of, radius_of_class, steered, SteersTo, near_new, Point}
use Rattle.plan_work.proofs.Words.{IsPresent-stands, point_of-stands, PointOf, TreeOf, cost_in, SeesAsBefore, HasWholeShare, PassState, SharedState, Found}
use Rattle.plan_work.proofs.Words.{AreOf, HasSteered, KeepsRecords, HasCounted, IsBestParentSeen, IsFilledWhole, IsSteeredWhole, SeesButCount, sees, setup_in}
use Rattle.plan_work.proofs.Words.{tree_seen, Hand, SharedRun, Claimed, View, seen_cost_through}
use Rattle.plan_work.proofs.MirroredTrees.{points_still}

-- ---- shares and hands

pub HasWholeShare-kept : (shared : SharedState) (before after : PassState) → KeepsRecords shared before after → HasWholeShare before.view
    → HasWholeShare after.view
HasWholeShare-kept shared before after keeps whole =
    ap (λ members. length members) keeps.crew ∙ whole ∙ ap (λ (r : SharedRun). r.workers) (sym keeps.goes_on.later.run)

pub HasCounted-kept : (before after : View) → after.hand ≡ before.hand → HasCounted before → HasCounted after
HasCounted-kept before after same counted = λ hand held. counted hand (sym same ∙ held)

pub HasCounted-claimed : (view : View) (hand : Hand) → view.hand ≡ Some hand → hand.stage ≡ Claimed → HasCounted view
HasCounted-claimed view hand held claimed = λ other own linked.
    let same : hand ≡ other = (let e : Some hand ≡ Some other = sym held ∙ own in cc) in
    let no = sym claimed ∙ ap (λ (h : Hand). h.stage) same ∙ linked in
    cc

-- ---- seen words

pub SeesButCount-all : (before after : View) → SeesAsBefore before after → SeesButCount before after
SeesButCount-all before after same = λ name other. same name

pub SeesButCount-trans : (before mid after : View) → SeesButCount before mid → SeesButCount mid after → SeesButCount before after
SeesButCount-trans before mid after one two = λ name other. two name other ∙ one name other

-- ---- near lists

-- the list that was found by the number of nodes seen
pub IsFilledWhole-found :
    (after : View) (p : Point) (nodes class : ℕ) (found : List Found) → class ≡ class_of nodes → nodes ≡ node_count (tree_seen after).points
    → AreOf found (near (tree_seen after).points p (radius_of_class after.run.step after.run.gamma (class_of nodes))) → IsFilledWhole after p class found
IsFilledWhole-found after p nodes class found is count all = record {
  class_is = is ∙ ap class_of count;
  found_is = subst (λ n. AreOf found (near (tree_seen after).points p (radius_of after.run.step after.run.gamma n))) count all;
}

module _ (before after : View) (run : after.run ≡ before.run) (same : (n : ℕ) → sees after (PointOf n) ≡ sees before (PointOf n)) where
  points : (tree_seen after).points ≡ (tree_seen before).points
  points = points_still before after run same

  -- it stays filled
  pub IsFilledWhole-still : (p : Point) (class : ℕ) (found : List Found) → IsFilledWhole before p class found → IsFilledWhole after p class found
  IsFilledWhole-still p class found filled = record {
    class_is = filled.class_is ∙ ap (λ ps. class_of (node_count ps)) (sym points);
    found_is =
        subst (AreOf found)
        (ap (λ (r : SharedRun). near_new (setup_in r) (tree_seen before).points p) (sym run)
        ∙ ap (λ ps. near_new (setup_in after.run) ps p) (sym points))
        filled.found_is;
  }

  -- the nearest of the nodes seen before is the nearest one
  pub IsSteeredWhole-found : (k m : ℕ) (from p : Point) → HasSteered before after k m from p → IsSteeredWhole after k m p
  IsSteeredWhole-found k m from p steers = record {
    nearest = record {
      member = IsPresent-stands (tree_seen after).points m from steers.stands;
      not_above = λ i h. steers.not_above i (subst (λ ps. IsPresent ps i) points h);
    };
    reached =
        steers.point_is
        ∙ ap (λ a. steered a (mark_at after.run.marks k) after.run.step) (sym (point_of-stands (tree_seen after).points m from steers.stands));
  }

  -- and it is still
  pub IsSteeredWhole-still : (k m : ℕ) (p : Point) → IsSteeredWhole before k m p → IsSteeredWhole after k m p
  IsSteeredWhole-still k m p steers =
      subst (λ ps. SteersTo (setup_in after.run) ps (mark_at after.run.marks k) m p) (sym points)
      (subst (λ (r : SharedRun). SteersTo (setup_in r) (tree_seen before).points (mark_at r.marks k) m p) (sym run) steers)

-- ---- parents

-- the best parent by the costs seen now is the best by those seen before
pub IsBestParentSeen-before :
    (space : ConfigurationSpace) (before after : View) (p : Point) (among : List ℕ) (parent : Parent) → after.run ≡ before.run
    → SeesAsBefore before after → IsBestParentSeen space after p among parent → IsBestParentSeen space before p among parent
IsBestParentSeen-before space before after p among parent run same best =
    let points = points_still before after run (λ n. same (PointOf n)) in
    let keys : seen_cost_through after p ≡ seen_cost_through before p = λ t. λ n. cost_in (same (TreeOf n) t) + cost_of (point_of (points t) n) p in
    subst (λ key. IsLeastParent key (IsOpenTo space (tree_seen before).points p among) parent) keys
    (subst (λ ps. IsLeastParent (seen_cost_through after p) (IsOpenTo space ps p among) parent) points best)
