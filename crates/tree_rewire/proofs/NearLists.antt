-- The nodes on a list of a pass, and what is known of them.
use Rattle.tree_rewire.proofs.Words.{◌≡◌, refl, sym, ap, ◌∙◌, All, All-map, Point, cost_of, squared_distance, SearchLists, numbers_of, GoesOn, Lists, PassState}
use Rattle.tree_rewire.proofs.Words.{with_lists, with_view, Found, IsPresent-later, View, AreKnown, AreMeasured, IsMeasured, nodes_on, weighed_on, IsInReach}
use Rattle.tree_rewire.proofs.Words.{SeesPair, SeesKnot, NearNodes, Listed, Searched}
use Rattle.tree_rewire.proofs.ChosenFound.{AllWeighed-seen}
use Rattle.tree_rewire.proofs.ChosenParents.{points_later}
use Rattle.tree_rewire.proofs.FoundLists.{numbers-weighed}
use Rattle.tree_rewire.proofs.SeenCosts.{SeesPair-later}

-- they stay while these lists do
pub nodes_on-kept : (among : NearNodes) (before after : Lists) → after.near ≡ before.near → after.search ≡ before.search
    → nodes_on among after ≡ nodes_on among before
nodes_on-kept Listed before after near search = near
nodes_on-kept Searched before after near search = ap (λ (s : SearchLists). numbers_of s.found) search

-- the costs of edges change no number
pub nodes_on-weighed : (among : NearNodes) (lists : Lists) → nodes_on among (weighed_on among lists) ≡ nodes_on among lists
nodes_on-weighed Listed lists = refl
nodes_on-weighed Searched lists = numbers-weighed lists.search.found

-- so they are those from before, once costs are loaded and the edges weighed
pub nodes_on-then : (among : NearNodes) (before mid now : PassState) → mid ≡ with_view before mid.view
    → now ≡ with_lists mid (weighed_on among mid.lists) → nodes_on among now.lists ≡ nodes_on among before.lists
nodes_on-then among before mid now mid_is now_is =
    ap (λ (s : PassState). nodes_on among s.lists) now_is ∙ nodes_on-weighed among mid.lists ∙ ap (λ (s : PassState). nodes_on among s.lists) mid_is

-- a distance stays
pub IsMeasured-later : (before after : View) (p : Point) (f : Found) → GoesOn before after → IsMeasured before p f → IsMeasured after p f
IsMeasured-later before after p f goes_on h = record {
  present = IsPresent-later before after goes_on.later.run goes_on.later.seen f.node h.present;
  distance = h.distance ∙ ap (λ q. squared_distance q p) (sym (points_later before after f.node goes_on h.present));
}

pub AreMeasured-later : (among : NearNodes) (before after : View) (p : Point) (lists : Lists) → GoesOn before after → AreMeasured among before p lists
    → AreMeasured among after p lists
AreMeasured-later Listed before after p lists goes_on measured = tt
AreMeasured-later Searched before after p lists goes_on measured = λ k d below. IsMeasured-later before after p _ goes_on (measured k d below)

-- each is seen with its point and its cost
pub AllKnots-known : (among : NearNodes) (view : View) (p : Point) (lists : Lists) → AreKnown among view p lists
    → All (SeesKnot view) (nodes_on among lists)
AllKnots-known Listed view p lists known = known
AllKnots-known Searched view p lists known =
    All-map (SeesKnot view) (λ (f : Found). f.node) lists.search.found (λ k d below. record {
      stands = (known k d below).present;
      written = (known k d below).pair;
    })

-- once their costs are loaded, and the costs of their edges worked out
pub AreKnown-weighed : (among : NearNodes) (before after : View) (p : Point) (lists : Lists) → GoesOn before after
    → AreMeasured among before p lists → All (IsInReach before p) (nodes_on among lists) → All (SeesPair after) (nodes_on among lists)
    → AreKnown among after p (weighed_on among lists)
AreKnown-weighed Listed before after p lists goes_on measured reach pairs = λ k d below. record {
  stands = IsPresent-later before after goes_on.later.run goes_on.later.seen _ (reach k d below).present;
  written = pairs k d below;
}
AreKnown-weighed Searched before after p lists goes_on measured reach pairs = AllWeighed-seen before after p lists.search.found goes_on measured pairs

-- and still so
pub AreKnown-later : (among : NearNodes) (before after : View) (p : Point) (lists : Lists) → GoesOn before after → AreKnown among before p lists
    → AreKnown among after p lists
AreKnown-later Listed before after p lists goes_on known = λ k d below. record {
  stands = IsPresent-later before after goes_on.later.run goes_on.later.seen _ (known k d below).stands;
  written = SeesPair-later before after goes_on _ (known k d below).written;
}
AreKnown-later Searched before after p lists goes_on known = λ k d below. record {
  present = IsPresent-later before after goes_on.later.run goes_on.later.seen _ (known k d below).present;
  pair = SeesPair-later before after goes_on _ (known k d below).pair;
  edge = (known k d below).edge ∙ ap (λ q. cost_of q p) (sym (points_later before after _ goes_on (known k d below).present));
}
