use Rattle.tree_rewire.proofs.Words.{◌+◌, ◌≡◌, ◌<◌, ◌≤◌, ℕ, ap, arith, inl, inr, subst, suc, sym, ◌∙◌, All, Contains, IfSome, IsSome, cases_Bool, ltb-false}
use Rattle.tree_rewire.proofs.Words.{All-contains, All-map, Contains-get_or, cost_of, Clear, space_of, point_of, cost_of-swap, at_hand, if_hand}
use Rattle.tree_rewire.proofs.Words.{Contains-number, HasPostedGoals, numbers_of, HasWholeShare, Lists, PassState, share, tree_seen, View, Mirrors}
use Rattle.tree_rewire.proofs.Words.{HasPlaced, HasSpreadFalls, IsWeighed, IsInReach, NamesLoweredOrPoint, SeesAnew, SeesPair, cost_seen, Found}
use Rattle.tree_rewire.proofs.RewiredFound.{Rewires-few, few_all, few_in, held_hand, placed_cost_of, test}
use Rattle.tree_rewire.proofs.SeenCosts.{SeesPair-later, cost_seen-later, pair_low}
use Rattle.tree_rewire.proofs.rewiring.rewire_found.Goals as goal

pub seen_cost-cost-requires-clause-pair : goal.seen_cost-cost-requires-clause-pair
seen_cost-cost-requires-clause-pair g c =
    let view = c.args.pass.now.view in
    let own = held_hand view c.args.k c.args.pass.now.lists.search.found c.requires.hand c.requires.placed c.requires.near c.requires.weighed in
    subst (SeesPair view) (omega arith) own.placed.pair

pub keep_dearer-requires-clause-cost : goal.keep_dearer-requires-clause-cost
keep_dearer-requires-clause-cost g c =
    let view = c.args.pass.now.view in
    let own = held_hand view c.args.k c.args.pass.now.lists.search.found c.requires.hand c.requires.placed c.requires.near c.requires.weighed in
    let next : suc c.args.k ≡ c.args.k + 1 = omega arith in
    omega (arith, (c.requires.belongs.lawful.pairs (suc c.args.k) own.placed.pair).low, c.seen_cost-cost.ensures, ap (cost_seen view) next)

pub keep_dearer-requires-clause-low : goal.keep_dearer-requires-clause-low
keep_dearer-requires-clause-low g c =
    let view = c.args.pass.now.view in
    let own = held_hand view c.args.k c.args.pass.now.lists.search.found c.requires.hand c.requires.placed c.requires.near c.requires.weighed in
    λ k d below. pair_low view _ c.requires.belongs.lawful (own.weighed k d below).pair

pub rewire_each-requires-clause-belongs : goal.rewire_each-requires-clause-belongs
rewire_each-requires-clause-belongs g c κs within = record {
  table = ap (λ (s : PassState). s.table) c.keep_dearer.ensures.others ∙ c.requires.belongs.table;
  run = ap (λ (s : PassState). s.view.run) c.keep_dearer.ensures.others ∙ c.requires.belongs.run;
  lawful = c.keep_dearer.ensures.lawful;
}

pub rewire_each-requires-clause-part : goal.rewire_each-requires-clause-part
rewire_each-requires-clause-part g c κs within = subst (λ (s : PassState). 0 < share s.view) (sym c.keep_dearer.ensures.others) c.requires.part

pub rewire_each-requires-clause-hand : goal.rewire_each-requires-clause-hand
rewire_each-requires-clause-hand g c κs within = subst (λ (s : PassState). IsSome s.view.hand) (sym c.keep_dearer.ensures.others) c.requires.hand

pub rewire_each-requires-clause-placed : goal.rewire_each-requires-clause-placed
rewire_each-requires-clause-placed g c κs within =
    subst (λ (s : PassState). IfSome s.view.hand (HasPlaced s.view c.args.k)) (sym c.keep_dearer.ensures.others) c.requires.placed

pub rewire_each-requires-clause-near : goal.rewire_each-requires-clause-near
rewire_each-requires-clause-near g c κs within =
    let view = c.args.pass.now.view in
    let found = c.args.pass.now.lists.search.found in
    let few = c.keep_dearer.new.self.lists.search.found in
    let own = held_hand view c.args.k found c.requires.hand c.requires.placed c.requires.near c.requires.weighed in
    subst (λ (s : PassState). IfSome s.view.hand (λ hand. All (IsInReach s.view hand.point) (numbers_of few))) (sym c.keep_dearer.ensures.others)
    (if_hand (λ hand. All (IsInReach view hand.point) (numbers_of few)) view.hand own.hand own.held
    (λ i d below.
    All-contains (IsInReach view own.hand.point) (numbers_of found) _ own.near
    (few_in view own.hand.point c.seen_cost-cost.result found few own.weighed c.keep_dearer.ensures.same _ (Contains-get_or (numbers_of few) i d below))))

-- ---- what is answered

pub returns : goal.returns
returns g c =
    let view = c.args.pass.now.view in
    let new = c.rewire_each.new.pass.view in
    let points = (tree_seen view).points in
    let space = space_of c.args.shared.now.task.scene in
    let found = c.args.pass.now.lists.search.found in
    let few = c.keep_dearer.new.self.lists.search.found in
    let cost = c.seen_cost-cost.result in
    let own = held_hand view c.args.k found c.requires.hand c.requires.placed c.requires.near c.requires.weighed in
    let from = own.hand.point in
    let lists = c.keep_dearer.ensures.search in
    let view_is : c.keep_dearer.new.self.view ≡ view = ap (λ (s : PassState). s.view) c.keep_dearer.ensures.others in
    let seen = subst (λ v. SeesAnew NamesLoweredOrPoint v new) view_is c.rewire_each.ensures.seen in
    let next : c.args.k + 1 ≡ suc c.args.k = omega arith in
    let rewired = at_hand
    (λ hand. (i : ℕ) → Contains (numbers_of few) i → Clear space hand.point (point_of points i)
    → cost_seen new i ≤ hand.cost + cost_of hand.point (point_of points i)) view.hand own.hand own.held
    (subst (λ (v : View). IfSome v.hand (λ hand. (i : ℕ) → Contains (numbers_of few) i → Clear space hand.point (point_of (tree_seen v).points i)
    → cost_seen new i ≤ hand.cost + cost_of hand.point (point_of (tree_seen v).points i))) view_is c.rewire_each.ensures.rewired) in
    let fallen = subst (λ v. HasSpreadFalls space (Contains (numbers_of few)) (suc c.args.k) v new) view_is c.rewire_each.ensures.spread in
    record {
      belongs = c.rewire_each.ensures.belongs;
      seen = seen;
      lists = (c.rewire_each.ensures.lists.0 ∙ ap (λ (l : Lists). l.near) lists, c.rewire_each.ensures.lists.1 ∙ ap (λ (l : Lists). l.around) lists);
      pairs = All-map (SeesPair new) (λ (f : Found). f.node) found
          (λ k d below. SeesPair-later view new seen.goes_on _ (own.weighed k d below).pair);
      rewired = if_hand
          (λ hand. (i : ℕ) → Contains (numbers_of found) i → Clear space hand.point (point_of points i)
          → cost_seen new i ≤ hand.cost + cost_of hand.point (point_of points i)) view.hand own.hand own.held
          (λ i on clear. elim (cases_Bool (test view from cost found few own.weighed c.keep_dearer.ensures.same i)) [
            | inl dearer ↦ rewired i (few_all view from cost found few own.weighed c.keep_dearer.ensures.same i on dearer) clear
            | inr off ↦
                let f = Contains-number found i on in
                let pair = subst (SeesPair view) f.2 (All-contains (IsWeighed view from) found f.0 own.weighed f.1).pair in
                omega (
                  arith,
                  ltb-false (cost + cost_of (point_of points i) from) (cost_seen view i) off,
                  cost_of-swap (point_of points i) from,
                  cost_seen-later view new seen.goes_on i pair,
                  c.seen_cost-cost.ensures,
                  placed_cost_of view c.args.k own.hand own.held own.placed c.requires.belongs.lawful,
                )
          ]);
      spread = λ n falls. elim (fallen n falls) [
        | inl within ↦ inl within
        | inr hangs ↦ inr (record {
          listed = few_in view from cost found few own.weighed c.keep_dearer.ensures.same n hangs.listed;
          shortcut = hangs.shortcut;
          elsewhere = hangs.elsewhere;
        })
      ];
      goals = subst (λ v. HasWholeShare v → HasPostedGoals v → HasPostedGoals new) view_is c.rewire_each.ensures.goals;
      whole = λ all tree mirrors near rising of.
          let got = c.rewire_each.ensures.whole (subst HasWholeShare (sym view_is) all) tree (subst (λ v. Mirrors v tree) (sym view_is) mirrors) in (
            got.0,
            Rewires-few view from cost (suc c.args.k) found few own.weighed c.keep_dearer.ensures.same tree mirrors own.placed.stands
                (c.seen_cost-cost.ensures ∙ ap (cost_seen view) next) space near got.0 c.requires.belongs.lawful all
                c.keep_dearer.ensures.rising rising of got.1,
            got.2,
          );
    }
