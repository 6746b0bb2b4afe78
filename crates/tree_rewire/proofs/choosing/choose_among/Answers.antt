use Rattle.tree_rewire.proofs.Words.{◌∷◌, List, ℕ, ap, arith, subst, sym, ◌∙◌, All, All-cons, All-tail, Clear, point_of, ConfigurationSpace}
use Rattle.tree_rewire.proofs.Words.{GoesOn-trans, PassState, with_lists, with_view, tree_seen, IsPresent-later, IsBounded-clear_in_scene, AreKnown, IsClearTo}
use Rattle.tree_rewire.proofs.Words.{AreMeasured, nodes_on, weighed_on, IsBestParentSeen, IsInReach, NamesNothing, SeesAnew, SeesPair, SeesKnot}
use Rattle.tree_rewire.proofs.ChosenParents.{All-present, IsCostBelow-best, points_later}
use Rattle.tree_rewire.proofs.CostSteps.{SeesAnew-more, SeesAnew-trans}
use Rattle.tree_rewire.proofs.NearLists.{AreKnown-weighed, AreMeasured-later, nodes_on-then}
use Rattle.tree_rewire.proofs.SeenCosts.{IsLoadedSince-later, SeesPair-later}
use Rattle.tree_rewire.proofs.WholeShares.{SeesAsBefore-none, SeesAsBefore-trans}
use Rattle.tree_rewire.proofs.choosing.choose_among.Goals as goal

pub load_costs-requires-clause-near : goal.load_costs-requires-clause-near
load_costs-requires-clause-near g c = All-present c.args.pass.now.view c.args.p (nodes_on c.args.among c.args.pass.now.lists) c.requires.near

pub weigh-requires : goal.weigh-requires
weigh-requires g c =
    let before = c.args.pass.now in
    let steps = c.load_costs.ensures.steps in
    let mid = c.load_costs.new.pass in
    record {
      measured = (
        c.args.p,
        (IsBounded-clear_in_scene c.args.shared.now.task.scene (point_of (tree_seen before.view).points c.args.nearest) c.args.p c.requires.clear).1,
        subst (λ (s : PassState). AreMeasured c.args.among mid.view c.args.p s.lists) (sym steps.view_alone)
            (AreMeasured-later c.args.among before.view mid.view c.args.p before.lists steps.sees_anew.goes_on c.requires.measured),
      );
    }

-- ---- once all costs are loaded and the edges weighed

pub best_open-requires-clause-bounded : goal.best_open-requires-clause-bounded
best_open-requires-clause-bounded g c κs within =
    (IsBounded-clear_in_scene c.args.shared.now.task.scene (point_of (tree_seen c.args.pass.now.view).points c.args.nearest) c.args.p c.requires.clear).1

pub best_open-requires-clause-nearest : goal.best_open-requires-clause-nearest
best_open-requires-clause-nearest g c κs within =
    let goes_on = c.load_costs.ensures.steps.sees_anew.goes_on in
    subst (λ (s : PassState). SeesKnot s.view c.args.nearest) (sym c.weigh.ensures) (record {
      stands = IsPresent-later c.args.pass.now.view c.load_costs.new.pass.view goes_on.later.run goes_on.later.seen c.args.nearest c.requires.nearest.present;
      written = c.load_costs.ensures.pairs 0 0 (omega arith);
    })

pub best_open-requires-clause-clear : goal.best_open-requires-clause-clear
best_open-requires-clause-clear g c κs within =
    let before = c.args.pass.now.view in
    let goes_on = c.load_costs.ensures.steps.sees_anew.goes_on in
    let here = subst (λ s. Clear s (point_of (tree_seen before).points c.args.nearest) c.args.p) (sym c.requires.hall) c.requires.clear in
    subst (λ (s : PassState). IsClearTo (g.C.Clearing.space c.args.hall.now) s.view c.args.p c.args.nearest) (sym c.weigh.ensures)
    (subst (λ q. Clear (g.C.Clearing.space c.args.hall.now) q c.args.p)
    (sym (points_later before c.load_costs.new.pass.view c.args.nearest goes_on c.requires.nearest.present)) here)

pub best_open-requires-clause-known : goal.best_open-requires-clause-known
best_open-requires-clause-known g c κs within =
    let before = c.args.pass.now in
    let mid = c.load_costs.new.pass in
    let steps = c.load_costs.ensures.steps in
    let near = nodes_on c.args.among before.lists in
    subst (λ (s : PassState). AreKnown c.args.among s.view c.args.p s.lists) (sym c.weigh.ensures)
    (subst (λ (s : PassState). AreKnown c.args.among mid.view c.args.p (weighed_on c.args.among s.lists)) (sym steps.view_alone)
    (AreKnown-weighed c.args.among before.view mid.view c.args.p before.lists steps.sees_anew.goes_on c.requires.measured c.requires.near
    (All-tail (SeesPair mid.view) c.args.nearest near c.load_costs.ensures.pairs)))

-- ---- what is answered

pub returns : goal.returns
returns g c =
    let p = c.args.p in
    let nearest = c.args.nearest in
    let before = c.args.pass.now.view in
    let mid = c.load_costs.new.pass.view in
    let after = c.best_open.new.pass.view in
    let near = nodes_on c.args.among c.args.pass.now.lists in
    let loads = c.load_costs.ensures.steps in
    -- nothing is seen anew but what was loaded
    let none = subst (λ (s : PassState). SeesAnew NamesNothing s.view after) c.weigh.ensures c.best_open.ensures.steps.sees_anew in
    let same = nodes_on-then c.args.among c.args.pass.now c.load_costs.new.pass c.weigh.new.pass loads.view_alone c.weigh.ensures in
    let best = λ (space : ConfigurationSpace) (ns : List ℕ). IsBestParentSeen space after p (nearest ∷ ns) c.best_open.result in
    let least = subst (λ s. best s near) c.requires.hall (subst (best (g.C.Clearing.space c.args.hall.now)) same c.best_open.ensures.least) in
    let pairs : All (SeesPair after) (nearest ∷ near) = λ k d below. SeesPair-later mid after none.goes_on _ (c.load_costs.ensures.pairs k d below) in
    record {
      belongs = c.best_open.ensures.steps.belongs;
      seen = SeesAnew-trans loads.sees_anew (SeesAnew-more (λ name no. absurd no) none);
      alone = c.best_open.ensures.steps.view_alone ∙ ap (λ s. with_view s after) c.weigh.ensures
          ∙ ap (λ (s : PassState). with_view (with_lists s (weighed_on c.args.among s.lists)) after) loads.view_alone;
      pairs = pairs;
      loaded = λ k d below.
          IsLoadedSince-later mid after none.goes_on before.steps _ loads.sees_anew.goes_on.later.steps (c.load_costs.ensures.loaded k d below);
      least = least;
      below = IsCostBelow-best c.args.shared.now before after p (nearest ∷ near) c.best_open.result c.best_open.ensures.steps.belongs.run
          (GoesOn-trans before mid after loads.sees_anew.goes_on none.goes_on)
          (All-cons (IsInReach before p) nearest near c.requires.nearest c.requires.near) pairs least;
      whole = λ all. SeesAsBefore-trans before mid after (c.load_costs.ensures.whole all) (SeesAsBefore-none none);
    }
