use Rattle.tree_rewire.proofs.Words.{◌≡◌, ◌≢◌, ℕ, ◌∙◌, ◌+◌, ◌*◌, ◌<◌, ◌≤◌, ap, arith, inl, inr, refl, subst, sym, cases_lt, Clear, cost_of, squared_distance}
use Rattle.tree_rewire.proofs.Words.{point_of, IsCheaperThrough, with_parent, squared_distance-swap, TreeOf, cost_in, HasPostedGoals, SeesAsBefore}
use Rattle.tree_rewire.proofs.Words.{HasWholeShare, GoesOn-trans, HasPostedGoals-same, sees, setup_in, tree_seen, IsBounded-seen, IsPresent-later}
use Rattle.tree_rewire.proofs.Words.{NamesNothing, NamesTree, PassLowers, PassSees, SeesPair, cost_seen}
use Rattle.tree_rewire.proofs.CostSteps.{PassLowers-sees, PassLowers-trans}
use Rattle.tree_rewire.proofs.CostSteps.{PassSees-more, PassSees-point, PassSees-trans, Lowered-tree, LoweredOrPoint-lowered}
use Rattle.tree_rewire.proofs.LoweredCosts.{IsWithinParent-below}
use Rattle.tree_rewire.proofs.MirroredTrees.{Mirrors-same}
use Rattle.tree_rewire.proofs.RewiredTrees.{AllTightBut-lowered, Clear-cheaper_through, IsCheaperThrough-seen, Mirrors-rewired, less-cheaper_through}
use Rattle.tree_rewire.proofs.SeenCosts.{SeesNode-pair, SeesPair-later, cost_seen-later, point_later, stands_later}
use Rattle.tree_rewire.proofs.SpreadFalls.{HasSpreadFalls-none, HasSpreadFalls-turn, IsShortcut-seen}
use Rattle.tree_rewire.proofs.WholeShares.{HasWholeShare-later, SeesAsBefore-none, SeesAsBefore-trans}
use Rattle.tree_rewire.proofs.rewiring.rewire_node.Given.{Over}
use Rattle.tree_rewire.proofs.rewiring.rewire_node.Goals as goal
use Rattle.tree_rewire.proofs.rewiring.rewire_node.Goals.{After-seen_cost}
use Rattle.tree_rewire.proofs.rewiring.rewire_node.Goals.{else-costs_less_through-via-then-costs_less_through+else-clear}
use Rattle.tree_rewire.proofs.rewiring.rewire_node.Goals.{else-costs_less_through-via-else-costs_less_through}

pub point-to-requires-clause-seen_node : goal.point-to-requires-clause-seen_node
point-to-requires-clause-seen_node g c =
    let known = c.known_cost-kept_cost.ensures in
    SeesNode-pair c.known_cost-kept_cost.new.pass.view c.args.node known.steps.sees_anew.goes_on.lawful known.pair

-- the point of the node is loaded again
loads_point : (g : Over) (c : After-seen_cost g) → PassSees NamesNothing c.args.shared.now c.known_cost-kept_cost.new.pass c.point-to.new.pass
loads_point g c =
    let known = c.known_cost-kept_cost.ensures.steps in
    let later = known.sees_anew.goes_on.later in
    PassSees-point c.args.shared.now c.known_cost-kept_cost.new.pass c.point-to.new.pass c.args.node _ _ known.belongs
    (IsPresent-later c.args.pass.now.view c.known_cost-kept_cost.new.pass.view later.run later.seen c.args.node c.requires.reach.present)
    c.point-to.ensures.view c.point-to.ensures.goes_on c.point-to.ensures.seen c.point-to.ensures.looked

-- its cost is known, and its point is loaded
loads : (g : Over) (c : After-seen_cost g) → PassSees NamesTree c.args.shared.now c.args.pass.now c.point-to.new.pass
loads g c =
    PassSees-trans c.known_cost-kept_cost.ensures.steps (PassSees-more (λ name no. absurd no) (loads_point g c))

-- a pass with the whole share sees nothing new by that
loads_whole : (g : Over) (c : After-seen_cost g) → HasWholeShare c.args.pass.now.view → SeesAsBefore c.args.pass.now.view c.point-to.new.pass.view
loads_whole g c all =
    SeesAsBefore-trans c.args.pass.now.view c.known_cost-kept_cost.new.pass.view c.point-to.new.pass.view (c.known_cost-kept_cost.ensures.whole all)
    (SeesAsBefore-none (loads_point g c).sees_anew)

-- and what was seen with a cost is seen as before
loads_kept : (g : Over) (c : After-seen_cost g) → (n : ℕ) → SeesPair c.args.pass.now.view n
    → sees c.point-to.new.pass.view (TreeOf n) ≡ sees c.args.pass.now.view (TreeOf n)
loads_kept g c n pair = (loads_point g c).sees_anew.others (TreeOf n) (λ no. no) ∙ c.known_cost-kept_cost.ensures.kept n pair

-- it is where it was seen
to_is : (g : Over) (c : After-seen_cost g) → c.point-to.result ≡ point_of (tree_seen c.args.pass.now.view).points c.args.node
to_is g c =
    point_later c.args.pass.now.view c.point-to.new.pass.view (loads g c).sees_anew.goes_on c.args.node c.point-to.result c.requires.reach.present
    c.point-to.ensures.found

pub costs_less_through-requires-clause-from : goal.costs_less_through-requires-clause-from
costs_less_through-requires-clause-from g c = IsBounded-seen c.args.pass.now.view c.args.parent c.args.from c.requires.parent

-- a pass with the whole share keeps its goal nodes posted
loads_goals : (g : Over) (c : After-seen_cost g) → HasWholeShare c.args.pass.now.view → HasPostedGoals c.args.pass.now.view
    → HasPostedGoals c.point-to.new.pass.view
loads_goals g c all =
    HasPostedGoals-same c.args.pass.now.view c.point-to.new.pass.view (loads g c).sees_anew.goes_on (loads_whole g c all)

-- and what the node was seen to cost is what it is seen to cost still
kept_is : (g : Over) (c : After-seen_cost g) → c.known_cost-kept_cost.result ≡ cost_seen c.point-to.new.pass.view c.args.node
kept_is g c = omega (arith, c.known_cost-kept_cost.ensures.cost, ap cost_in ((loads_point g c).sees_anew.others (TreeOf c.args.node) (λ no. no)))

pair_then : (g : Over) (c : After-seen_cost g) → SeesPair c.point-to.new.pass.view c.args.node
pair_then g c =
    SeesPair-later c.known_cost-kept_cost.new.pass.view c.point-to.new.pass.view c.point-to.ensures.goes_on c.args.node c.known_cost-kept_cost.ensures.pair

pub improve-requires-clause-belongs : goal.improve-requires-clause-belongs
improve-requires-clause-belongs g c = (loads g (goal.at.improve-requires-clause-belongs g c).After-seen_cost).belongs

pub improve-requires-clause-parent : goal.improve-requires-clause-parent
improve-requires-clause-parent g c =
    let to = goal.at.improve-requires-clause-parent g c in
    stands_later c.args.pass.now.view c.point-to.new.pass.view (loads g to.After-seen_cost).sees_anew.goes_on c.args.parent c.args.from c.requires.parent

pub improve-requires-clause-parent_pair : goal.improve-requires-clause-parent_pair
improve-requires-clause-parent_pair g c =
    let to = (goal.at.improve-requires-clause-parent_pair g c).After-seen_cost in
    SeesPair-later c.args.pass.now.view c.point-to.new.pass.view (loads g to).sees_anew.goes_on c.args.parent c.requires.parent_pair

pub improve-requires-clause-edge : goal.improve-requires-clause-edge
improve-requires-clause-edge g c =
    let to = (goal.at.improve-requires-clause-edge g c).After-seen_cost in
    let steps = loads g to in
    let run = steps.sees_anew.goes_on.later.run in
    record {
      clear = subst (λ r. Clear (setup_in r).space c.args.from c.point-to.result) (sym steps.belongs.run)
          (subst (λ s. Clear s c.args.from c.point-to.result) c.requires.hall (c.clear.ensures.0 c.if-clear.true));
      short = subst (λ r. squared_distance c.args.from c.point-to.result ≤ r.step * r.step) (sym run)
          (omega (
            arith,
            c.requires.reach.short,
            squared_distance-swap c.args.from c.point-to.result,
            ap (λ q. squared_distance q c.args.from) (to_is g to),
          ));
    }

pub improve-requires-clause-from : goal.improve-requires-clause-from
improve-requires-clause-from g c = IsBounded-seen c.args.pass.now.view c.args.parent c.args.from c.requires.parent

pub improve-requires-clause-pair : goal.improve-requires-clause-pair
improve-requires-clause-pair g c = pair_then g (goal.at.improve-requires-clause-pair g c).After-seen_cost

pub spread-requires-clause-pair : goal.spread-requires-clause-pair
spread-requires-clause-pair g c =
    SeesPair-later c.point-to.new.pass.view c.improve.new.pass.view c.improve.ensures.steps.sees_anew.goes_on c.args.node
    (pair_then g (goal.at.spread-requires-clause-pair g c).After-seen_cost)

-- ---- what is answered

pub returns-then-clear : goal.returns-then-clear
returns-then-clear g c =
    let here = (goal.at.returns-then-clear g c).After-seen_cost in
    let space = g.C.Clearing.space c.args.hall.now in
    let start = c.args.pass.now.view in
    let before = c.point-to.new.pass.view in
    let mid = c.improve.new.pass.view in
    let after = c.spread.new.pass.view in
    let n = c.args.parent in
    let i = c.args.node in
    let from = c.args.from in
    let at = c.point-to.result in
    let loads = loads g here in
    let loaded = loads.sees_anew.goes_on in
    let improves = c.improve.ensures.steps in
    let improved = improves.sees_anew.goes_on in
    let spread = c.spread.ensures.seen in
    let spreads : PassLowers c.args.shared.now c.improve.new.pass c.spread.new.pass = record {
      belongs = c.spread.ensures.belongs;
      sees_anew = spread;
      near = c.spread.ensures.lists.0;
      around = c.spread.ensures.lists.1;
      search = c.spread.ensures.lists.2;
    } in
    let pair = SeesPair-later before mid improved i (pair_then g here) in
    let to_mid = GoesOn-trans start before mid loaded improved in
    let less : cost_seen before n + cost_of from at < cost_seen before i =
    omega (arith, c.costs_less_through.ensures.0 c.if-costs_less_through.true, c.seen_cost.ensures, kept_is g here) in
    let clear = c.clear.ensures.0 c.if-clear.true in
    let apart : n ≢ i = λ e. omega (arith, less, ap (cost_seen before) e) in
    let most : cost_seen mid i ≤ cost_seen mid n + cost_of from at =
    omega (arith, c.improve.ensures.most, ap cost_in (c.improve.ensures.others n apart)) in
    let parent_stands = stands_later start before loaded n from c.requires.parent in
    let stands = c.point-to.ensures.found in
    let whole_before : HasWholeShare start → HasWholeShare before = HasWholeShare-later loads.sees_anew in
    let whole_mid : HasWholeShare start → HasWholeShare mid = λ all. HasWholeShare-later improves.sees_anew (whole_before all) in
    record {
      steps = PassLowers-trans
          (PassLowers-sees (PassSees-more LoweredOrPoint-lowered (PassSees-trans (PassSees-more Lowered-tree loads) improves))) spreads;
      pair = SeesPair-later mid after spread.goes_on i pair;
      rewired = λ clear.
          omega (
            arith,
            c.improve.ensures.most,
            cost_seen-later mid after spread.goes_on i pair,
            cost_seen-later start before loaded n c.requires.parent_pair,
            ap (cost_of from) (to_is g here),
          );
      spread = HasSpreadFalls-turn space n i start mid after to_mid spread.goes_on
          (λ m pair other. c.improve.ensures.others m other ∙ loads_kept g here m pair)
          (λ pair. IsShortcut-seen space start after n i from at (GoesOn-trans start mid after to_mid spread.goes_on) c.requires.parent (to_is g here) clear
          (omega (
            arith,
            less,
            cost_seen-later start before loaded i pair,
            ap cost_in (c.improve.ensures.others n apart),
            cost_seen-later mid after spread.goes_on n (SeesPair-later start mid to_mid n c.requires.parent_pair),
          )))
          (λ own. IsWithinParent-below mid i n at from own (stands_later before mid improved i at stands)
          (stands_later start mid to_mid n from c.requires.parent) most)
          c.spread.ensures.spread c.spread.ensures.settled;
      goals = λ all posted. c.spread.ensures.goals (whole_mid all) (c.improve.ensures.goals (whole_before all) (loads_goals g here all posted));
      whole = λ all tree mirrors.
          let same = Mirrors-same start before tree loaded.later (loads_whole g here all) mirrors in
          let writes = c.improve.ensures.whole (whole_before all) less in
          let tight = c.spread.ensures.whole_tight (whole_mid all)
          (AllTightBut-lowered before mid tree n i from at loaded.lawful (whole_before all) same parent_stands stands less improved.later writes) in (
            with_parent tree i n,
            inl (IsCheaperThrough-seen before tree n i from at same parent_stands stands space less clear, refl),
            Mirrors-rewired before mid tree n i from at loaded.lawful (whole_before all) same parent_stands stands less improved.later writes after
                (GoesOn-trans before mid after improved spread.goes_on) (HasWholeShare-later spread (whole_mid all)) spread.goes_on.later
                (c.spread.ensures.whole (whole_mid all)) tight,
          );
    }

pub returns-else-costs_less_through : goal.returns-else-costs_less_through
returns-else-costs_less_through g c =
    let here = (goal.at.returns-else-costs_less_through g c).After-seen_cost in
    let space = g.C.Clearing.space c.args.hall.now in
    let start = c.args.pass.now.view in
    let before = c.point-to.new.pass.view in
    let n = c.args.parent in
    let i = c.args.node in
    let from = c.args.from in
    let at = c.point-to.result in
    let loads = loads g here in
    let loaded = loads.sees_anew.goes_on in
    let parent_stands = stands_later start before loaded n from c.requires.parent in
    let stands = c.point-to.ensures.found in
    record {
      steps = PassLowers-sees (PassSees-more (λ name h. LoweredOrPoint-lowered name (Lowered-tree name h)) loads);
      pair = pair_then g here;
      rewired = λ clear. elim c.else-costs_less_through.branch [
        | else-costs_less_through-via-then-costs_less_through+else-clear w ↦
            absurd (let yes = w.clear.ensures.1 (subst (Clear space from) (sym (to_is g here)) clear) in cc)
        | else-costs_less_through-via-else-costs_less_through w ↦
            elim (cases_lt (c.seen_cost.result + cost_of from at) c.known_cost-kept_cost.result) [
              | inl less ↦ absurd (let yes = c.costs_less_through.ensures.1 less in let no = w.if-costs_less_through.false in cc)
              | inr most ↦
                  omega (
                    arith,
                    most,
                    kept_is g here,
                    c.seen_cost.ensures,
                    cost_seen-later start before loaded n c.requires.parent_pair,
                    ap (cost_of from) (to_is g here),
                  )
            ]
      ];
      spread = HasSpreadFalls-none space (λ m. m ≡ i) n start before (loads_kept g here);
      goals = loads_goals g here;
      whole = λ all tree mirrors.
          let same = Mirrors-same start before tree loaded.later (loads_whole g here all) mirrors in
          let not : ¬ IsCheaperThrough space tree n i =
          λ h. elim c.else-costs_less_through.branch [
            | else-costs_less_through-via-then-costs_less_through+else-clear w ↦
                (let yes = w.clear.ensures.1 (Clear-cheaper_through before tree n i from at same parent_stands stands space h) in cc)
            | else-costs_less_through-via-else-costs_less_through w ↦
                (let less = less-cheaper_through before tree n i from at same parent_stands stands space h in
                let yes = c.costs_less_through.ensures.1 (omega (arith, less, kept_is g here, c.seen_cost.ensures)) in
                let no = w.if-costs_less_through.false in
                cc)
          ] in
          (tree, inr (not, refl), same);
    }
