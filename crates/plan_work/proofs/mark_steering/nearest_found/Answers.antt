use Rattle.plan_work.proofs.Words.{List, map, ap, arith, subst, sym, ◌∙◌, take_all, All-at, FitsWord, Found, IsNextWord, IsNextWord-none, IsNearestOf, point_of}
use Rattle.plan_work.proofs.Words.{numbers_of, tree_seen, min}
use Rattle.plan_work.proofs.NearestListed.{IsNearestOf-least, IsNextWord-found, word_of}
use Rattle.plan_work.proofs.mark_steering.nearest_found.Goals as goal
use Rattle.plan_work.proofs.mark_steering.nearest_found.Goals.{After-found-found}

fits : (c : After-found-found) → FitsWord c.found-found.result
fits c = All-at FitsWord c.args.pass.now.lists.search.found c.others.index c.found-found.result c.found-found.ensures c.requires

pub others-init : goal.others-init
others-init c = IsNextWord-none 0 18446744073709551615 (omega arith)

pub pack_tree-requires-clause-parent : goal.pack_tree-requires-clause-parent
pack_tree-requires-clause-parent c = (fits (goal.at.pack_tree-requires-clause-parent c).After-found-found).node

pub pack_tree-requires-clause-cost : goal.pack_tree-requires-clause-cost
pack_tree-requires-clause-cost c = (fits (goal.at.pack_tree-requires-clause-cost c).After-found-found).distance

pub others-preserved : goal.others-preserved
others-preserved c =
    IsNextWord-found c.args.pass.now.lists.search.found c.others.index c.found-found.result 18446744073709551615 c.others.least c.min-least.result
    c.found-found.ensures c.others.invariant (c.min-least.ensures ∙ ap (min c.others.least) c.pack_tree.ensures)

pub returns : goal.returns
returns c =
    record {
      some = λ view p measured.
          let found = c.args.pass.now.lists.search.found in
          let all = take_all c.others.index found (omega (arith, c.others-test.false, c.found_count-count.ensures)) in
          let least = subst (λ (fs : List Found). IsNextWord (map word_of fs) 0 18446744073709551615 c.others.least) all c.others.invariant in
          subst (λ m. IsNearestOf view p (numbers_of found) (numbers_of found) m (point_of (tree_seen view).points m)) (sym c.pair_in.ensures.parent)
          (IsNearestOf-least view p found c.others.least measured c.requires (omega (arith, c.if-count-eq0.false, c.found_count-count.ensures)) least);
    }
