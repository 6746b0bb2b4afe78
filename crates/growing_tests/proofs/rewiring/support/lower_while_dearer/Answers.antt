use Rattle.growing_tests.proofs.Words.{◌≡◌, ◌+◌, ap, arith, subst, sym, ◌∙◌, IsAllowedEdge, TreeOf, cost_in, GoesOn-trans, setup_in, PassSees-lower}
use Rattle.growing_tests.proofs.Words.{MayLower-less, SeesPair-later, stands_later}
use Rattle.growing_tests.proofs.LoweredNodes.WorkingPasses.{IsAtWork-kept}
use Rattle.growing_tests.proofs.rewiring.support.lower_while_dearer.Goals as goal

pub lower-found-requires-clause-may : goal.lower-found-requires-clause-may
lower-found-requires-clause-may c =
    let before = c.args.pass.now.view in
    let now = c.lowers.pass.view in
    let h = c.lowers.invariant in
    MayLower-less now c.args.edge.node c.args.edge.parent (c.seen_cost.result + c.cost.result) c.args.edge.at c.args.edge.from
    (stands_later before now h.goes_on c.args.edge.node c.args.edge.at c.requires.node) h.pair
    (stands_later before now h.goes_on c.args.edge.parent c.args.edge.from c.requires.parent)
    (SeesPair-later before now h.goes_on c.args.edge.parent c.requires.parent_pair)
    (subst (λ r. IsAllowedEdge (setup_in r) c.args.edge.from c.args.edge.at) (sym h.works.belongs.run) c.requires.allowed)
    (omega (arith, c.seen_cost.ensures, c.cost.ensures.value, ap cost_in (h.others c.args.edge.parent c.requires.apart)))
    (omega (arith, c.lowers-test.true, c.seen_cost-in-lowers.ensures))

pub lowers-preserved : goal.lowers-preserved
lowers-preserved c =
    let h = c.lowers.invariant in
    let lower = c.lower-found.ensures in
    let step = PassSees-lower c.args.shared.now c.lowers.pass c.lower-found.new.pass c.args.edge.node _ _ c.lower-found.result h.works.belongs
    lower.kept lower.view_found lower.goes_on lower.seen lower.shown in
    record {
      works = IsAtWork-kept c.args.shared.now c.lowers.pass c.lower-found.new.pass step.belongs step.sees_anew.kept.crew h.works;
      goes_on = GoesOn-trans c.args.pass.now.view c.lowers.pass.view c.lower-found.new.pass.view h.goes_on lower.goes_on;
      others = λ m apart. lower.seen.others (TreeOf m) (λ e. apart (let own : m ≡ c.args.edge.node = cc in own)) ∙ h.others m apart;
      pair = lower.falls.written;
    }
