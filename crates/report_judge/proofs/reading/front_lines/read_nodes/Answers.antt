use Rattle.report_judge.proofs.Words.{◌+◌, ◌<◌, ◌^◌, arith, rules, sym, subst, iff_false, IsNextNode}
use Rattle.report_judge.proofs.Texts.FrontLaws.{HasRead, HasRead-none, HasRead-more, ReadsNodes-ended, other_node}
use Rattle.report_judge.proofs.reading.front_lines.read_nodes.Goals as goal

pub loop-count-init : goal.loop-count-init
loop-count-init c =
    let items = c.in_ok-knots.ensures.items_if_clones_equal (search rules) in
    rw items (HasRead-none c.args.marks (c.args.marks + 1) c.args.text.now (omega arith))

pub loop-count-preserved : goal.loop-count-preserved
loop-count-preserved c =
    HasRead-more c.loop-count.invariant (c.may_follow.ensures.0 c.if-not-may_follow.false) c.in-Some.ensures.some.0 c.in-Some.ensures.some.1

pub returns-in_default : goal.returns-in_default
returns-in_default c =
    ReadsNodes-ended c.args.most c.loop-count.invariant (omega (arith, c.loop-count-test.true))
    (λ low n knot after next fits. c.in_default.ensures.none n knot after fits)

pub returns-then-not-may_follow : goal.returns-then-not-may_follow
returns-then-not-may_follow c =
    ReadsNodes-ended c.args.most c.loop-count.invariant (omega (arith, c.loop-count-test.true))
    (λ low n knot after next fits e.
    let few : c.args.marks < 2 ^ 64 = omega (arith, c.requires.few) in
    let same = other_node c.args.marks few c.loop-count.rest.now c.in-Some.after.now c.in-Some.node.number c.in-Some.node.knot c.in-Some.ensures.some.0
    c.in-Some.ensures.some.1 n knot after fits e in
    iff_false c.may_follow.ensures c.if-not-may_follow.true (subst (IsNextNode c.loop-count.next) (sym same) next))

pub returns : goal.returns
returns c =
    ReadsNodes-ended c.args.most
    (subst (λ n. HasRead c.args.marks c.args.text.now c.loop-count.knots.items n c.loop-count.next c.loop-count.rest.now)
    (omega (arith, c.loop-count.auto.count-end, c.loop-count-test.false)) c.loop-count.invariant)
    (omega arith) (λ low. absurd (omega (arith, low)))
