use Rattle.tree_rewire.proofs.Words.{◌≢◌, ◌∙◌, Point, Bool, IsFalse, IsTrue, ap, arith, false, not, refl, true, inr, subst, sym, Clear, IsPresent, point_of}
use Rattle.tree_rewire.proofs.Words.{tree_seen, NamesNothing}
use Rattle.tree_rewire.proofs.CostSteps.{PassSees-point, PassSees-refl}
use Rattle.tree_rewire.proofs.SeenCosts.{SeesNode-present, point_later}
use Rattle.tree_rewire.proofs.open_words.is_blocked.Goals as goal

pub returns-then-word-last-clause-steps : goal.returns-then-word-last-clause-steps
returns-then-word-last-clause-steps g c = PassSees-refl NamesNothing c.args.shared.now c.args.pass.now c.requires.belongs

both : (b : Bool) → IsTrue (not b) → IsTrue b → ⊥
both true off on = (let e = off in cc)
both false off on = (let e = on in cc)

unless : (b : Bool) → IsFalse (not b) → IsTrue b
unless true off = refl
unless false off = (let e = off in cc)

pub point-from-requires-clause-seen_node : goal.point-from-requires-clause-seen_node
point-from-requires-clause-seen_node g c =
    SeesNode-present c.args.pass.now.view c.pair_in.result.0 c.requires.belongs.lawful
    (subst (IsPresent (tree_seen c.args.pass.now.view).points) (sym c.pair_in.ensures.parent)
    (c.requires.node (λ e. omega (arith, e, c.if-word-last.false))))

pub returns : goal.returns
returns g c =
    let view = c.args.pass.now.view in
    let load = c.point-from.ensures in
    let other : c.args.word ≢ c.args.last = λ e. omega (arith, e, c.if-word-last.false) in
    let parent = c.pair_in.ensures.parent in
    let present = subst (IsPresent (tree_seen view).points) (sym parent) (c.requires.node other) in
    -- the edge is from where the node is seen
    let from_is = point_later view c.point-from.new.pass.view load.goes_on c.pair_in.result.0 c.point-from.result present load.found
    ∙ ap (point_of (tree_seen view).points) parent in
    let is_clear = λ (q : Point). Clear (g.C.Clearing.space c.args.hall.now) q c.args.p in
    record {
      steps = PassSees-point c.args.shared.now c.args.pass.now c.point-from.new.pass c.pair_in.result.0 _ _ c.requires.belongs present load.view
          load.goes_on load.seen load.looked;
      blocked = λ on. (other, λ clear. both c.clear.result on (c.clear.ensures.1 (subst is_clear (sym from_is) clear)));
      «open» = λ off. inr (subst is_clear from_is (c.clear.ensures.0 (unless c.clear.result off)));
    }
