use Rattle.obstacle_boxes.proofs.Words.{◌≡◌, ◌+◌, ◌-◌, [], get_or, subst, sym, refl, arith, ◌∙◌, rules, get_or_default, Crosses, HasSearched}
use Rattle.obstacle_boxes.proofs.Descents.{AreApartBelow-over, HasSearched-all, HasSearched-into, HasSearched-over, HasSearched-past, HasSearched-tested}
use Rattle.obstacle_boxes.proofs.Descents.{leaf-among, tested-within}
use Rattle.obstacle_boxes.proofs.descent.is_clear_of_leaves.Goals as goal
use Rattle.obstacle_boxes.proofs.descent.is_clear_of_leaves.Goals.{then-first-low+then-not-meets, else-first-low}
use Rattle.obstacle_boxes.proofs.descent.is_clear_of_leaves.Goals.{else-meets-2-via-then-meets-2+else-crosses, else-meets-2-via-else-meets-2}

pub loop-low-preserved-then-meets : goal.loop-low-preserved-then-meets
loop-low-preserved-then-meets g c =
    let n = c.loop-low.next - 1 in
    let within = c.loop-low.invariant.searched.within in
    let more : c.loop-low.next ≡ n + 1 = omega arith in
    let h = subst (HasSearched c.args.nodes.now c.args.zones.now c.args.a c.args.b c.args.steps.now c.loop-low.steps) more c.loop-low.invariant.searched in
    record {
      searched = HasSearched-into n _ _ _ _ _ h (omega arith) c.in-Halves.is;
      apart = elim c.if-first-low.branch [
        | then-first-low+then-not-meets w ↦
            rw w.low-is
            (AreApartBelow-over c.args.nodes.now c.args.a c.args.b c.loop-low.low n c.in-Halves.first _ _ _ _ c.loop-low.invariant.apart
            w.if-first-low.true (omega arith) c.in-Halves.is c.requires.tree (rw c.of_segment-segment.ensures at (sym w.if-not-meets.ensures)))
        | else-first-low w ↦ rw w.low-is c.loop-low.invariant.apart
      ];
    }

pub loop-low-preserved-else-meets : goal.loop-low-preserved-else-meets
loop-low-preserved-else-meets g c =
    let n = c.loop-low.next - 1 in
    let within = c.loop-low.invariant.searched.within in
    let more : c.loop-low.next ≡ n + 1 = omega arith in
    let h = subst (HasSearched c.args.nodes.now c.args.zones.now c.args.a c.args.b c.args.steps.now c.loop-low.steps) more c.loop-low.invariant.searched in
    record {
      searched = HasSearched-over n _ _ _ _ _ h (omega arith) c.in-Halves.is c.requires.tree c.requires.leaves
          (rw c.of_segment-segment.ensures at (sym c.if-meets.ensures));
      apart = elim c.if-first-low.branch [
        | then-first-low+then-not-meets w ↦
            rw w.low-is
            (AreApartBelow-over c.args.nodes.now c.args.a c.args.b c.loop-low.low n c.in-Halves.first _ _ _ _ c.loop-low.invariant.apart
            w.if-first-low.true (omega arith) c.in-Halves.is c.requires.tree (rw c.of_segment-segment.ensures at (sym w.if-not-meets.ensures)))
        | else-first-low w ↦ rw w.low-is c.loop-low.invariant.apart
      ];
    }

pub offset_bounds-zones-leaf : goal.offset_bounds-zones-leaf
offset_bounds-zones-leaf g c =
    let within = c.loop-low.invariant.searched.within in
    let at = (leaf-among c.args.nodes.now c.args.zones.now (c.loop-low.next - 1) c.in-Zone.leaf _ (omega arith) c.in-Zone.is c.requires.leaves).within in
    search rules

pub bounds-zones-leaf : goal.bounds-zones-leaf
bounds-zones-leaf g c =
    let within = c.loop-low.invariant.searched.within in
    (leaf-among c.args.nodes.now c.args.zones.now (c.loop-low.next - 1) c.in-Zone.leaf _ (omega arith) c.in-Zone.is c.requires.leaves).within

pub returns-then-crosses-clause-crossed : goal.returns-then-crosses-clause-crossed
returns-then-crosses-clause-crossed g c = λ e.
    let zone = c.in-Zone.leaf.zone in
    let within = c.loop-low.invariant.searched.within in
    let at = (leaf-among c.args.nodes.now c.args.zones.now (c.loop-low.next - 1) c.in-Zone.leaf _ (omega arith) c.in-Zone.is c.requires.leaves).within in
    let is : c.index-zones-leaf.result ≡ get_or c.args.zones.now zone [] = c.index-zones-leaf.is ∙ get_or_default _ zone _ [] at in
    record { number = zone; within = at; crosses = rw is at (c.if-crosses.ensures.crosses.0 refl) }

pub returns-then-crosses-clause-few : goal.returns-then-crosses-clause-few
returns-then-crosses-clause-few g c =
    let n = c.loop-low.next - 1 in
    let within = c.loop-low.invariant.searched.within in
    let more : c.loop-low.next ≡ n + 1 = omega arith in
    let h = subst (HasSearched c.args.nodes.now c.args.zones.now c.args.a c.args.b c.args.steps.now c.loop-low.steps) more c.loop-low.invariant.searched in
    rw c.crosses.ensures.step
    (tested-within n c.in-Zone.leaf _ h (omega arith) c.in-Zone.is (rw c.of_segment-segment.ensures at (sym c.if-meets-2.ensures)))

pub loop-low-preserved : goal.loop-low-preserved
loop-low-preserved g c =
    let n = c.loop-low.next - 1 in
    let zone = c.in-Zone.leaf.zone in
    let within = c.loop-low.invariant.searched.within in
    let more : c.loop-low.next ≡ n + 1 = omega arith in
    let h = subst (HasSearched c.args.nodes.now c.args.zones.now c.args.a c.args.b c.args.steps.now c.loop-low.steps) more c.loop-low.invariant.searched in
    record {
      searched = elim c.else-meets-2.branch [
        | else-meets-2-via-then-meets-2+else-crosses w ↦ (
            let at = (leaf-among c.args.nodes.now c.args.zones.now n c.in-Zone.leaf _ (omega arith) c.in-Zone.is c.requires.leaves).within in
            let is : w.index-zones-leaf.result ≡ get_or c.args.zones.now zone [] = w.index-zones-leaf.is ∙ get_or_default _ zone _ [] at in
            let missed : ¬ Crosses (get_or c.args.zones.now zone []) c.args.a c.args.b = λ x.
            (let yes = w.crosses.ensures.crosses.1 (rw (← is) at x) in let no = w.if-crosses.false in cc) in
            rw (w.steps-is, w.crosses.ensures.step)
            (HasSearched-tested n c.in-Zone.leaf _ h (omega arith) c.in-Zone.is (rw c.of_segment-segment.ensures at (sym w.if-meets-2.ensures)) missed))
        | else-meets-2-via-else-meets-2 w ↦
            rw w.steps-is
            (HasSearched-past n c.in-Zone.leaf _ h (omega arith) c.in-Zone.is c.requires.leaves
            (rw c.of_segment-segment.ensures at (sym w.if-meets-2.ensures)))
      ];
      apart = c.loop-low.invariant.apart;
    }

pub returns-clause-missed : goal.returns-clause-missed
returns-clause-missed g c = λ t.
    (HasSearched-all c.loop-low.low c.loop-low.next c.loop-low.invariant.searched c.loop-low.invariant.apart (omega arith) c.requires.leaves).missed

pub returns-clause-all : goal.returns-clause-all
returns-clause-all g c = λ t.
    (HasSearched-all c.loop-low.low c.loop-low.next c.loop-low.invariant.searched c.loop-low.invariant.apart (omega arith) c.requires.leaves).tested

pub returns-clause-few : goal.returns-clause-few
returns-clause-few g c =
    let all = HasSearched-all c.loop-low.low c.loop-low.next c.loop-low.invariant.searched c.loop-low.invariant.apart (omega arith) c.requires.leaves in
    omega (arith, all.tested)
