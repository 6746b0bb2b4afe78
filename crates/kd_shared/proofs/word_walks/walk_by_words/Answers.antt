use Rattle.kd_shared.proofs.Words.{◌<◌, arith, inl, refl, point_in, PointOf, MOST_NODES, StopsAt-root, tree_seen, PassLooks-short}
use Rattle.kd_shared.proofs.Words.{PassLooks-trans}
use Rattle.kd_shared.proofs.PassLooks.{PassLooks-load}
use Rattle.kd_shared.proofs.word_walks.walk_by_words.Goals as goal

pub way-init : goal.way-init
way-init c = record {
  looks = PassLooks-load c.args.shared.now c.args.pass.now c.point_word-word.new.pass (PointOf 0) _ _ c.requires.belongs tt c.point_word-word.ensures.view
      c.point_word-word.ensures.goes_on c.point_word-word.ensures.seen c.point_word-word.ensures.looked c.point_word-word.ensures.whole;
  at = record {
    stops = StopsAt-root (tree_seen c.point_word-word.new.pass.view) c.args.p (point_in c.point_word-word.result) c.point_word-word.ensures.found;
    shift = inl refl;
  };
}

pub next_stop-requires-clause-short : goal.next_stop-requires-clause-short
next_stop-requires-clause-short c =
    PassLooks-short c.args.shared.now c.args.pass.now c.way.pass c.args.p c.way.at.depth c.way.at.node c.way.invariant.looks c.way.invariant.at.stops.on_way

pub way-preserved : goal.way-preserved
way-preserved c = record {
  looks = PassLooks-trans c.args.shared.now c.args.pass.now c.way.pass c.next_stop.new.pass c.way.invariant.looks c.in-Some.ensures.looks;
  at = c.in-Some.ensures.next.0;
}

pub way-smaller : goal.way-smaller
way-smaller c =
    let short : c.way.at.depth < MOST_NODES =
    PassLooks-short c.args.shared.now c.args.pass.now c.way.pass c.args.p c.way.at.depth c.way.at.node c.way.invariant.looks c.way.invariant.at.stops.on_way in
    omega (arith, short, c.in-Some.ensures.next.1)

pub returns-clause-looks : goal.returns-clause-looks
returns-clause-looks c =
    PassLooks-trans c.args.shared.now c.args.pass.now c.way.pass c.next_stop.new.pass c.way.invariant.looks c.in_default.ensures.looks
