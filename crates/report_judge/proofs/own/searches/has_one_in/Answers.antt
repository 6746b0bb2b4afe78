use Rattle.report_judge.proofs.Words.{iff_false}
use Rattle.report_judge.proofs.Workers.OwnNodeLaws.{HasNo-more}
use Rattle.report_judge.proofs.own.searches.has_one_in.Goals as goal

pub returns-then-has-clause-some : goal.returns-then-has-clause-some
returns-then-has-clause-some g c = λ h. record {
  position = c.loop-position.position;
  past = c.loop-position.auto.position;
  before = c.loop-position-test.true;
  such = rw c.at.ensures.value at (c.has.ensures.0 c.if-has.true);
}

pub loop-position-preserved : goal.loop-position-preserved
loop-position-preserved g c =
    let finds = g.S.Search.finds c.args.search (g.C.Clearing.space c.args.hall.now) c.args.judged.now.standings.now in
    HasNo-more finds c.args.judged.now.own.now c.args.stretch.start c.loop-position.position c.loop-position.invariant
    (λ found. iff_false c.has.ensures c.if-has.false (rw c.at.ensures.value found))
