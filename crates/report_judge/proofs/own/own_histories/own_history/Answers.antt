use Rattle.report_judge.proofs.Words.{◌∙◌}
use Rattle.report_judge.proofs.own.own_histories.own_history.Goals as goal

pub returns : goal.returns
returns c =
    let worker = c.in_ok-turns.ensures.worker in
    let long = c.in_ok-turns.ensures.length in
    record {
      worker_is = worker;
      long = long;
      marks = c.in_ok-turns.ensures.turns;
      seen_long = c.in_ok-seen.ensures.length ∙ long;
      seen = λ turn seen is. rw worker at (c.in_ok-seen.ensures.seen turn seen is);
      standings = rw (worker, long) at c.in_ok-standings.ensures;
    }
