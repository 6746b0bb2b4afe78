use Rattle.any_time.proofs.Words.{◌<◌, ◌∙◌, sym, subst, take, IsSettled-of_textbook, GrowsInto-trans, setup_of, state_of_grown, IsOfTextbook}
use Rattle.any_time.proofs.growing.grow_slice.Goals as goal

-- a textbook run is settled already, so it stays as it is
pub returns : goal.returns
returns g c =
    let later = c.in_ok-later.later in
    let limit = c.in_ok-settle.ensures.limit ∙ c.in_ok-later.ensures.limit in
    record {
      task = c.in_ok-settle.ensures.task ∙ c.in_ok-later.ensures.task;
      some = subst (λ n. c.args.grown.limit < n) (sym limit) c.next_limit-limit.ensures.more;
      limit = limit ∙ c.next_limit-limit.ensures.value;
      grows = GrowsInto-trans _ _ _ c.in_ok-later.ensures.grows c.in_ok-settle.ensures.grows;
      settled = c.in_ok-settle.ensures.settled;
      by_workers = λ k entry is low. c.in_ok-later.ensures.workers k entry (sym (c.in_ok-settle.ensures.costs_alone.records k) ∙ is) low;
      textbook = λ one textbook.
          let grown : IsOfTextbook later = c.in_ok-later.ensures.textbook one textbook in
          let settled =
          IsSettled-of_textbook (setup_of later.task.scene) (take later.limit later.task.marks) (state_of_grown later)
          later.hold_run.closed.order.start_clear grown in
          subst IsOfTextbook (sym (c.in_ok-settle.ensures.stays settled)) grown;
    }
