use Rattle.plan_words.proofs.Words.{◌∷◌, ◌+◌, ◌≤◌, [], length, None, Some, sym, ap, ◌∙◌, subst, HoldsWorld, IsTied, first_view, new_pass, run_of_opening, sees}
use Rattle.plan_words.proofs.Words.{TreeOf}
use Rattle.plan_words.proofs.Dealing.{HoldsWorld-started, IsTied-started, sees-started}
use Rattle.plan_words.proofs.starts.table_of.Goals as goal

pub of_words-requires : goal.of_words-requires
of_words-requires c =
    let opening = c.args.opening.now in
    subst (λ items. HoldsWorld (run_of_opening opening) items (first_view opening ∷ []))
    (sym (c.as_slice.ensures ∙ ap (λ words. words.list.items) c.words.ensures)) (HoldsWorld-started opening)

pub first_pass-requires-clause-slots : goal.first_pass-requires-clause-slots
first_pass-requires-clause-slots c = ap (λ m. m.1) c.in_ok-table.ensures.4

pub first_pass-requires-clause-tied : goal.first_pass-requires-clause-tied
first_pass-requires-clause-tied c =
    subst (λ view. IsTied view (Some (record { worker = 0; turn = c.args.turn })) None) (sym (ap (λ m. m.0) c.in_ok-table.ensures.4))
    (IsTied-started c.args.opening.now c.args.turn c.requires)

pub first_pass-requires-clause-pairs : goal.first_pass-requires-clause-pairs
first_pass-requires-clause-pairs c =
    let me = c.in_ok-table.ensures.4 in
    record {
      for_each = c.in_ok-pairs.ensures.count ∙ sym (ap (λ m. length m.0.run.marks + 1) me);
      seen = λ n within.
          c.in_ok-pairs.ensures.each n (subst (λ m. n ≤ length m.0.run.marks) me within)
          ∙ sym (ap (λ words. words (TreeOf n)) (sees-started c.args.opening.now)) ∙ sym (ap (λ m. sees m.0 (TreeOf n)) me);
    }

pub returns-clause-first : goal.returns-clause-first
returns-clause-first c =
    c.in_ok-first.ensures ∙ ap (λ t. new_pass t c.in_ok-table.seat.me.0) c.in_ok-table.ensures.2
    ∙ ap (λ m. new_pass c.in_ok-table.table.shared.table_id m.0) c.in_ok-table.ensures.4
