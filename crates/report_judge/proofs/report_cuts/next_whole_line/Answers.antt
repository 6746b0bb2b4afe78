use Rattle.report_judge.proofs.Words.{◌≡◌, ℕ, ◌+◌, ◌-◌, ◌<◌, true, List, ◌∷◌, ◌++◌, take, drop, get_or, length, length-drop, arith, sym, ap, subst, ◌∙◌}
use Rattle.report_judge.proofs.Words.{take_all, has_no_feed}
use Rattle.report_judge.proofs.Texts.FieldWords.{text_at}
use Rattle.report_judge.proofs.Texts.ReportCuts.{feed_after, no_feed_before}
use Rattle.report_judge.proofs.report_cuts.next_whole_line.Goals as goal

pub returns-then-end-text-clause-none : goal.returns-then-end-text-clause-none
returns-then-end-text-clause-none c =
    let text : List ℕ = c.args.text.now in
    let end = c.count_before_feed-end.result in
    let before = subst (λ n. has_no_feed (take n text) ≡ true) (sym c.count_before_feed-end.ensures.place) (no_feed_before text) in
    ap has_no_feed (sym (take_all end text (omega (arith, c.if-end-text.true)))) ∙ before

pub returns-clause-some : goal.returns-clause-some
returns-clause-some c =
    let text : List ℕ = c.args.text.now in
    let end = c.count_before_feed-end.result in
    let place = c.count_before_feed-end.ensures.place in
    let low : end < length text = omega (arith, c.if-end-text.false, c.count_before_feed-end.ensures.within) in
    let feed : get_or text end 0 ≡ 10 = ap (λ n. get_or text n 0) place ∙ feed_after text (omega (arith, low, place)) in (
      text_at text end low ∙ (λ i. take end text ++ (feed i ∷ drop (end + 1) text))
          ∙ ap (λ (rest : List ℕ). take end text ++ 10 ∷ rest)
          (sym (take_all (length text - (end + 1)) (drop (end + 1) text) (omega (arith, length-drop (end + 1) text)))),
      subst (λ n. has_no_feed (take n text) ≡ true) (sym place) (no_feed_before text),
    )
