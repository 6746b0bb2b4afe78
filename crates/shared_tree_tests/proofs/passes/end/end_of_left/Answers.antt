use Rattle.shared_tree_tests.proofs.Words.{◌<◌, ◌∙◌, length, ap, subst, sym, arith, IfNone, quota_of, Counter, AllFull, KeepsHand, PassState, sees}
use Rattle.shared_tree_tests.proofs.passes.end.end_of_left.Goals as goal

pub end_retired-requires-clause-none_left : goal.end_retired-requires-clause-none_left
end_retired-requires-clause-none_left g c =
    let before = c.args.first.view in
    let after = c.claim.new.pass.view in
    let marks = ap (λ run. length run.marks) c.join_retired.ensures.belongs.run in
    let full : AllFull after 5 = (subst (λ o. IfNone o (KeepsHand before after × AllFull after 5)) c.in-None.is c.claim.ensures.none).1 in
    let run = c.join_retired.ensures.belongs.run ∙ sym c.claim.ensures.belongs.run in
    record {
      limit = 5;
      most = omega (arith, c.join_retired.ensures.goes_on.lawful.most, marks, c.requires.marks);
      full = λ strip low.
          omega (
            arith,
            full strip (subst (λ r. strip < r.strips) run low),
            c.join_retired.ensures.goes_on.later.seen (Counter strip),
            ap (λ r. quota_of r.strips strip 5) run,
            ap (λ (p : PassState). sees p.view (Counter strip)) c.retire-left.ensures,
          );
    }
