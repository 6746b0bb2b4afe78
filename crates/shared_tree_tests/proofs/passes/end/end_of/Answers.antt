use Rattle.shared_tree_tests.proofs.Words.{length, ap, subst, arith, IfNone, AllFull, KeepsHand}
use Rattle.shared_tree_tests.proofs.passes.end.end_of.Goals as goal

pub end-requires-clause-none_left : goal.end-requires-clause-none_left
end-requires-clause-none_left g c =
    let before = c.args.pass.view in
    let after = c.claim.new.pass.view in
    let marks = ap (λ run. length run.marks) c.claim.ensures.belongs.run in
    record {
      limit = 5;
      most = omega (arith, c.claim.ensures.goes_on.lawful.most, marks, c.requires.marks);
      full = (subst (λ o. IfNone o (KeepsHand before after × AllFull after 5)) c.in-None.is c.claim.ensures.none).1;
    }
