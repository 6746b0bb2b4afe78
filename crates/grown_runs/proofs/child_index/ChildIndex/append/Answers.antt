use Rattle.grown_runs.proofs.Words.{map-append}
use Rattle.grown_runs.proofs.Children.AddedNumbers.{IsIndex-push}
use Rattle.grown_runs.proofs.child_index.ChildIndex.append.Goals as goal

pub returns-clause-more : goal.returns-clause-more
returns-clause-more c nodes chain index =
    let links = c.args.self.now.links.items in
    rw (c.push_reserved.ensures.items, map-append (λ l. l.first) links _, map-append (λ l. l.next) links _, map-append (λ l. l.previous) links _)
    (IsIndex-push nodes chain _ _ _ index)
