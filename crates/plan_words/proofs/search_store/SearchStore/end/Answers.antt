use Rattle.plan_words.proofs.Words.{◌≡◌, [], ap, arith, sym, subst, ◌∙◌, length, map, take, All, IsNoted, vec_capacity, SearchState, found_of_spot, lists_in}
use Rattle.plan_words.proofs.KeptFound.{lists-ended}
use Rattle.plan_words.proofs.search_store.SearchStore.end.Goals as goal

pub returns : goal.returns
returns c =
    let own = c.self.inside in
    let n = c.args.count in
    let long : c.len-self-inside.result ≡ length own.cells.items = omega (arith, c.len-self-inside.ensures, own.cells.ok.0) in
    ap (λ taken. record { lists = lists_in own.cells.items taken n; room = vec_capacity own.cells }) long
    ∙ ap (λ lists. record { lists = lists; room = vec_capacity own.cells })
    (lists-ended own.cells.items own.taken n (ap (λ (s : SearchState). s.lists.taken) c.self.view_is ∙ c.requires.untaken)
    (subst (λ (s : SearchState). All IsNoted (take n s.lists.spots)) (sym c.self.view_is) c.requires.noted))
    ∙ ap (λ (s : SearchState). record s {
      lists = record { spots = []; taken = length s.lists.spots; found = map found_of_spot (take n s.lists.spots) };
    }) c.self.view_is
