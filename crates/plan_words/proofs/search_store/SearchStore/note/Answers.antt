use Rattle.plan_words.proofs.Words.{ap, set, ◌∙◌, vec_capacity, SearchState, noted_spot}
use Rattle.plan_words.proofs.KeptFound.{lists-noted}
use Rattle.plan_words.proofs.search_store.SearchStore.note.Goals as goal

pub returns : goal.returns
returns c =
    let own = c.self.inside in
    let spot = noted_spot c.args.node c.args.distance in
    ap (λ lists. record { lists = lists; room = vec_capacity own.cells })
    (lists-noted own.cells.items own.taken own.count c.args.index c.noted.result spot (ap (λ (s : SearchState). s.lists.taken) c.self.view_is
    ∙ c.requires.untaken) c.self.invariant.few c.noted.ensures.spot)
    ∙ ap (λ (s : SearchState). record s { lists = record s.lists { spots = set s.lists.spots c.args.index spot } }) c.self.view_is
