use Rattle.tree_rewire.proofs.Words.{◌≡◌, ◌++◌, ◌*◌, ◌^◌, ◌<◌, ◌≤◌, Some, length, map, take, drop, set, ap, arith, refl, subst, sym, ◌∙◌, IfSome, slice_get}
use Rattle.tree_rewire.proofs.Words.{append-nil, drop_all, take_all, map_over_more, get_or_from_slice_get, slice_get_within, weighed, PassState, with_lists}
use Rattle.tree_rewire.proofs.Words.{Found, with_found}
use Rattle.plan_model.specs.Geometry.Lengths.{root_ceiling}
use Rattle.tree_rewire.proofs.FoundLists.{All-at, rest_read}
use Rattle.tree_rewire.proofs.near_nodes.set_edges.Goals as goal
use Rattle.tree_rewire.proofs.near_nodes.set_edges.Goals.{After-found-found, After-edges}

-- the record is the one from before
read : (c : After-found-found) → slice_get c.args.pass.now.lists.search.found c.edges.index ≡ Some c.found-found.result
read c =
    let all = c.args.pass.now.lists.search.found in
    sym (rest_read (λ (f : Found). record f { edge = root_ceiling (65536 * f.distance) }) all c.edges.index)
    ∙ ap (λ (s : PassState). slice_get s.lists.search.found c.edges.index) (sym c.edges.invariant) ∙ c.found-found.ensures

pub cost_of_square-edge-requires : goal.cost_of_square-edge-requires
cost_of_square-edge-requires c =
    let here = (goal.at.cost_of_square-edge-requires c).After-found-found in
    All-at (λ (f : Found). f.distance < 2 ^ 41) c.args.pass.now.lists.search.found c.edges.index c.found-found.result (read here) c.requires

pub overflow_cast-edge : goal.overflow_cast-edge
overflow_cast-edge c =
    let here = (goal.at.overflow_cast-edge c).After-found-found in
    let short = All-at (λ (f : Found). f.distance < 2 ^ 41) c.args.pass.now.lists.search.found c.edges.index c.found-found.result (read here) c.requires in
    omega (arith, c.cost_of_square-edge.ensures.least.least 536870912 (omega (arith, short)))

pub edges-preserved : goal.edges-preserved
edges-preserved c =
    let before = c.args.pass.now in
    let all = before.lists.search.found in
    let here = (goal.at.edges-preserved c).After-found-found in
    let x = c.found-found.result in
    let mid = c.edges.pass in
    let f : Found → Found = λ g. record g { edge = root_ceiling (65536 * g.distance) } in
    let now = map f (take c.edges.index all) ++ drop c.edges.index all in
    let edged = subst
    (λ o. IfSome o (λ g. c.set_edge.new.self.lists ≡ record mid.lists {
      search = record mid.lists.search { found = set mid.lists.search.found c.edges.index (record g { edge = c.cost_of_square-edge.result }) };
    }))
    c.found-found.ensures c.set_edge.ensures.set in
    let same = map_over_more f all now c.edges.index x
    (slice_get_within all c.edges.index x (read here)) refl
    (sym (get_or_from_slice_get now c.edges.index x x (rest_read f all c.edges.index ∙ read here))) in
    c.set_edge.ensures.others ∙ ap (with_lists mid) edged
    ∙ ap (λ (s : PassState). with_found s s.view (set s.lists.search.found c.edges.index (record x { edge = c.cost_of_square-edge.result }))) c.edges.invariant
    ∙ ap (λ e. with_found before before.view (set now c.edges.index (record x { edge = e }))) c.cost_of_square-edge.ensures.value
    ∙ ap (with_found before before.view) same

-- all are looked at
ended : (c : After-edges) → length c.args.pass.now.lists.search.found ≤ c.edges.index
ended c = omega (arith, c.edges-test.false, c.found_count-count.ensures)

pub returns : goal.returns
returns c =
    let all = c.args.pass.now.lists.search.found in
    let le = ended c in
    c.edges.invariant
    ∙ ap (λ fs. with_found c.args.pass.now c.args.pass.now.view (weighed fs ++ drop c.edges.index all)) (take_all c.edges.index all le)
    ∙ ap (λ fs. with_found c.args.pass.now c.args.pass.now.view (weighed all ++ fs)) (drop_all c.edges.index all le)
    ∙ ap (with_found c.args.pass.now c.args.pass.now.view) (append-nil (weighed all))
