use Rattle.std.proofs.Common.{ℕ, List, [], ◌∷◌, ◌++◌, length, length-append, arith, sym, ap, ◌∙◌, subst}
use Rattle.std.specs.Prelude.{All}
use Rattle.grown_runs.proofs.Common.{ConfigurationSpace, space_of, IsPresent, points_of, Nodes, Rewires}
use Rattle.seq_planner.proofs.PutNodes.{present-put, AddsRewired-some, AddsRewired-none, GrowsByMark-put}
use Rattle.seq_planner.proofs.search_tree.SearchTree.handle.Goals as goal

pub rewire-requires-clause-near : goal.rewire-requires-clause-near
rewire-requires-clause-near g c κs within =
    let tree = c.args.self.now in
    let extension = c.in_ok-extension.extension in
    subst (All (IsPresent (points_of c.push.new.self.nodes))) (sym c.deref.ensures.value)
    (present-put tree.nodes c.push.new.self.nodes extension.node c.extension.new.near.items c.in_ok-number.ensures.nodes c.in_ok-extension.ensures.present)

pub returns-in_ok-rewire-clause-handles : goal.returns-in_ok-rewire-clause-handles
returns-in_ok-rewire-clause-handles g c =
    let tree = c.args.self.now in
    let extension = c.in_ok-extension.extension in
    let after = c.rewire.new.self in
    let R : ConfigurationSpace → Nodes → ℕ → List ℕ → Type 0 = λ space nodes n ns. Rewires space nodes n ns after.nodes in
    let near = c.extension.new.near.items in
    let put : Nodes = tree.nodes ++ extension.node ∷ [] in
    let in_space : R (space_of c.args.scene.now) c.push.new.self.nodes c.in_ok-number.number c.deref.result.now =
    subst (λ (space : ConfigurationSpace). R space c.push.new.self.nodes c.in_ok-number.number c.deref.result.now) c.requires.hall
    c.in_ok-rewire.ensures.rewired in
    let of_near : R (space_of c.args.scene.now) c.push.new.self.nodes c.in_ok-number.number near =
    subst (R (space_of c.args.scene.now) c.push.new.self.nodes c.in_ok-number.number) c.deref.ensures.value in_space in
    let numbered : R (space_of c.args.scene.now) c.push.new.self.nodes (length tree.nodes) near =
    subst (λ (n : ℕ). R (space_of c.args.scene.now) c.push.new.self.nodes n near) c.in_ok-number.ensures.number of_near in
    let rewired : R (space_of c.args.scene.now) put (length tree.nodes) near =
    subst (λ (t : Nodes). R (space_of c.args.scene.now) t (length tree.nodes) near) c.in_ok-number.ensures.nodes numbered in
    GrowsByMark-put c.args.scene.now tree after c.args.mark extension near c.in_ok-extension.ensures
    (c.in_ok-rewire.ensures.records ∙ c.in_ok-number.ensures.records)
    (AddsRewired-some (space_of c.args.scene.now) tree.nodes after.nodes extension.node near (sym c.is_some.ensures ∙ c.if-is_some.true) rewired)
    (omega (arith, c.in_ok-rewire.ensures.count, ap length c.in_ok-number.ensures.nodes, length-append tree.nodes (extension.node ∷ [])))

pub returns-else-is_some-clause-handles : goal.returns-else-is_some-clause-handles
returns-else-is_some-clause-handles g c =
    let tree = c.args.self.now in
    let extension = c.in_ok-extension.extension in
    let near = c.extension.new.near.items in
    GrowsByMark-put c.args.scene.now tree c.push.new.self c.args.mark extension near c.in_ok-extension.ensures
    c.in_ok-number.ensures.records
    (AddsRewired-none (space_of c.args.scene.now) tree.nodes c.push.new.self.nodes extension.node near (sym c.is_some.ensures ∙ c.if-is_some.false)
    c.in_ok-number.ensures.nodes)
    (omega (arith, ap length c.in_ok-number.ensures.nodes, length-append tree.nodes (extension.node ∷ [])))
