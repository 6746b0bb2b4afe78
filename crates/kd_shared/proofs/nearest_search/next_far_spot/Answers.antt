use Rattle.kd_shared.proofs.Words.{◌≡◌, [], ◌∷◌, ◌++◌, Some, None, sym, ap, ◌∙◌, subst, PassState, with_lists, with_view, SeesNode, sight_in, View, LoadsFar}
use Rattle.kd_shared.proofs.Words.{OnlyLooks-trans, OnlyLooks, searched}
use Rattle.kd_shared.proofs.Looking.{SeesNode-later}
use Rattle.kd_shared.proofs.PoppedNodes.{IsPopping-finds, IsPopping-more, popped_in}
use Rattle.kd_shared.proofs.nearest_search.next_far_spot.Goals as goal
use Rattle.kd_shared.proofs.nearest_search.next_far_spot.Goals.{After-far_spot, After-pop_spot}

view_is : (c : After-pop_spot) → c.pop_spot.new.self.view ≡ c.pops.pass.view
view_is c = ap (λ (s : PassState). s.view) c.pop_spot.ensures.others

pub far_spot-requires-clause-seen : goal.far_spot-requires-clause-seen
far_spot-requires-clause-seen c =
    let before = c.args.pass.now in
    let now = c.pops.pass in
    let there = c.requires.seen_stack c.in-Some.above
    (popped_in (sight_in before.view) (sight_in now.view) c.args.p c.args.bound before.lists.search.spots now.lists.search.spots c.pops.invariant.pops
    c.in-Some.above c.pop_spot.new.self.lists.search.spots c.in-Some.ensures.popped (sight_in now.view)) in
    subst (λ (v : View). SeesNode v c.in-Some.above.node) (sym (view_is (goal.at.far_spot-requires-clause-seen c).After-pop_spot))
    (SeesNode-later before.view now.view c.in-Some.above.node c.pops.invariant.looks.looks.goes_on.later there)

-- ---- the child of one is looked for

looks : (c : After-far_spot) → OnlyLooks c.args.pass.now.view c.far_spot.new.pass.view
looks c =
    OnlyLooks-trans c.args.pass.now.view c.pops.pass.view c.far_spot.new.pass.view c.pops.invariant.looks
    (subst (λ (v : View). OnlyLooks v c.far_spot.new.pass.view) (ap (λ (s : PassState). s.view) c.pop_spot.ensures.others) c.far_spot.ensures.looks)

others : (c : After-far_spot) → c.far_spot.new.pass ≡ searched c.args.pass.now c.far_spot.new.pass.view
    (record c.args.pass.now.lists.search { spots = c.far_spot.new.pass.lists.search.spots })
others c =
    let after = c.far_spot.new.pass in
    let popped = c.pop_spot.new.self in
    let entry = c.args.pass.now in
    c.far_spot.ensures.view_alone
    ∙ ap (λ (s : PassState). with_view s after.view) (c.pop_spot.ensures.others ∙ ap (with_lists c.pops.pass) c.pop_spot.ensures.search)
    ∙ ap (λ (s : PassState). searched s after.view (record s.lists.search { spots = popped.lists.search.spots })) c.pops.invariant.others
    ∙ ap (λ xs. searched entry after.view (record entry.lists.search { spots = xs }))
    (sym (ap (λ (s : PassState). s.lists.search.spots) c.far_spot.ensures.view_alone))

-- it has one
pub returns-in-Some-far_spot-clause-looks : goal.returns-in-Some-far_spot-clause-looks
returns-in-Some-far_spot-clause-looks c = looks (goal.at.returns-in-Some-far_spot-clause-looks c).After-far_spot

pub returns-in-Some-far_spot-clause-pops : goal.returns-in-Some-far_spot-clause-pops
returns-in-Some-far_spot-clause-pops c =
    let before = c.args.pass.now in
    let now = c.pops.pass in
    let spots = ap (λ (s : PassState). s.lists.search.spots) c.far_spot.ensures.view_alone in
    IsPopping-finds (sight_in before.view) (sight_in now.view) c.args.p c.args.bound before.lists.search.spots now.lists.search.spots
    c.pops.invariant.pops c.in-Some.above c.far_spot.new.pass.lists.search.spots
    (subst (λ xs. now.lists.search.spots ≡ xs ++ c.in-Some.above ∷ []) (sym spots) c.in-Some.ensures.popped) (sight_in c.far_spot.new.pass.view)
    c.in-Some-far_spot.far
    (subst (λ (v : View). LoadsFar (sight_in v) (sight_in c.far_spot.new.pass.view) c.args.p c.args.bound c.in-Some.above (Some c.in-Some-far_spot.far))
    (view_is (goal.at.returns-in-Some-far_spot-clause-pops c).After-pop_spot) c.in-Some-far_spot.ensures.loads)

-- or none
pub pops-preserved : goal.pops-preserved
pops-preserved c =
    let before = c.args.pass.now in
    let now = c.pops.pass in
    let spots = ap (λ (s : PassState). s.lists.search.spots) c.far_spot.ensures.view_alone in
    record {
      belongs = c.far_spot.ensures.belongs;
      looks = looks (goal.at.pops-preserved c).After-far_spot;
      others = others (goal.at.pops-preserved c).After-far_spot;
      pops = IsPopping-more (sight_in before.view) (sight_in now.view) c.args.p c.args.bound before.lists.search.spots now.lists.search.spots
          c.pops.invariant.pops c.in-Some.above c.far_spot.new.pass.lists.search.spots
          (subst (λ xs. now.lists.search.spots ≡ xs ++ c.in-Some.above ∷ []) (sym spots) c.in-Some.ensures.popped)
          (sight_in c.far_spot.new.pass.view)
          (subst (λ (v : View). LoadsFar (sight_in v) (sight_in c.far_spot.new.pass.view) c.args.p c.args.bound c.in-Some.above None)
          (view_is (goal.at.pops-preserved c).After-pop_spot) c.in_default-far_spot.ensures.loads);
    }
