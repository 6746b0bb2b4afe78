use Rattle.plan_words.proofs.Words.{◌≡◌, ◌+◌, ◌≤◌, ap, arith, subst, sym, ◌∙◌, GoesOn, run_in, WritesWord-look_best, last_look, WritesWord, Best, best_node_in}
use Rattle.plan_words.proofs.Words.{best_word}
use Rattle.plan_words.proofs.Allowing.{may_post}
use Rattle.plan_words.proofs.Owning.{in_table}
use Rattle.plan_words.proofs.Posting.{post_node, post_within, posted_low, posted_view, posted_whole}
use Rattle.plan_words.proofs.shared.Shared.post_at.Goals as goal
use Rattle.plan_words.proofs.shared.Shared.post_at.Goals.{After-fetch_min-found}

pub pack_best-requires-clause-node : goal.pack_best-requires-clause-node
pack_best-requires-clause-node c =
    let lawful = c.requires.sits.lawful in
    omega (arith, post_within c.args.seat.now.me.0 c.args.node lawful c.requires.may, lawful.run.marks)

pub fetch_min-found-requires : goal.fetch_min-found-requires
fetch_min-found-requires c =
    let own = c.requires.sits.run ∙ ap run_in (sym c.self.view_is) in
    let same = c.requires.sits.table_is ∙ ap (λ s. s.table) (sym c.self.view_is) in (
      same,
      in_table _ _ _ _ c.self.invariant Best _ tt c.best-place.ensures,
      may_post _ _ _ _ c.self.invariant _ _ _ _ c.args.node _ c.best-place.ensures own c.requires.may
          (c.pack_best.ensures ∙ ap (λ cost. best_word cost c.args.node) c.requires.cost)
          (post_node c.args.seat.now.me.0 c.args.node c.args.cost _ c.requires.sits.lawful c.requires.may c.pack_best.ensures),
    )

node : (c : After-fetch_min-found) → best_node_in c.pack_best.result ≡ c.args.node
node c = post_node c.args.seat.now.me.0 c.args.node c.args.cost _ c.requires.sits.lawful c.requires.may c.pack_best.ensures

pub returns-clause-goes_on : goal.returns-clause-goes_on
returns-clause-goes_on c =
    let told = c.fetch_min-found.ensures.2.told in
    subst (GoesOn c.args.seat.now.me.0) (sym told.view_is) told.goes_on

pub returns-clause-sits : goal.returns-clause-sits
returns-clause-sits c =
    let told = c.fetch_min-found.ensures.2.told in
    record {
      table_is = c.fetch_min-found.ensures.0 ∙ c.requires.sits.table_is;
      run = ap (λ v. v.run) told.view_is ∙ c.requires.sits.run;
      lawful = (returns-clause-goes_on c).lawful;
      slots = told.slots ∙ c.requires.sits.slots;
    }

pub returns-clause-view : goal.returns-clause-view
returns-clause-view c =
    posted_view c.args.seat.now.me.0 c.fetch_min-found.new.seat.me.0 _ c.args.node _ _ (node (goal.at.returns-clause-view c).After-fetch_min-found)
    c.fetch_min-found.ensures.2.told.view_is

pub returns-clause-looked : goal.returns-clause-looked
returns-clause-looked c =
    let view = c.args.seat.now.me.0 in
    let lawful = c.requires.sits.lawful in
    subst (λ v. WritesWord Best (view.steps + 1) (last_look view) (last_look v)) (sym c.fetch_min-found.ensures.2.told.view_is)
    (WritesWord-look_best view.run view lawful.of_run view.best view.hand view.notes)

pub returns-clause-posted : goal.returns-clause-posted
returns-clause-posted c =
    let then = c.fetch_min-found.new.seat.me.0 in
    subst (λ cost. then.best ≤ best_word cost c.args.node) (sym c.requires.cost)
    (posted_low c.args.seat.now.me.0 then _ c.args.node _ _ (node (goal.at.returns-clause-posted c).After-fetch_min-found)
    c.fetch_min-found.ensures.2.told.view_is)

pub returns-clause-whole : goal.returns-clause-whole
returns-clause-whole c whole =
    posted_whole c.args.seat.now.me.0 c.fetch_min-found.new.seat.me.0 _ c.args.node _ _ (node (goal.at.returns-clause-whole c).After-fetch_min-found)
    c.fetch_min-found.ensures.2.told.view_is (c.fetch_min-found.ensures.2.same whole)
