use Rattle.plan_words.proofs.Words.{◌≤◌, ap, length, refl, subst, ◌∙◌, is_some, PassState, HasLooked-trans}
use Rattle.plan_words.proofs.Words.{last_note, lowered, IsPresent-later, Words, TreeOf, best_word, cost_in, cost_in-tree_word}
use Rattle.plan_words.proofs.GoingOn.{BelongsTo-later, GoesOn-trans}
use Rattle.plan_words.proofs.KeptPairs.{fits_word}
use Rattle.plan_words.proofs.Posting.{OnlyPosts-after, goal-before, goal-later, lowered_here}
use Rattle.plan_words.proofs.shared.Shared.lower.Goals as goal
use Rattle.plan_words.proofs.shared.Shared.lower.Goals.{After-lower_pair}

pub post_lowered-requires-clause-belongs : goal.post_lowered-requires-clause-belongs
post_lowered-requires-clause-belongs c =
    BelongsTo-later c.args.self.now c.args.pass.now c.lower_pair.new.pass (ap (λ (p : PassState). p.table) c.in_ok-lower_pair.ensures.view)
    c.in_ok-lower_pair.ensures.goes_on c.requires.belongs

pub post_lowered-requires-clause-present : goal.post_lowered-requires-clause-present
post_lowered-requires-clause-present c =
    let later = c.in_ok-lower_pair.ensures.goes_on.later in
    IsPresent-later c.args.pass.now.view c.lower_pair.new.pass.view later.run later.seen c.args.node (ap is_some c.requires.may.seen.stands)

pub returns-then-self-clause-kept : goal.returns-then-self-clause-kept
returns-then-self-clause-kept c =
    OnlyPosts-after c.args.node c.args.pass.now c.lower_pair.new.pass c.post_lowered.new.pass
    (lowered c.args.pass.now.view c.args.node c.args.parent c.args.cost (last_note c.lower_pair.new.pass.view)) c.in_ok-lower_pair.ensures.view refl refl refl
    (goal-before c.args.pass.now.view c.lower_pair.new.pass.view c.args.node c.requires.may.at c.in_ok-lower_pair.ensures.goes_on
    c.requires.may.seen.stands)
    c.post_lowered.ensures.kept

pub returns-then-self-clause-goes_on : goal.returns-then-self-clause-goes_on
returns-then-self-clause-goes_on c =
    GoesOn-trans c.args.pass.now.view c.lower_pair.new.pass.view c.post_lowered.new.pass.view c.in_ok-lower_pair.ensures.goes_on
    c.post_lowered.ensures.goes_on

-- the node is one of the run's
within : (c : After-lower_pair) → c.args.node ≤ length c.args.pass.now.view.run.marks
within c =
    let lawful = c.requires.belongs.lawful in
    lawful.within c.args.node (lawful.tree.rooted.points c.args.node (ap is_some c.requires.may.seen.stands))

pub returns-then-self-clause-lowered : goal.returns-then-self-clause-lowered
returns-then-self-clause-lowered c =
    ap (λ (w : Words). w (TreeOf c.args.node)) c.post_lowered.ensures.seen
    ∙ lowered_here c.args.pass.now c.lower_pair.new.pass c.args.node c.args.parent c.args.cost _ c.requires.belongs.lawful
    (within (goal.at.returns-then-self-clause-lowered c).After-lower_pair) c.in_ok-lower_pair.ensures.view

pub returns-else-self-clause-lowered : goal.returns-else-self-clause-lowered
returns-else-self-clause-lowered c =
    lowered_here c.args.pass.now c.lower_pair.new.pass c.args.node c.args.parent c.args.cost _ c.requires.belongs.lawful
    (within (goal.at.returns-else-self-clause-lowered c).After-lower_pair) c.in_ok-lower_pair.ensures.view

pub returns-then-self-clause-posted : goal.returns-then-self-clause-posted
returns-then-self-clause-posted c here =
    let before = c.args.pass.now.view in
    let mid = c.lower_pair.new.pass.view in
    let may = c.requires.may in
    let lawful = c.requires.belongs.lawful in
    let wrote = lowered_here c.args.pass.now c.lower_pair.new.pass c.args.node c.args.parent c.args.cost _ lawful
    (within (goal.at.returns-then-self-clause-posted c).After-lower_pair) c.in_ok-lower_pair.ensures.view in
    let fits = fits_word before may.at c.args.parent c.args.cost lawful may.below in
    let cost = ap cost_in wrote ∙ cost_in-tree_word c.args.parent c.args.cost fits.0 fits.1 in
    subst (λ x. c.post_lowered.new.pass.view.best ≤ best_word x c.args.node) cost
    (c.post_lowered.ensures.posted (goal-later before mid c.args.node may.at c.in_ok-lower_pair.ensures.goes_on may.seen.stands here))

pub returns-then-self-clause-looked : goal.returns-then-self-clause-looked
returns-then-self-clause-looked c = c.post_lowered.ensures.looked c.args.node ∙ c.in_ok-lower_pair.ensures.looked

pub returns-then-self-clause-shown : goal.returns-then-self-clause-shown
returns-then-self-clause-shown c =
    HasLooked-trans c.args.pass.now.view c.lower_pair.new.pass.view c.post_lowered.new.pass.view c.in_ok-lower_pair.ensures.goes_on.later
    c.post_lowered.ensures.goes_on.later c.in_ok-lower_pair.ensures.shown c.post_lowered.ensures.shown
