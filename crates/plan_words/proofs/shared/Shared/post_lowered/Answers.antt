use Rattle.plan_words.proofs.Words.{◌≡◌, false, true, ap, refl, sym, ◌∙◌, lies_in_goals, PointOf, PassState, HasLooked, SeesGoal}
use Rattle.plan_words.proofs.Words.{loaded, sees, SharedRun}
use Rattle.plan_words.proofs.GoingOn.{GoesOn-trans}
use Rattle.plan_words.proofs.Posting.{LooksAndPosts-looked, LooksAndPosts-posted, OnlyPosts-after, OnlyPosts-posted, goal-again, goal-at, lies-at}
use Rattle.plan_words.proofs.Posting.{sees-point_again}
use Rattle.plan_words.proofs.shared.Shared.post_lowered.Goals as goal
use Rattle.plan_words.proofs.shared.Shared.post_lowered.Goals.{After-has_goal_at}
use Rattle.plan_words.proofs.SeatSteps.{HasLooked-loaded}

-- nothing is seen anew by the look at the point
same_words : (c : After-has_goal_at) → sees c.point-point.new.pass.view ≡ sees c.args.pass.now.view
same_words c =
    sees-point_again c.args.pass.now.view c.point-point.new.pass.view c.args.node _ c.point-point.ensures.goes_on c.requires.present
    c.point-point.ensures.seen

-- the test tells whether the point lies in a goal of the run
lies_is : (c : After-has_goal_at) → lies_in_goals c.point-point.new.pass.view.run.goals c.point-point.result ≡ c.has_goal_at.result
lies_is c =
    ap (λ (r : SharedRun). lies_in_goals r.goals c.point-point.result) (c.point-point.ensures.goes_on.later.run ∙ c.requires.belongs.run)
    ∙ sym c.has_goal_at.ensures

-- and so whether the node was a goal node
goal_then : (c : After-has_goal_at) → c.has_goal_at.result ≡ true → SeesGoal c.point-point.new.pass.view c.args.node
goal_then c passes = goal-at c.point-point.new.pass.view c.args.node c.point-point.result c.point-point.ensures.found (lies_is c ∙ passes)

goal_before : (c : After-has_goal_at) → c.has_goal_at.result ≡ true → SeesGoal c.args.pass.now.view c.args.node
goal_before c passes =
    goal-again c.point-point.new.pass.view c.args.pass.now.view c.args.node (sym c.point-point.ensures.goes_on.later.run) (sym (same_words c))
    (goal_then c passes)

no_goal : (c : After-has_goal_at) → c.has_goal_at.result ≡ false → ¬ SeesGoal c.args.pass.now.view c.args.node
no_goal c fails here =
    let after = c.point-point.new.pass.view in
    let then = goal-again c.args.pass.now.view after c.args.node c.point-point.ensures.goes_on.later.run (same_words c) here in
    let lies = lies-at after c.args.node c.point-point.result c.point-point.ensures.found then in
    let clash = sym lies ∙ lies_is c ∙ fails in
    cc

pub returns-then-has_goal_at-clause-posts : goal.returns-then-has_goal_at-clause-posts
returns-then-has_goal_at-clause-posts c =
    let here = (goal.at.returns-then-has_goal_at-clause-posts c).After-has_goal_at in
    LooksAndPosts-posted c.args.node c.args.pass.now c.point-point.new.pass c.post.new.pass c.point-point.ensures.view c.post.ensures.view
    (goal_before here c.if-has_goal_at.true)

pub returns-then-has_goal_at-clause-kept : goal.returns-then-has_goal_at-clause-kept
returns-then-has_goal_at-clause-kept c =
    let here = (goal.at.returns-then-has_goal_at-clause-kept c).After-has_goal_at in
    let before = c.args.pass.now in
    let mid = c.point-point.new.pass in
    let looks = c.point-point.ensures in
    OnlyPosts-after c.args.node before mid c.post.new.pass (loaded before.view (PointOf c.args.node) (sees mid.view (PointOf c.args.node))) looks.view
    refl refl refl (λ _. goal_before here c.if-has_goal_at.true)
    (OnlyPosts-posted c.args.node mid c.post.new.pass c.post.new.pass.view.best _ c.post.ensures.view (goal_then here c.if-has_goal_at.true))

pub returns-then-has_goal_at-clause-goes_on : goal.returns-then-has_goal_at-clause-goes_on
returns-then-has_goal_at-clause-goes_on c =
    GoesOn-trans c.args.pass.now.view c.point-point.new.pass.view c.post.new.pass.view c.point-point.ensures.goes_on c.post.ensures.goes_on

pub returns-then-has_goal_at-clause-seen : goal.returns-then-has_goal_at-clause-seen
returns-then-has_goal_at-clause-seen c =
    ap (λ (p : PassState). sees p.view) c.post.ensures.view ∙ same_words (goal.at.returns-then-has_goal_at-clause-seen c).After-has_goal_at

pub returns-else-has_goal_at-clause-posts : goal.returns-else-has_goal_at-clause-posts
returns-else-has_goal_at-clause-posts c =
    LooksAndPosts-looked c.args.node c.args.pass.now c.point-point.new.pass c.point-point.ensures.view
    (no_goal (goal.at.returns-else-has_goal_at-clause-posts c).After-has_goal_at c.if-has_goal_at.false)

pub returns-else-has_goal_at-clause-seen : goal.returns-else-has_goal_at-clause-seen
returns-else-has_goal_at-clause-seen c = same_words (goal.at.returns-else-has_goal_at-clause-seen c).After-has_goal_at

pub returns-else-has_goal_at-clause-posted : goal.returns-else-has_goal_at-clause-posted
returns-else-has_goal_at-clause-posted c here =
    absurd (no_goal (goal.at.returns-else-has_goal_at-clause-posted c).After-has_goal_at c.if-has_goal_at.false here)

-- what the look at the point shows
shown_there : (c : After-has_goal_at) → HasLooked c.args.pass.now.view c.point-point.new.pass.view
shown_there c =
    HasLooked-loaded c.args.pass.now.view c.point-point.new.pass.view (PointOf c.args.node) _ c.point-point.ensures.seen c.point-point.ensures.looked
    (ap (λ (p : PassState). p.view.best) c.point-point.ensures.view)
