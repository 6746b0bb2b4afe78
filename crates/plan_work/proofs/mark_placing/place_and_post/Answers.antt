use Rattle.plan_work.proofs.Words.{rules, ◌≡◌, suc, length, ap, ◌∙◌, subst, arith, List, IsPlacing, SeesPlacing, PassState, with_view, HasCome, KeepsOthers}
use Rattle.plan_work.proofs.Words.{Member}
use Rattle.kd_shared.specs.declared.placing.Placing.TheVariants.{Placed, Same}
use Rattle.plan_work.proofs.ExtendedAlone.{KeepsOthers-placing, KeepsOthers-then}
use Rattle.plan_work.proofs.HeldMarks.{holding, if_held, of_held}
use Rattle.plan_work.proofs.PostedNodes.{GoesOnPlacing-posted, HasBeenPlaced-posted, KeepsShare-posted, KeepsShare-trans, PostsGoalNode}
use Rattle.plan_work.proofs.PostedNodes.{same_words, view_alone}
use Rattle.plan_work.proofs.mark_placing.place_and_post.Goals as goal
use Rattle.plan_work.proofs.mark_placing.place_and_post.Goals.{After-post_goal_node}

pub post_goal_node-requires : goal.post_goal_node-requires
post_goal_node-requires c = record {
  belongs = search rules;
  part = omega (arith, c.requires.part, ap (λ (l : List Member). length l) c.place.ensures.share.crew);
  placed =
      let before = c.args.pass.now.view in
      let mid = c.place.new.pass.view in
      let own = holding before (λ hand. IsPlacing mid hand c.place.result) c.requires.hand c.place.ensures.placed in (
        own.hand,
        subst (IsPlacing mid own.hand) c.in-Placed.is own.says,
        of_held before (λ hand. hand.mark ≡ c.args.k) own.hand own.held c.requires.mark,
        of_held before (λ hand. hand.point ≡ c.args.p) own.hand own.held c.requires.point,
      );
}

-- what the post leaves
posts_there : (c : After-post_goal_node) → PostsGoalNode c.place.new.pass c.post_goal_node.new.pass c.args.p (suc c.args.k)
posts_there c = record {
  goes_on = c.post_goal_node.ensures.goes_on;
  best = c.post_goal_node.ensures.best;
  in_goal = c.post_goal_node.ensures.in_goal;
  elsewhere = c.post_goal_node.ensures.elsewhere;
}

pub returns-in-Placed : goal.returns-in-Placed
returns-in-Placed c =
    let mid = c.place.new.pass in
    let after = c.post_goal_node.new.pass in
    let before = c.args.pass.now.view in
    record {
      belongs = search rules;
      goes_on =
          let posts = posts_there (goal.at.returns-in-Placed c).After-post_goal_node in
          GoesOnPlacing-posted c.args.pass.now.view mid.view after.view c.place.ensures.goes_on c.post_goal_node.ensures.goes_on
          posts.best
          (same_words mid after c.args.p (suc c.args.k) posts);
      share =
          let posts = posts_there (goal.at.returns-in-Placed c).After-post_goal_node in
          KeepsShare-trans c.args.pass.now.view mid.view after.view c.place.ensures.share (KeepsShare-posted mid after c.args.p (suc c.args.k) posts);
      view_alone =
          let posts = posts_there (goal.at.returns-in-Placed c).After-post_goal_node in
          view_alone mid after c.args.p (suc c.args.k) posts ∙ ap (λ (q : PassState). with_view q after.view) c.place.ensures.view_alone;
      placed =
          let posts = posts_there (goal.at.returns-in-Placed c).After-post_goal_node in
          let own = holding before (λ hand. IsPlacing mid.view hand c.place.result) c.requires.hand c.place.ensures.placed in
          if_held before (λ hand. HasCome after.view hand Placed) own.hand own.held
          (HasBeenPlaced-posted mid after c.args.p (suc c.args.k) posts own.hand (subst (IsPlacing mid.view own.hand) c.in-Placed.is own.says)
          (of_held before (λ hand. hand.point ≡ c.args.p) own.hand own.held c.requires.point)
          (ap suc (of_held before (λ hand. hand.mark ≡ c.args.k) own.hand own.held c.requires.mark)));
      whole = λ whole.
          let posts = posts_there (goal.at.returns-in-Placed c).After-post_goal_node in
          let own = holding before (λ hand. SeesPlacing before mid.view hand c.place.result) c.requires.hand (c.place.ensures.whole_seen whole) in
          if_held before (λ hand. KeepsOthers before after.view hand.mark Placed) own.hand own.held
          (KeepsOthers-then before mid.view after.view own.hand.mark Placed
          (KeepsOthers-placing before mid.view own.hand Placed (subst (SeesPlacing before mid.view own.hand) c.in-Placed.is own.says))
          (same_words mid after c.args.p (suc c.args.k) posts));
    }

pub returns-in-Same : goal.returns-in-Same
returns-in-Same c =
    let before = c.args.pass.now.view in
    let mid = c.place.new.pass in
    record {
      belongs = search rules;
      goes_on = search rules;
      share = search rules;
      view_alone = search rules;
      placed =
          let own = holding before (λ hand. IsPlacing mid.view hand c.place.result) c.requires.hand c.place.ensures.placed in
          if_held before (λ hand. HasCome mid.view hand (Same c.in-Same.node)) own.hand own.held
          (subst (IsPlacing mid.view own.hand) c.in-Same.is own.says);
      whole = λ whole.
          let own = holding before (λ hand. SeesPlacing before mid.view hand c.place.result) c.requires.hand (c.place.ensures.whole_seen whole) in
          if_held before (λ hand. KeepsOthers before mid.view hand.mark (Same c.in-Same.node)) own.hand own.held
          (KeepsOthers-placing before mid.view own.hand (Same c.in-Same.node) (subst (SeesPlacing before mid.view own.hand) c.in-Same.is own.says));
    }
