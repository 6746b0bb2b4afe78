use Rattle.plan_words.proofs.Words.{◌≡◌, ◌+◌, ◌≤◌, ℕ, ap, length, refl, subst, sym, true, ◌∙◌, IfNone, IfSome, Best, WritesWord, best_of_word, has_node}
use Rattle.plan_words.proofs.Words.{no_best, SeesGoal, WritesWord-look_best, best_loaded, hand_with_best, last_look, sees}
use Rattle.plan_words.proofs.KeptPairs.{HasPairs-kept, keeps_view}
use Rattle.plan_words.proofs.Allowing.{may_best}
use Rattle.plan_words.proofs.Owning.{in_table, same_run, same_table}
use Rattle.plan_words.proofs.Posting.{none_posted, read_none, read_within}
use Rattle.plan_words.proofs.shared.Shared.best.Goals as goal

pub load-word-requires : goal.load-word-requires
load-word-requires c =
    let same = same_table _ _ _ _ c.pass.view_is c.self.view_is c.requires.belongs in
    let own = same_run _ _ _ _ c.pass.view_is c.self.view_is c.requires.belongs in (
      same,
      in_table _ _ _ _ c.self.invariant Best _ tt c.best.ensures,
      may_best _ _ _ _ c.self.invariant _ _ _ _ c.best.ensures own,
    )

pub invariant_of-pass : goal.invariant_of-pass
invariant_of-pass c =
    let me = c.pass.inside.seat.me in
    let word = c.load-word.result in
    let then = best_loaded me.0 word in
    keeps_view me c.load-word.new.seat.me then _ _ _ _ _ _ _ _ c.pass.inside.pairs c.pass.inside.pairs c.load-word.ensures.2.told c.pass.invariant refl
    c.pass.invariant.1.member_is (c.take_best-pass-inside.ensures ∙ ap (λ h. hand_with_best h word) c.pass.invariant.1.hand_is)
    (HasPairs-kept me.0 then c.pass.inside.pairs refl (λ n. refl))

pub returns-clause-looked : goal.returns-clause-looked
returns-clause-looked c =
    let view = c.pass.inside.seat.me.0 in
    let then = c.load-word.new.seat.me.0 in
    subst (λ p. WritesWord Best (p.view.steps + 1) (last_look p.view) (last_look then)) c.pass.view_is
    (subst (λ v. WritesWord Best (view.steps + 1) (last_look view) (last_look v)) (sym c.load-word.ensures.2.told.view_is)
    (WritesWord-look_best view.run view c.pass.invariant.1.lawful.of_run c.load-word.result (hand_with_best view.hand c.load-word.result) view.notes))

pub returns-clause-within : goal.returns-clause-within
returns-clause-within c =
    let word = c.load-word.result in
    subst (λ o. IfSome o (λ best. best.0 ≤ length c.args.pass.now.view.run.marks)) (sym c.read_best.ensures.read)
    (subst (λ p. IfSome (best_of_word word) (λ best. best.0 ≤ length p.view.run.marks)) c.pass.view_is
    (read_within word _ c.load-word.ensures.2.told.goes_on.lawful.best_node))

pub returns-clause-none : goal.returns-clause-none
returns-clause-none c =
    let view = c.pass.inside.seat.me.0 in
    let word = c.load-word.result in
    let lawful = c.load-word.ensures.2.told.goes_on.lawful in
    let unposted : word ≡ no_best → (n : ℕ) → has_node (sees c.args.pass.now.view) n ≡ true → ¬ SeesGoal c.args.pass.now.view n =
    λ none n node goal.
    none_posted (best_loaded view word) n lawful (subst (λ p. has_node (sees p.view) n ≡ true) (sym c.pass.view_is) node)
    (subst (λ p. SeesGoal p.view n) (sym c.pass.view_is) goal) none in
    subst (λ o. IfNone o ((n : ℕ) → has_node (sees c.args.pass.now.view) n ≡ true → ¬ SeesGoal c.args.pass.now.view n)) (sym c.read_best.ensures.read)
    (read_none word ((n : ℕ) → has_node (sees c.args.pass.now.view) n ≡ true → ¬ SeesGoal c.args.pass.now.view n) unposted)
