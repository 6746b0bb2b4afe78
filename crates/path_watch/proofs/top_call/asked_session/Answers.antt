use Rattle.path_watch.proofs.Words.{List, ℕ, refl, subst, IfErr-only, IsReadWhole-fetched, RefusesSceneText, IsCaused, Spells, supported}
use Rattle.path_watch.proofs.WatchedScenes.{IsCaused-text}
use Rattle.path_watch.proofs.top_call.asked_session.Goals as goal

pub returns-in_err-problem-clause-refusal : goal.returns-in_err-problem-clause-refusal
returns-in_err-problem-clause-refusal g c =
    let before = g.S.Source.state c.args.source.now in
    let now = g.S.Source.state c.fetch.new.source in
    let fetched = c.in_ok-text.ensures in
    let whole = IsReadWhole-fetched before now c.in_ok-text.text fetched.end fetched.bytes fetched.none_left fetched.no_fault in
    let refusal = c.in_err-problem.field-0.0 in
    let refused = subst (λ (bytes : List ℕ). RefusesSceneText bytes refusal) c.deref.ensures.value c.in_err-problem.ensures.refusal in
    IfErr-only c.from_residual-in_err-problem.result _ (IsCaused _ before now) c.from_residual-in_err-problem.ensures.1
    (IsCaused-text c.args.orders before now c.in_ok-text.text.items refusal whole fetched.small refused)

pub returns-clause-session : goal.returns-clause-session
returns-clause-session g c =
    let before = g.S.Source.state c.args.source.now in
    let now = g.S.Source.state c.fetch.new.source in
    let fetched = c.in_ok-text.ensures in
    let task = c.in_ok-problem.problem.task in
    record {
      scene = task.scene;
      read = record {
        bytes = c.in_ok-text.text.items;
        read = IsReadWhole-fetched before now c.in_ok-text.text fetched.end fetched.bytes fetched.none_left fetched.no_fault;
        spelled = record {
          short = fetched.small;
          spelled = subst (λ (bytes : List ℕ). Spells supported bytes task.scene) c.deref.ensures.value c.in_ok-problem.ensures.scene;
        };
      };
      fresh = record { start = c.in_ok-problem.problem.start; task = task; of_scene = refl; fresh = c.in_ok-session.ensures };
    }
