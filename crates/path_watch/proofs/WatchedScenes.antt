-- What a whole call has done, from the refusal or from the session that was watched.
use Rattle.path_watch.proofs.Words.{◌≡◌, ◌≤◌, ◌⊎◌, ℕ, false, List, [], ◌∷◌, length, map, Option, Some, None, IfSome, inl, inr, refl, sym, ap, subst, ◌∙◌, arith}
use Rattle.path_watch.proofs.Words.{FoldsTo, is_some, MOST_TEXT_BYTES, report_text, Scene, SessionState, IsSessionOf, Consumes-nil, Keeps-refl, best_node}
use Rattle.path_watch.proofs.Words.{goals_of, SinkState, SourceState, state_of_grown, ReadsWithin, refusal_decided, success_decided, RefusesSceneText, IsCaused}
use Rattle.path_watch.proofs.Words.{status_of_report, IsDecided, IsReadWhole, IsUnread, ReadFailed, WriteFailed, status_of, Refusal, NO_MEMORY, Done, Takes}
use Rattle.path_watch.proofs.Words.{as_plan, orders_of, HasWatched, IsAskedSession, IsRefused, WatchesScene, status_of_ending, Refuses, Watches, Orders, Ending}
use Rattle.path_watch.proofs.Words.{WORDS_REFUSED, WRITE_FAULT, status_of-words}
use Rattle.planner.specs.declared.commands.Command.TheVariants as commands
use Rattle.planner.specs.declared.refusals.Refusal.TheVariants as refusals
use Rattle.path_watch.specs.declared.watching.Ending.TheVariants as endings

-- there are more than two words
pub orders_of-many : {X : Type 0} (f : X → List ℕ) (words : List X) → 3 ≤ length words → None ≡ orders_of (map f words)
orders_of-many f [] h = absurd (omega (arith, h))
orders_of-many f (a ∷ []) h = absurd (omega (arith, h))
orders_of-many f (a ∷ b ∷ []) h = absurd (omega (arith, h))
orders_of-many f (a ∷ b ∷ c ∷ words) h = refl

-- a scene that cannot be read, or whose start is not clear, is the cause of its refusal
pub IsCaused-text : (orders : Orders) (before now : SourceState) (text : List ℕ) (refusal : Refusal) → IsReadWhole before now text
    → length text ≤ MOST_TEXT_BYTES → RefusesSceneText text refusal → IsCaused (as_plan (Some orders)) before now refusal
IsCaused-text orders before now text (refusals.Text number kind) whole short h = (refl, (text, whole, record { short = short; refused = h }))
IsCaused-text orders before now text refusals.StartBlocked whole short h = (
  refl,
  (text, whole, record { scenes = h.scene ∷ []; spelled = record { short = short; spelled = h.spelled }; blocked = λ clear. h.blocked clear.0 }),
)
IsCaused-text orders before now text refusals.Memory whole short h = (refl, whole.no_fault)
IsCaused-text orders before now text refusal whole short h = absurd h

-- a sink that took texts, and then failed, has failed
later : (texts : List (List ℕ)) (k l : SinkState) → FoldsTo Takes k texts l → k.fault_count ≤ l.fault_count
later [] k l h = rw h (omega arith)
later (text ∷ texts) k l h = let rest = later texts h.0 l h.2 in omega (arith, h.1.1, rest)

rose_later : (k then l : SinkState) → k.fault_count ≤ then.fault_count → WriteFailed then l → WriteFailed k l
rose_later k then l low rose = grind (arith)

no_orders : (asked : Option Orders) (orders : Orders) → asked ≡ None → asked ≡ Some orders → ⊥
no_orders asked orders none some = absurd cc

module _ (asked : Option Orders) (before now : SourceState) (k l : SinkState) where
  -- the status is what the bytes decide, or memory was out
  abbrev Decides : Ending → Type 0
  Decides ending =
      (¬ ReadFailed before now) → (¬ WriteFailed k l)
      → (status_of_ending ending ≡ NO_MEMORY) ⊎ IfSome (as_plan asked) (λ command. IsDecided before.bytes_left command (status_of_ending ending))

  refused_decides : (ending : Ending) → IsRefused asked before now k l ending → Decides ending
  refused_decides (endings.Ended run has_path) h sure written = absurd h.2
  refused_decides (endings.Cut run) h sure written = absurd h.2
  refused_decides (endings.CutRefusal it) h sure written = absurd (written h.2.1.0.rose)
  refused_decides (endings.Refused it) h sure written =
      subst (λ (r : Refusal). (status_of r ≡ NO_MEMORY) ⊎ IfSome (as_plan asked) (λ command. IsDecided before.bytes_left command (status_of r)))
      (sym h.2.0) (refusal_decided (as_plan asked) before now h.0 h.1 sure)

  watched_decides : (ending : Ending) → WatchesScene asked before now k l ending → Decides ending
  watched_decides (endings.Ended run has_path) h sure written =
      let by = h.watched.ends.0.whole in
      let done : Done = record { status = status_of_report has_path; run = Some run; twin = None; batch = []; better = [] } in
      inr (success_decided (as_plan asked) before now done (report_text false h.scene run.limit (state_of_grown run)) (record {
        command = commands.Plan h.orders.workers false;
        known = ap as_plan h.asks;
        bytes = h.read.bytes;
        read = h.read.read;
        meaning = record {
          scene = h.scene;
          of_command = h.read.spelled;
          start = λ planned. h.start;
          meaning = record {
            grown = run;
            reported = record {
              given = refl;
              of_scene = by.scene_is;
              all_marks = by.all_marks;
              closed = by.closed;
              settled = by.settled;
              best = ap status_of_report h.watched.ends.1
                  ∙ ap (λ s. status_of_report (is_some (best_node (goals_of s) run.limit (state_of_grown run)))) by.scene_is;
              written = refl;
            };
            by_workers = by.by_workers;
            textbook = by.textbook;
            alone = record { no_run = refl; no_twin = refl; no_batch = refl; no_better = refl };
          };
        };
      }))
  watched_decides (endings.Cut run) h sure written =
      absurd (written (rose_later k h.watched.then l (later _ k h.watched.then h.watched.blocks) h.watched.ends.2.0.rose))
  watched_decides (endings.Refused it) h sure written = inl (ap status_of h.watched.ends.1.0)
  watched_decides (endings.CutRefusal it) h sure written =
      absurd (written (rose_later k h.watched.then l (later _ k h.watched.then h.watched.blocks) h.watched.ends.1.1.0.rose))

  pub HasWatched-refused : (ending : Ending) → IsRefused asked before now k l ending → (asked ≡ None → IsUnread before now)
      → ReadsWithin before.bytes_left now.bytes_left → HasWatched asked before now k l ending
  HasWatched-refused ending h unread within = record {
    done = inl h;
    decided = refused_decides ending h;
    unread = unread;
    within = within;
  }

  pub HasWatched-scene : (ending : Ending) → WatchesScene asked before now k l ending → ReadsWithin before.bytes_left now.bytes_left
      → HasWatched asked before now k l ending
  HasWatched-scene ending h within = record {
    done = inr h;
    decided = watched_decides ending h;
    unread = λ none. absurd (no_orders asked h.orders none h.asks);
    within = within;
  }

  -- a session that was asked for
  pub HasWatched-asked : (orders : Orders) (ending : Ending) (session : SessionState) → asked ≡ Some orders → IsAskedSession orders before now session
      → ((workers slice : ℕ) (scene : Scene) → IsSessionOf workers slice scene session → Watches workers slice scene k l ending)
      → ReadsWithin before.bytes_left now.bytes_left → HasWatched asked before now k l ending
  HasWatched-asked orders ending session asks h watched within =
      HasWatched-scene ending (record {
        orders = orders;
        asks = asks;
        scene = h.scene;
        read = h.read;
        start = h.fresh.start;
        watched = watched _ _ h.scene h.fresh;
      }) within

pub HasWatched-words : (asked : Option Orders) (source : SourceState) (k l : SinkState) (ending : Ending) → asked ≡ None → source.has_ended ≡ false
    → Refuses k l refusals.Words ending → HasWatched asked source source k l ending
HasWatched-words asked source k l ending none unended h =
    let unread : IsUnread source source = record { kept = Keeps-refl source.bytes_left; no_end = unended; no_fault = refl } in
    HasWatched-refused asked source source k l ending (refusals.Words, (ap as_plan none, unread), h) (λ _. unread)
    ([], omega arith, Consumes-nil source.bytes_left)

-- without words that ask to watch, the status is that of refused words, unless the sink failed
pub status_of_ending-words : (before now : SourceState) (k l : SinkState) (ending : Ending) → HasWatched None before now k l ending
    → (status_of_ending ending ≡ WORDS_REFUSED) ⊎ (status_of_ending ending ≡ WRITE_FAULT)
status_of_ending-words before now k l ending h =
    elim h.done [
      | inl refused ↦ by_ending ending refused
      | inr watched ↦ absurd (no_orders None watched.orders refl watched.asks)
    ]
  where
    by_ending : (ending : Ending) → IsRefused None before now k l ending
        → (status_of_ending ending ≡ WORDS_REFUSED) ⊎ (status_of_ending ending ≡ WRITE_FAULT)
    by_ending (endings.Ended run has_path) h = absurd h.2
    by_ending (endings.Cut run) h = absurd h.2
    by_ending (endings.CutRefusal it) h = inr refl
    by_ending (endings.Refused it) h = inl (ap status_of h.2.0 ∙ status_of-words before now h.0 h.1)
