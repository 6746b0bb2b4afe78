use Rattle.plan_words.proofs.Words.{sym, ap, ◌∙◌, subst, arith, slots_items, HasNoneLeft, HoldRun, cleared, record_at, run_words, sizes_in, words_in}
use Rattle.plan_words.proofs.Words.{word_count, share}
use Rattle.plan_words.proofs.Ending.{AreSameRuns-ended, HoldRun-ended, StandsAsSeen-ended, limit-found, own_workers-ended}
use Rattle.plan_words.proofs.Ending.{same_in_run, stands_in_run, words-copied}
use Rattle.plan_words.proofs.Owning.{same_run}
use Rattle.plan_words.proofs.shared.Shared.end_retired.Goals as goal

pub copy_words-requires-clause-as_many : goal.copy_words-requires-clause-as_many
copy_words-requires-clause-as_many c =
    ap word_count (c.self.inside.own_places ∙ c.self.invariant.places_are) ∙ sym c.self.invariant.words ∙ sym c.close_with-closed.ensures.counts.0

pub from_words-requires-clause-sizes : goal.from_words-requires-clause-sizes
from_words-requires-clause-sizes c =
    ap sizes_in c.copy_words.ensures.places ∙ c.self.inside.own_places ∙ c.self.invariant.places_are

pub from_words-requires-clause-run : goal.from_words-requires-clause-run
from_words-requires-clause-run c =
    let shared = c.self.inside in
    let view = c.retired.inside.seat.me.0 in
    let closed = c.close_with-closed.result in
    let items = slots_items closed.words in
    let own = same_run _ _ _ _ c.retired.view_is c.self.view_is c.requires.belongs in
    let whole = ap (λ p. share p.view) c.retired.view_is ∙ c.requires.whole ∙ sym (ap (λ s. s.workers) c.self.view_is) in
    let idle = ap (λ p. p.view.hand) c.retired.view_is ∙ c.requires.idle in
    let left = subst (λ p. HasNoneLeft p.view) (sym c.retired.view_is) c.requires.none_left in
    let held =
    HoldRun-ended shared.task shared.workers shared.opening shared.table.shared.key view c.retired.inside.seat.id items _ c.self.invariant.key_is own
    c.close_with-closed.ensures.values.2 whole idle left in
    let of_task = ap sizes_in c.copy_words.ensures.places ∙ shared.own_places ∙ c.self.invariant.places_are in
    let copied = words-copied shared.task c.copy_words.new.words items of_task c.copy_words.ensures.items in
    let found = c.first_unrecorded-limit.ensures in
    let last =
    limit-found shared.task view.most c.first_unrecorded-limit.result (sizes_in c.copy_words.new.words.places) (words_in c.copy_words.new.words)
    (run_words shared.task items) of_task copied held found.before found.first found.most in
    subst (λ words. HoldRun shared.task c.first_unrecorded-limit.result (cleared words)) (sym copied)
    (subst (λ n. HoldRun shared.task n (cleared (run_words shared.task items))) (sym last) held)

pub returns-clause-limit : goal.returns-clause-limit
returns-clause-limit c =
    let shared = c.self.inside in
    let view = c.retired.inside.seat.me.0 in
    let items = slots_items c.close_with-closed.result.words in
    let own = same_run _ _ _ _ c.retired.view_is c.self.view_is c.requires.belongs in
    let whole = ap (λ p. share p.view) c.retired.view_is ∙ c.requires.whole ∙ sym (ap (λ s. s.workers) c.self.view_is) in
    let idle = ap (λ p. p.view.hand) c.retired.view_is ∙ c.requires.idle in
    let left = subst (λ p. HasNoneLeft p.view) (sym c.retired.view_is) c.requires.none_left in
    let held =
    HoldRun-ended shared.task shared.workers shared.opening shared.table.shared.key view c.retired.inside.seat.id items _ c.self.invariant.key_is own
    c.close_with-closed.ensures.values.2 whole idle left in
    let of_task = ap sizes_in c.copy_words.ensures.places ∙ shared.own_places ∙ c.self.invariant.places_are in
    let copied = words-copied shared.task c.copy_words.new.words items of_task c.copy_words.ensures.items in
    let found = c.first_unrecorded-limit.ensures in
    c.from_words.ensures.limit
    ∙ limit-found shared.task view.most c.first_unrecorded-limit.result (sizes_in c.copy_words.new.words.places) (words_in c.copy_words.new.words)
    (run_words shared.task items) of_task copied held found.before found.first found.most
    ∙ ap (λ p. p.view.most) c.retired.view_is

pub returns-clause-seen : goal.returns-clause-seen
returns-clause-seen c =
    let shared = c.self.inside in
    let view = c.retired.inside.seat.me.0 in
    let items = slots_items c.close_with-closed.result.words in
    let own = same_run _ _ _ _ c.retired.view_is c.self.view_is c.requires.belongs in
    let whole = ap (λ p. share p.view) c.retired.view_is ∙ c.requires.whole ∙ sym (ap (λ s. s.workers) c.self.view_is) in
    let idle = ap (λ p. p.view.hand) c.retired.view_is ∙ c.requires.idle in
    let left = subst (λ p. HasNoneLeft p.view) (sym c.retired.view_is) c.requires.none_left in
    let stands =
    StandsAsSeen-ended shared.task shared.workers shared.opening shared.table.shared.key view c.retired.inside.seat.id items _ c.self.invariant.key_is own
    c.close_with-closed.ensures.values.2 whole idle left in
    let of_task = ap sizes_in c.copy_words.ensures.places ∙ shared.own_places ∙ c.self.invariant.places_are in
    let copied = words-copied shared.task c.copy_words.new.words items of_task c.copy_words.ensures.items in
    stands_in_run shared.task view items c.args.retired.view c.from_words.result (ap (λ p. p.view) c.retired.view_is) c.from_words.ensures.task
    (c.from_words.ensures.words ∙ ap cleared copied) stands

pub returns-clause-workers : goal.returns-clause-workers
returns-clause-workers c k entry past recorded =
    let shared = c.self.inside in
    let view = c.retired.inside.seat.me.0 in
    let items = slots_items c.close_with-closed.result.words in
    let own = same_run _ _ _ _ c.retired.view_is c.self.view_is c.requires.belongs in
    let whole = ap (λ p. share p.view) c.retired.view_is ∙ c.requires.whole ∙ sym (ap (λ s. s.workers) c.self.view_is) in
    let idle = ap (λ p. p.view.hand) c.retired.view_is ∙ c.requires.idle in
    let left = subst (λ p. HasNoneLeft p.view) (sym c.retired.view_is) c.requires.none_left in
    let of_task = ap sizes_in c.copy_words.ensures.places ∙ shared.own_places ∙ c.self.invariant.places_are in
    let copied = words-copied shared.task c.copy_words.new.words items of_task c.copy_words.ensures.items in
    let words = c.from_words.ensures.words ∙ ap cleared copied in
    let opening = ap (λ s. s.opening) c.self.view_is in
    let low =
    own_workers-ended shared.task shared.workers shared.opening shared.table.shared.key view c.retired.inside.seat.id items _ c.self.invariant.key_is own
    c.close_with-closed.ensures.values.2 whole idle left k entry (omega (arith, past, opening))
    (ap (λ w. record_at w k) (sym words) ∙ recorded) in
    omega (arith, low, ap (λ s. s.workers) c.self.view_is)

pub returns-clause-same : goal.returns-clause-same
returns-clause-same c =
    let shared = c.self.inside in
    let view = c.retired.inside.seat.me.0 in
    let items = slots_items c.close_with-closed.result.words in
    let own = same_run _ _ _ _ c.retired.view_is c.self.view_is c.requires.belongs in
    let whole = ap (λ p. share p.view) c.retired.view_is ∙ c.requires.whole ∙ sym (ap (λ s. s.workers) c.self.view_is) in
    let idle = ap (λ p. p.view.hand) c.retired.view_is ∙ c.requires.idle in
    let left = subst (λ p. HasNoneLeft p.view) (sym c.retired.view_is) c.requires.none_left in
    let same =
    AreSameRuns-ended shared.task shared.workers shared.opening shared.table.shared.key view c.retired.inside.seat.id items _ c.self.invariant.key_is own
    c.close_with-closed.ensures.values.2 whole idle left in
    let of_task = ap sizes_in c.copy_words.ensures.places ∙ shared.own_places ∙ c.self.invariant.places_are in
    let copied = words-copied shared.task c.copy_words.new.words items of_task c.copy_words.ensures.items in
    same_in_run shared.task view items c.args.retired.view c.from_words.result (ap (λ p. p.view) c.retired.view_is) c.from_words.ensures.task
    (c.from_words.ensures.words ∙ ap cleared copied) same
