-- What each kind of step makes of the view that makes it, as a function of the view before. The words are those of WordNames.
use Rattle.std.specs.Prelude.{ℕ, zero, suc, Bool, ◌+◌, ◌==◌, max, min, Option, Some, None, List, [], ◌∷◌, ◌++◌, length, map, replicate, if◌then◌else◌}
use Rattle.step_core.specs.Terms.{Best, ChildOf, Claimed, Count, Counted, Counter, FirstOf, Half, Hand, Linked, Member, Note, Point, PointOf, Pointed, Posted}
use Rattle.step_core.specs.Terms.{RecordOf, SharedRun, Sizes, Stage, TreeOf, Treed, View, Word, best_word, cost_in, kind_at, later_word, place_of, point_word}
use Rattle.step_core.specs.Terms.{range_with_len, slice_index, slice_set, tree_word, word_count}
use Rattle.plan_model.specs.Scenes.MarkPoints.{mark_of as mark_by_strips}
use Rattle.step_core.specs.Views.{run_sizes, sees}

-- the place of a word in the tables of a view
abbrev pub place_in : View → Word → ℕ
place_in view name = place_of (run_sizes view.run) name

-- ---- loads
-- One step more, on the word at this place: it was found so, and is left so.
abbrev pub saw_at : View → ℕ → ℕ → ℕ → View
saw_at view place found left = record view {
  seen = slice_set view.seen place left;
  steps = view.steps + 1;
  looked = slice_set view.looked place (view.steps + 1);
  found_zero = if found == 0 then slice_set view.found_zero place (view.steps + 1) else view.found_zero;
}

-- the same on the word of this name
abbrev pub saw : View → Word → ℕ → ℕ → View
saw view name found left = saw_at view (place_in view name) found left

-- one step more, by which no word is seen
abbrev pub stepped : View → View
stepped view = record view { steps = view.steps + 1 }

-- a load
abbrev pub loaded : View → Word → ℕ → View
loaded view name word = saw view name word word

-- ---- notes
-- how many steps each view has made
abbrev pub steps_made : List View → List ℕ
steps_made views = map (λ view. view.steps) views

-- and how many when the view at this index has made one more
abbrev pub steps_then : List View → ℕ → View → List ℕ
steps_then views id view = steps_made (slice_set views id (stepped view))

-- The view notes that this was left in the word at this place, when the views had made so many steps.
abbrev pub noting : View → ℕ → ℕ → List ℕ → View
noting view place word steps = record view { notes = record { place = place; word = word; steps = steps } ∷ view.notes }

-- no note of any word
abbrev pub no_note : Note
no_note = record { place = 0; word = 0; steps = [] }

-- the note at this index, 0 for the last one
abbrev pub note_at : List Note → ℕ → Note
note_at [] i = no_note
note_at (note ∷ notes) zero = note
note_at (note ∷ notes) (suc i) = note_at notes i

abbrev pub note_before : View → ℕ → Note
note_before view i = note_at view.notes i

-- the steps in the last note of a view
abbrev pub last_note : View → List ℕ
last_note view = (note_before view 0).steps

-- ---- claims
-- mark number c of strip g of a run
abbrev pub mark_of : SharedRun → ℕ → ℕ → ℕ
mark_of run g c = mark_by_strips run.strips g c

-- a mark in hand for which nothing is written
abbrev pub new_hand : ℕ → Hand
new_hand k = record { mark = k; stage = Claimed; best = None; nearest = 0; point = record { x = 0; y = 0 }; parent = 0; cost = 0 }

-- The counter of strip g went from c to c + 1, which is noted, and the mark is in hand.
abbrev pub claimed : View → ℕ → ℕ → ℕ → List ℕ → View
claimed view g c limit steps = record (noting (saw view (Counter g) c (c + 1)) (place_in view (Counter g)) (c + 1) steps) {
  hand = Some (new_hand (mark_of view.run g c));
  most = max view.most limit;
}

-- ---- the best word
-- a hand for whose mark nothing is written takes the best word that was loaded
abbrev pub best_taken : Stage → Hand → ℕ → Hand
best_taken Claimed hand word = record hand { best = Some word }
best_taken stage hand word = hand

abbrev pub hand_with_best : Option Hand → ℕ → Option Hand
hand_with_best None word = None
hand_with_best (Some hand) word = Some (best_taken hand.stage hand word)

-- a view with one step more, by which it looked at the best word and left it so, and this in hand
abbrev pub with_best : View → ℕ → Option Hand → View
with_best view best hand = record (stepped view) { best = best; looked = slice_set view.looked (place_in view Best) (view.steps + 1); hand = hand }

-- The best word was found so.
abbrev pub best_loaded : View → ℕ → View
best_loaded view word = with_best view word (hand_with_best view.hand word)

-- a hand that has counted node n has posted it
abbrev pub post_noted : Stage → Hand → ℕ → Hand
post_noted Counted hand n = if suc hand.mark == n then record hand { stage = Posted } else hand
post_noted stage hand n = hand

abbrev pub hand_with_post : Option Hand → ℕ → Option Hand
hand_with_post None n = None
hand_with_post (Some hand) n = Some (post_noted hand.stage hand n)

-- what a post of node n would make of a best word, by what the node was seen to cost
abbrev pub best_with : View → ℕ → ℕ → ℕ
best_with view n word = min word (best_word (cost_in (sees view (TreeOf n))) n)

-- Node n was posted, and the best word was left so, which is noted.
abbrev pub with_post : View → ℕ → ℕ → List ℕ → View
with_post view n best steps = noting (with_best view best (hand_with_post view.hand n)) (place_in view Best) best steps

-- The best word was found so before: it is the lesser now.
abbrev pub posted : View → ℕ → ℕ → List ℕ → View
posted view n word steps = with_post view n (best_with view n word) steps

-- ---- points, parents, links and counts
-- The point of the node in hand is written, steered from node m. The pass does not see it as a word: only linked nodes are seen.
abbrev pub pointed : View → Hand → ℕ → Point → View
pointed view hand m p = record (stepped view) { hand = Some (record hand { stage = Pointed; nearest = m; point = p }) }

-- The first word of the node in hand is written, with this parent and this cost.
abbrev pub half : View → Hand → ℕ → ℕ → View
half view hand parent cost = record (stepped view) { hand = Some (record hand { stage = Half; parent = parent; cost = cost }) }

-- Its tree word is written too, with the same.
abbrev pub treed : View → Hand → View
treed view hand = record (stepped view) { hand = Some (record hand { stage = Treed }) }

-- the parent and the cost in hand, as a word
abbrev pub pair_in_hand : Hand → ℕ
pair_in_hand hand = tree_word hand.parent hand.cost

-- seen words, with those that the hand has written for its node
abbrev pub with_node_words : SharedRun → Hand → List ℕ → List ℕ
with_node_words run hand seen =
    let at : Word → ℕ = place_of (run_sizes run) in
    let node : ℕ = suc hand.mark in
    slice_set (slice_set (slice_set seen (at (PointOf node)) (point_word hand.point)) (at (TreeOf node)) (pair_in_hand hand)) (at (FirstOf node))
    (pair_in_hand hand)

-- The node in hand stands in the child word at this place, which was found empty: this is noted. It is seen there, with its point, its parent
-- and its cost.
abbrev pub linked_at : View → Hand → ℕ → List ℕ → View
linked_at view hand place steps = let shown = noting (saw_at view place 0 (suc hand.mark)) place (suc hand.mark) steps in
    record shown { seen = with_node_words view.run hand shown.seen; hand = Some (record hand { stage = Linked }) }

-- it stands in the child word of node n on this side
abbrev pub linked : View → Hand → ℕ → Bool → List ℕ → View
linked view hand n side steps = linked_at view hand (place_in view (ChildOf n side)) steps

-- The node in hand is counted, and the count that this left is noted. The step does not look at it: the class of a mark is that of the count
-- loaded last.
abbrev pub counted : View → Hand → ℕ → List ℕ → View
counted view hand count steps = record (noting (stepped view) (place_in view Count) count steps) { hand = Some (record hand { stage = Counted }) }

-- ---- costs and records
-- The tree word of node n was the one seen last, and has this parent and this cost now, which is noted.
abbrev pub lowered : View → ℕ → ℕ → ℕ → List ℕ → View
lowered view n parent cost steps =
    noting (saw view (TreeOf n) (sees view (TreeOf n)) (tree_word parent cost)) (place_in view (TreeOf n)) (tree_word parent cost) steps

-- the first of a crew has made its turn
abbrev pub one_turn_more : List Member → List Member
one_turn_more [] = []
one_turn_more (member ∷ crew) = record member { turn = member.turn + 1 } ∷ crew

-- a record is stored at this place, and the hand is empty
abbrev pub finished_at : View → ℕ → ℕ → View
finished_at view place word = record (saw_at view place word word) { hand = None; crew = one_turn_more view.crew }

-- the record of mark k
abbrev pub finished : View → ℕ → ℕ → View
finished view k word = finished_at view (place_in view (RecordOf k)) word

-- ---- splits
-- a crew without its second, and its second alone
abbrev pub without_second : List Member → List Member
without_second [] = []
without_second (member ∷ []) = member ∷ []
without_second (member ∷ second ∷ crew) = member ∷ crew

abbrev pub second_alone : List Member → List Member
second_alone (member ∷ second ∷ crew) = second ∷ []
second_alone crew = []

-- What a new pass has of a view: it has seen as much, has looked at no word itself, and has changed none.
abbrev pub unlooked : View → View
unlooked view = record view { looked = replicate (length view.looked) 0; found_zero = replicate (length view.found_zero) 0; notes = [] }

-- The second worker gets a pass of its own, which has seen as much.
abbrev pub parted : View → View
parted view = record (stepped view) { crew = without_second view.crew }

abbrev pub worker_apart : View → View
worker_apart view = record (unlooked view) { crew = second_alone view.crew; hand = None }

-- a pass without a share, which has seen as much
abbrev pub looker : View → View
looker view = record (unlooked view) { crew = []; hand = None }

-- ---- joins
-- the later of what two tables say of each word
abbrev pub merged : Sizes → List ℕ → List ℕ → List ℕ
merged sizes one other =
    map (λ place. later_word (kind_at sizes place) (slice_index one place) (slice_index other place)) (range_with_len 0 (word_count sizes))

-- Both shares, the greater limit, what either has seen, the lesser best word, and the notes of both. The steps stay its own.
abbrev pub joined : View → View → View
joined view other = record (stepped view) {
  crew = view.crew ++ other.crew;
  most = max view.most other.most;
  seen = merged (run_sizes view.run) view.seen other.seen;
  best = min view.best other.best;
  took = other.seen;
  notes = view.notes ++ other.notes;
}
