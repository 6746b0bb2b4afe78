-- The law of worlds: what holds of the words of a shared run and of the views of its passes between any two steps, whichever passes make
-- them and in whichever order. Each part speaks of one thing, and has a lemma of its own on a step of one view.
use Rattle.std.specs.Prelude.{◌≡◌, ◌≢◌, ℕ, suc, ◌+◌, ◌<◌, ◌≤◌, ◌==◌, ◌^◌, ◌⊎◌, nat_lt, max, Bool, true, false, is_some, Some, None, List, ◌∷◌, if◌then◌else◌}
use Rattle.step_core.specs.Terms.{AreBehind, AreSeenLawfully, AreTurns, Best, ChildOf, Count, Counter, FirstOf, FitsWord, FollowWays, Hand, Hangs}
use Rattle.step_core.specs.Terms.{HaveWholePairs, IsGoalNode, IsLawfulRecord, IsPresent, IsWritten, KeepsFirstCosts, KeepsOrder, MOST_WORKERS, Member}
use Rattle.step_core.specs.Terms.{PointOf, Posted, Record, RecordOf, SharedRun, Stage, TreeOf, TreeState, View, Word, Words, [], best_cost_in, best_node_in}
use Rattle.step_core.specs.Terms.{best_word, children_of_words, cost_in, first_cost_through, get_elem?, has_node, is_claimed, is_linked, is_of_worker, length}
use Rattle.step_core.specs.Terms.{map, mark_at, most_cost_of, no_best, node_count, once_if, point_word, quota_of, range_with_len, record_at, record_word}
use Rattle.step_core.specs.Terms.{some, sum_by, tree_word, turns_of}
use Rattle.step_core.specs.Notes.{Empties, Notes}
use Rattle.step_core.specs.SeenBests.{IsAtMostPlaced}
use Rattle.step_core.specs.Stages.{linked_points, state_of_links, has_count, has_first, has_link, has_point, has_tree, holds_at}
use Rattle.step_core.specs.ViewSteps.{pair_in_hand}
use Rattle.step_core.specs.ViewTrees.{SeesTree}
use Rattle.step_core.specs.Views.{IsSharedRun, IsViewOf, holds, run_sizes, sees, setup_in, share, spent, times, took_over, tree_seen}

-- ---- all views
-- each view has the property
abbrev pub EachView : List View → (View → Type 0) → Type 0
EachView views has = (i : ℕ) (view : View) → get_elem? views i ≡ some view → has view

-- how many views have mark k in hand
abbrev pub holders : ℕ → List View → ℕ
holders k views = sum_by (λ view. once_if (holds k view.hand)) views

-- the greatest of these numbers
abbrev pub maximum : List ℕ → ℕ
maximum [] = 0
maximum (n ∷ rest) = max n (maximum rest)

-- the limit up to which a view lets counters rise; 0 without a share
abbrev pub limit_of : View → ℕ
limit_of view = if share view == 0 then 0 else view.most

-- the greatest limit that a view with a share has used
abbrev pub greatest_limit : List View → ℕ
greatest_limit views = maximum (map limit_of views)

-- ---- claimed marks
-- how many marks of each strip are claimed
abbrev pub counters : Words → ℕ → ℕ
counters words strip = words (Counter strip)

-- no record, or a packed one
abbrev pub IsRecordWord : ℕ → Type 0
IsRecordWord word = (word ≡ 0) ⊎ ((entry : Record) × FitsWord entry × (word ≡ record_word entry))

-- mark k has a record
abbrev pub is_recorded : Words → ℕ → Bool
is_recorded words k = is_some (record_at words k)

-- No counter is above its strip's quota below the greatest limit used. Each mark below the counters is recorded or in one hand, once, and
-- no other mark is. No limit is above the number of marks. A record word is 0, or packed.
pub record ClaimedMarks (run : SharedRun) (words : Words) (views : List View) : Type 0 where
  pub quotas : (g : ℕ) → g < run.strips → words (Counter g) ≤ quota_of run.strips g (greatest_limit views)
  pub each_once : (k : ℕ) → once_if (is_recorded words k) + holders k views ≡ once_if (is_claimed run.strips (counters words) k)
  pub limits : EachView views (λ view. view.most ≤ length run.marks)
  pub packed : (k : ℕ) → IsRecordWord (words (RecordOf k))

-- ---- turns and shares
-- The member's next turn is the number of its worker's records, and the view has seen them all.
pub record IsMember (run : SharedRun) (words : Words) (view : View) (member : Member) : Type 0 where
  pub turn : member.turn ≡ turns_of (record_at words) (length run.marks) member.worker
  pub own : (k : ℕ) → is_of_worker member.worker (record_at words k) ≡ true → sees view (RecordOf k) ≡ words (RecordOf k)

-- The turns of each worker run from 0, with no gap and none twice. Each worker of the run is in one crew, and no other is in any.
pub record Turns (run : SharedRun) (words : Words) (views : List View) : Type 0 where
  pub workers : AreTurns (length run.marks) (record_at words)
  pub members : EachView views (λ view. (i : ℕ) (member : Member) → get_elem? view.crew i ≡ some member → IsMember run words view member)
  pub in_one_crew : (w : ℕ) → sum_by (λ view. times w view.crew) views ≡ once_if (nat_lt w run.workers)

-- The shares add up to the number of workers, and a view without a share has nothing in hand.
pub record Shares (run : SharedRun) (views : List View) : Type 0 where
  pub add_up : sum_by share views ≡ run.workers
  pub idle : EachView views (λ view. share view ≡ 0 → view.hand ≡ None)

-- ---- the linked tree and hands
-- how many views have mark k in hand, at a stage that passes the test
abbrev pub hands_at : (Stage → Bool) → ℕ → List View → ℕ
hands_at test k views = sum_by (λ view. once_if (holds_at test k view.hand)) views

-- 1 if the node of mark k is counted: it is recorded as placed, or in a hand that has counted it
abbrev pub counted_once : Words → List View → ℕ → ℕ
counted_once words views k = once_if (has_node words (suc k)) + hands_at has_count k views

-- The way of a linked node's point leads to one child word, which names the node, and no other word does; node 0 is in none. A number that
-- is not linked has no child. Beside node 0 those are linked whose marks are recorded as placed, or are in a hand that has linked them. The
-- count is 1, and 1 for each mark that is recorded as placed, or is in a hand that has counted its node.
pub record LinkedTree (run : SharedRun) (words : Words) (views : List View) : Type 0 where
  pub start : words (PointOf 0) ≡ point_word run.start
  pub ways : FollowWays (children_of_words words) (linked_points (run_sizes run) words)
  pub linked : (k : ℕ) → once_if (is_linked (run_sizes run) words (suc k)) ≡ once_if (has_node words (suc k)) + hands_at has_link k views
  pub count : words Count ≡ 1 + sum_by (counted_once words views) (range_with_len 0 (length run.marks))

-- The point of a mark's node is written by the hand that has the mark, and is not written before.
pub record Hands (words : Words) (views : List View) : Type 0 where
  pub written : EachView views (λ view. (hand : Hand) → view.hand ≡ Some hand → has_point hand.stage ≡ true
      → words (PointOf (suc hand.mark)) ≡ point_word hand.point)
  pub blank : (k : ℕ) → is_recorded words k ≡ false → hands_at has_point k views ≡ 0 → words (PointOf (suc k)) ≡ 0

-- ---- parents, costs and records
-- the linked nodes with their costs and records
abbrev pub state_in : SharedRun → Words → TreeState
state_in run words = state_of_links (run_sizes run) words

-- The linked nodes keep the order law. None costs more than by its first word, and first costs are within the bound. Their words are written
-- as they are packed.
pub record Trees (run : SharedRun) (words : Words) : Type 0 where
  pub order : KeepsOrder (setup_in run) (state_in run words)
  pub first_costs : KeepsFirstCosts (setup_in run) (state_in run words)
  pub written : (n : ℕ) → is_linked (run_sizes run) words n ≡ true → IsWritten words n
  pub start_first : words (FirstOf 0) ≡ tree_word 0 0

-- The first word of the node in hand: the node may hang below its parent at its cost, by what the parent costs now. The cost is at most what
-- the parent, and what the nearest node, was placed at and the edge, and within the bound if the node is linked.
pub record IsFirstOf (run : SharedRun) (words : Words) (hand : Hand) : Type 0 where
  pub word : words (FirstOf (suc hand.mark)) ≡ pair_in_hand hand
  pub fits : (hand.parent < 2 ^ 18) × (hand.cost < 2 ^ 44)
  pub hangs : Hangs (setup_in run) (state_in run words) (suc hand.mark) hand.point hand.parent hand.cost
  pub below_first : hand.cost ≤ first_cost_through (state_in run words) hand.point hand.parent
  pub nearest : IsPresent (linked_points (run_sizes run) words) hand.nearest
  pub below_nearest : hand.cost ≤ first_cost_through (state_in run words) hand.point hand.nearest
  pub bounded : hand.cost ≤ most_cost_of (setup_in run) (suc (node_count (linked_points (run_sizes run) words)))

-- The first word of a mark's node is written by the hand that has the mark, and then its tree word, with the same; neither is before.
pub record Pairs (run : SharedRun) (words : Words) (views : List View) : Type 0 where
  pub first : EachView views (λ view. (hand : Hand) → view.hand ≡ Some hand → has_first hand.stage ≡ true → IsFirstOf run words hand)
  pub tree : EachView views (λ view. (hand : Hand) → view.hand ≡ Some hand → has_tree hand.stage ≡ true → has_link hand.stage ≡ false
      → words (TreeOf (suc hand.mark)) ≡ pair_in_hand hand)
  pub no_first : (k : ℕ) → is_recorded words k ≡ false → hands_at has_first k views ≡ 0 → words (FirstOf (suc k)) ≡ 0
  pub no_tree : (k : ℕ) → is_recorded words k ≡ false → hands_at has_tree k views ≡ 0 → words (TreeOf (suc k)) ≡ 0

-- Each record is borne out by the linked nodes. Its worker is one of the run's, if it was made in this run, or else within the limit.
pub record Records (run : SharedRun) (words : Words) : Type 0 where
  pub lawful : (k : ℕ) (entry : Record) → record_at words k ≡ Some entry
      → IsLawfulRecord (setup_in run) (state_in run words) k (mark_at run.marks k) entry
  pub workers : (k : ℕ) (entry : Record) → record_at words k ≡ Some entry → entry.worker < MOST_WORKERS
  pub own_workers : (k : ℕ) (entry : Record) → record_at words k ≡ Some entry → run.opening ≤ k → entry.worker < run.workers

-- ---- what was seen
-- Each node may hang below the parent that a view has seen of it, at the cost that was seen, and cost no less than that when it was placed.
abbrev pub SeenPairs : SharedRun → Words → List View → Type 0
SeenPairs run words views = EachView views (λ view. view.run ≡ run → AreSeenLawfully (setup_in run) (tree_seen view) (state_in run words))

-- Each view that is not spent sees its tree from node 0 on, and with their points and first words the nodes that it has seen recorded as placed.
abbrev pub TreesSeen : SharedRun → List View → Type 0
TreesSeen run views = EachView views (λ view. view.run ≡ run → SeesTree view)

-- Two that saw a node at one cost saw one tree word, and so one parent.
abbrev pub Agree : Words → Words → Type 0
Agree one other =
    (n : ℕ) → 2 ^ 63 ≤ one (TreeOf n) → 2 ^ 63 ≤ other (TreeOf n) → cost_in (one (TreeOf n)) ≡ cost_in (other (TreeOf n)) → one (TreeOf n) ≡ other (TreeOf n)

-- What each view has seen of a word may become what the word is now. It has seen at least what the pass had that it last took over. Tree
-- words are 0 or written, now and as they were seen, and two views that saw a node at one cost agree.
pub record SeenBehind (words : Words) (views : List View) : Type 0 where
  pub behind : EachView views (λ view. AreBehind (sees view) words)
  pub took : EachView views (λ view. AreBehind (took_over view) (sees view))
  pub pairs : HaveWholePairs words
  pub pairs_seen : EachView views (λ view. HaveWholePairs (sees view))
  pub agree : EachView views (λ one. EachView views (λ other. Agree (sees one) (sees other)))

-- ---- the best word
-- There is no best, or it is a linked goal node, with a cost that fits its bits and is no less than that which the node has now.
abbrev pub IsBestWord : SharedRun → Words → ℕ → Type 0
IsBestWord run words word = word ≢ no_best → IsGoalNode run.goals (linked_points (run_sizes run) words) (best_node_in word)
    × (cost_in (words (TreeOf (best_node_in word))) ≤ best_cost_in word) × (best_cost_in word < 2 ^ 44)

-- It is so of the best word, which is at most the pair of first cost and number of each goal node that is the start or recorded as placed.
pub record BestWord (run : SharedRun) (words : Words) : Type 0 where
  pub pair : IsBestWord run words (words Best)
  pub placed : (n : ℕ) → has_node words n ≡ true → IsGoalNode run.goals (linked_points (run_sizes run) words) n
      → words Best ≤ best_word (cost_in (words (FirstOf n))) n

-- So it is of the best word that a view saw last, and of the one that its hand has taken, and neither is less than that now. Both are at most
-- the pair of each goal node that the view has seen recorded as placed. If the hand has posted its node, the one seen last is at most its pair.
pub record SeesBest (run : SharedRun) (words : Words) (view : View) : Type 0 where
  pub pair : IsBestWord run words view.best
  pub falls : words Best ≤ view.best
  pub placed : IsAtMostPlaced view view.best
  pub taken_pair : (hand : Hand) (word : ℕ) → view.hand ≡ Some hand → hand.best ≡ Some word → IsBestWord run words word
  pub taken : (hand : Hand) (word : ℕ) → view.hand ≡ Some hand → hand.best ≡ Some word → (view.best ≤ word) × IsAtMostPlaced view word
  pub posted : (hand : Hand) → view.hand ≡ Some hand → hand.stage ≡ Posted → view.best ≤ best_word hand.cost (suc hand.mark)

abbrev pub SeenBests : SharedRun → Words → List View → Type 0
SeenBests run words views = EachView views (λ view. view.run ≡ run → SeesBest run words view)

-- ---- copies, and the law
-- The words that tell of the run: its counters, its records, and the words of its linked nodes. The count is not among them: it follows from
-- the rest. Nor is the best word, which views keep apart.
abbrev pub IsTold : SharedRun → Words → Word → Type 0
IsTold run words (Counter g) = g < run.strips
IsTold run words (PointOf n) = is_linked (run_sizes run) words n ≡ true
IsTold run words (ChildOf n side) = is_linked (run_sizes run) words n ≡ true
IsTold run words (TreeOf n) = is_linked (run_sizes run) words n ≡ true
IsTold run words (FirstOf n) = is_linked (run_sizes run) words n ≡ true
IsTold run words (RecordOf k) = k < length run.marks
IsTold run words name = ⊥

-- A view of the run with a share has the property.
pub record SomeSharer (run : SharedRun) (views : List View) (has : View → Type 0) : Type 0 where
  pub id : ℕ
  pub view : View
  pub at : get_elem? views id ≡ some view
  pub run_is : view.run ≡ run
  pub part : 0 < share view
  pub same : has view

-- it sees the word as it is
abbrev pub HasCopy : SharedRun → Words → List View → Word → Type 0
HasCopy run words views name = SomeSharer run views (λ view. sees view name ≡ words name)

-- Each word that tells of the run is seen as it is by a view with a share: the one that wrote it last, or one that has taken that over.
abbrev pub Copies : SharedRun → Words → List View → Type 0
Copies run words views = (name : Word) → IsTold run words name → HasCopy run words views name

-- So is the best word: what a view with a share saw last of it is what it is.
abbrev pub BestCopy : SharedRun → Words → List View → Type 0
BestCopy run words views = SomeSharer run views (λ view. view.best ≡ words Best)

-- All parts. A view is spent once its pass was taken over: it has no share, no hand, and has seen nothing.
pub record IsWorld (run : SharedRun) (words : Words) (views : List View) : Type 0 where
  pub run_is : IsSharedRun run
  pub of_run : EachView views (λ view. (view ≡ spent) ⊎ IsViewOf run view)
  pub numbers : ClaimedMarks run words views
  pub turns : Turns run words views
  pub shares : Shares run views
  pub links : LinkedTree run words views
  pub hands : Hands words views
  pub trees : Trees run words
  pub pairs : Pairs run words views
  pub records : Records run words
  pub seen_pairs : SeenPairs run words views
  pub sights : TreesSeen run views
  pub seen : SeenBehind words views
  pub copies : Copies run words views
  pub best_copy : BestCopy run words views
  pub notes : Notes run words views
  pub empties : Empties run words views
  pub best : BestWord run words
  pub bests : SeenBests run words views
