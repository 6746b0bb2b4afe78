use Rattle.tree_rewire.proofs.Words.{ap, arith, inl, inr, map, subst, sym, ◌∙◌, ◌≢◌, IsTrue, PassState, IsPresent-later, parent_in, AreKnown, IsClearTo}
use Rattle.tree_rewire.proofs.Words.{IsNextWord, nodes_on, word_through, NamesNothing, PassSees}
use Rattle.tree_rewire.proofs.ChosenFound.{IsWordOf-next, blocked-first, blocked-next, open_word, present_of, words-same}
use Rattle.tree_rewire.proofs.ChosenParents.{clear_after, clear_before}
use Rattle.tree_rewire.proofs.CostSteps.{PassSees-trans}
use Rattle.tree_rewire.proofs.NearLists.{AllKnots-known, AreKnown-later}
use Rattle.tree_rewire.proofs.open_words.least_open.Given.{Over}
use Rattle.tree_rewire.proofs.open_words.least_open.Goals as goal
use Rattle.tree_rewire.proofs.open_words.least_open.Goals.{After-is_blocked}

pub blocked-init : goal.blocked-init
blocked-init g c =
    let pass = c.args.pass.now in
    let near = nodes_on c.args.among pass.lists in
    let first = c.next_word-word.ensures in
    let word = c.next_word-word.result in
    record {
      steps = first.steps;
      of_near = IsWordOf-next pass.view c.args.p near 0 c.args.last word first.next;
      most = first.next.most;
      earlier = blocked-first (g.C.Clearing.space c.args.hall.now) pass.view c.args.p near c.args.last word first.next;
    }

pub is_blocked-requires-clause-node : goal.is_blocked-requires-clause-node
is_blocked-requires-clause-node g c κs within = λ other.
    let h = c.blocked.invariant in
    let goes_on = h.steps.sees_anew.goes_on in
    let before = c.args.pass.now in
    IsPresent-later before.view c.blocked.pass.view goes_on.later.run goes_on.later.seen (parent_in c.blocked.word)
    (present_of (g.C.Clearing.space c.args.hall.now) before.view c.args.p (nodes_on c.args.among before.lists) c.args.last c.blocked.word
    c.requires.belongs.lawful (AllKnots-known c.args.among before.view c.args.p before.lists c.requires.known) h.of_near other)

-- the edge of this word is blocked, also as the pass saw it first
closed : (g : Over) (c : After-is_blocked g) → IsTrue c.is_blocked.result
    → (c.blocked.word ≢ c.args.last) × (¬ IsClearTo (g.C.Clearing.space c.args.hall.now) c.args.pass.now.view c.args.p (parent_in c.blocked.word))
closed g c on =
    let own = c.is_blocked.ensures.blocked on in
    let same = c.blocked.invariant.steps.sees_anew in (
      own.0,
      λ clear. own.1 (clear_after (g.C.Clearing.space c.args.hall.now) same c.args.p (parent_in c.blocked.word) clear),
    )

steps_then : (g : Over) (c : After-is_blocked g) → PassSees NamesNothing c.args.shared.now c.args.pass.now c.is_blocked.new.pass
steps_then g c = PassSees-trans c.blocked.invariant.steps c.is_blocked.ensures.steps

pub next_word-word-requires-in-blocked-clause-known : goal.next_word-word-requires-in-blocked-clause-known
next_word-word-requires-in-blocked-clause-known g c =
    let steps = steps_then g (goal.at.next_word-word-requires-in-blocked-clause-known g c).After-is_blocked in
    let before = c.args.pass.now in
    let now = c.is_blocked.new.pass in
    subst (λ (s : PassState). AreKnown c.args.among now.view c.args.p s.lists) (sym steps.view_alone)
    (AreKnown-later c.args.among before.view now.view c.args.p before.lists steps.sees_anew.goes_on c.requires.known)

pub next_word-word-requires-in-blocked-clause-low : goal.next_word-word-requires-in-blocked-clause-low
next_word-word-requires-in-blocked-clause-low g c =
    let own = closed g (goal.at.next_word-word-requires-in-blocked-clause-low g c).After-is_blocked c.blocked-test.true in
    omega (arith, c.blocked.invariant.most, own.0)

pub blocked-preserved : goal.blocked-preserved
blocked-preserved g c =
    let here = (goal.at.blocked-preserved g c).After-is_blocked in
    let before = c.args.pass.now in
    let near = nodes_on c.args.among before.lists in
    let now = c.is_blocked.new.pass in
    let h = c.blocked.invariant in
    let steps = steps_then g here in
    let words = ap (λ (s : PassState). map (word_through now.view c.args.p) (nodes_on c.args.among s.lists)) steps.view_alone
    ∙ words-same before.view now.view steps.sees_anew c.args.p near in
    let word = c.next_word-word-in-blocked.result in
    let last = c.next_word-word-in-blocked.ensures in
    let next = subst (λ ws. IsNextWord ws c.blocked.word c.args.last word) words last.next in
    record {
      steps = PassSees-trans steps last.steps;
      of_near = IsWordOf-next before.view c.args.p near c.blocked.word c.args.last word next;
      most = next.most;
      earlier = blocked-next (g.C.Clearing.space c.args.hall.now) before.view c.args.p near c.args.last c.blocked.word c.requires.belongs.lawful
          (AllKnots-known c.args.among before.view c.args.p before.lists c.requires.known) word h.earlier (closed g here c.blocked-test.true).1 next;
    }

pub returns-clause-steps : goal.returns-clause-steps
returns-clause-steps g c = steps_then g (goal.at.returns-clause-steps g c).After-is_blocked

pub returns-clause-one_of : goal.returns-clause-one_of
returns-clause-one_of g c =
    let space = g.C.Clearing.space c.args.hall.now in
    let before = c.args.pass.now in
    let h = c.blocked.invariant in
    elim (c.is_blocked.ensures.open c.blocked-test.false) [
      | inl same ↦ inl same
      | inr clear ↦
          open_word space before.view c.args.p (nodes_on c.args.among before.lists) c.args.last c.blocked.word c.requires.belongs.lawful
          (AllKnots-known c.args.among before.view c.args.p before.lists c.requires.known) h.of_near
          (clear_before space h.steps.sees_anew c.args.p (parent_in c.blocked.word) clear)
    ]
