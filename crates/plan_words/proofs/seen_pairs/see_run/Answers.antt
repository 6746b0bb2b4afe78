use Rattle.plan_words.proofs.Words.{ℕ, ◌<◌, ◌≤◌, ◌^◌, ◌+◌, length, refl, sym, ap, ◌∙◌, subst, arith, inl, inr, cases_Bool, cases_eq, cases_lt, slice_index}
use Rattle.plan_words.proofs.Words.{get_or-set_other, get_or-set_same, has_node, length-set, node-held, node_present, none_past-held, parent-present}
use Rattle.plan_words.proofs.Words.{parent_in, setup_of, sizes_in, state_of_grown, vec_capacity, words_in, words_of_grown, TreeOf, chain_of, seen_words, Grown}
use Rattle.plan_words.proofs.Words.{sibling_chain_in}
use Rattle.plan_words.proofs.SeenLists.{StandFor-set, chain_of-unseen, chain_of-within, index-seen, index-zeros}
use Rattle.plan_words.proofs.seen_pairs.see_run.Goals as goal

-- a closed run has no parent past its limit
parent-held : (grown : Grown) (n : ℕ) → 2 ^ 63 ≤ words_of_grown grown (TreeOf n) → parent_in (words_of_grown grown (TreeOf n)) ≤ grown.limit
parent-held grown n written =
    let words = words_of_grown grown in
    let held = grown.hold_run in
    elim (cases_Bool (has_node words n)) [
      | inl here ↦
          node-held grown.task grown.limit words held _
          (parent-present (setup_of grown.task.scene) (state_of_grown grown) held.closed.order n (node_present grown.task grown.limit words held n here))
      | inr gone ↦ absurd (omega (arith, written, (held.blank n gone).tree))
    ]

pub lengthen-requires : goal.lengthen-requires
lengthen-requires c =
    let within = c.args.grown.now.hold_run.closed.within in
    (length c.args.grown.now.task.marks + 1, omega (arith, within, c.limit-nodes.ensures), c.requires.first)

pub loop-node-init : goal.loop-node-init
loop-node-init c =
    let all = length c.args.grown.now.task.marks + 1 in
    let within : c.limit-nodes.result + 1 ≤ all = omega (arith, c.args.grown.now.hold_run.closed.within, c.limit-nodes.ensures) in
    let reaches = c.lengthen.ensures in
    record {
      first = reaches.first all within c.requires.first;
      long = reaches.long;
      read = λ n below. absurd (omega (arith, below));
      unseen = λ n past.
          sym (index-seen all c.lengthen.new.words.items n) ∙ ap (λ l. slice_index l n) (reaches.same all within c.requires.first)
          ∙ index-seen all c.args.words.now.items n ∙ ap (λ l. slice_index l n) c.requires.unseen ∙ index-zeros 1 n;
    }

pub tree-word-requires : goal.tree-word-requires
tree-word-requires c =
    let marks = ap (λ words. (sizes_in words.places).marks) c.words.ensures ∙ ap (λ s. s.marks) c.args.grown.now.of_task in
    omega (arith, c.args.grown.now.hold_run.closed.within, marks, c.limit-nodes.ensures, c.loop-node-test.true)

pub relink-requires-clause-here : goal.relink-requires-clause-here
relink-requires-clause-here c =
    let all = length c.args.grown.now.task.marks + 1 in
    let kept = c.loop-node.invariant in
    let node = c.loop-node.node in
    let words = c.loop-node.words.items in
    record {
      nodes = length words;
      chain = sibling_chain_in (seen_words all words);
      chains = kept.first.index;
      here = ap (chain_of node) (index-seen all words node ∙ kept.unseen node (omega arith)) ∙ chain_of-unseen node;
      low = omega (arith, kept.long, c.loop-node-test.true);
    }

pub relink-requires-clause-parent : goal.relink-requires-clause-parent
relink-requires-clause-parent c =
    let node = c.loop-node.node in
    let grown = c.args.grown.now in
    let kept = c.loop-node.invariant in
    let word = c.tree-word.ensures ∙ ap (λ words. words_in words (TreeOf node)) c.words.ensures in
    let chain =
    chain_of-within node c.tree-word.result (grown.limit + 1)
    (λ written. (let below = parent-held grown node (subst (λ w. 2 ^ 63 ≤ w) word written) in omega (arith, below, ap parent_in word))) in
    omega (arith, chain, c.chain_of.ensures, c.limit-nodes.ensures, kept.long, kept.first.index.firsts)

pub loop-node-preserved : goal.loop-node-preserved
loop-node-preserved c =
    let all = length c.args.grown.now.task.marks + 1 in
    let kept = c.loop-node.invariant in
    let node = c.loop-node.node in
    let words = c.loop-node.words.items in
    let x = c.tree-word.result in
    let within : node < length words = omega (arith, kept.long, c.loop-node-test.true) in
    let unseen = ap (chain_of node) (index-seen all words node ∙ kept.unseen node (omega arith)) ∙ chain_of-unseen node in
    let word = c.tree-word.ensures ∙ ap (λ words. words_in words (TreeOf node)) c.words.ensures in
    record {
      first =
          (StandFor-set all (seen_words all words) words (vec_capacity c.loop-node.words) c.loop-node.children c.relink.new.self node x 0 c.chain_of.result
          (record { first = kept.first; same = refl }) within (sym unseen) c.chain_of.ensures c.relink.ensures.moves c.relink.ensures.room).first;
      long = omega (arith, length-set words node x, kept.long);
      read = λ n below.
          elim (cases_eq n node) [
            | inl e ↦ rw e (get_or-set_same words node x 0 within ∙ word)
            | inr apart ↦ get_or-set_other words node n x 0 apart ∙ kept.read n (omega (arith, below, apart))
          ];
      unseen = λ n past. get_or-set_other words node n x 0 (λ e. omega (arith, e, past)) ∙ kept.unseen n (omega (arith, past));
    }

pub returns-clause-each : goal.returns-clause-each
returns-clause-each c n =
    let held = c.args.grown.now.hold_run in
    elim (cases_lt n c.loop-node.node) [
      | inl low ↦ c.loop-node.invariant.read n low
      | inr past ↦
          c.loop-node.invariant.unseen n past
          ∙ sym (held.blank n (none_past-held _ _ _ held n (omega (arith, past, c.limit-nodes.ensures, c.loop-node-test.false)))).tree
    ]
