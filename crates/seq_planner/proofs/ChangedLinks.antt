-- What a new node, or another parent of a node, changes in who is whose child.
use Rattle.seq_planner.proofs.Words.{◌≡◌, ℕ, zero, suc, ◌+◌, ◌<◌, ◌≤◌, List, [], ◌∷◌, ◌++◌, length, set, cond, Option, Some, None, refl, sym, ap, ◌∙◌, subst}
use Rattle.seq_planner.proofs.Words.{arith, inl, inr, option_map, cases_eq, eq-eqb, ne_eqb, get_or-set_same, get_or-set_other, length-set, MOST_NODES, Twig}
use Rattle.seq_planner.proofs.Words.{node_at, node_at-push_new, node_at-past, node_at-absent, Adds-push, AreMembers, HasInChain, HasOneMore, IndexesChains}
use Rattle.seq_planner.proofs.Words.{MovesNode, IsIndex-same, times, ChildIndex, AreLinked, chain_in, chain_of, hangs_below, is_parent_number, parent_if_child}
use Rattle.std.proofs.lemmas.List.{length-append}

-- ---- by nodes

-- a node that is present and not the start is in the chain of its parent
pub chain_in-node : (tree : List (Option Twig)) (c : ℕ) (node : Twig) → 0 < c → node_at tree c ≡ Some node → chain_in tree c ≡ suc node.parent
chain_in-node tree zero node some here = absurd (omega (arith, some))
chain_in-node tree (suc n) node some here = ap (λ o. chain_of (option_map (λ node. node.parent) o)) here

chain_in-same : (one other : List (Option Twig)) (c : ℕ) → node_at one c ≡ node_at other c → chain_in one c ≡ chain_in other c
chain_in-same one other zero e = refl
chain_in-same one other (suc n) e = ap (λ o. chain_of (option_map (λ node. node.parent) o)) e

chain_in-past : (tree : List (Option Twig)) (c : ℕ) → length tree ≤ c → chain_in tree c ≡ 0
chain_in-past tree zero past = refl
chain_in-past tree (suc n) past = ap (λ o. chain_of (option_map (λ node. node.parent) o)) (node_at-past tree (suc n) past)

-- ---- a new node

-- an absent number is nobody's child
pub AreLinked-push_absent :
    (tree : List (Option Twig)) (children more : ChildIndex) → length tree < MOST_NODES → HasOneMore children more → AreLinked tree children
    → AreLinked (tree ++ None ∷ []) more
AreLinked-push_absent tree children more room one_more linked =
    let sized = length-append tree (None ∷ []) in
    record {
      few = omega (arith, sized, room);
      chains = subst (λ n. IndexesChains n (chain_in (tree ++ None ∷ [])) more) (sym sized)
          (IsIndex-same (length tree + 1) (chain_in tree) (chain_in (tree ++ None ∷ [])) _ _ _ (one_more (length tree) (chain_in tree) linked.chains)
          (λ c. chain_in-same (tree ++ None ∷ []) tree c (node_at-absent tree c)));
    }

-- a new number is in no chain
pub HasInChain-push :
    (tree : List (Option Twig)) (children more : ChildIndex) (number : ℕ) → number ≡ length tree → HasOneMore children more → AreLinked tree children
    → HasInChain more number 0
HasInChain-push tree children more number at one_more linked = record {
  nodes = length tree + 1;
  chain = chain_in tree;
  chains = one_more (length tree) (chain_in tree) linked.chains;
  here = chain_in-past tree number (omega (arith, at));
  low = omega (arith, at);
}

-- and comes to that of its parent
pub AreLinked-push :
    (tree : List (Option Twig)) (node : Twig) (children more after : ChildIndex) (number : ℕ) → number ≡ length tree → 0 < length tree
    → length tree < MOST_NODES → HasOneMore children more → MovesNode number 0 (node.parent + 1) more after → AreLinked tree children
    → AreLinked (tree ++ Some node ∷ []) after
AreLinked-push tree node children more after number at some room one_more moves linked =
    let longer : List (Option Twig) = tree ++ Some node ∷ [] in
    let sized = length-append tree (Some node ∷ []) in
    let here : chain_in longer number ≡ suc node.parent =
    chain_in-node longer number node (omega (arith, at, some)) (ap (node_at longer) at ∙ node_at-push_new tree (Some node)) in
    record {
      few = omega (arith, sized, room);
      chains = subst (λ n. IndexesChains n (chain_in longer) after) (sym sized)
          (moves (length tree + 1) (chain_in tree) (chain_in longer) (one_more (length tree) (chain_in tree) linked.chains)
          (chain_in-past tree number (omega (arith, at))) (omega (arith, here))
          (λ c apart. chain_in-same longer tree c ((Adds-push tree node).elsewhere c (λ same. apart (same ∙ sym at)))));
    }

-- ---- another parent

pub AreLinked-replace :
    (tree : List (Option Twig)) (was now : Twig) (children after : ChildIndex) (number : ℕ) → 0 < number → number < length tree
    → node_at tree number ≡ Some was → MovesNode number (was.parent + 1) (now.parent + 1) children after → AreLinked tree children
    → AreLinked (set tree number (Some now)) after
AreLinked-replace tree was now children after number some low here moves linked =
    let changed : List (Option Twig) = set tree number (Some now) in
    let sized = length-set tree number (Some now) in
    record {
      few = omega (arith, sized, linked.few);
      chains = subst (λ n. IndexesChains n (chain_in changed) after) (sym sized)
          (moves (length tree) (chain_in tree) (chain_in changed) linked.chains (omega (arith, chain_in-node tree number was some here))
          (omega (arith, chain_in-node changed number now some (get_or-set_same tree number (Some now) None low)))
          (λ c apart. chain_in-same changed tree c (get_or-set_other tree number c (Some now) None apart)));
    }

-- ---- the children of a node

-- each stands once among the members of its chain
pub hangs_below-times :
    (tree : List (Option Twig)) (f : ℕ) (members : List ℕ) (c : ℕ) → AreMembers (chain_in tree) (suc f) members
    → times members c ≡ cond (hangs_below tree f c) 1 0
hangs_below-times tree f members c are = by_parent (parent_if_child tree c) refl
  where
    by_parent : (up : Option ℕ) → parent_if_child tree c ≡ up → times members c ≡ cond (is_parent_number f up) 1 0
    by_parent None is = are.only c (λ e. (let none = ap chain_of is in absurd (omega (arith, none, e))))
    by_parent (Some g) is =
        elim (cases_eq g f) [
          | inl same ↦ are.each c (ap chain_of is ∙ ap suc same) ∙ sym (ap (λ b. cond b 1 0) (eq-eqb g f same))
          | inr apart ↦
              are.only c (λ e. (let own : suc g ≡ suc f = sym (ap chain_of is) ∙ e in apart (omega (arith, own))))
              ∙ sym (ap (λ b. cond b 1 0) (ne_eqb g f apart))
        ]
