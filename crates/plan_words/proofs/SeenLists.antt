-- Lists of the words of the first nodes, which stand for those of all, get longer.
use Rattle.plan_words.proofs.Words.{◌≡◌, ℕ, zero, suc, ◌+◌, ◌-◌, ◌<◌, ◌≤◌, List, [], ◌∷◌, ◌++◌, length, replicate, refl, sym, ap, ◌∙◌, subst, arith, ◌^◌, Bool}
use Rattle.plan_words.proofs.Words.{true, false, cond, max, nat_lt, slice_index, slice_set, ltb-false, append_assoc, get_or-set_other, get_or-set_same}
use Rattle.plan_words.proofs.Words.{length-replicate, length-set, set-append_left, AreSeenFirst, Reaches, chain_of, seen_words, sibling_chain_in, FitsNumbers}
use Rattle.plan_words.proofs.Words.{HasOneMore, IndexesChains, KeepsRoom, MovesNode, parent_in, IsIndex-same, ChildIndex}
use Rattle.std.proofs.lemmas.List.{length-append}

-- ---- the words of all nodes

-- there is one for each
pub length-seen : (nodes : ℕ) (words : List ℕ) → length words ≤ nodes → length (seen_words nodes words) ≡ nodes
length-seen nodes words within =
    let more = length-append words (replicate (nodes - length words) 0) in
    omega (arith, more, length-replicate (nodes - length words) (zero), within)

pub index-zeros : (count i : ℕ) → slice_index (replicate count 0) i ≡ 0
index-zeros zero i = refl
index-zeros (suc count) zero = refl
index-zeros (suc count) (suc i) = index-zeros count i

index-before_zeros : (words : List ℕ) (count i : ℕ) → slice_index (words ++ replicate count 0) i ≡ slice_index words i
index-before_zeros [] count i = index-zeros count i
index-before_zeros (w ∷ words) count zero = refl
index-before_zeros (w ∷ words) count (suc i) = index-before_zeros words count i

-- the list has the word of each node that was seen
pub index-seen : (nodes : ℕ) (words : List ℕ) (n : ℕ) → slice_index (seen_words nodes words) n ≡ slice_index words n
index-seen nodes words n = index-before_zeros words (nodes - length words) n

-- a word of the list is set
pub seen-set : (nodes : ℕ) (words : List ℕ) (n x : ℕ) → n < length words → seen_words nodes (slice_set words n x) ≡ slice_set (seen_words nodes words) n x
seen-set nodes words n x low =
    ap (λ l. slice_set words n x ++ replicate (nodes - l) 0) (length-set words n x) ∙ sym (set-append_left words (replicate (nodes - length words) 0) n x low)

-- ---- node 0 alone

-- a node that was not seen is nobody's child
pub chain_of-unseen : (n : ℕ) → chain_of n 0 ≡ 0
chain_of-unseen zero = refl
chain_of-unseen (suc n) = refl

pub AreSeenFirst-none :
    (nodes capacity : ℕ) (words : List ℕ) (children : ChildIndex) → words ≡ 0 ∷ [] → 0 < nodes → nodes ≤ capacity → FitsNumbers children nodes
    → IndexesChains 1 (λ n. 0) children → AreSeenFirst nodes words capacity children
AreSeenFirst-none nodes capacity words children none some room children_room index = rw none record {
  within = some;
  room = room;
  children_room = children_room;
  index =
      IsIndex-same 1 (λ n. 0) (sibling_chain_in (seen_words nodes (0 ∷ []))) _ _ _ index
      (λ n. ap (chain_of n) (index-seen nodes (0 ∷ []) n ∙ index-zeros 1 n) ∙ chain_of-unseen n);
}

-- ---- one node more on the list

seen-longer : (nodes : ℕ) (words : List ℕ) → length words < nodes → seen_words nodes (words ++ 0 ∷ []) ≡ seen_words nodes words
seen-longer nodes words low =
    let more = length-append words (0 ∷ []) in
    let count : suc (nodes - length (words ++ 0 ∷ [])) ≡ nodes - length words = omega (arith, more, low) in
    append_assoc words (0 ∷ []) (replicate (nodes - length (words ++ 0 ∷ [])) 0) ∙ ap (λ k. words ++ replicate k 0) count

-- the lists that stand for the same words of all nodes
pub record StandFor (nodes : ℕ) (seen words : List ℕ) (capacity : ℕ) (children : ChildIndex) : Type 0 where
  pub first : AreSeenFirst nodes words capacity children
  pub same : seen_words nodes words ≡ seen

pub StandFor-longer :
    (nodes : ℕ) (seen words : List ℕ) (capacity : ℕ) (children more : ChildIndex) → length words < nodes → HasOneMore children more → KeepsRoom children more
    → StandFor nodes seen words capacity children → StandFor nodes seen (words ++ 0 ∷ []) capacity more
StandFor-longer nodes seen words capacity children more low one_more keeps stand =
    let sized = length-append words (0 ∷ []) in
    let same = seen-longer nodes words low in
    record {
      first = record {
        within = omega (arith, sized, low);
        room = stand.first.room;
        children_room = keeps nodes stand.first.children_room;
        index =
            subst (λ (n : ℕ). IndexesChains n (sibling_chain_in (seen_words nodes (words ++ 0 ∷ []))) more) (sym sized)
            (subst (λ (l : List ℕ). IndexesChains (length words + 1) (sibling_chain_in l) more) (sym same)
            (one_more (length words) (sibling_chain_in (seen_words nodes words)) stand.first.index));
      };
      same = same ∙ stand.same;
    }

-- ---- a word is set

-- the chain that a node is in by a word is that of a node, or none
pub chain_of-within : (n word nodes : ℕ) → (2 ^ 63 ≤ word → parent_in word < nodes) → chain_of n word ≤ nodes
chain_of-within zero word nodes within = omega arith
chain_of-within (suc n) word nodes within = by_test (nat_lt word (2 ^ 63)) refl
  where
    by_test : (b : Bool) → nat_lt word (2 ^ 63) ≡ b → cond b 0 (parent_in word + 1) ≤ nodes
    by_test true is = omega arith
    by_test false is = (let below = within (ltb-false word (2 ^ 63) is) in omega (arith, below))

pub StandFor-set :
    (nodes : ℕ) (seen words : List ℕ) (capacity : ℕ) (children moved : ChildIndex) (n word from to : ℕ) → StandFor nodes seen words capacity children
    → n < length words → from ≡ chain_of n (slice_index seen n) → to ≡ chain_of n word → MovesNode n from to children moved → KeepsRoom children moved
    → StandFor nodes (slice_set seen n word) (slice_set words n word) capacity moved
StandFor-set nodes seen words capacity children moved n word from to stand low from_is to_is moves keeps =
    let are = stand.first in
    let sized = length-set words n word in
    let within : n < length seen = omega (arith, low, are.within, length-seen nodes words are.within, ap (λ l. length l) stand.same) in
    let same : seen_words nodes (slice_set words n word) ≡ slice_set seen n word =
    seen-set nodes words n word low ∙ ap (λ l. slice_set l n word) stand.same in
    record {
      first = record {
        within = omega (arith, sized, are.within);
        room = are.room;
        children_room = keeps nodes are.children_room;
        index =
            subst (λ (k : ℕ). IndexesChains k (sibling_chain_in (seen_words nodes (slice_set words n word))) moved) (sym sized)
            (subst (λ (l : List ℕ). IndexesChains (length words) (sibling_chain_in l) moved) (sym same)
            (moves (length words) (sibling_chain_in seen) (sibling_chain_in (slice_set seen n word))
            (subst (λ (l : List ℕ). IndexesChains (length words) (sibling_chain_in l) children) stand.same are.index) (sym from_is)
            (ap (chain_of n) (get_or-set_same seen n word 0 within) ∙ sym to_is) (λ m apart. ap (chain_of m) (get_or-set_other seen n m word 0 apart))));
      };
      same = same;
    }

-- the lists need to be no longer than for all nodes to have one and its parent
pub needed-within :
    (nodes needed n word chain : ℕ) (seen words : List ℕ) → length words ≤ nodes → seen_words nodes words ≡ seen → n < length seen
    → (2 ^ 63 ≤ word → parent_in word < length seen) → chain ≡ chain_of n word → needed ≡ max chain (n + 1) → needed ≤ nodes
needed-within nodes needed n word chain seen words within same low parent chain_is needed_is =
    let sized = length-seen nodes words within in
    omega (arith, sized, ap (λ l. length l) same, low, chain_is, chain_of-within n word (length seen) parent, needed_is)

-- once they are as long
pub StandFor-reached :
    (nodes needed : ℕ) (seen words longer : List ℕ) (capacity room : ℕ) (children more : ChildIndex) → needed ≤ nodes → seen_words nodes words ≡ seen
    → AreSeenFirst nodes words capacity children → Reaches needed words capacity children longer room more → StandFor nodes seen longer room more
StandFor-reached nodes needed seen words longer capacity room children more within same first reaches = record {
  first = reaches.first nodes within first;
  same = reaches.same nodes within first ∙ same;
}
