-- What steps of a pass with the whole share leave of what it has seen: loads show nothing new, and lowered children keep their parent.
use Rattle.tree_rewire.proofs.Words.{◌≡◌, ℕ, ◌≤◌, ◌⊎◌, Result, Ok, Err, length, arith, inl, inr, sym, ap, ◌∙◌, IfOk, IsOk, cases_eq, SeesAsBefore}
use Rattle.tree_rewire.proofs.Words.{IsLoweredChild, LooksOn, LowersChildren, SeesSamePoints, HasWholeShare, sees, same_name, Word, WritesWord, Best, ChildOf}
use Rattle.tree_rewire.proofs.Words.{Count, Counter, FirstOf, PointOf, RecordOf, TreeOf, cost_in, parent_in, SharedRun, View, NamesNothing, NamesTree, SeesAnew}
use Rattle.tree_rewire.proofs.Words.{SeesPair, cost_seen, parent_seen, KeepsParents}

-- the share stays whole
pub HasWholeShare-later : {which : Word → Type 0} {before after : View} → SeesAnew which before after → HasWholeShare before → HasWholeShare after
HasWholeShare-later steps whole = ap length steps.kept.crew ∙ whole ∙ sym (ap (λ (r : SharedRun). r.workers) steps.goes_on.later.run)

-- what follows of a success follows, as there is one
pub on_ok : {T E : Type 0} (result : Result T E) (P : Type 0) → IsOk result → IfOk result (λ x. P) → P
on_ok (Ok x) P ok h = h
on_ok (Err e) P ok h = cc

-- ---- nothing new

pub SeesAsBefore-trans : (before mid after : View) → SeesAsBefore before mid → SeesAsBefore mid after → SeesAsBefore before after
SeesAsBefore-trans before mid after one other name = other name ∙ one name

-- a word is loaded, and is as it was seen
pub SeesAsBefore-loaded : (before after : View) (name : Word) (value : ℕ) → WritesWord name value (sees before) (sees after)
    → sees after name ≡ sees before name → SeesAsBefore before after
SeesAsBefore-loaded before after name value writes same other =
    elim (same_name other name) [
      | inl e ↦ ap (sees after) e ∙ same ∙ sym (ap (sees before) e)
      | inr apart ↦ writes.others other apart
    ]

pub SeesAsBefore-none : {before after : View} → SeesAnew NamesNothing before after → SeesAsBefore before after
SeesAsBefore-none steps name = steps.others name (λ no. no)

-- ---- parents are kept

pub KeepsParents-same : (before after : View) → SeesAsBefore before after → KeepsParents before after
KeepsParents-same before after same = record {
  parents = λ n. ap parent_in (same (TreeOf n));
  costs = λ n. omega (arith, ap cost_in (same (TreeOf n)));
  written = λ n h. omega (arith, h, same (TreeOf n));
  others = λ name off. same name;
}

pub KeepsParents-trans : {before mid after : View} → KeepsParents before mid → KeepsParents mid after → KeepsParents before after
KeepsParents-trans one other = record {
  parents = λ n. other.parents n ∙ one.parents n;
  costs = λ n. omega (arith, other.costs n, one.costs n);
  written = λ n h. one.written n (other.written n h);
  others = λ name off. other.others name off ∙ one.others name off;
}

-- the children of a node are lowered below it
pub KeepsParents-children : (before after : View) (m : ℕ) → LooksOn before after → SeesSamePoints before after
    → LowersChildren (λ n. ⊥) before after m → KeepsParents before after
KeepsParents-children before after m looks points lowered = record { parents = parents; costs = costs; written = written; others = others }
  where
    lowered_at : (n : ℕ) → (sees after (TreeOf n) ≡ sees before (TreeOf n)) ⊎ IsLoweredChild before after m n
    lowered_at n = elim (cases_eq (sees after (TreeOf n)) (sees before (TreeOf n))) [
      | inl same ↦ inl same
      | inr changed ↦ inr (lowered n (λ no. no) changed)
    ]

    parents : (n : ℕ) → parent_seen after n ≡ parent_seen before n
    parents n = elim (lowered_at n) [
      | inl same ↦ ap parent_in same
      | inr child ↦ child.is.parent ∙ sym child.was.parent
    ]

    costs : (n : ℕ) → cost_seen after n ≤ cost_seen before n
    costs n = elim (lowered_at n) [
      | inl same ↦ omega (arith, ap cost_in same)
      | inr child ↦ omega (arith, child.less)
    ]

    written : (n : ℕ) → SeesPair after n → SeesPair before n
    written n pair = elim (lowered_at n) [
      | inl same ↦ omega (arith, pair, same)
      | inr child ↦ child.was.written
    ]

    others : (name : Word) → ¬ NamesTree name → sees after name ≡ sees before name
    others (TreeOf n) off = absurd (off tt)
    others (PointOf n) off = points n
    others Count off = looks.others Count (λ n. (λ e. cc, λ e. cc))
    others Best off = looks.others Best (λ n. (λ e. cc, λ e. cc))
    others (Counter g) off = looks.others (Counter g) (λ n. (λ e. cc, λ e. cc))
    others (ChildOf n side) off = looks.others (ChildOf n side) (λ m. (λ e. cc, λ e. cc))
    others (FirstOf n) off = looks.others (FirstOf n) (λ m. (λ e. cc, λ e. cc))
    others (RecordOf k) off = looks.others (RecordOf k) (λ n. (λ e. cc, λ e. cc))
