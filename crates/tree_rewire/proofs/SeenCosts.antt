-- What a lawful view has seen of nodes, and what stays of it.
use Rattle.tree_rewire.proofs.Words.{◌≡◌, ℕ, ◌≤◌, is_some, length, arith, sym, ap, ◌∙◌, inl, inr, Point, IsPresent, point_of, StandsAt-present, StandsAt-unique}
use Rattle.tree_rewire.proofs.Words.{Word, WritesWord, PointOf, TreeOf, cost_in, point_of_word, if_written-set, GoesOn, IsLawfulView, SeesNode, SeesPoint}
use Rattle.tree_rewire.proofs.Words.{run_sizes, sees, tree_seen, same_name, SeesPoint-later, point_at-seen, seen-within, View, IsLoadedSince, SeesPair}
use Rattle.tree_rewire.proofs.Words.{cost_seen, parent_seen}

-- ---- nodes

-- a node that is seen with its parent is seen
pub SeesNode-pair : (view : View) (n : ℕ) → IsLawfulView view → SeesPair view n → SeesNode view n
SeesNode-pair view n lawful written =
    lawful.tree.rooted.pairs n (ap is_some (if_written-set (sees view (TreeOf n)) (parent_seen view n, cost_seen view n) written))

pub SeesNode-present : (view : View) (n : ℕ) → IsLawfulView view → IsPresent (tree_seen view).points n → SeesNode view n
SeesNode-present view n lawful present = lawful.tree.rooted.points n present

-- so its number is one of the run's
pub pair_low : (view : View) (n : ℕ) → IsLawfulView view → SeesPair view n → n ≤ length view.run.marks
pair_low view n lawful written = lawful.within n (SeesNode-pair view n lawful written)

module _ (before after : View) (goes_on : GoesOn before after) where
  -- ---- costs

  -- a node that was seen with its cost is so still
  pub SeesPair-later : (n : ℕ) → SeesPair before n → SeesPair after n
  SeesPair-later n written =
      elim (goes_on.later.seen (TreeOf n)) [
        | inl none ↦ absurd (omega (arith, none, written))
        | inr falls ↦ elim falls [
          | inl same ↦ omega (arith, same, written)
          | inr less ↦ less.0
        ]
      ]

  -- at no more
  pub cost_seen-later : (n : ℕ) → SeesPair before n → cost_seen after n ≤ cost_seen before n
  cost_seen-later n written =
      elim (goes_on.later.seen (TreeOf n)) [
        | inl none ↦ absurd (omega (arith, none, written))
        | inr falls ↦ elim falls [
          | inl same ↦ omega (arith, ap cost_in same)
          | inr less ↦ omega (arith, less.1)
        ]
      ]

  -- what was looked at since a step is so still
  pub IsLoadedSince-later : (steps n : ℕ) → steps ≤ before.steps → IsLoadedSince steps before n → IsLoadedSince steps after n
  IsLoadedSince-later steps n order since =
      elim (goes_on.later.looked (TreeOf n)) [
        | inl same ↦ omega (arith, same, since)
        | inr later ↦ omega (arith, later, order)
      ]

  -- ---- points

  pub stands_later : (n : ℕ) (p : Point) → SeesPoint before n p → SeesPoint after n p
  stands_later = SeesPoint-later before after goes_on.later.run goes_on.later.seen

  -- a point that is seen stays
  pub point_later : (n : ℕ) (p : Point) → IsPresent (tree_seen before).points n → SeesPoint after n p → p ≡ point_of (tree_seen before).points n
  point_later n p present found =
      StandsAt-unique (tree_seen after).points n p (point_of (tree_seen before).points n) found
      (stands_later n (point_of (tree_seen before).points n) (StandsAt-present (tree_seen before).points n present))

  -- the word of a point that was seen is seen as before
  point_word_kept : (n : ℕ) (p : Point) → SeesPoint before n p → sees after (PointOf n) ≡ sees before (PointOf n)
  point_word_kept n p stands =
      elim (goes_on.later.seen (PointOf n)) [
        | inl none ↦
            let read = sym (point_at-seen (run_sizes before.run) (sees before) n (seen-within (run_sizes before.run) (sees before) n (ap is_some stands)))
            ∙ stands in
            absurd (let no = sym (ap point_of_word none) ∙ read in cc)
        | inr same ↦ sym same
      ]

  -- so a load of it shows no word anew
  pub load_shows_none : (n value : ℕ) → IsPresent (tree_seen before).points n → WritesWord (PointOf n) value (sees before) (sees after)
      → (name : Word) → sees after name ≡ sees before name
  load_shows_none n value present writes name =
      elim (same_name name (PointOf n)) [
        | inl same ↦
            ap (sees after) same
            ∙ point_word_kept n (point_of (tree_seen before).points n) (StandsAt-present (tree_seen before).points n present)
            ∙ sym (ap (sees before) same)
        | inr other ↦ writes.others name other
      ]
