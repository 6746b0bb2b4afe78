-- Words that hold the same nodes and records, since those of points, first words and records stay.
use Rattle.grown_runs.proofs.Words.{◌≡◌, ℕ, zero, suc, ◌+◌, None, map, refl, ap, subst, if◌then◌else◌, range_with_len, point_at, IsPresent, Words, ChangesOnly}
use Rattle.grown_runs.proofs.Words.{IsChildWord, PointOf, FirstOf, RecordOf, Sizes, point_of_word, record_of_word, record_at, has_placed, has_node, node_point}
use Rattle.grown_runs.proofs.Words.{points_of_words}

-- each point, each first word and each record is as it was
pub record KeepsNodes (before after : Words) : Type 0 where
  pub points : (n : ℕ) → after (PointOf n) ≡ before (PointOf n)
  pub firsts : (n : ℕ) → after (FirstOf n) ≡ before (FirstOf n)
  pub records : (k : ℕ) → after (RecordOf k) ≡ before (RecordOf k)

-- so it is if only child words change
pub KeepsNodes-children : (before after : Words) → ChangesOnly IsChildWord before after → KeepsNodes before after
KeepsNodes-children before after change = record {
  points = λ n. change (PointOf n) (λ h. h);
  firsts = λ n. change (FirstOf n) (λ h. h);
  records = λ k. change (RecordOf k) (λ h. h);
}

module _ (before after : Words) (keeps : KeepsNodes before after) where
  -- the records stay
  pub record_at-kept : (k : ℕ) → record_at after k ≡ record_at before k
  record_at-kept k = λ t. record_of_word (keeps.records k t) (keeps.firsts (suc k) t)

  -- the same nodes are present
  pub has_node-kept : (n : ℕ) → has_node after n ≡ has_node before n
  has_node-kept zero = refl
  has_node-kept (suc k) = ap has_placed (record_at-kept k)

  pub node_point-kept : (n : ℕ) → node_point after n ≡ node_point before n
  node_point-kept n = λ t. if has_node-kept n t then point_of_word (keeps.points n t) else None

  -- where they stood
  pub points-kept : (sizes : Sizes) → points_of_words sizes after ≡ points_of_words sizes before
  points-kept sizes = λ t. map (λ n. node_point-kept n t) (range_with_len 0 (sizes.marks + 1))

  pub point_at-kept : (sizes : Sizes) (n : ℕ) → point_at (points_of_words sizes after) n ≡ point_at (points_of_words sizes before) n
  point_at-kept sizes n = ap (λ points. point_at points n) (points-kept sizes)

  pub present-kept : (sizes : Sizes) (n : ℕ) → IsPresent (points_of_words sizes after) n → IsPresent (points_of_words sizes before) n
  present-kept sizes n h = subst (λ points. IsPresent points n) (points-kept sizes) h
