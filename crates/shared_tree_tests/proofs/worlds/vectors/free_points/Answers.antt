use Rattle.shared_tree_tests.proofs.Words.{◌≡◌, ◌≤◌, true, List, None, arith, ap, ◌∙◌, if◌then◌else◌, StandsAt, at, child_of_word, Words}
use Rattle.shared_tree_tests.proofs.Words.{ChildOf, Count, PointOf, Sizes, point_of_word, point_word, linked_points, run_sizes, IsWorld, linked-present}
use Rattle.shared_tree_tests.proofs.Words.{point_at-linked, View, small_run}
use Rattle.grown_runs.specs.Table.WordPlaces.{word_at}
use Rattle.shared_tree_tests.proofs.worlds.vectors.free_points.Goals as goal

-- node 1 stands at the mark
stands : (words : Words) (views : List View) → IsWorld small_run words views → words (ChildOf 0 true) ≡ 1 → words (PointOf 1) ≡ point_word (at 8 9)
    → StandsAt (linked_points (run_sizes small_run) words) 1 (at 8 9)
stands words views world child point =
    let sizes : Sizes = run_sizes small_run in
    let linked = linked-present sizes words 1 (world.links.ways.present 0 1 true (ap child_of_word child)) in
    point_at-linked sizes words 1 (omega arith) ∙ ap (λ b. if b then point_of_word (words (PointOf 1)) else None) linked ∙ ap point_of_word point

pub returns : goal.returns
unfolding word_at
returns c = record {
  not_free_since =
      λ h. h.free 1 (stands h.words h.views h.world (omega (arith, h.since (ChildOf 0 true))) (omega (arith, h.since (PointOf 1))));
  no_world_before = λ h. (let e : h.words Count ≤ 0 = h.until Count in omega (arith, e, h.world.links.count));
}
