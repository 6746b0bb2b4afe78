use Rattle.scene_text.proofs.Words.{◌≡◌, ◌≤ℤ◌, map, ◌∙◌, sym, false, true, rules, arith, ints, words_of, value_of, LEAST_CORNER_COORDINATE}
use Rattle.scene_text.proofs.Words.{MOST_CORNER_COORDINATE, least_obstacle_coordinate, most_obstacle_coordinate, least_obstacle-counted, most_obstacle-counted}
use Rattle.scene_text.proofs.PolygonLemmas.{bounded-given, has_corners-obstacle, checks-pass, checks-corners}
use Rattle.scene_text.proofs.field_words.read_obstacle.Goals as goal

pub is_convex-requires : goal.is_convex-requires
is_convex-requires c =
    let read = c.in_ok-corners.ensures in
    let version = c.args.version in
    let low : LEAST_CORNER_COORDINATE ≤ℤ least_obstacle_coordinate version = omega (arith, ints, least_obstacle-counted version) in
    let high : most_obstacle_coordinate version ≤ℤ MOST_CORNER_COORDINATE = omega (arith, ints, most_obstacle-counted version) in
    rw c.as_slice.ensures.value
    (bounded-given (least_obstacle_coordinate version) (most_obstacle_coordinate version) (map value_of (words_of c.args.words.now))
    c.in_ok-corners.corners.items low high read.value read.within)

pub returns-then-not-is_convex-clause-refused : goal.returns-then-not-is_convex-clause-refused
returns-then-not-is_convex-clause-refused c =
    let read = c.in_ok-corners.ensures in
    let zs = map value_of (words_of c.args.words.now) in
    let fails : c.is_convex.result ≡ false = search rules in
    let tested = rw c.as_slice.ensures.value at c.is_convex.ensures in
    checks-corners _ _ read.within
    (has_corners-obstacle zs c.in_ok-corners.corners.items read.value ∙ sym tested ∙ fails)

pub returns-clause-sound : goal.returns-clause-sound
returns-clause-sound c =
    let read = c.in_ok-corners.ensures in
    let zs = map value_of (words_of c.args.words.now) in
    let holds : c.is_convex.result ≡ true = search rules in
    let tested = rw c.as_slice.ensures.value at c.is_convex.ensures in
    checks-pass _ _ read.within
    (has_corners-obstacle zs c.in_ok-corners.corners.items read.value ∙ sym tested ∙ holds)
