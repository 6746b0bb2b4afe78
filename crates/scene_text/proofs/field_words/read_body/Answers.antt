use Rattle.scene_text.proofs.Words.{◌≡◌, map, ◌∙◌, sym, false, true, rules, arith, ints, words_of, value_of, LEAST_BODY_COORDINATE, MOST_BODY_COORDINATE}
use Rattle.scene_text.proofs.PolygonLemmas.{bounded-given, has_corners-body, checks-pass, checks-corners}
use Rattle.scene_text.proofs.field_words.read_body.Goals as goal

pub is_point_or_convex-requires : goal.is_point_or_convex-requires
is_point_or_convex-requires c =
    let read = c.in_ok-corners.ensures in
    rw c.as_slice.ensures.value
    (bounded-given LEAST_BODY_COORDINATE MOST_BODY_COORDINATE (map value_of (words_of c.args.words.now)) c.in_ok-corners.corners.items
    (omega (arith, ints)) (omega (arith, ints)) read.value read.within)

pub returns-then-not-is_point_or_convex-clause-refused : goal.returns-then-not-is_point_or_convex-clause-refused
returns-then-not-is_point_or_convex-clause-refused c =
    let read = c.in_ok-corners.ensures in
    let zs = map value_of (words_of c.args.words.now) in
    let fails : c.is_point_or_convex.result ≡ false = search rules in
    let tested = rw c.as_slice.ensures.value at c.is_point_or_convex.ensures in
    checks-corners _ _ read.within
    (has_corners-body zs c.in_ok-corners.corners.items read.value ∙ sym tested ∙ fails)

pub returns-clause-sound : goal.returns-clause-sound
returns-clause-sound c =
    let read = c.in_ok-corners.ensures in
    let zs = map value_of (words_of c.args.words.now) in
    let holds : c.is_point_or_convex.result ≡ true = search rules in
    let tested = rw c.as_slice.ensures.value at c.is_point_or_convex.ensures in
    checks-pass _ _ read.within
    (has_corners-body zs c.in_ok-corners.corners.items read.value ∙ sym tested ∙ holds)
