use Rattle.grown_runs.proofs.Words.{Some, ap, ◌∙◌, subst, ◌≢◌, EndsBelow, goes_right, children_of_words, points_below, tree_below, sizes_in, words_in}
use Rattle.grown_runs.proofs.Words.{WritesWord, ChildOf, point_in}
use Rattle.grown_runs.proofs.Runs.GrownPoints.{present-within}
use Rattle.grown_runs.proofs.Ways.LinkedWords.{AreLinkedBelow-more, ChangesChildren-written, IsFree-own, LinksRise-more}
use Rattle.grown_runs.proofs.Ways.NodesBelow.{here_seen, here_within}
use Rattle.grown_runs.proofs.Ways.WalkStops.{EndsBelow-stop, side_is}
use Rattle.grown_runs.proofs.kd_links.link.Goals as goal

pub point-requires : goal.point-requires
point-requires c = present-within (sizes_in c.args.words.now.places) (words_in c.args.words.now) c.args.node c.requires.present

-- the walk stops at one of the linked nodes
pub set_child-requires : goal.set_child-requires
set_child-requires c =
    let words = c.args.words.now in
    here_within (sizes_in words.places) (words_in words) c.args.node c.walk-stop.result.node
    (here_seen (sizes_in words.places) (words_in words) c.args.node c.requires.linked c.walk-stop.result.node c.walk-stop.ensures.stops.seen)

pub returns : goal.returns
returns c =
    let words = c.args.words.now in
    let stop = c.walk-stop.result in
    let p = c.point_in-point.result in
    let own = c.point_in-point.ensures ∙ ap point_in c.point.ensures in
    let tree = tree_below (sizes_in words.places) (words_in words) c.args.node in
    let children = children_of_words (words_in words) in
    let apart : stop.here ≢ p = λ same.
    IsFree-own (sizes_in words.places) (words_in words) c.args.node c.requires p own stop.node
    (c.walk-stop.ensures.stops.stands ∙ ap Some same) in
    let ends : EndsBelow children (points_below (sizes_in words.places) (words_in words) c.args.node) p stop.depth stop.node stop.here =
    EndsBelow-stop tree p stop c.walk-stop.ensures.stops apart (c.walk-stop.ensures.none apart) in
    let writes : WritesWord (ChildOf stop.node (goes_right stop.depth stop.here p)) c.args.node (words_in words) (words_in c.set_child.new.self) =
    subst (λ side. WritesWord (ChildOf stop.node side) c.args.node (words_in words) (words_in c.set_child.new.self))
    (c.leads_right.ensures ∙ side_is tree p stop c.walk-stop.ensures.stops) c.set_child.ensures.word in
    record {
      places = c.set_child.ensures.places;
      linked = AreLinkedBelow-more (sizes_in words.places) (words_in words) c.args.node c.requires p own _ stop.depth stop.node stop.here ends writes;
      rise = LinksRise-more (sizes_in words.places) (words_in words) c.args.node c.requires p own _ stop.depth stop.node stop.here ends writes;
      others = ChangesChildren-written (sizes_in words.places) (words_in words) c.args.node c.requires p own _ stop.depth stop.node stop.here ends writes;
    }
