use Rattle.grown_runs.proofs.Words.{◌+◌, arith, refl, sym, ap, ◌∙◌, subst, None, is_some, slice_index_or, get_or_past, AreLinkedBelow, MayLink, sizes_in}
use Rattle.grown_runs.proofs.Words.{words_in}
use Rattle.grown_runs.proofs.Ways.LinkedNodes.{LinksSoFar, LinksSoFar-start, MayLink-present, LinksSoFar-absent, LinksSoFar-more, FollowWays-all}
use Rattle.grown_runs.proofs.kd_links.link_all.Goals as goal
use Rattle.grown_runs.proofs.kd_links.link_all.Goals.{then-is_some, else-is_some}

pub loop-node-init : goal.loop-node-init
loop-node-init c = record {
  places = refl;
  links =
      LinksSoFar-start (sizes_in c.args.words.now.places) (λ n. is_some (slice_index_or c.args.knots.now n None))
      (words_in c.args.words.now) c.requires;
}

pub link-requires : goal.link-requires
link-requires c =
    subst (λ places. MayLink (sizes_in places) (words_in c.loop-node.words) c.loop-node.node) (sym c.loop-node.invariant.places)
    (MayLink-present (sizes_in c.args.words.now.places) (λ n. is_some (slice_index_or c.args.knots.now n None))
    (words_in c.args.words.now) c.requires
    c.loop-node.node (words_in c.loop-node.words) c.loop-node.invariant.links c.loop-node.auto.node (sym c.is_some.ensures ∙ c.if-is_some.true))

pub loop-node-preserved : goal.loop-node-preserved
loop-node-preserved c =
    let kept = c.loop-node.invariant in
    elim c.if-is_some.branch [
      | then-is_some w ↦ record {
        places = ap (λ words. words.places) w.words-is ∙ w.link.ensures.places ∙ kept.places;
        links =
            subst
            (λ words.
            LinksSoFar (sizes_in c.args.words.now.places) (λ n. is_some (slice_index_or c.args.knots.now n None)) (words_in c.args.words.now)
            (words_in words)
            (c.loop-node.node + 1))
            (sym w.words-is)
            (LinksSoFar-more (sizes_in c.args.words.now.places) (λ n. is_some (slice_index_or c.args.knots.now n None))
            (words_in c.args.words.now) c.requires
            c.loop-node.node (words_in c.loop-node.words) kept.links (words_in w.link.new.words)
            (subst (λ places. AreLinkedBelow (sizes_in places) (words_in w.link.new.words) (c.loop-node.node + 1)) kept.places w.link.ensures.linked)
            (w.link.ensures.rise kept.links.rise) w.link.ensures.others);
      }
      | else-is_some w ↦ record {
        places = ap (λ words. words.places) w.words-is ∙ kept.places;
        links =
            subst
            (λ words.
            LinksSoFar (sizes_in c.args.words.now.places) (λ n. is_some (slice_index_or c.args.knots.now n None)) (words_in c.args.words.now)
            (words_in words)
            (c.loop-node.node + 1))
            (sym w.words-is)
            (LinksSoFar-absent (sizes_in c.args.words.now.places) (λ n. is_some (slice_index_or c.args.knots.now n None))
            (words_in c.args.words.now) c.requires
            c.loop-node.node (words_in c.loop-node.words) kept.links (sym c.is_some.ensures ∙ w.if-is_some.false));
      }
    ]

pub returns-clause-ways : goal.returns-clause-ways
returns-clause-ways c =
    FollowWays-all (sizes_in c.args.words.now.places) (λ n. is_some (slice_index_or c.args.knots.now n None))
    (words_in c.args.words.now) c.requires
    c.loop-node.node (words_in c.loop-node.words) c.loop-node.invariant.links
    (λ n past. ap is_some (get_or_past c.args.knots.now n None (omega (arith, past, c.loop-node-test.false))))
