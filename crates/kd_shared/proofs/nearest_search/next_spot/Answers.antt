use Rattle.kd_shared.proofs.Words.{ap, subst, Contains, PassState, OnlyLooks-trans}
use Rattle.kd_shared.proofs.Looking.{SeesNode-later}
use Rattle.kd_shared.proofs.nearest_search.next_spot.Goals as goal

pub next_far_spot-requires-clause-seen_stack : goal.next_far_spot-requires-clause-seen_stack
next_far_spot-requires-clause-seen_stack c spot k =
    SeesNode-later c.args.pass.now.view c.child_spot.new.pass.view spot.node c.child_spot.ensures.looks.looks.goes_on.later
    (c.requires.seen_stack spot (subst (λ xs. Contains xs spot) (ap (λ (s : PassState). s.lists.search.spots) c.child_spot.ensures.view_alone) k))

pub returns-clause-looks : goal.returns-clause-looks
returns-clause-looks c =
    OnlyLooks-trans c.args.pass.now.view c.child_spot.new.pass.view c.next_far_spot.new.pass.view c.child_spot.ensures.looks
    c.next_far_spot.ensures.looks
