use Rattle.point_bands.proofs.Words.{◌+◌, ◌<◌, arith, ap, ◌∙◌, pow_pos, lowest_row, nowhere, numbered_at}
use Rattle.point_bands.proofs.BandSkips.{HasNoneBetween-after, none_above, none_below, none_left, none_right}
use Rattle.point_bands.proofs.band_order.skipped.Goals as goal

pub returns-then-here-top-clause-none : goal.returns-then-here-top-clause-none
returns-then-here-top-clause-none c j later inside =
    let disc = c.args.disc in
    none_above disc.center disc.square disc.reach c.args.height_log c.args.points.now c.args.at disc.reaches c.requires.bounded c.requires.sorted
    disc.center_bounded j later inside (omega (arith, c.if-here-top.true, c.top.ensures, c.lowest_row-here.ensures))

pub returns-then-here-lowest-clause-none : goal.returns-then-here-lowest-clause-none
returns-then-here-lowest-clause-none c =
    let disc = c.args.disc in
    let bottom = c.lowest_row-lowest.ensures ∙ ap (lowest_row c.args.height_log) c.bottom.ensures in
    let none = none_below disc.center disc.square disc.reach c.args.height_log c.args.points.now c.args.at disc.reaches c.requires.bounded
    c.requires.sorted disc.center_bounded in
    let column = (c.requires.bounded c.args.at nowhere c.requires.inside).right in
    HasNoneBetween-after disc.center disc.square c.args.points.now c.args.at c.first_from.result
    (none c.args.at c.requires.inside (omega (arith, c.if-here-lowest.true, bottom, c.lowest_row-here.ensures, column)))
    (λ j later below.
    none j (omega (arith, below, c.first_from.ensures.within))
    (omega (arith, c.first_from.ensures.before j later below, bottom, c.left.ensures, c.place.ensures)))

pub returns-then-point-left-clause-none : goal.returns-then-point-left-clause-none
returns-then-point-left-clause-none c =
    let disc = c.args.disc in
    let next = c.first_from-then-point-left in
    let none = none_left disc.center disc.square disc.reach c.args.height_log c.args.points.now c.args.at disc.reaches c.requires.bounded
    c.requires.sorted disc.center_bounded in
    HasNoneBetween-after disc.center disc.square c.args.points.now c.args.at next.result
    (none c.args.at (omega arith) c.requires.inside (omega (arith, c.if-point-left.true, c.left-2.ensures)))
    (λ j later below.
    none j (omega (arith, later)) (omega (arith, below, next.ensures.within))
    (omega (arith, next.ensures.before j later below, c.lowest_row-here.ensures, c.left-then-point-left.ensures, c.place-then-point-left.ensures)))

pub returns-then-point-right-clause-none : goal.returns-then-point-right-clause-none
returns-then-point-right-clause-none c =
    let disc = c.args.disc in
    let next = c.first_from-then-point-right in
    let column = (c.requires.bounded c.args.at nowhere c.requires.inside).right in
    let right : disc.center.x + disc.reach < (numbered_at c.args.points.now c.args.at).point.x =
    omega (arith, c.right.ensures, c.if-point-right.true, column) in
    let none = none_right disc.center disc.square disc.reach c.args.height_log c.args.points.now c.args.at disc.reaches c.requires.bounded
    c.requires.sorted disc.center_bounded in
    HasNoneBetween-after disc.center disc.square c.args.points.now c.args.at next.result
    (none c.args.at (omega arith) c.requires.inside right (omega (arith, column, pow_pos c.args.height_log)))
    (λ j later below.
    none j (omega (arith, later)) (omega (arith, below, next.ensures.within)) right
    (omega (arith, next.ensures.before j later below, c.lowest_row-here.ensures, c.left-then-point-right.ensures, c.place-then-point-right.ensures)))
