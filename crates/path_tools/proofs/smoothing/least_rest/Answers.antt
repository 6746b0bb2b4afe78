use Rattle.std.proofs.Common.{◌≡◌, suc, ◌+◌, ◌-◌, ◌<◌, arith, length, sym, ◌∙◌, subst}
use Rattle.std.proofs.lemmas.Bool.{false≢true}
use Rattle.path_tools.specs.SmoothPaths.{IsRestBelow, rest_at}
use Rattle.path_tools.proofs.ClearRests.{IsBounded-on_path}
use Rattle.path_tools.proofs.RestEntries.{HasRoom-later, low-entry, IsRestBelow-straight, IsRestBelow-blocked, IsRestBelow-keeps}
use Rattle.path_tools.proofs.RestEntries.{IsRestBelow-takes, first-entry, end-entry}
use Rattle.path_tools.proofs.smoothing.least_rest.Goals.{then-is_beaten_by+then-clear-2, else-is_beaten_by}
use Rattle.path_tools.proofs.smoothing.least_rest.Goals.{else-is_beaten_by-via-then-is_beaten_by+else-clear-2, else-is_beaten_by-via-else-is_beaten_by}
use Rattle.path_tools.proofs.smoothing.least_rest.Goals as goal

pub through-requires-clause-to : goal.through-requires-clause-to
through-requires-clause-to g c =
    IsBounded-on_path (g.C.Clearing.space c.args.hall.now) c.args.path.now c.room_is_bounded.ensures c.requires.clear (omega (arith, c.requires.inner))
    (length c.args.path.now - 1) (omega (arith, c.requires.inner))

pub through-requires-clause-from : goal.through-requires-clause-from
through-requires-clause-from g c =
    IsBounded-on_path (g.C.Clearing.space c.args.hall.now) c.args.path.now c.room_is_bounded.ensures c.requires.clear (omega (arith, c.requires.inner))
    c.args.position (omega (arith, c.requires.inner))

pub returns-then-clear : goal.returns-then-clear
returns-then-clear g c =
    let space = g.C.Clearing.space c.args.hall.now in
    let path = c.args.path.now in
    IsRestBelow-straight space path (length path - 1) c.args.position (rest_at c.args.rests.now (length path - 1)) c.through.result
    (omega (arith, c.requires.inner)) (omega (arith, c.requires.inner)) (c.clear.ensures.0 c.if-clear.true)
    (c.requires.rests.1 (length path - 1) (omega (arith, c.requires.inner)) (omega (arith, c.requires.inner)))
    (record { cost = c.through.ensures.cost; bound = c.through.ensures.bound; points = c.through.ensures.points; next = c.through.ensures.next })

pub through-best-requires-clause-to : goal.through-best-requires-clause-to
through-best-requires-clause-to g c =
    IsBounded-on_path (g.C.Clearing.space c.args.hall.now) c.args.path.now c.room_is_bounded.ensures c.requires.clear (omega (arith, c.requires.inner))
    (c.args.position + 1) (omega (arith, c.requires.inner))

pub through-best-requires-clause-from : goal.through-best-requires-clause-from
through-best-requires-clause-from g c =
    IsBounded-on_path (g.C.Clearing.space c.args.hall.now) c.args.path.now c.room_is_bounded.ensures c.requires.clear (omega (arith, c.requires.inner))
    c.args.position (omega (arith, c.requires.inner))

pub loop-next-init : goal.loop-next-init
loop-next-init g c =
    let space = g.C.Clearing.space c.args.hall.now in
    let path = c.args.path.now in
    let next = c.args.position + 1 in
    first-entry space path c.args.position next (c.args.position + 2) (rest_at c.args.rests.now next) c.through-best.result (omega arith) (omega arith)
    c.requires.clear (omega (arith, c.requires.inner))
    (c.requires.rests.1 next (omega arith) (omega (arith, c.requires.inner)))
    (record {
      cost = c.through-best.ensures.cost;
      bound = c.through-best.ensures.bound;
      points = c.through-best.ensures.points;
      next = c.through-best.ensures.next;
    })

pub is_beaten_by-requires-clause-to : goal.is_beaten_by-requires-clause-to
is_beaten_by-requires-clause-to g c =
    IsBounded-on_path (g.C.Clearing.space c.args.hall.now) c.args.path.now c.room_is_bounded.ensures c.requires.clear (omega (arith, c.requires.inner))
    c.loop-next.next (omega (arith, c.loop-next-test.true))

pub is_beaten_by-requires-clause-from : goal.is_beaten_by-requires-clause-from
is_beaten_by-requires-clause-from g c =
    IsBounded-on_path (g.C.Clearing.space c.args.hall.now) c.args.path.now c.room_is_bounded.ensures c.requires.clear (omega (arith, c.requires.inner))
    c.args.position (omega (arith, c.requires.inner))

pub is_beaten_by-requires-clause-own : goal.is_beaten_by-requires-clause-own
is_beaten_by-requires-clause-own g c =
    low-entry (g.C.Clearing.space c.args.hall.now) c.args.path.now c.loop-next.next c.args.position c.loop-next.best c.loop-next.invariant c.requires.few

pub is_beaten_by-requires-clause-room : goal.is_beaten_by-requires-clause-room
is_beaten_by-requires-clause-room g c =
    HasRoom-later (g.C.Clearing.space c.args.hall.now) c.args.path.now (length c.args.path.now) c.loop-next.next (rest_at c.args.rests.now c.loop-next.next)
    (c.requires.rests.1 c.loop-next.next (omega (arith, c.loop-next.auto.next)) (omega (arith, c.loop-next-test.true))) c.requires.few
    (omega (arith, c.loop-next.auto.next))

pub through-best-requires-then-clear-2-clause-to : goal.through-best-requires-then-clear-2-clause-to
through-best-requires-then-clear-2-clause-to g c =
    IsBounded-on_path (g.C.Clearing.space c.args.hall.now) c.args.path.now c.room_is_bounded.ensures c.requires.clear (omega (arith, c.requires.inner))
    c.loop-next.next (omega (arith, c.loop-next-test.true))

pub through-best-requires-then-clear-2-clause-from : goal.through-best-requires-then-clear-2-clause-from
through-best-requires-then-clear-2-clause-from g c =
    IsBounded-on_path (g.C.Clearing.space c.args.hall.now) c.args.path.now c.room_is_bounded.ensures c.requires.clear (omega (arith, c.requires.inner))
    c.args.position (omega (arith, c.requires.inner))

pub loop-next-preserved : goal.loop-next-preserved
loop-next-preserved g c =
    let space = g.C.Clearing.space c.args.hall.now in
    let path = c.args.path.now in
    let i = c.args.position in
    let next = c.loop-next.next in
    let best = c.loop-next.best in
    let rest = rest_at c.args.rests.now next in
    let so_far = c.loop-next.invariant in
    let before : i < next = omega (arith, c.loop-next.auto.next) in
    let later = c.requires.rests.1 next (omega (arith, c.loop-next.auto.next)) (omega (arith, c.loop-next-test.true)) in
    let one : suc next ≡ next + 1 = omega arith in
    subst (λ limit. IsRestBelow space path limit i c.if-is_beaten_by.best) one (
    elim c.if-is_beaten_by.branch [
      | then-is_beaten_by+then-clear-2 w ↦ (
          subst (IsRestBelow space path (suc next) i) (sym w.best-is)
          (IsRestBelow-takes space path next i best rest so_far w.through-best-then-clear-2.result before later
          (c.is_beaten_by.ensures.0 w.if-is_beaten_by.true) (w.clear-then-is_beaten_by.ensures.0 w.if-clear-2.true)
          (record {
            cost = w.through-best-then-clear-2.ensures.cost;
            bound = w.through-best-then-clear-2.ensures.bound;
            points = w.through-best-then-clear-2.ensures.points;
            next = w.through-best-then-clear-2.ensures.next;
          })))
      | else-is_beaten_by w ↦ (
          subst (IsRestBelow space path (suc next) i) (sym w.best-is)
          (elim w.else-is_beaten_by.branch [
            | else-is_beaten_by-via-then-is_beaten_by+else-clear-2 v ↦ (
                IsRestBelow-blocked space path next i best so_far (λ clear.
                absurd (false≢true (sym v.if-clear-2.false ∙ v.clear-then-is_beaten_by.ensures.1 clear))))
            | else-is_beaten_by-via-else-is_beaten_by v ↦ (
                IsRestBelow-keeps space path next i best rest so_far before later (λ less.
                absurd (false≢true (sym v.if-is_beaten_by.false ∙ c.is_beaten_by.ensures.1 less))))
          ]))
    ])

pub returns : goal.returns
returns g c =
    let space = g.C.Clearing.space c.args.hall.now in
    let path = c.args.path.now in
    end-entry space path (length path - 1) c.args.position c.loop-next.next c.loop-next.best (omega (arith, c.requires.inner)) c.requires.clear
    (omega (arith, c.requires.inner)) (λ clear. absurd (false≢true (sym c.if-clear.false ∙ c.clear.ensures.1 clear)))
    (λ far. omega (arith, far, c.loop-next-test.false, c.loop-next.auto.next)) c.loop-next.invariant
