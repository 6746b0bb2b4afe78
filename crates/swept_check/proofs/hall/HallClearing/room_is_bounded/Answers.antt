use Rattle.swept_check.proofs.Words.{arith, IsBounded}
use Rattle.swept_check.proofs.hall.HallClearing.room_is_bounded.Goals as goal

pub returns : goal.returns
returns c =
    let h = c.self.inside in
    let right = c.self.invariant.right in
    let top = c.self.invariant.top in
    let within : IsBounded h.space.room = record { right = omega arith; top = omega arith } in
    rw (← c.self.view_is) within
