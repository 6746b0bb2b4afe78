use Rattle.kd_shared.proofs.Words.{sym, subst, PassState, sight_in, AreNearSeen}
use Rattle.kd_shared.proofs.SortedNear.{AreNearSeen-gathered}
use Rattle.kd_shared.proofs.near_search.around.Goals as goal

pub returns-clause-near : goal.returns-clause-near
returns-clause-near c =
    subst (λ (s : PassState). AreNearSeen (sight_in c.args.pass.now.view) (sight_in s.view) c.args.p c.args.r c.fill_around.new.self.lists.around)
    (sym c.fill_around.ensures.others)
    (AreNearSeen-gathered (sight_in c.args.pass.now.view) (sight_in c.gather.new.pass.view) c.args.p c.args.r c.gather.new.pass.lists.search.found
    c.fill_around.new.self.lists.around c.gather.ensures.gathered c.fill_around.ensures.same c.fill_around.ensures.rising)
