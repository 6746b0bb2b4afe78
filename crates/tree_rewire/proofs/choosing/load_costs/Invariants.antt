use Rattle.tree_rewire.proofs.Words.{All, take, SeesAsBefore, HasWholeShare, nodes_on, IsLoadedSince, NamesTree, PassSees, SeesPair}
use Rattle.tree_rewire.proofs.choosing.load_costs.Given as goal

abbrev pub invariant-loads : goal.invariant-loads
invariant-loads l = record {
  steps : PassSees NamesTree l.shared l.fn.pass l.pass;
  first : SeesPair l.pass.view l.nearest;
  first_loaded : IsLoadedSince l.fn.pass.view.steps l.pass.view l.nearest;
  earlier : All (SeesPair l.pass.view) (take l.index (nodes_on l.among l.fn.pass.lists));
  earlier_loaded : All (IsLoadedSince l.fn.pass.view.steps l.pass.view) (take l.index (nodes_on l.among l.fn.pass.lists));
  whole : HasWholeShare l.fn.pass.view → SeesAsBefore l.fn.pass.view l.pass.view;
}
