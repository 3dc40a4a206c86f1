-- An event moves one viewpoint, and without any no node is split.
use Rattle.event_laws.proofs.MapLemmas.{IsLeaf-none, levels-edit, levels-none, levels-undo, rim-lowest, viewpoint-moves, viewpoints-none, wanted-one}
use Rattle.event_laws.proofs.maps.levels_follow_the_viewpoints.Goals as goal

pub returns : goal.returns
returns c = record {
  wanted = wanted-one;
  edit = levels-edit;
  undo = levels-undo;
  moves = viewpoint-moves;
  nobody = viewpoints-none;
  none = levels-none;
  root = IsLeaf-none;
  lowest = rim-lowest;
}
