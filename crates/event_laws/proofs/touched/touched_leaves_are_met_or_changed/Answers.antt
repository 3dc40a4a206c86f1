-- An edit and an undo change no leaf and no rim, and what edits nothing touches by the level map alone.
use Rattle.event_laws.proofs.TouchedLemmas.{changed_leaves-same, touched-edit, touched-other, touched-undo}
use Rattle.event_laws.proofs.touched.touched_leaves_are_met_or_changed.Goals as goal

pub returns : goal.returns
returns c = record {
  edit = touched-edit;
  undo = touched-undo;
  other = touched-other;
  none = changed_leaves-same;
}
