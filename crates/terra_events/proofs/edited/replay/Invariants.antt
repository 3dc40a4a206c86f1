-- The field is the one that the edits so far make, and what is kept gives back those before the newest of them.
use Rattle.std.proofs.Common.{◌≡◌, take}
use Rattle.std.specs.Prelude.{reverse}
use Rattle.terra_events.specs.KeptEdits.{IsEdited}
use Rattle.terra_events.proofs.edited.replay.Given as goal

abbrev pub invariant-loop-brush : goal.invariant-loop-brush
invariant-loop-brush l = record {
  depth : l.version.depth ≡ l.settings.depth;
  edited : IsEdited l.kept
      (record { version = l.version; edits = reverse (take l.brush-index l.edits) });
}
