-- The editors that came so far, each with the mail.
use Rattle.std.proofs.Common.{◌≡◌, All}
use Rattle.std.specs.Arc.{arc_value}
use Rattle.scenes.specs.Editing.{SendsThrough, editors_of}
use Rattle.scenes.proofs.editing.seat_all.Given as goal

abbrev pub invariant-loop-editor : goal.invariant-loop-editor
invariant-loop-editor l = record {
  same : editors_of l.seated.items ≡ l.yielded;
  mail : All (SendsThrough (arc_value l.mail)) l.seated.items;
}
