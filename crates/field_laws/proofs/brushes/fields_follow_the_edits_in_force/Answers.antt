-- The field is made from the edits in force, and events act on these one after another.
use Rattle.field_laws.proofs.BrushLemmas.{edits_grow, follows, lawful_in_force}
use Rattle.field_laws.proofs.brushes.fields_follow_the_edits_in_force.Goals as goal

pub returns : goal.returns
returns c = record { field = follows; grow = edits_grow; lawful = lawful_in_force }
