-- The keys of both kinds of cell are present.
use Rattle.cell_laws.proofs.IsPresent.{regular_keys_present, transition_keys_present}
use Rattle.cell_laws.proofs.cells.keys_of_cells_are_present.Goals as goal

pub returns : goal.returns
returns c = record { regular = regular_keys_present; transition = transition_keys_present }
