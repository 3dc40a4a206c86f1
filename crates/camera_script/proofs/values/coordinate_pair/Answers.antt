-- Arrays of fewer and of more than two items.
use Rattle.camera_script.proofs.ValuesLemmas.{two_numbers-fewer, two_numbers-more}
use Rattle.camera_script.proofs.values.coordinate_pair.Goals as goal

pub returns-in_default : goal.returns-in_default
returns-in_default c = two_numbers-fewer c.args.side c.args.items.now c.in_default.len_below

pub returns-in_default-2 : goal.returns-in_default-2
returns-in_default-2 c = two_numbers-more c.args.side c.args.items.now c.in_default.len_at_least
