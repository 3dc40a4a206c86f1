-- Arrays of fewer and of more than three items.
use Rattle.camera_script.proofs.ValuesLemmas.{three_numbers-fewer, three_numbers-more}
use Rattle.camera_script.proofs.values.coordinates.Goals as goal

pub returns-in_default : goal.returns-in_default
returns-in_default c = three_numbers-fewer c.args.side c.args.items.now c.in_default.len_below

pub returns-in_default-2 : goal.returns-in_default-2
returns-in_default-2 c = three_numbers-more c.args.side c.args.items.now c.in_default.len_at_least
