-- The keys of triangles are listed once each.
use Rattle.cell_laws.proofs.KeysOf.{keys_of-once}
use Rattle.cell_laws.proofs.keys.each_key_is_listed_once.Goals as goal

pub returns : goal.returns
returns c = keys_of-once
