-- Blocks that were read. This project's rule.
use Rattle.std.specs.Arc.{arc_value}
use Rattle.replicas.specs.declared.put.Put.{Put}
use Rattle.replicas.specs.Grammar.{WireBlock}

-- a block that was read, on the wire
abbrev pub block_put : Put → WireBlock
block_put put = record { node = put.node; mesh = arc_value put.block }
