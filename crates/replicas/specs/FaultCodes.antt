-- The numbers of faults. This project's rule.
use Rattle.std.specs.Prelude.{ℕ}
use Rattle.replicas.specs.declared.fault.WireFault.{WireFault}
use Rattle.replicas.specs.declared.fault.WireFault.TheVariants.{NoMemory, BadHead, BadTag, BadBase, BadCount, BadEvent, BadNode, BadVertex, BadTriangle}

-- the number of a fault
abbrev pub code : WireFault → ℕ
code NoMemory = 1
code BadHead = 2
code BadTag = 3
code BadBase = 4
code BadCount = 5
code BadEvent = 6
code BadNode = 7
code BadVertex = 8
code BadTriangle = 9
