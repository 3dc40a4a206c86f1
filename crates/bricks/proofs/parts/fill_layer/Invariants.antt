-- The rows of pages before are filled.
use Rattle.std.proofs.Common.{◌≡◌, ◌+◌, ◌-◌, ◌*◌, ◌^◌, ◌%◌, ◌≤◌}
use Rattle.field_pages.specs.Pages.{sample_at}
use Rattle.bricks.specs.Parts.{Fills}
use Rattle.bricks.proofs.parts.fill_layer.Given as goal

abbrev pub invariant-loop-y : goal.invariant-loop-y
invariant-loop-y l = record {
  few : l.y ≤ 32;
  border : 2 ^ l.leaf.level * l.y % 16 ≡ 0;
  filled : Fills (sample_at l.version) l.leaf (record { z = l.z; y = 0; x = 0 })
      (record { z = l.z + l.side; y = l.y; x = 17 })
      l.initial.samples l.samples;
}

abbrev pub decreases-loop-y : goal.decreases-loop-y
decreases-loop-y l = 17 - l.y
