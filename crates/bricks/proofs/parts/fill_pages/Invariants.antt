-- The layers of pages before are filled.
use Rattle.std.proofs.Common.{◌≡◌, ◌-◌, ◌*◌, ◌^◌, ◌%◌, ◌≤◌}
use Rattle.field_pages.specs.Pages.{sample_at}
use Rattle.bricks.specs.Parts.{Fills}
use Rattle.bricks.proofs.parts.fill_pages.Given as goal

abbrev pub invariant-loop-z : goal.invariant-loop-z
invariant-loop-z l = record {
  few : l.z ≤ 32;
  border : 2 ^ l.leaf.level * l.z % 16 ≡ 0;
  filled : Fills (sample_at l.version) l.leaf (record { z = 0; y = 0; x = 0 })
      (record { z = l.z; y = 17; x = 17 })
      l.initial.samples l.samples;
}

abbrev pub decreases-loop-z : goal.decreases-loop-z
decreases-loop-z l = 17 - l.z
