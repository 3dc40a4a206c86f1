-- The lines before are copied.
use Rattle.std.proofs.Common.{◌+◌}
use Rattle.field_pages.specs.PageRows.{lent_samples}
use Rattle.bricks.specs.Tiles.{FillsTile, tile_sample}
use Rattle.bricks.proofs.faces.copy_rows.Given as goal

abbrev pub invariant-loop-line : goal.invariant-loop-line
invariant-loop-line l =
    FillsTile (tile_sample (lent_samples l.page) l.tile l.v l.u) l.v (l.v + l.line) l.u
    (l.u + l.tile.run) l.initial.samples l.samples
