-- The rows before this one have their signs.
use Rattle.std.proofs.Common.{◌≡◌, ℕ, ◌+◌, ◌*◌, ◌<◌, length}
use Rattle.std.specs.Prelude.{slice_index}
use Rattle.terrain.specs.Samples.{Field}
use Rattle.bricks.specs.Brick.{HasSamples, leaf_line}
use Rattle.block_mesh.specs.Signs.{line_signs}
use Rattle.block_mesh.proofs.mesher.leaf_rows.Given as goal

abbrev pub invariant-loop-row : goal.invariant-loop-row
invariant-loop-row l = record {
  whole : length l.rows ≡ 289;
  rows : (s : Field) → HasSamples s l.brick → (z y : ℕ) → z < 17 → y < 17 → z * 17 + y < l.row
      → slice_index l.rows (z * 17 + y) ≡ line_signs s (leaf_line l.brick.node z y);
}
