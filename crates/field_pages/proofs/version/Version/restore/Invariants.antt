-- To put the pages of the other layers back makes what all make of the old version, whose layers are as long.
use Rattle.std.proofs.Common.{◌≡◌, ℕ, [], drop, get_or, length}
use Rattle.field_pages.specs.Kept.{layers_restored}
use Rattle.field_pages.proofs.version.Version.restore.Given as goal

abbrev pub invariant-loop-old : goal.invariant-loop-old
invariant-loop-old l = record {
  rest :
      layers_restored (drop l.old-index l.olds) l.layers ≡ layers_restored l.olds l.self.layers;
  long : length l.layers ≡ length l.self.layers;
  rows : (n : ℕ) → length (get_or l.layers n []) ≡ length (get_or l.self.layers n []);
}
