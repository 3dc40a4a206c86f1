-- To put the other pages back makes what all make of the old layer, which has as many pages.
use Rattle.std.proofs.Common.{◌≡◌, drop, length}
use Rattle.field_pages.specs.Kept.{layer_restored}
use Rattle.field_pages.proofs.layer.Layer.restore.Given as goal

abbrev pub invariant-loop-page : goal.invariant-loop-page
invariant-loop-page l = record {
  rest : layer_restored (drop l.page-index l.pages) l.layer ≡ layer_restored l.pages l.self;
  long : length l.layer ≡ length l.self;
}
