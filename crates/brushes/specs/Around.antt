-- The rows round a point, by which it is smoothed.
use Rattle.std.specs.Prelude.{◌≡◌, ◌+◌, ◌-◌, ℤ, min}
use Rattle.lattice.specs.declared.point.Point.{Point}
use Rattle.lattice.specs.Settings.{world_side}
use Rattle.terrain.specs.Brushes.{smoothed}
use Rattle.terrain.specs.Samples.{IsSample}
use Rattle.field_pages.specs.Pages.{Pages, sample_at}
use Rattle.brushes.specs.Rows.{IsRowOf}
use Rattle.brushes.specs.declared.smoothing.Around.{Around}

-- the rows are those of the point and of its neighbours, clamped to the world
pub record AreRowsAround (pages : Pages) (p : Point) (around : Around) : Type 0 where
  pub here : IsRowOf pages p around.here.now
  pub y_low : IsRowOf pages (record p { y = p.y - 1 }) around.y_low.now
  pub y_high : IsRowOf pages (record p { y = min (p.y + 1) (world_side pages.depth) })
      around.y_high.now
  pub z_low : IsRowOf pages (record p { z = p.z - 1 }) around.z_low.now
  pub z_high : IsRowOf pages (record p { z = min (p.z + 1) (world_side pages.depth) })
      around.z_high.now

-- a sample is what smoothing makes of that at a point
pub record IsSmoothed (pages : Pages) (p : Point) (sample : ℤ) : Type 0 where
  pub rule : sample ≡ smoothed pages.depth (sample_at pages) p
  pub is_sample : IsSample sample
