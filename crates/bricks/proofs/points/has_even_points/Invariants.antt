-- The samples of the lines before are the one.
use Rattle.std.proofs.Common.{◌≡◌, ℕ, ◌*◌, ◌<◌, pos, get_or}
use Rattle.terrain.specs.Blocks.{leaf_samples}
use Rattle.field_pages.specs.Pages.{sample_at}
use Rattle.bricks.proofs.points.has_even_points.Given as goal

abbrev pub invariant-loop-line : goal.invariant-loop-line
invariant-loop-line l = (k : ℕ) → k < 17 * l.line
    → get_or (leaf_samples (sample_at l.version) l.leaf) k (pos 0) ≡ l.sample
