-- The first rows are those of the face.
use Rattle.std.proofs.Common.{◌≡◌, ℕ, ◌*◌, ◌<◌, drop, take}
use Rattle.field_pages.specs.Pages.{sample_at}
use Rattle.bricks.specs.Brick.{fine_line}
use Rattle.bricks.specs.Line.{line_samples}
use Rattle.bricks.proofs.brick.is_face.Given as goal

abbrev pub invariant-loop-v : goal.invariant-loop-v
invariant-loop-v l = (k : ℕ) → k < l.v → take 33 (drop (k * 33) l.samples)
    ≡ line_samples (sample_at l.version) (fine_line l.leaf l.face k)
