-- One tile more is copied.
use Rattle.std.proofs.Common.{◌≡◌, ℕ, ◌+◌, ◌-◌, ◌*◌, ◌^◌, ◌%◌, ◌<◌, ◌≤◌, ℤ, sym, ap, ◌∙◌, subst, arith}
use Rattle.std.proofs.lemmas.Nat.{pow_pos}
use Rattle.lattice.specs.declared.settings.TheConstants.{MAX_DEPTH}
use Rattle.lattice.specs.Face.{axis_along, higher, lower}
use Rattle.lattice.specs.Point.{IsInWorld, coordinate}
use Rattle.field_pages.specs.PageRows.{lent_samples}
use Rattle.field_pages.specs.Pages.{sample_at}
use Rattle.bricks.specs.declared.faces.Tile.{Tile}
use Rattle.bricks.specs.Brick.{fine_line}
use Rattle.bricks.specs.Line.{IsLine, line_point}
use Rattle.bricks.specs.Tiles.{FillsTile, FitsPage, fine_sample, face_tile, tile_sample}
use Rattle.bricks.proofs.FaceLemmas.{face-line}
use Rattle.bricks.proofs.LineLemmas.{along-fits}
use Rattle.bricks.proofs.TileLemmas.{Fills-as, Fills-beside, Fills-none, few-in, higher-stays, pages-end, tile-fits, tile-samples}
use Rattle.bricks.proofs.faces.fill_band.Goals as goal
use Rattle.bricks.proofs.faces.fill_band.Goals.{After-fine_line-line, After-min-run, After-moved-point, After-face_tile-tile}

-- the line is one of the world
line-is : (c : After-fine_line-line) → IsLine c.args.version.now.depth c.fine_line-line.result
line-is c =
    let depth = c.args.version.now.depth in
    let leaf = c.args.leaf in
    let laws = c.nodes_of_worlds.ensures in
    let here = laws.corner depth leaf c.requires.leaf in
    let there = laws.corner MAX_DEPTH leaf (laws.node depth leaf c.requires.depth c.requires.leaf)
    in
    subst (IsLine depth) (sym c.fine_line-line.ensures)
    (face-line depth leaf here there c.requires.level c.args.face c.args.v c.requires.v)

-- a point of the line is the face's
point-is : (c : After-moved-point)
    → c.moved-point.result ≡ line_point (fine_line c.args.leaf c.args.face c.args.v) c.loop-u.u
point-is c = c.moved-point.ensures ∙ ap (λ l. line_point l c.loop-u.u) c.fine_line-line.ensures

-- the lines of a tile lie in its page
lines-in : (c : After-min-run) →
    coordinate (axis_along c.args.face higher) c.moved-point.result % 16
    + 2 ^ (c.args.leaf.level - 1) * (c.min-lines.result - 1) < 16
lines-in c =
    let face = c.args.face in
    let line = c.fine_line-line.result in
    let line_is = c.fine_line-line.ensures in
    let axis_is = c.higher_axis-axis.ensures in
    let lines = c.min-lines.result in
    let half : ℕ = 2 ^ (c.args.leaf.level - 1) in
    let half_is : line.stride ≡ half = ap (λ l. l.stride) line_is in
    let high_is : coordinate (axis_along face higher) c.moved-point.result ≡ c.coordinate.result =
    ap (coordinate (axis_along face higher)) (c.moved-point.ensures
    ∙ ap (λ l. line_point l c.loop-u.u) line_is)
    ∙ higher-stays face (half * c.loop-u.u) (fine_line c.args.leaf face c.args.v).from
    ∙ (λ i. coordinate (sym axis_is i) (sym line_is i).from) ∙ sym c.coordinate.ensures in
    omega (
      arith,
      high_is,
      few-in (c.coordinate.result % 16) line.stride c.run_length-most.result lines
          c.run_length-most.ensures.within (omega (arith, c.min-lines.ensures)),
      ap (λ n. n * (lines - 1)) half_is,
    )

-- and so do the points of each
run-in : (c : After-min-run) →
    coordinate (axis_along c.args.face lower) c.moved-point.result % 16
    + 2 ^ (c.args.leaf.level - 1) * (c.min-run.result - 1) < 16
run-in c =
    let line = c.fine_line-line.result in
    let line_is = c.fine_line-line.ensures in
    let run = c.min-run.result in
    let half : ℕ = 2 ^ (c.args.leaf.level - 1) in
    let half_is : line.stride ≡ half = ap (λ l. l.stride) line_is in
    let low_is : coordinate (axis_along c.args.face lower) c.moved-point.result
    ≡ c.coordinate-in-loop-u.result =
    (λ i. coordinate (sym line_is i).axis c.moved-point.result)
    ∙ sym c.coordinate-in-loop-u.ensures in
    omega (
      arith,
      low_is,
      few-in (c.coordinate-in-loop-u.result % 16) line.stride c.run_length-long.result run
          c.run_length-long.ensures.within (omega (arith, c.min-run.ensures)),
      ap (λ n. n * (run - 1)) half_is,
    )

-- the tile by the face's own axes
tile-is : (c : After-face_tile-tile) → c.face_tile-tile.result
    ≡ face_tile c.moved-point.result (axis_along c.args.face lower) (axis_along c.args.face higher)
    (2 ^ (c.args.leaf.level - 1)) c.min-run.result c.min-lines.result
tile-is c =
    let line_is = c.fine_line-line.ensures in
    let axis_is = c.higher_axis-axis.ensures in
    c.face_tile-tile.ensures
    ∙ (λ i. face_tile c.moved-point.result (line_is i).axis (axis_is i) (line_is i).stride
    c.min-run.result c.min-lines.result)

pub moved-point-requires : goal.moved-point-requires
moved-point-requires c =
    let d = (goal.at.moved-point-requires c).After-fine_line-line in
    along-fits c.fine_line-line.result c.args.version.now.depth (line-is d) c.loop-u.u
    (omega (arith, ap (λ l. l.count) c.fine_line-line.ensures, c.loop-u-test.true))

pub page-requires : goal.page-requires
page-requires c =
    let d = (goal.at.page-requires c).After-fine_line-line in
    subst (IsInWorld c.args.version.now.depth) (sym c.moved-point.ensures)
    ((line-is d).points c.loop-u.u
    (omega (arith, ap (λ l. l.count) c.fine_line-line.ensures, c.loop-u-test.true)))

pub copy_tile-requires-clause-tile : goal.copy_tile-requires-clause-tile
copy_tile-requires-clause-tile c =
    let at = goal.at.copy_tile-requires-clause-tile c in
    let half : ℕ = 2 ^ (c.args.leaf.level - 1) in
    let some : 1 ≤ half = pow_pos (c.args.leaf.level - 1) in
    subst FitsPage (sym (tile-is at.After-face_tile-tile))
    (tile-fits c.args.leaf c.args.face c.args.v c.loop-u.u c.min-lines.result c.min-run.result
    c.moved-point.result (point-is at.After-moved-point) (lines-in at.After-min-run)
    (run-in at.After-min-run) some
    (omega (arith, c.min-run.ensures, c.run_length-long.ensures.some, c.loop-u-test.true)))

pub loop-u-init : goal.loop-u-init
loop-u-init c = record {
  few = omega arith;
  filled = Fills-none (fine_sample (sample_at c.args.version.now) c.args.leaf c.args.face) c.args.v
      _ 0 0 c.args.samples.now (λ y x box. omega (arith, box.u_high));
}

pub loop-u-preserved : goal.loop-u-preserved
loop-u-preserved c =
    let at = goal.at.loop-u-preserved c in
    let s = sample_at c.args.version.now in
    let leaf = c.args.leaf in
    let face = c.args.face in
    let v = c.args.v in
    let u = c.loop-u.u in
    let point = c.moved-point.result in
    let lines = c.min-lines.result in
    let run = c.min-run.result in
    let half : ℕ = 2 ^ (leaf.level - 1) in
    let page = lent_samples c.page.result in
    let tile : Tile =
    face_tile point (axis_along face lower) (axis_along face higher) half run lines in
    let old = c.loop-u.samples in
    let new = c.copy_tile.new.samples in
    let f : ℕ → ℕ → ℤ = fine_sample s leaf face in
    record {
      few = omega (arith, c.min-run.ensures);
      filled = Fills-beside f v (v + lines) 0 u (u + run) c.args.samples.now old new (omega arith)
          (omega arith) (omega (arith, c.min-run.ensures)) c.loop-u.invariant.filled
          (Fills-as (tile_sample page tile v u) f v (v + lines) u (u + run) old new
          (tile-samples leaf face v u lines run point (point-is at.After-moved-point)
          (lines-in at.After-min-run) (run-in at.After-min-run) s page c.page.ensures.len
          c.page.ensures.samples)
          (subst (λ q. FillsTile (tile_sample page q v u) v (v + q.lines) u (u + q.run) old new)
          (tile-is at.After-face_tile-tile) c.copy_tile.ensures));
    }

pub returns-clause-pages : goal.returns-clause-pages
returns-clause-pages c = λ y after in_face.
    let line_is = c.fine_line-line.ensures in
    let axis_is = c.higher_axis-axis.ensures in
    let most = c.run_length-most.result in
    let v = c.args.v in
    let end = pages-end c.args.leaf c.args.face c.coordinate.result c.fine_line-line.result.stride
    most v y (c.coordinate.ensures ∙ (λ i. coordinate (axis_is i) (line_is i).from))
    (ap (λ l. l.stride) line_is) c.run_length-most.ensures.within c.run_length-most.ensures.all
    after in (
      (λ before. end.0 (omega (arith, before, c.min-lines.ensures))),
      (λ same. omega (arith, end.1 same, in_face, c.min-lines.ensures)),
    )
