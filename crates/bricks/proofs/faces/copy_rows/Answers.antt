-- One line more is copied.
use Rattle.std.proofs.Common.{◌≡◌, ℕ, ◌+◌, ◌-◌, ◌*◌, ◌%◌, ◌<◌, ◌≤◌, ℤ, pos, get_or, refl, ap, ◌∙◌, subst, arith}
use Rattle.std.proofs.Math.Nat.{mul-add, mul-le-mul_left}
use Rattle.field_pages.specs.PageRows.{lent_samples}
use Rattle.bricks.specs.Parts.{KeepsOthers}
use Rattle.bricks.specs.Tiles.{FillsTile, tile_sample}
use Rattle.bricks.proofs.PageRowLemmas.{row-of}
use Rattle.bricks.proofs.TileLemmas.{Fills-above, Fills-line, Fills-none}
use Rattle.bricks.proofs.faces.copy_rows.Goals as goal

pub loop-line-init : goal.loop-line-init
loop-line-init c =
    Fills-none (tile_sample (lent_samples c.args.page.now) c.args.tile c.args.v c.args.u)
    c.args.v _ c.args.u _ c.args.samples.now (λ y x box. omega (arith, box.v_low, box.v_high))

-- the row ends within the page
row-ends : (start : ℕ) → start % 16 ≡ 0 → start < 4096 → start + 16 ≤ 4096
row-ends start begins within = omega arith

pub stepped_row-row-requires-clause-start : goal.stepped_row-row-requires-clause-start
stepped_row-row-requires-clause-start c =
    omega (arith, c.requires.begins, c.requires.tile.apart c.loop-line.line)

pub stepped_row-row-requires-clause-within : goal.stepped_row-row-requires-clause-within
stepped_row-row-requires-clause-within c = omega (
  arith,
  c.requires.tile.places c.loop-line.line 0 c.loop-line-test.true
      (omega (arith, c.requires.tile.run)),
)

pub copy_run-requires-clause-range : goal.copy_run-requires-clause-range
copy_run-requires-clause-range c =
    let tile = c.args.tile in
    let start : ℕ = tile.from + tile.across * c.loop-line.line in
    let begins : start % 16 ≡ 0 =
    omega (arith, c.requires.begins, c.requires.tile.apart c.loop-line.line) in
    let within : start < 4096 = omega (
      arith,
      c.requires.tile.places c.loop-line.line 0 c.loop-line-test.true
          (omega (arith, c.requires.tile.run)),
    ) in
    let is = row-of (lent_samples c.args.page.now) c.stepped_row-row.result.now start
    c.args.page.now.long c.requires.range c.stepped_row-row.ensures.len
    (row-ends start begins within) c.stepped_row-row.ensures.samples in
    is.range

pub loop-line-preserved : goal.loop-line-preserved
loop-line-preserved c =
    let page = lent_samples c.args.page.now in
    let tile = c.args.tile in
    let v = c.args.v in
    let u = c.args.u in
    let line = c.loop-line.line in
    let run = tile.run in
    let along = c.args.along in
    let at : ℕ = (v + line) * 33 + u in
    let old = c.loop-line.samples in
    let new = c.copy_run.new.samples in
    let start : ℕ = tile.from + tile.across * line in
    let begins : start % 16 ≡ 0 = omega (arith, c.requires.begins, c.requires.tile.apart line) in
    let within : start < 4096 = omega (
      arith,
      c.requires.tile.places line 0 c.loop-line-test.true (omega (arith, c.requires.tile.run)),
    ) in
    let is = row-of page c.stepped_row-row.result.now start c.args.page.now.long c.requires.range
    c.stepped_row-row.ensures.len (row-ends start begins within) c.stepped_row-row.ensures.samples
    in
    let f : ℕ → ℕ → ℤ = tile_sample page tile v u in
    let end : v + line + 1 ≡ v + (line + 1) = omega arith in
    let line_is : line ≡ v + line - v = omega arith in
    let next = Fills-line f (v + line) u run at old new refl c.requires.u
    (λ k k_in.
    let k_is : k ≡ u + k - u = omega arith in
    let here : k < c.args.run = omega (arith, k_in, c.requires.run) in
    let up : k + 1 ≤ c.args.run = omega (arith, here) in
    let in_row : along * k < 16 = omega (
      arith,
      mul-add along k 1,
      mul-le-mul_left along up,
      c.requires.some,
      c.requires.fits,
    ) in
    let step : start + along * k ≡ start + tile.along * k =
    ap (λ m. start + m) (c.requires.along k here) in
    c.copy_run.ensures.run k here
    ∙ is.same (along * k) in_row
    ∙ ap (λ m. get_or page m (pos 0)) step
    ∙ (λ i. get_or page (tile.from + tile.across * line_is i + tile.along * k_is i) (pos 0)))
    (subst (λ n. KeepsOthers at n old new) c.requires.run c.copy_run.ensures.others) in
    Fills-above f v (v + line) (v + (line + 1)) u (u + run) c.args.samples.now old new (omega arith)
    (omega arith) c.requires.u c.loop-line.invariant
    (subst (λ e. FillsTile f (v + line) e u (u + run) old new) end next)

pub returns : goal.returns
returns c =
    let end : c.args.v + c.loop-line.line ≡ c.args.v + c.args.tile.lines =
    omega (arith, c.loop-line-test.false, c.loop-line.auto.line-end) in
    subst (λ e.
    FillsTile (tile_sample (lent_samples c.args.page.now) c.args.tile c.args.v c.args.u)
    c.args.v e c.args.u (c.args.u + c.args.tile.run) c.args.samples.now c.loop-line.samples) end
    c.loop-line.invariant
