-- One line more is copied.
use Rattle.std.proofs.Common.{◌≡◌, ℕ, ◌+◌, ◌-◌, ◌*◌, ◌≤◌, List, ℤ, pos, length, get_or, refl, sym, ◌∙◌, subst, arith}
use borrow.Rule.Slice.PartMut.{put_mid}
use Rattle.field_pages.proofs.SliceLemmas.{get_or-put_mid, length-part}
use Rattle.field_pages.specs.PageRows.{lent_samples}
use Rattle.bricks.specs.Tiles.{FillsTile, tile_sample}
use Rattle.bricks.proofs.PartLemmas.{keeps-others}
use Rattle.bricks.proofs.TileLemmas.{Fills-above, Fills-line, Fills-none}
use Rattle.bricks.proofs.faces.copy_runs.Goals as goal

pub loop-line-init : goal.loop-line-init
loop-line-init c =
    Fills-none (tile_sample (lent_samples c.args.page.now) c.args.tile c.args.v c.args.u)
    c.args.v _ c.args.u _ c.args.samples.now (λ y x box. omega (arith, box.v_low, box.v_high))

pub loop-line-preserved : goal.loop-line-preserved
loop-line-preserved c =
    let page = lent_samples c.args.page.now in
    let tile = c.args.tile in
    let v = c.args.v in
    let u = c.args.u in
    let line = c.loop-line.line in
    let run = tile.run in
    let at : ℕ = (v + line) * 33 + u in
    let n : ℕ = (at + run) - at in
    let old = c.loop-line.samples in
    let new = c.fill_run.new.taken in
    let part_is : n ≡ run = omega arith in
    let fits : at + run ≤ length old =
    omega (
      arith,
      c.loop-line.invariant.long,
      c.requires.count,
      c.requires.v,
      c.requires.u,
      c.loop-line-test.true,
    ) in
    let part_long = length-part at run n old part_is fits in
    let long : length new ≡ n = c.fill_run.ensures.len ∙ part_long ∙ sym part_is in
    let others = keeps-others at run n old new part_is long fits in
    let f : ℕ → ℕ → ℤ = tile_sample page tile v u in
    let end : v + line + 1 ≡ v + (line + 1) = omega arith in
    let line_is : line ≡ v + line - v = omega arith in
    let now : List ℤ = put_mid at n old new in
    let next = Fills-line f (v + line) u run at old now refl c.requires.u
    (λ k k_in.
    let k_is : k ≡ u + k - u = omega arith in
    get_or-put_mid at n k old new (pos 0) long (omega (arith, fits, part_is))
    (omega (arith, k_in, part_is))
    ∙ c.fill_run.ensures.each k (omega (arith, k_in, part_long))
    ∙ (λ i. get_or page (tile.from + tile.across * line_is i + tile.along * k_is i) (pos 0)))
    others in
    Fills-above f v (v + line) (v + (line + 1)) u (u + run) c.args.samples.now old now (omega arith)
    (omega arith) c.requires.u c.loop-line.invariant
    (subst (λ e. FillsTile f (v + line) e u (u + run) old now) end next)

pub returns : goal.returns
returns c =
    let end : c.args.v + c.loop-line.line ≡ c.args.v + c.args.tile.lines =
    omega (arith, c.loop-line-test.false, c.loop-line.auto.line-end) in
    subst (λ e.
    FillsTile (tile_sample (lent_samples c.args.page.now) c.args.tile c.args.v c.args.u)
    c.args.v e c.args.u (c.args.u + c.args.tile.run) c.args.samples.now c.loop-line.samples) end
    c.loop-line.invariant
