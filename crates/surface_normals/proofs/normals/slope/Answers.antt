-- The two samples are those of the points a step further and a step before.
use Rattle.std.proofs.Common.{◌-ℤ◌, ap, arith, sym, ◌∙◌}
use Rattle.field_pages.specs.Pages.{sample_at}
use Rattle.lattice.specs.Point.{clamped}
use Rattle.lattice.specs.Settings.{world_side}
use Rattle.surface_normals.proofs.SlopeLemmas.{same, same-sample}
use Rattle.surface_normals.proofs.normals.slope.Goals as goal

pub returns-clause-value : goal.returns-clause-value
returns-clause-value c =
    let depth = c.args.version.now.depth in
    let s = sample_at c.args.version.now in
    let further = same-sample c.sample-further.result c.sample-further.ensures.range
    ∙ c.sample-further.ensures.value
    ∙ ap s (c.further.ensures depth
    (c.node_side-side.ensures.value ∙ ap world_side c.depth.ensures.value)) in
    let kept = (c.before-2.ensures.world depth c.requires.point).1 in
    let before = same-sample c.sample-before.result c.sample-before.ensures.range
    ∙ c.sample-before.ensures.value
    ∙ ap s (sym kept ∙ ap (clamped depth) c.before-2.ensures.value) in
    same c.difference.result (omega (arith, c.difference.ensures.small))
    ∙ c.difference.ensures.value ∙ (λ i. further i -ℤ before i)
