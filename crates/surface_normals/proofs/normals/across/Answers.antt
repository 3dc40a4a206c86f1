-- Each slope has the weight of the other end.
use Rattle.std.proofs.Common.{◌*ℤ◌, ◌+ℤ◌, ◌∙◌, arith, pos, rules, unsigned_abs, w32}
use Rattle.std.proofs.lemmas.Int.{to_z-of_z}
use Rattle.field_pages.specs.Pages.{sample_at}
use Rattle.surface_normals.specs.Normals.{slope}
use Rattle.surface_normals.proofs.SlopeLemmas.{same, same-sample}
use Rattle.surface_normals.proofs.normals.across.Goals as goal

pub returns : goal.returns
returns c key are =
    let depth = c.args.version.now.depth in
    let s = sample_at c.args.version.now in
    let ends = c.args.ends.now in
    let b = same-sample ends.b c.requires.b ∙ are.b in
    let a = same-sample ends.a c.requires.a ∙ are.a in
    let near = same c.slope-near.result (omega (arith, c.slope-near.ensures.small))
    ∙ c.slope-near.ensures.value ∙ (λ i. slope depth s (are.near i) (are.step i) c.args.axis) in
    let far = same c.slope-far.result (omega (arith, c.slope-far.ensures.small))
    ∙ c.slope-far.ensures.value ∙ (λ i. slope depth s (are.far i) (are.step i) c.args.axis) in
    to_z-of_z w32 c.weighed_sum.result (search rules) ∙ c.weighed_sum.ensures
    ∙ (λ i. (pos (unsigned_abs (b i)) *ℤ near i) +ℤ (pos (unsigned_abs (a i)) *ℤ far i))
