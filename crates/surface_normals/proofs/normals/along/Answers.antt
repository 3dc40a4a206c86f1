-- Each end is a step from the other, so it is where the other's slope is taken from.
use Rattle.std.proofs.Common.{◌*ℤ◌, ◌+ℤ◌, ◌-ℤ◌, ◌∙◌, ap, arith, pos, refl, rules, subst, sym, unsigned_abs, w32}
use Rattle.std.proofs.lemmas.Int.{to_z-of_z}
use Rattle.field_pages.specs.Pages.{sample_at}
use Rattle.lattice.specs.Point.{IsInWorld, clamped, moved}
use Rattle.lattice.specs.Settings.{world_side}
use Rattle.surface_normals.specs.Normals.{moved_back, normal_on}
use Rattle.surface_normals.proofs.SlopeLemmas.{far-slope, near-slope, same, same-sample}
use Rattle.surface_normals.proofs.normals.along.Goals as goal

pub returns : goal.returns
returns c key are on =
    let depth = c.args.version.now.depth in
    let s = sample_at c.args.version.now in
    let ends = c.args.ends.now in
    let axis = sym on in
    let inside = subst (IsInWorld depth) are.near c.requires.near in
    let beyond = subst (IsInWorld depth) are.far c.requires.far in
    let b = same-sample ends.b c.requires.b ∙ are.b in
    let a = same-sample ends.a c.requires.a ∙ are.a in
    let kept = (c.before-2.ensures.world depth c.requires.near).1 in
    let before = same-sample c.sample-before.result c.sample-before.ensures.range
    ∙ c.sample-before.ensures.value
    ∙ ap s (sym kept ∙ ap (clamped depth) c.before-2.ensures.value)
    ∙ (λ i. s (clamped depth (moved_back (axis i) (are.step i) (are.near i)))) in
    let further = same-sample c.sample-further.result c.sample-further.ensures.range
    ∙ c.sample-further.ensures.value
    ∙ ap s (c.further.ensures depth
    (c.node_side-side.ensures.value ∙ ap world_side c.depth.ensures.value))
    ∙ (λ i. s (clamped depth (moved (axis i) (are.step i) (are.far i)))) in
    let near = same c.difference-near.result (omega (arith, c.difference-near.ensures.small))
    ∙ c.difference-near.ensures.value ∙ (λ i. b i -ℤ before i)
    ∙ near-slope depth s key beyond _ refl in
    let far = same c.difference-far.result (omega (arith, c.difference-far.ensures.small))
    ∙ c.difference-far.ensures.value ∙ (λ i. further i -ℤ a i)
    ∙ far-slope depth s key beyond inside _ refl in
    to_z-of_z w32 c.weighed_sum.result (search rules) ∙ c.weighed_sum.ensures
    ∙ (λ i. (pos (unsigned_abs (b i)) *ℤ near i) +ℤ (pos (unsigned_abs (a i)) *ℤ far i))
    ∙ ap (normal_on depth s key) on
