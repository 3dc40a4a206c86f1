-- The line is put into its place.
use Rattle.std.proofs.Common.{◌≡◌, ℕ, ◌+◌, ◌-◌, ◌*◌, ◌≤◌, pos, length, get_or, refl, ap, ◌∙◌, arith}
use Rattle.lattice.specs.declared.point.Point.{Point}
use Rattle.lattice.specs.Steps.{point_at}
use Rattle.field_pages.proofs.SliceLemmas.{get_or-put_mid}
use Rattle.bricks.proofs.PageRowLemmas.{Fills-run}
use Rattle.bricks.proofs.PartLemmas.{keeps-others}
use Rattle.bricks.proofs.points.put_line.Goals as goal

pub returns : goal.returns
returns c = λ s n at.
    let old = c.args.samples.now in
    let line = c.copy_from_slice.new.self in
    let is : line ≡ c.args.line.now = c.copy_from_slice.ensures.after in
    let first : Point = record { z = c.args.z; y = c.args.y; x = 0 } in
    let to : ℕ = (first.z * 17 + first.y) * 17 in
    let m : ℕ = (to + 17) - to in
    let part_is : m ≡ 17 = omega arith in
    let fits : to + 17 ≤ length old = omega (arith, c.requires.count, c.requires.z, c.requires.y) in
    let long : length line ≡ m = omega (arith, ap length is, part_is, c.told-line) in
    Fills-run s n first 0 17 17 to old _ refl (omega arith) (omega arith) c.requires.y
    (λ k k_in.
    let k_is : k ≡ 0 + k = omega arith in
    get_or-put_mid to m k old line (pos 0) long (omega (arith, part_is, fits))
    (omega (arith, part_is, k_in))
    ∙ ap (λ xs. get_or xs k (pos 0)) is
    ∙ at.each k (omega (arith, k_in))
    ∙ ap (λ x. s (point_at n.level n (record first { x = x }))) k_is)
    (keeps-others to 17 m old line part_is long fits)
