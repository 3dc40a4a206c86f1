-- Each sample of the line is one of a page's.
use Rattle.std.proofs.Common.{◌≡◌, ℕ, ◌+◌, ◌*◌, ◌/◌, ◌%◌, pos, get_or, refl, ap, ◌∙◌, arith}
use Rattle.lattice.specs.declared.point.Point.{Point}
use Rattle.lattice.specs.Steps.{point_at}
use Rattle.bricks.proofs.PageRowLemmas.{Fills-run, part-at}
use Rattle.bricks.proofs.parts.read_line.Goals as goal

pub returns : goal.returns
returns c = λ s n line.
    let first : Point = record { z = c.args.z; y = c.args.y; x = 0 } in
    let to : ℕ = (first.z * 17 + first.y) * 17 in
    let side = c.args.side in
    let new = c.copy_line.new.samples in
    Fills-run s n first 0 17 17 to c.args.samples.now new refl (omega arith) (omega arith)
    c.requires.y
    (λ k k_in.
    let at = part-at c.args.stride side k c.requires.stride (omega (arith, c.requires.two))
    (omega (arith, k_in)) in
    let t : ℕ = k / side in
    let r : ℕ = k % side in
    let slot : to + k ≡ to + side * t + r = omega (arith, at.2) in
    let x_is : side * t + r ≡ 0 + k = omega (arith, at.2) in
    ap (λ m. get_or new m (pos 0)) slot
    ∙ c.copy_line.ensures.line.each t r at.0 at.1 (omega (arith, at.2, k_in))
    ∙ line.each t r at.0 at.1
    ∙ ap (λ m. s (point_at n.level n (record first { x = m }))) x_is)
    c.copy_line.ensures.others
