-- The samples of the line are the field's.
use Rattle.std.proofs.Common.{◌<◌, w8, sym, ◌∙◌, arith}
use Rattle.std.proofs.lemmas.Int.{to_z-of_z}
use Rattle.bricks.proofs.points.is_even_line.Goals as goal

pub returns : goal.returns
returns c =
    let item = to_z-of_z w8 c.args.sample c.ranges.sample in (
      (λ on x x_in. sym (c.line_of.ensures.each x x_in)
          ∙ c.is_all.ensures.0 on x (omega (arith, x_in, c.line_of.ensures.len)) ∙ item),
      (λ each. c.is_all.ensures.1 (λ k k_in.
          let within : k < 17 = omega (arith, k_in, c.line_of.ensures.len) in
          c.line_of.ensures.each k within ∙ each k within ∙ sym item)),
    )
