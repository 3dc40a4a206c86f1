-- The leaf's samples are compared with as many of the one.
use Rattle.std.proofs.Common.{◌≡◌, replicate, to_z, of_z, w8, sym, ap, ◌∙◌}
use Rattle.std.proofs.lemmas.Int.{to_z-of_z}
use Rattle.bricks.proofs.brick.has_even_leaf.Goals as goal

pub returns : goal.returns
returns c =
    let sample = c.args.sample in
    let item : to_z w8 (of_z w8 sample) ≡ sample = to_z-of_z w8 sample c.ranges.sample in (
      (λ on. ap (replicate 4913) (sym item) ∙ c.has_leaf.ensures.0 on),
      (λ is. c.has_leaf.ensures.1 (ap (replicate 4913) item ∙ is)),
    )

pub returns-then-leaf-ge-MAX_PAGE_LEVEL : goal.returns-then-leaf-ge-MAX_PAGE_LEVEL
returns-then-leaf-ge-MAX_PAGE_LEVEL c =
    let sample = c.args.sample in
    let item : to_z w8 (of_z w8 sample) ≡ sample = to_z-of_z w8 sample c.ranges.sample in (
      (λ on. ap (replicate 4913) (sym item) ∙ c.has_even_points.ensures.0 on),
      (λ is. c.has_even_points.ensures.1 (ap (replicate 4913) item ∙ is)),
    )
