-- The leaf's samples are compared first, then those of the faces.
use Rattle.std.proofs.Common.{◌≡◌, ℤ, replicate, to_z, of_z, w8, sym, ap, ◌∙◌}
use Rattle.std.proofs.lemmas.Bool.{false≢true}
use Rattle.std.proofs.lemmas.Int.{to_z-of_z}
use Rattle.bricks.specs.Brick.{over_rim}
use Rattle.bricks.proofs.brick.has_one_sample_by_points.Goals as goal

pub returns-then-has_even_leaf : goal.returns-then-has_even_leaf
returns-then-has_even_leaf c =
    let sample = c.args.sample in
    let item : to_z w8 (of_z w8 sample) ≡ sample = to_z-of_z w8 sample c.ranges.sample in
    let fines = ap (λ (v : ℤ). over_rim c.args.rim (λ _. replicate 1089 v)) item in (
      (λ on. record {
        leaf = ap (replicate 4913) (sym item) ∙ c.has_even_leaf.ensures.0 c.if-has_even_leaf.true;
        faces = sym fines ∙ c.has_even_faces.ensures.0 on;
      }),
      (λ are. c.has_even_faces.ensures.1 (fines ∙ are.faces)),
    )

pub returns-else-has_even_leaf : goal.returns-else-has_even_leaf
returns-else-has_even_leaf c =
    let item = to_z-of_z w8 c.args.sample c.ranges.sample in (
      (λ t. absurd (false≢true (sym c.if-has_even_leaf.false ∙ t))),
      (λ are. c.has_even_leaf.ensures.1 (ap (replicate 4913) item ∙ are.leaf)),
    )
