-- The samples of a leaf by its points, and the fields that have a brick's samples. The mesher above takes them too.
--
-- A sample is found by the steps to its point (`leaf_samples-at`), and by its slot, from which the steps are told
-- (`leaf_samples-slot`): so leaves are filled whose points are further apart than a page's side.
use Rattle.std.proofs.Common.{◌≡◌, ℕ, ◌+◌, ◌*◌, ◌/◌, ◌%◌, ◌<◌, List, [], ◌∷◌, length, get_or, ℤ, sym, ap, ◌∙◌, arith}
use Rattle.std.proofs.Math.Logic.{∥∥₁_map}
use Rattle.lattice.specs.declared.node.Node.{Node}
use Rattle.lattice.specs.declared.point.Point.{Point}
use Rattle.lattice.specs.Lists.{joined}
use Rattle.terrain.specs.Samples.{Field}
use Rattle.terrain.specs.Levels.{LevelMap}
use Rattle.terrain.specs.Blocks.{Brick, cell_corner, leaf_samples}
use Rattle.bricks.specs.Brick.{HasBrick, HasSamples, IsBrick}
use Rattle.bricks.specs.Slots.{point_slot}
use Rattle.lattice.specs.Steps.{AreAtMost, point_at}
use Rattle.bricks.proofs.BrickLemmas.{brick-faces, brick-samples}
use Rattle.lattice.proofs.RowLemmas.{get_or-rows, get_or-singles, length-rows, length-singles}

-- a sample of a leaf by its point
pub leaf_samples-at : (s : Field) (n : Node) (at : Point) (d : ℤ) → AreAtMost 16 at
    → get_or (leaf_samples s n) (point_slot at) d ≡ s (point_at n.level n at)
leaf_samples-at s n at d within =
    let sample : ℕ → ℕ → ℕ → ℤ = λ z y x. s (cell_corner n z y x) in
    let row : ℕ → ℕ → List ℤ = λ z y. joined 17 (λ x. sample z y x ∷ []) in
    let layer : ℕ → List ℤ = λ z. joined 17 (row z) in
    let long : (z y : ℕ) → length (row z y) ≡ 17 = λ z y. length-singles 17 (sample z y) in
    let large : (z : ℕ) → length (layer z) ≡ 289 =
    λ z. length-rows 17 17 (row z) (λ y y_in. long z y) in
    let place : point_slot at ≡ at.z * 289 + (at.y * 17 + at.x) = omega arith in
    ap (λ k. get_or (leaf_samples s n) k d) place
    ∙ get_or-rows 289 17 layer (λ z z_in. large z) at.z (at.y * 17 + at.x) d
    (omega (arith, within.z)) (omega (arith, within.y, within.x))
    ∙ get_or-rows 17 17 (row at.z) (λ y y_in. long at.z y) at.y at.x d (omega (arith, within.y))
    (omega (arith, within.x))
    ∙ get_or-singles 17 (sample at.z at.y) at.x d (omega (arith, within.x))

-- the steps to the point of a leaf in a slot
abbrev pub slot_steps : ℕ → Point
slot_steps slot = record { z = slot / 289; y = slot / 17 % 17; x = slot % 17 }

-- lead to a point of the leaf
pub slot_steps-few : (slot : ℕ) → slot < 4913 → AreAtMost 16 (slot_steps slot)
slot_steps-few slot slot_in = record { z = omega arith; y = omega arith; x = omega arith }

-- those of a slot of a line, counted from plane to plane
pub line_steps : (line x : ℕ) → x < 17
    → slot_steps (17 * line + x) ≡ record { z = line / 17; y = line % 17; x = x }
line_steps line x x_in =
    let z : (17 * line + x) / 289 ≡ line / 17 = omega arith in
    let y : (17 * line + x) / 17 % 17 ≡ line % 17 = omega arith in
    let rest : (17 * line + x) % 17 ≡ x = omega arith in
    λ i. record { z = z i; y = y i; x = rest i }

-- a sample of a leaf by its slot
pub leaf_samples-slot : (s : Field) (n : Node) (slot : ℕ) (d : ℤ) → slot < 4913
    → get_or (leaf_samples s n) slot d ≡ s (point_at n.level n (slot_steps slot))
leaf_samples-slot s n slot d slot_in =
    let place : point_slot (slot_steps slot) ≡ slot = omega arith in
    ap (λ k. get_or (leaf_samples s n) k d) (sym place)
    ∙ leaf_samples-at s n (slot_steps slot) d (slot_steps-few slot slot_in)

-- ---- the fields and maps that have a brick

-- a field that has a brick has its samples
pub has-samples : (s : Field) (m : LevelMap) (b : Brick) → HasBrick s m b → HasSamples s b
has-samples s m b has = record {
  leaf = brick-samples b b.depth s m has.same;
  faces = brick-faces b b.depth s m has.same;
}

-- some field has the samples of a brick
pub IsBrick-field : (b : Brick) → IsBrick b → ∥ ((s : Field) × HasSamples s b) ∥₁
IsBrick-field b is =
    ∥∥₁_map is.source (λ given. (given.0, has-samples given.0 given.1 b given.2))
