-- How large worlds, nodes and rows of nodes are, and where their corners are. For the laws `sizes_of_worlds` and
-- `nodes_of_worlds`.
--
-- All sizes are powers of 2 with exponents up to the greatest depth. A row of nodes is as long as the world
-- (`across_side`), so each node ends inside it (`end_inside`, `corner_inside`); and what is in a world is in the
-- greatest one.
use Rattle.std.proofs.Common.{◌≡◌, ℕ, ◌+◌, ◌-◌, ◌*◌, ◌^◌, ◌<◌, ◌≤◌, subst, arith}
use Rattle.std.proofs.lemmas.Nat.{mul-le, pow-add}
use Rattle.std.proofs.Math.Pow.{pow_mono}
use Rattle.lattice.specs.declared.node.Node.{Node}
use Rattle.lattice.specs.declared.node.TheConstants.{CELLS}
use Rattle.lattice.specs.declared.point.Point.{Point}
use Rattle.lattice.specs.declared.settings.TheConstants.{MAX_DEPTH, MAX_SIDE}
use Rattle.lattice.specs.Node.{IsNode, high_corner, node_side, nodes_across}
use Rattle.lattice.specs.Point.{IsInWorld}
use Rattle.lattice.specs.Settings.{IsDepth, world_side}

-- no row of nodes is longer than that of fine nodes in the greatest world
pub across_most : (depth level : ℕ) → IsDepth depth → nodes_across depth level ≤ 2 ^ MAX_DEPTH
across_most depth level h =
    let low : depth - level ≤ MAX_DEPTH = omega arith in
    pow_mono low

-- no cube of a level up to the greatest depth is larger than the greatest world
pub side_most : (level : ℕ) → IsDepth level → CELLS * 2 ^ level ≤ MAX_SIDE
side_most level h =
    let power : 2 ^ level ≤ 2 ^ MAX_DEPTH = pow_mono h in
    omega arith

-- the nodes of a level in a row are as long as the world
pub across_side : (depth level : ℕ) → level ≤ depth
    → nodes_across depth level * node_side level ≡ world_side depth
across_side depth level h =
    let parts : 2 ^ (depth - level + level) ≡ 2 ^ (depth - level) * 2 ^ level =
    pow-add 2 (depth - level) level in
    let whole : depth - level + level ≡ depth = omega arith in
    let P : ℕ → Type 0 = λ n. 2 ^ n ≡ 2 ^ (depth - level) * 2 ^ level in
    let whole_power : 2 ^ depth ≡ 2 ^ (depth - level) * 2 ^ level = subst P whole parts in
    grind (arith, whole_power)

-- where a node of the world ends is in the world
pub end_inside : (depth level index : ℕ) → level ≤ depth → index < nodes_across depth level
    → (index + 1) * node_side level ≤ world_side depth
end_inside depth level index h below =
    let row = across_side depth level h in
    let within =
    mul-le (index + 1) (node_side level) (nodes_across depth level) (node_side level)
    (omega arith) (omega arith) in
    omega (arith, row, within)

-- the high corner of a node of the world is in the world
pub corner_inside : (depth : ℕ) (n : Node) → IsNode depth n → IsInWorld depth (high_corner n)
corner_inside depth n h = record {
  z = end_inside depth n.level n.k h.level h.k;
  y = end_inside depth n.level n.j h.level h.j;
  x = end_inside depth n.level n.i h.level h.i;
}

-- a node or a point of a world is one of the greatest world
pub node_of_greatest : (depth : ℕ) (n : Node) → IsDepth depth → IsNode depth n → IsNode MAX_DEPTH n
node_of_greatest depth n h node =
    let more : nodes_across depth n.level ≤ nodes_across MAX_DEPTH n.level =
    pow_mono (omega arith) in
    record {
      level = omega (arith, node.level);
      k = omega (arith, node.k);
      j =
          omega (arith, node.j);
      i = omega (arith, node.i);
    }

-- a point of a world is one of the greatest world
pub point_of_greatest : (depth : ℕ) (p : Point) → IsDepth depth → IsInWorld depth p
    → IsInWorld MAX_DEPTH p
point_of_greatest depth p h inside =
    let more : 2 ^ depth ≤ 2 ^ MAX_DEPTH = pow_mono h in
    record { z = omega (arith, inside.z); y = omega (arith, inside.y); x = omega (arith, inside.x) }
