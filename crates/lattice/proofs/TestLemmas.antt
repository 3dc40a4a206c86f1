-- The tests of nodes and of points in a box agree with the facts. For the laws `nodes_of_worlds` and
-- `points_of_regions`.
--
-- A test is a chain of comparisons, a fact is a record with a field for each; so one way takes the chain apart, and the
-- other puts it together.
--
-- Offered to the proofs of the crates above, which import them: `node_test`, `region_test` and `region_inside`.
use Rattle.std.proofs.Common.{◌≡◌, ℕ, true, ◌&&◌, arith}
use Rattle.std.specs.Prelude.{◌↔◌, IsTrue, nat_le, nat_lt}
use Rattle.std.proofs.lemmas.Bool.{and_from, and_parts, leb-true, le-leb, ltb-true, lt-ltb}
use Rattle.lattice.specs.declared.node.Node.{Node}
use Rattle.lattice.specs.declared.point.Point.{Point}
use Rattle.lattice.specs.declared.region.Region.{Region}
use Rattle.lattice.specs.Node.{IsNode, is_node, nodes_across}
use Rattle.lattice.specs.Point.{IsInWorld}
use Rattle.lattice.specs.Region.{IsRegion, IsWithin, is_within}

-- the fact from the test
to_node : (depth : ℕ) (n : Node) → is_node depth n ≡ true → IsNode depth n
to_node depth n h =
    let across = nodes_across depth n.level in
    let a = and_parts (nat_le n.level depth && nat_lt n.k across
    && nat_lt n.j across) (nat_lt n.i across) h in
    let b = and_parts (nat_le n.level depth && nat_lt n.k across) (nat_lt n.j across) a.0 in
    let c = and_parts (nat_le n.level depth) (nat_lt n.k across) b.0 in
    record {
      level = leb-true n.level depth c.0;
      k = ltb-true n.k across c.1;
      j = ltb-true n.j across b.1;
      i = ltb-true n.i across a.1;
    }

-- the test from the fact
from_node : (depth : ℕ) (n : Node) → IsNode depth n → is_node depth n ≡ true
from_node depth n h =
    let across = nodes_across depth n.level in
    let level_and_k = and_from _ _ (le-leb n.level depth h.level) (lt-ltb n.k across h.k) in
    and_from _ _ (and_from _ _ level_and_k (lt-ltb n.j across h.j)) (lt-ltb n.i across h.i)

-- the test of a node of the world passes exactly for the nodes of the world
pub node_test : (depth : ℕ) (n : Node) → IsTrue (is_node depth n) ↔ IsNode depth n
node_test depth n = (to_node depth n, from_node depth n)

-- the fact from the test
to_within : (box : Region) (p : Point) → is_within box p ≡ true → IsWithin box p
to_within box p h =
    let z = nat_le box.lo.z p.z in
    let z_end = nat_le p.z box.hi.z in
    let y = nat_le box.lo.y p.y in
    let y_end = nat_le p.y box.hi.y in
    let x = nat_le box.lo.x p.x in
    let x_end = nat_le p.x box.hi.x in
    let a = and_parts (z && z_end && y && y_end && x) x_end h in
    let b = and_parts (z && z_end && y && y_end) x a.0 in
    let c = and_parts (z && z_end && y) y_end b.0 in
    let d = and_parts (z && z_end) y c.0 in
    let e = and_parts z z_end d.0 in
    record {
      z = leb-true box.lo.z p.z e.0;
      z_end = leb-true p.z box.hi.z e.1;
      y = leb-true box.lo.y p.y d.1;
      y_end = leb-true p.y box.hi.y c.1;
      x = leb-true box.lo.x p.x b.1;
      x_end = leb-true p.x box.hi.x a.1;
    }

-- the test from the fact
from_within : (box : Region) (p : Point) → IsWithin box p → is_within box p ≡ true
from_within box p h =
    let z = and_from _ _ (le-leb box.lo.z p.z h.z) (le-leb p.z box.hi.z h.z_end) in
    let y = and_from _ _ (and_from _ _ z (le-leb box.lo.y p.y h.y)) (le-leb p.y box.hi.y h.y_end) in
    and_from _ _ (and_from _ _ y (le-leb box.lo.x p.x h.x)) (le-leb p.x box.hi.x h.x_end)

-- the test of a point in a box passes exactly for the points in it
pub region_test : (box : Region) (p : Point) → IsTrue (is_within box p) ↔ IsWithin box p
region_test box p = (to_within box p, from_within box p)

-- the points in a box of the world are points of the world
pub region_inside : (depth : ℕ) (box : Region) (p : Point) → IsRegion depth box → IsWithin box p
    → IsInWorld depth p
region_inside depth box p box_in p_in = record {
  z = omega (arith, box_in.high.z, p_in.z_end);
  y = omega (arith, box_in.high.y, p_in.y_end);
  x = omega (arith, box_in.high.x, p_in.x_end);
}
