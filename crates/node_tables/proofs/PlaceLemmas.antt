-- The node at a place of the order of nodes: its level's nodes stand behind those of the lower levels, by planes, rows
-- and places in a row. For `node_at`, which takes the levels off a place one by one.
-- What is left in its level is a place of a cube, so planes, rows and places in a row are told by divisions (`parted`,
-- `IsNode-node_of`); the slot of such a node is the place again, and the list of nodes has a node at its slot
-- (`IsAtPlace-in_level`). Behind all other levels is the root (`IsAtPlace-root`).
use Rattle.std.proofs.Common.{◌≡◌, ℕ, ◌+◌, ◌-◌, ◌*◌, ◌/◌, ◌%◌, ◌^◌, ◌<◌, ◌≤◌, Some, length, ap, arith, subst, sym, ◌∙◌}
use Rattle.std.specs.Prelude.{slice_get}
use Rattle.std.proofs.Math.Nat.{pow-suc, pow-zero}
use Rattle.std.proofs.lemmas.Nat.{div-add-mod', div_below, mod_below, pow_pos}
use Rattle.lattice.specs.declared.node.Node.{Node}
use Rattle.lattice.specs.Lists.{joined}
use Rattle.lattice.specs.Node.{IsNode, level_nodes, nodes, nodes_across, root, slot}
use Rattle.lattice.proofs.SlotLemmas.{node_at_slot, slot_is}

-- ---- the node of a place in its level

-- the row, the plane and the place in the row of a place of a cube
parted : (a place : ℕ) → (place / a / a * a + place / a % a) * a + place % a ≡ place
parted a place =
    ap (λ n. n * a + place % a) (div-add-mod' (place / a) a) ∙ div-add-mod' place a

-- a place of a cube is in a plane of it
plane_in : (a place : ℕ) → 0 < a → place < a ^ 3 → place / a / a < a
plane_in a place some within =
    let cubed : a ^ 3 ≡ a * a * a = rw (pow-suc, pow-suc, pow-suc, pow-zero) (omega arith) in
    div_below (place / a) a a some (div_below place a (a * a) some (omega arith))

-- the node of a level that has so many of it before it, in rows of a nodes
abbrev pub node_of : ℕ → ℕ → ℕ → Node
node_of a level before = record {
  level = level;
  k = before / a / a;
  j = before / a % a;
  i = before % a;
}

-- it is in the world
IsNode-node_of : (depth level before : ℕ) → level ≤ depth → before < nodes_across depth level ^ 3
    → IsNode depth (node_of (nodes_across depth level) level before)
IsNode-node_of depth level before level_in within =
    let a = nodes_across depth level in
    let some : 0 < a = pow_pos (depth - level) in
    record {
      level = level_in;
      k = plane_in a before some within;
      j = mod_below (before / a) a some;
      i = mod_below before a some;
    }

-- ---- what is said of the node of a place

pub record IsAtPlace (depth place : ℕ) (n : Node) : Type 0 where
  pub listed : slice_get (nodes depth) place ≡ Some n
  pub node : IsNode depth n
  pub at_slot : slot depth n ≡ place

-- a node with that slot is all that
IsAtPlace-from : (depth place : ℕ) (n : Node) → IsNode depth n
    → slot depth n ≡ place → IsAtPlace depth place n
IsAtPlace-from depth place n node at = record {
  listed = ap (slice_get (nodes depth)) (sym at) ∙ node_at_slot depth n node;
  node = node;
  at_slot = at;
}

-- a place in the nodes of a level is that of the node which the code finds there
pub IsAtPlace-in_level : (depth level place before across : ℕ) → level ≤ depth
    → place ≡ length (joined level (level_nodes depth)) + before
    → across ≡ nodes_across depth level → before < across ^ 3
    → IsAtPlace depth place (node_of across level before)
IsAtPlace-in_level depth level place before across level_in place_is across_is within =
    let a = nodes_across depth level in
    let node = IsNode-node_of depth level before level_in
    (omega (arith, ap (λ n. n ^ 3) across_is)) in
    let there = slot_is depth (node_of a level before) node in
    subst (λ n. IsAtPlace depth place (node_of n level before)) (sym across_is)
    (IsAtPlace-from depth place (node_of a level before) node
    (omega (arith, there, parted a before)))

-- ---- the root

-- the root's slot is its place
pub IsAtPlace-root : (depth place : ℕ) → slot depth (root depth) ≡ place
    → IsAtPlace depth place (root depth)
IsAtPlace-root depth place at =
    let some : 0 < nodes_across depth depth = pow_pos (depth - depth) in
    IsAtPlace-from depth place (root depth)
    (record { level = omega arith; k = some; j = some; i = some }) at
