-- The rim of a leaf has the bit of each neighbour: whether it is in the world and split.
--
-- For `Shifts`. The rim is a number of 26 binary digits, in the order of directions (`is_set-binary` of terrain's
-- `BinaryLemmas` reads one); the direction that stays has none, and the leaf itself isn't split. So `is_finer_by-is`
-- goes through the 27 directions by their steps.
use Rattle.std.proofs.Common.{◌≡◌, ℕ, zero, suc, ◌+◌, ◌-◌, ◌<◌, ◌≤◌, Bool, true, false, List, map, sym, ap, ◌∙◌, arith, lit<}
use Rattle.std.specs.Prelude.{◌&&◌}
use Rattle.std.proofs.lemmas.Bool.{and_right}
use Rattle.lattice.specs.declared.node.Node.{Node}
use Rattle.lattice.specs.Node.{IsNode, nodes_across}
use Rattle.lattice.specs.Offset.{Direction, directions, has_neighbour, neighbour}
use Rattle.terrain.specs.Levels.{LevelMap, is_finer, rim}
use Rattle.terrain.proofs.BinaryLemmas.{is_set-binary}
use Rattle.vertex_places.specs.declared.leaf_rim.LeafRim.{LeafRim}
use Rattle.vertex_places.specs.Moves.{is_finer_by}
use Rattle.vertex_places.proofs.Octants.{fits-stay}

-- ---- the bits of a rim

-- whether each of the 26 places is finer, in the order of directions
abbrev finer_bits : ℕ → LevelMap → Node → List Bool
finer_bits depth m n = map (λ d. is_finer depth m d n) directions

-- a leaf of a map with its rim there
abbrev pub leaf_of : ℕ → LevelMap → Node → LeafRim
leaf_of depth m n = record { depth = depth; node = n; rim = rim depth m n }

-- a direction by its steps
abbrev toward : ℕ → ℕ → ℕ → Direction
toward z y x = record { z = z; y = y; x = x }

-- the step that stays leads to the node itself
neighbour-stay : (n : Node) → neighbour (toward 1 1 1) n ≡ n
neighbour-stay n =
    let k : n.k + 1 - 1 ≡ n.k = omega arith in
    let j : n.j + 1 - 1 ≡ n.j = omega arith in
    let i : n.i + 1 - 1 ≡ n.i = omega arith in
    λ t. record { level = n.level; k = k t; j = j t; i = i t }

-- a node is in its world, and a leaf isn't split
pub has_neighbour-stay : (depth : ℕ) (n : Node) → IsNode depth n
    → has_neighbour depth (toward 1 1 1) n ≡ true
has_neighbour-stay depth n in_world =
    let a = nodes_across depth n.level in
    let k = fits-stay n.k a in_world.k in
    let j = fits-stay n.j a in_world.j in
    let i = fits-stay n.i a in_world.i in
    λ t. k t && j t && i t

-- a leaf isn't finer than itself
is_finer-stay : (depth : ℕ) (m : LevelMap) (n : Node) → m n ≡ false
    → is_finer depth m (toward 1 1 1) n ≡ false
is_finer-stay depth m n whole =
    and_right (has_neighbour depth (toward 1 1 1) n) (m (neighbour (toward 1 1 1) n))
    (ap m (neighbour-stay n) ∙ whole)

-- the bit of a place in a rim is whether the place is finer
pub is_finer_by-is : (depth : ℕ) (m : LevelMap) (n : Node) → m n ≡ false
    → (z y x : ℕ) → z ≤ 2 → y ≤ 2 → x ≤ 2
    → is_finer_by (leaf_of depth m n) (toward z y x) ≡ is_finer depth m (toward z y x) n
is_finer_by-is depth m n whole zero zero zero hz hy hx =
    is_set-binary (finer_bits depth m n) 0 (lit< tt)
is_finer_by-is depth m n whole zero zero (suc zero) hz hy hx =
    is_set-binary (finer_bits depth m n) 1 (lit< tt)
is_finer_by-is depth m n whole zero zero (suc (suc zero)) hz hy hx =
    is_set-binary (finer_bits depth m n) 2 (lit< tt)
is_finer_by-is depth m n whole zero (suc zero) zero hz hy hx =
    is_set-binary (finer_bits depth m n) 3 (lit< tt)
is_finer_by-is depth m n whole zero (suc zero) (suc zero) hz hy hx =
    is_set-binary (finer_bits depth m n) 4 (lit< tt)
is_finer_by-is depth m n whole zero (suc zero) (suc (suc zero)) hz hy hx =
    is_set-binary (finer_bits depth m n) 5 (lit< tt)
is_finer_by-is depth m n whole zero (suc (suc zero)) zero hz hy hx =
    is_set-binary (finer_bits depth m n) 6 (lit< tt)
is_finer_by-is depth m n whole zero (suc (suc zero)) (suc zero) hz hy hx =
    is_set-binary (finer_bits depth m n) 7 (lit< tt)
is_finer_by-is depth m n whole zero (suc (suc zero)) (suc (suc zero)) hz hy hx =
    is_set-binary (finer_bits depth m n) 8 (lit< tt)
is_finer_by-is depth m n whole (suc zero) zero zero hz hy hx =
    is_set-binary (finer_bits depth m n) 9 (lit< tt)
is_finer_by-is depth m n whole (suc zero) zero (suc zero) hz hy hx =
    is_set-binary (finer_bits depth m n) 10 (lit< tt)
is_finer_by-is depth m n whole (suc zero) zero (suc (suc zero)) hz hy hx =
    is_set-binary (finer_bits depth m n) 11 (lit< tt)
is_finer_by-is depth m n whole (suc zero) (suc zero) zero hz hy hx =
    is_set-binary (finer_bits depth m n) 12 (lit< tt)
is_finer_by-is depth m n whole (suc zero) (suc zero) (suc zero) hz hy hx =
    sym (is_finer-stay depth m n whole)
is_finer_by-is depth m n whole (suc zero) (suc zero) (suc (suc zero)) hz hy hx =
    is_set-binary (finer_bits depth m n) 13 (lit< tt)
is_finer_by-is depth m n whole (suc zero) (suc (suc zero)) zero hz hy hx =
    is_set-binary (finer_bits depth m n) 14 (lit< tt)
is_finer_by-is depth m n whole (suc zero) (suc (suc zero)) (suc zero) hz hy hx =
    is_set-binary (finer_bits depth m n) 15 (lit< tt)
is_finer_by-is depth m n whole (suc zero) (suc (suc zero)) (suc (suc zero)) hz hy hx =
    is_set-binary (finer_bits depth m n) 16 (lit< tt)
is_finer_by-is depth m n whole (suc (suc zero)) zero zero hz hy hx =
    is_set-binary (finer_bits depth m n) 17 (lit< tt)
is_finer_by-is depth m n whole (suc (suc zero)) zero (suc zero) hz hy hx =
    is_set-binary (finer_bits depth m n) 18 (lit< tt)
is_finer_by-is depth m n whole (suc (suc zero)) zero (suc (suc zero)) hz hy hx =
    is_set-binary (finer_bits depth m n) 19 (lit< tt)
is_finer_by-is depth m n whole (suc (suc zero)) (suc zero) zero hz hy hx =
    is_set-binary (finer_bits depth m n) 20 (lit< tt)
is_finer_by-is depth m n whole (suc (suc zero)) (suc zero) (suc zero) hz hy hx =
    is_set-binary (finer_bits depth m n) 21 (lit< tt)
is_finer_by-is depth m n whole (suc (suc zero)) (suc zero) (suc (suc zero)) hz hy hx =
    is_set-binary (finer_bits depth m n) 22 (lit< tt)
is_finer_by-is depth m n whole (suc (suc zero)) (suc (suc zero)) zero hz hy hx =
    is_set-binary (finer_bits depth m n) 23 (lit< tt)
is_finer_by-is depth m n whole (suc (suc zero)) (suc (suc zero)) (suc zero) hz hy hx =
    is_set-binary (finer_bits depth m n) 24 (lit< tt)
is_finer_by-is depth m n whole (suc (suc zero)) (suc (suc zero)) (suc (suc zero)) hz hy hx =
    is_set-binary (finer_bits depth m n) 25 (lit< tt)
is_finer_by-is depth m n whole (suc (suc (suc z))) y x hz hy hx = absurd (omega arith)
is_finer_by-is depth m n whole z (suc (suc (suc y))) x hz hy hx = absurd (omega arith)
is_finer_by-is depth m n whole z y (suc (suc (suc x))) hz hy hx = absurd (omega arith)
