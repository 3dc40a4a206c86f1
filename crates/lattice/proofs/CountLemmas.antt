-- How many nodes there are in a level, in the levels below one, and in a world. For the law `counts_of_nodes`.
--
-- A level has the third power of its row, and adds to the levels below (`one_level_more`); the highest has the root
-- alone, which so has the last slot (`slot_of_root`). No level of any world has more nodes than level 0 of the greatest
-- one (`level_most`), which bounds all counts. A level has an eighth of the nodes of the one below it, so the levels
-- below one are a sum of powers of eight (`levels_below`).
use Rattle.std.proofs.Common.{◌≡◌, ℕ, zero, suc, ◌+◌, ◌-◌, ◌*◌, ◌^◌, ◌<◌, ◌≤◌, length, refl, ap, sym, ◌∙◌, arith}
use Rattle.std.proofs.Math.Nat.{pow-le-pow_left, pow-suc}
use Rattle.std.proofs.lemmas.List.{length-append}
use Rattle.std.proofs.lemmas.Nat.{mul-pow, pow_pos}
use Rattle.lattice.specs.declared.settings.TheConstants.{MAX_DEPTH}
use Rattle.lattice.specs.Lists.{joined}
use Rattle.lattice.specs.Node.{IsNode, level_nodes, nodes, nodes_across, root, slot}
use Rattle.lattice.specs.Settings.{IsDepth}
use Rattle.lattice.proofs.JoinedLemmas.{joined-more}
use Rattle.lattice.proofs.NodeLemmas.{cubed}
use Rattle.lattice.proofs.SizeLemmas.{across_most}
use Rattle.lattice.proofs.SlotLemmas.{length-level_nodes, slot_is}

-- below level 0 there are none
pub none_below : (depth : ℕ) → length (joined 0 (level_nodes depth)) ≡ 0
unfolding joined
none_below depth = refl

-- a level adds its nodes
pub one_level_more : (depth level : ℕ) → length (joined (level + 1) (level_nodes depth))
    ≡ length (joined level (level_nodes depth)) + nodes_across depth level ^ 3
one_level_more depth level =
    let f = level_nodes depth in
    ap length (joined-more level f) ∙ length-append (joined level f) (f level)
    ∙ ap (λ n. length (joined level f) + n) (length-level_nodes depth level)

-- and the last level the root alone
pub all_and_root : (depth : ℕ) → length (nodes depth)
    ≡ length (joined depth (level_nodes depth)) + 1
all_and_root depth =
    let none : depth - depth ≡ 0 = omega arith in
    one_level_more depth depth
    ∙ ap (λ n. length (joined depth (level_nodes depth)) + (2 ^ n) ^ 3) none

-- so the root has the last slot
pub slot_of_root : (depth : ℕ) → slot depth (root depth) + 1 ≡ length (nodes depth)
slot_of_root depth =
    let some : 0 < nodes_across depth depth = pow_pos (depth - depth) in
    let inside : IsNode depth (root depth) =
    record { level = omega arith; k = some; j = some; i = some } in
    omega (arith, slot_is depth (root depth) inside, all_and_root depth)

-- ---- in powers of eight

-- a cube has as many nodes as its row, three times multiplied
cube_of_row : (n : ℕ) → (2 ^ n) ^ 3 ≡ 8 ^ n
cube_of_row n =
    cubed (2 ^ n) ∙ sym (mul-pow 2 4 n ∙ ap (λ x. 2 ^ n * x) (mul-pow 2 2 n))

-- seven times the nodes of the lower levels, and the nodes that a level more on their side would have, are those that a
-- level below level 0 would have
pub levels_below : (depth level : ℕ) → level ≤ depth + 1
    → 7 * length (joined level (level_nodes depth)) + 8 ^ (depth + 1 - level) ≡ 8 ^ (depth + 1)
levels_below depth zero within =
    let all : depth + 1 - 0 ≡ depth + 1 = omega arith in
    let none : 8 ^ (depth + 1 - 0) ≡ 8 ^ (depth + 1) = ap (λ k. 8 ^ k) all in
    omega (arith, none_below depth, none)
levels_below depth (suc level) within =
    let up : depth + 1 - level ≡ suc (depth - level) = omega arith in
    let here : depth + 1 - suc level ≡ depth - level = omega arith in
    let more : 8 ^ (depth + 1 - level) ≡ 8 * 8 ^ (depth - level) =
    ap (λ k. 8 ^ k) up ∙ omega (arith, pow-suc 8 (depth - level)) in
    let next : suc level ≡ level + 1 = omega arith in
    let so_far = ap (λ l. length (joined l (level_nodes depth))) next
    ∙ one_level_more depth level in
    ap (λ k. 7 * length (joined (suc level) (level_nodes depth)) + 8 ^ k) here
    ∙ omega (
      arith,
      more,
      so_far,
      cube_of_row (depth - level),
      levels_below depth level (omega arith),
    )

-- ---- bounds

-- no level has more than the lowest of the greatest world
pub level_most : (depth level : ℕ) → IsDepth depth
    → nodes_across depth level ^ 3 ≤ (2 ^ MAX_DEPTH) ^ 3
level_most depth level allowed = pow-le-pow_left (across_most depth level allowed) 3

-- so the levels below one have no more than so many of these
pub levels_most : (depth level : ℕ) → IsDepth depth
    → length (joined level (level_nodes depth)) ≤ (2 ^ MAX_DEPTH) ^ 3 * level
unfolding joined
levels_most depth zero allowed = omega arith
levels_most depth (suc level) allowed =
    omega (
      arith,
      length-append (joined level (level_nodes depth)) (level_nodes depth level),
      length-level_nodes depth level,
      level_most depth level allowed,
      levels_most depth level allowed,
    )

-- and a world no more than as many as the greatest has levels
pub nodes_most : (depth : ℕ) → IsDepth depth
    → length (nodes depth) ≤ (2 ^ MAX_DEPTH) ^ 3 * (MAX_DEPTH + 1)
nodes_most depth allowed = omega (arith, levels_most depth (depth + 1) allowed)
