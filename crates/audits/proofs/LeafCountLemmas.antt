-- How many leaves a world has at most.
use Rattle.std.proofs.Common.{◌≡◌, ℕ, ◌≤◌, Bool, List, length, ap, ◌∙◌, arith}
use Rattle.std.specs.Prelude.{filter}
use Rattle.std.proofs.lemmas.List.Sums.{count_by-le-length, length-filter}
use Rattle.lattice.proofs.CountLemmas.{nodes_most}
use Rattle.lattice.specs.declared.node.Node.{Node}
use Rattle.lattice.specs.Node.{nodes}
use Rattle.lattice.specs.Settings.{IsDepth}
use Rattle.terrain.specs.Levels.{LevelMap, is_leaf, leaves}
use Rattle.audits.specs.declared.leaves.TheConstants.{MAX_LEAVES}

-- what passes a test isn't more
length-filter-le : {A : Type 0} (p : A → Bool) (xs : List A) → length (filter p xs) ≤ length xs
length-filter-le p xs = omega (arith, length-filter p xs, count_by-le-length p xs)

-- the leaves of a world are at most so many
pub length-leaves : (depth : ℕ) (m : LevelMap) → IsDepth depth
    → length (leaves depth m) ≤ MAX_LEAVES
length-leaves depth m allowed =
    omega (
      arith,
      nodes_most depth allowed,
      length-filter-le (is_leaf depth m) (nodes depth),
    )

-- so is a list of them, in a world of the depth of allowed settings
pub few_leaves : (own depth : ℕ) (m : LevelMap) (listed items : List Node) → IsDepth own
    → depth ≡ own → listed ≡ items → items ≡ leaves depth m → length listed ≤ MAX_LEAVES
few_leaves own depth m listed items allowed at listed_is items_are =
    omega (arith, ap length (listed_is ∙ items_are), length-leaves depth m (omega (arith, allowed)))
