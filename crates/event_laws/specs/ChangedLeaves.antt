-- The leaves that a change of levels makes new or gives another rim.
-- Source: this project's rule.
use Rattle.std.specs.Prelude.{ℕ, Bool, ◌||◌, not, ◌==◌, List, filter}
use Rattle.lattice.specs.declared.node.Node.{Node}
use Rattle.terrain.specs.Levels.{LevelMap, is_leaf, leaves, rim}

-- whether a leaf after a change of levels wasn't a leaf before it, or has another rim
abbrev pub is_changed : ℕ → LevelMap → LevelMap → Node → Bool
is_changed depth before after n =
    not (is_leaf depth before n) || not (rim depth before n == rim depth after n)

-- the leaves after a change of levels that weren't leaves before it, or have another rim, in the order of nodes
abbrev pub changed_leaves : ℕ → LevelMap → LevelMap → List Node
changed_leaves depth before after = filter (is_changed depth before after) (leaves depth after)
