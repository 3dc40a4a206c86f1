-- Which cells have a square as a face, and which lateral faces lie round a segment. This project's rule.
use Rattle.std.specs.Prelude.{ℕ, ◌+◌, Bool, true, false, ◌&&◌, List, [], ◌∷◌, ◌++◌, if◌then◌else◌}
use Rattle.lattice.specs.declared.node.Node.{Node}
use Rattle.lattice.specs.Node.{parent}
use Rattle.terrain.specs.Levels.{LevelMap, is_leaf}

-- 1 where a test passes, and else 0
abbrev pub one_if : Bool → ℕ
one_if true = 1
one_if false = 0

-- how many cells on the side of one of two nodes have a square of their level between them as a face: a regular cell
-- of the node, if it is a leaf; a transition cell of it, by its coarse square, if the other node is split; and one of
-- the leaf around it, by a fine square, if the other node lies in a split node
abbrev pub cells_beside : ℕ → LevelMap → Node → Node → ℕ
cells_beside depth m here there =
    one_if (is_leaf depth m here) + one_if (is_leaf depth m here && m there)
    + one_if (is_leaf depth m (parent here) && m (parent there))

-- the turn of the lateral face at a step from one node to another beside it, if there is one: whether the step leads
-- from a leaf into a split node (true), or from a split node to a leaf
abbrev pub turn_between : ℕ → LevelMap → Node → Node → List Bool
turn_between depth m from to =
    if is_leaf depth m from && m to then true ∷ []
    else if is_leaf depth m to && m from then false ∷ [] else []

-- the turns round four nodes, step by step
abbrev pub turns_round : ℕ → LevelMap → Node → Node → Node → Node → List Bool
turns_round depth m a b c d =
    turn_between depth m a b ++ turn_between depth m b c ++ turn_between depth m c d
    ++ turn_between depth m d a
