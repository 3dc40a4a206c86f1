-- The bits of a rim, row by row of the places around a node.
use Rattle.std.specs.Prelude.{ℕ, ◌+◌, ◌-◌, Bool, ◌&&◌, List, [], ◌∷◌, ◌++◌, map, nat_lt}
use Rattle.lattice.specs.declared.node.Node.{Node}
use Rattle.terrain.specs.Levels.{is_finer}
use Rattle.octree.specs.SplitBits.{SplitBits, row_bit, split_at}

-- the bits of a row before an index, at it and behind it
abbrev pub bits_beside : ℕ → ℕ → List Bool
bits_beside row i =
    (nat_lt 0 i && row_bit row (i - 1)) ∷ row_bit row i ∷ row_bit row (i + 1) ∷ []

-- whether the places are finer in the three directions of a row, by their steps on z and y
abbrev pub row_of_rim : SplitBits → Node → ℕ → ℕ → List Bool
row_of_rim levels n z y =
    map (λ x. is_finer levels.depth (split_at levels) (record { z = z; y = y; x = x }) n)
    (0 ∷ 1 ∷ 2 ∷ [])

-- in the nine directions of a plane, by their step on z
abbrev pub plane_of_rim : SplitBits → Node → ℕ → List Bool
plane_of_rim levels n z =
    row_of_rim levels n z 0 ++ (row_of_rim levels n z 1 ++ row_of_rim levels n z 2)
