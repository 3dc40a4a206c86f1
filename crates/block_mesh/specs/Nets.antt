-- What the triangles of a leaf leave open: the curves of the faces of its cells. This project's rule.
use Rattle.std.specs.Prelude.{◌≡◌, ℕ, ◌++◌, List, map, slice_index_or}
use Rattle.std.specs.List.{flat_map}
use Rattle.lattice.specs.declared.key.Key.{Key}
use Rattle.lattice.specs.declared.node.Node.{Node}
use Rattle.lattice.specs.declared.point.Axis.TheVariants.{X}
use Rattle.lattice.specs.declared.point.Face.{Face}
use Rattle.lattice.specs.declared.point.Point.{Point}
use Rattle.lattice.specs.Face.{faces}
use Rattle.terrain.specs.Samples.{Field}
use Rattle.terrain.specs.Levels.{LevelMap}
use Rattle.terrain.specs.Curves.{all_edges}
use Rattle.terrain.specs.Blocks.{Brick, net, over_cells, over_squares, over_transitional}
use Rattle.cell_laws.specs.Squares.{nine_places, regular_square, transition_face}
use Rattle.bricks.specs.Brick.{HasBrick}
use Rattle.terrain.specs.MeshLists.{MeshLists}

-- the key at an index of a list
abbrev pub listed_key : List Key → ℕ → Key
listed_key keys place =
    slice_index_or keys place (record { level = 0; at = record { z = 0; y = 0; x = 0 }; axis = X })

-- the directed edges of a mesh's triangles
abbrev pub mesh_edges : MeshLists → List (Key × Key)
mesh_edges lists = all_edges (map (map (listed_key lists.keys)) lists.triangles)

-- the curves of the six faces of a regular cell, and those of the nine faces of a transition cell
abbrev pub regular_curves : Field → ℕ → Point → List (Key × Key)
regular_curves s level low = flat_map (λ face. regular_square s level face low) faces

abbrev pub transition_curves : Field → ℕ → Face → Point → List (Key × Key)
transition_curves s level face low = flat_map (transition_face s level face low) nine_places

-- the curves of the faces of all cells of a leaf: of its regular cells, then of its transition cells
abbrev pub leaf_curves : ℕ → Field → LevelMap → Node → List (Key × Key)
leaf_curves depth s m n =
    over_cells n (regular_curves s n.level)
    ++ over_transitional depth m n
    (λ face. over_squares n face (transition_curves s n.level face))

-- a mesh leaves open just these curves: for any two keys, the directed edges of its triangles from the one to the other
-- less those back are the sum of the same difference over them, in each field and level map that have the brick
pub record LeavesCurves (b : Brick) (lists : MeshLists) : Type 0 where
  pub sums : (s : Field) (m : LevelMap) → HasBrick s m b → (x y : Key)
      → net (mesh_edges lists) x y ≡ net (leaf_curves b.depth s m b.node) x y
