-- The laws of keys, nets and triangles as statements with names, for the law's own clause and for the proofs that rest
-- on it.
-- Source: this project's rule.
use Rattle.std.specs.Prelude.{◌≡◌, ℕ, ◌≤◌, ◌↔◌, IsTrue, List, length}
use Rattle.std.specs.List.{flat_map}
use Rattle.lattice.specs.declared.key.Key.{Key}
use Rattle.lattice.specs.declared.node.Node.{Node}
use Rattle.lattice.specs.declared.point.Face.{Face}
use Rattle.lattice.specs.declared.point.Point.{Point}
use Rattle.lattice.specs.Face.{faces}
use Rattle.lattice.specs.Key.{is_same_key}
use Rattle.terrain.specs.declared.cells.TheConstants.{LEAF_TRIANGLES}
use Rattle.terrain.specs.Blocks.{block, keys_of, net}
use Rattle.terrain.specs.Cells.{regular_triangles, transition_triangles}
use Rattle.terrain.specs.Curves.{HaveSameNet, all_edges}
use Rattle.terrain.specs.Levels.{LevelMap}
use Rattle.terrain.specs.Samples.{Field}
use Rattle.cell_laws.specs.Keys.{count_of_key, is_among_keys}
use Rattle.cell_laws.specs.Squares.{nine_places, regular_square, transition_face}

-- the test of whether two keys are the same agrees with the fact
abbrev pub KeysAreTested : Type 0
KeysAreTested = (a b : Key) → IsTrue (is_same_key a b) ↔ (a ≡ b)

-- the keys of triangles are each listed once, and no other key is
abbrev pub KeysAreListedOnce : Type 0
KeysAreListedOnce = (triangles : List (List Key)) (key : Key) → count_of_key key (keys_of triangles)
    ≡ is_among_keys key (flat_map (λ triangle. triangle) triangles)

-- directed edges that have the same net by weights have the same net for each pair of keys
abbrev pub NetsAreOfPairs : Type 0
NetsAreOfPairs = (xs ys : List (Key × Key)) → HaveSameNet xs ys → (a b : Key)
    → net xs a b ≡ net ys a b

-- the triangles of a regular cell leave open just the curves of its faces
abbrev pub RegularCellsLeaveCurves : Type 0
RegularCellsLeaveCurves = (s : Field) (level : ℕ) (low : Point)
    → HaveSameNet (all_edges (regular_triangles s level low))
    (flat_map (λ face. regular_square s level face low) faces)

-- and so do those of a transition cell
abbrev pub TransitionCellsLeaveCurves : Type 0
TransitionCellsLeaveCurves = (s : Field) (level : ℕ) (face : Face) (low : Point)
    → HaveSameNet (all_edges (transition_triangles s level face low))
    (flat_map (transition_face s level face low) nine_places)

-- a leaf has few triangles
abbrev pub LeavesHaveFewTriangles : Type 0
LeavesHaveFewTriangles = (depth : ℕ) (s : Field) (m : LevelMap) (n : Node)
    → length (block depth s m n) ≤ LEAF_TRIANGLES
