-- A mesh to which the cells of a leaf are added. This project's rule.
use Rattle.std.specs.Prelude.{◌≡◌, ℕ, ◌-◌, ◌<◌, ◌≤◌, ◌++◌, All, List, Option, length, map, slice_index}
use Rattle.std.specs.Option.{ForSome}
use Rattle.lattice.specs.declared.key.Key.{Key}
use Rattle.lattice.specs.declared.point.Pos.{Pos}
use Rattle.terrain.specs.Samples.{Field}
use Rattle.terrain.specs.Blocks.{Brick, keys_of, with_key}
use Rattle.bricks.specs.Brick.{HasSamples}
use Rattle.block_mesh.specs.KeyTable.{HasEntries, IsEdgeTable, IsOnBorder, edge_slot, entry, fine_slot}
use Rattle.block_mesh.specs.LeafCells.{square_key}
use Rattle.vertex_places.specs.LeafEdges.{AreEndSamples, IsLeafEdge, key_of}
use Rattle.vertex_places.specs.declared.leaf_edge.LeafEdge.{LeafEdge}
use Rattle.block_mesh.specs.MeshEdges.{leaf_edge_of, mesh_key}
use Rattle.block_mesh.specs.declared.mesh_edge.MeshEdge.{MeshEdge}
use Rattle.block_mesh.specs.Mesh.{index_among, indices_of}
use Rattle.terrain.specs.MeshLists.{MeshLists}
use Rattle.lattice.specs.declared.node.TheConstants.{CELLS}
use Rattle.lattice.specs.Steps.{AreAtMost}
use Rattle.block_mesh.specs.declared.builder.Builder.{Builder}
use Rattle.block_mesh.specs.declared.builder.Square.{Square}
use Rattle.block_mesh.specs.declared.builder.TheConstants.{EDGES, FINE_EDGES, MAX_BASE}

-- an edge is one of a brick's leaf, with the brick's samples at its ends
pub record IsEdgeOf (b : Brick) (e : LeafEdge) : Type 0 where
  pub leaf : IsLeafEdge b.node e
  pub samples : (s : Field) → HasSamples s b → AreEndSamples s (key_of b.node e) e.near e.far

-- edges of a mesh are those of a brick's leaf
abbrev pub AreEdgesOf : Brick → List MeshEdge → Type 0
AreEdgesOf b = All (λ edge. IsEdgeOf b (leaf_edge_of b edge))

-- the keys of a builder's edges, in a brick's leaf
abbrev pub keys_in : Brick → Builder → List Key
keys_in b builder = map (mesh_key b) builder.edges

-- the lists of the mesh so far, with these positions
abbrev pub lists_in : Brick → Builder → List Pos → MeshLists
lists_in b builder positions = record {
  keys = keys_in b builder;
  positions = positions;
  triangles = builder.triangles;
}

-- a builder can be used for another leaf: no number in its tables is above the base by more than it has edges
pub record IsSpare (builder : Builder) : Type 0 where
  pub coarse : IsEdgeTable EDGES builder.base (length builder.edges) builder.coarse.items
  pub fine : IsEdgeTable FINE_EDGES builder.base (length builder.edges) builder.fine.items

-- a builder that is kept, if there is one, can be used for another leaf
abbrev pub IsKeptSpare : Option Builder → Type 0
IsKeptSpare kept = ForSome kept IsSpare

-- a builder builds the mesh of a brick's leaf: its edges are the leaf's, with the brick's samples at their ends, its
-- tables tell where their keys are, and its moves are the leaf's
pub record Builds (b : Brick) (builder : Builder) : Type 0 where
  pub edges : AreEdgesOf b builder.edges
  pub spare : IsSpare builder
  pub coarse : HasEntries b.node b.node.level (AreAtMost CELLS) edge_slot builder.base
      builder.coarse.items (keys_in b builder)
  pub fine : 1 ≤ b.node.level → HasEntries b.node (b.node.level - 1) IsOnBorder fine_slot
      builder.base builder.fine.items (keys_in b builder)
  pub low : builder.base ≤ MAX_BASE
  pub moves : builder.moves ≡ record { depth = b.depth; node = b.node; rim = b.rim }

-- what a builder is after a key was asked for, and where the key is
pub record Adds (b : Brick) (key : Key) (old new : Builder) (at : ℕ) : Type 0 where
  pub keys : keys_in b new ≡ with_key (keys_in b old) key
  pub at_is : at ≡ index_among key (keys_in b new)
  pub triangles : new.triangles ≡ old.triangles
  pub builds : Builds b new

-- the mesh so far is that of these triangles
pub record HoldsTriangles (b : Brick) (added : List (List Key)) (builder : Builder) : Type 0 where
  pub keys : keys_in b builder ≡ keys_of added
  pub triangles : builder.triangles ≡ indices_of (keys_of added) added

-- what was added to a builder: in each field that has the brick's samples, these triangles behind the others
pub record AddsTriangles (b : Brick) (more : Field → List (List Key)) (old new : Builder)
    : Type 0 where
  pub holds : (s : Field) (added : List (List Key)) → HasSamples s b
      → HoldsTriangles b added old → HoldsTriangles b (added ++ more s) new
  pub builds : Builds b new

-- a square is one of a leaf's face
pub record IsSquare (square : Square) : Type 0 where
  pub v : square.v < CELLS
  pub u : square.u < CELLS

-- the numbers of the edges of the transition cell on a square: each that is above 0 is the entry of the edge's key
-- among a builder's keys
pub record HasMet (b : Brick) (square : Square) (met : List ℕ) (builder : Builder) : Type 0 where
  pub each : (edge : ℕ) → 0 < slice_index met edge → slice_index met edge
      ≡ entry (square_key b.node square.face square.v square.u edge) (keys_in b builder)
