-- The lists of a leaf's mesh, as it is kept, lent and sent. This project's rule.
use Rattle.std.specs.Prelude.{ℕ, List, []}
use Rattle.lattice.specs.declared.key.Key.{Key}
use Rattle.lattice.specs.declared.point.Pos.{Pos}
use Rattle.terrain.specs.declared.lists.BlockView.{BlockView}

-- the lists of a mesh: its keys, the position of each, and its triangles as indices of their keys
pub record MeshLists : Type 0 where
  pub keys : List Key
  pub positions : List Pos
  pub triangles : List (List ℕ)

-- the lists of a mesh without triangles
abbrev pub no_lists : MeshLists
no_lists = record { keys = []; positions = []; triangles = [] }

-- the lists that a view lends
abbrev pub lists_of : BlockView → MeshLists
lists_of view = record {
  keys = view.keys.now;
  positions = view.positions.now;
  triangles = view.triangles.now;
}
