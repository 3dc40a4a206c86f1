-- The text of a shot with normals, which a viewer draws smoothly: that of a shot without, but that each vertex has a
-- line for its normal, and faces name the normals too. Wavefront OBJ has such lines and faces; what is on each line,
-- and in which order, is this project's rule.
use Rattle.std.specs.Prelude.{ℕ, ◌+◌, List, [], ◌∷◌, ◌++◌, length, flat_map, codes, decimal}
use Rattle.std.specs.Fmt.{signed_decimal}
use Rattle.lattice.specs.declared.key.Key.{Key}
use Rattle.lattice.specs.declared.settings.Settings.{Settings}
use Rattle.block_mesh.specs.Mesh.{index_among}
use Rattle.mesh_out.specs.Text.{group_line, shot_head, vertex_line}
use Rattle.snapshots.specs.Frame.{FrameState}
use Rattle.snapshots.specs.Meshes.{meshes_of}
use Rattle.terrain.specs.declared.event.Event.{Event}
use Rattle.terrain.specs.Blocks.{Mesh}
use Rattle.terrain.specs.History.{sample}
use Rattle.surface_normals.specs.declared.vector.Normal.{Normal}
use Rattle.surface_normals.specs.Normals.{normal_of}
use Rattle.surface_query.specs.declared.bases.Bases.{Bases}

-- a normal: its three whole numbers
abbrev pub normal_line : Normal → List ℕ
normal_line n =
    codes "vn " ++ signed_decimal n.x ++ codes " " ++ signed_decimal n.y ++ codes " "
    ++ signed_decimal n.z ++ codes "\n"

-- a corner of a triangle, by its place in the mesh: the numbers of its vertex and of its normal in the whole output,
-- each from 1, behind those that were written before
abbrev pub corner_text : Bases → ℕ → List ℕ
corner_text bases place =
    codes " " ++ decimal (bases.vertices + place + 1) ++ codes "//"
    ++ decimal (bases.normals + place + 1)

-- a triangle of a mesh behind so many vertices and so many normals of the whole output
abbrev pub corners_line : Bases → List Key → List Key → List ℕ
corners_line bases keys triangle =
    codes "f" ++ flat_map (λ key. corner_text bases (index_among key keys)) triangle ++ codes "\n"

-- a leaf with at least one triangle: its group, its vertices in the order of first use, their normals in the same
-- order, its triangles
abbrev pub mesh_with_normals : (Key → Normal) → Bases → Mesh → List ℕ
mesh_with_normals normal bases mesh = lines_of_mesh normal bases mesh mesh.triangles
  where
    lines_of_mesh : (Key → Normal) → Bases → Mesh → List (List Key) → List ℕ
    lines_of_mesh normal bases mesh [] = []
    lines_of_mesh normal bases mesh (t ∷ ts) =
        group_line mesh.leaf ++ flat_map vertex_line mesh.positions
        ++ flat_map (λ key. normal_line (normal key)) mesh.keys
        ++ flat_map (corners_line bases mesh.keys) mesh.triangles

-- so many more vertices, each with its normal
abbrev pub raised : Bases → ℕ → Bases
raised bases count = record {
  vertices = bases.vertices + count;
  normals = bases.normals + count;
}

-- leaf by leaf, the numbers of vertices and those of normals going on
abbrev pub meshes_with_normals : (Key → Normal) → Bases → List Mesh → List ℕ
meshes_with_normals normal bases [] = []
meshes_with_normals normal bases (mesh ∷ meshes) =
    mesh_with_normals normal bases mesh
    ++ meshes_with_normals normal (raised bases (length mesh.keys)) meshes

-- a shot with normals of these meshes by its number, after so many vertices and so many normals of earlier shots; the
-- normals are those of the field after these events
abbrev pub normals_text : ℕ → Bases → Settings → List Event → List Mesh → List ℕ
normals_text number bases settings events meshes =
    shot_head number (length events)
    ++ meshes_with_normals (normal_of settings.depth (sample settings events)) bases meshes

-- a shot with normals of a frame: of the meshes that it has in its slots
abbrev pub shot_with_normals_of : ℕ → Bases → FrameState → List ℕ
shot_with_normals_of number bases frame =
    normals_text number bases frame.settings frame.events (meshes_of frame)
