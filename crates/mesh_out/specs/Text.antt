-- The text of output commands: Wavefront OBJ, whose statements `o`, `g`, `v` and `f` and whose comments are taken from
-- that format. What is on each line, and in which order, is this project's rule.
use Rattle.std.specs.Prelude.{ℕ, ◌+◌, Option, None, Some, List, [], ◌∷◌, ◌++◌, length, flat_map, codes, decimal}
use Rattle.lattice.specs.declared.point.Pos.{Pos}
use Rattle.lattice.specs.declared.node.Node.{Node}
use Rattle.lattice.specs.declared.key.Key.{Key}
use Rattle.snapshots.specs.Frame.{FrameState}
use Rattle.snapshots.specs.Meshes.{meshes_of}
use Rattle.snapshots.specs.declared.stats.Stats.{Stats}
use Rattle.terrain.specs.Blocks.{Mesh}
use Rattle.block_mesh.specs.Mesh.{index_among}
use Rattle.terrain.specs.MeshLists.{MeshLists}
use Rattle.audits.specs.declared.counts.Counts.{Counts}
use Rattle.digits.specs.Digits.{coordinate_text}

-- ---- lines of a shot

-- the position of a vertex: its three coordinates in fine cells
abbrev pub vertex_line : Pos → List ℕ
vertex_line p =
    codes "v " ++ coordinate_text p.x ++ codes " " ++ coordinate_text p.y ++ codes " "
    ++ coordinate_text p.z ++ codes "\n"

-- a triangle of a mesh whose first vertex has the number base + 1 in the whole output
abbrev pub triangle_line : ℕ → List Key → List Key → List ℕ
triangle_line base keys triangle =
    codes "f" ++ flat_map (λ key. codes " " ++ decimal (base + index_among key keys + 1)) triangle
    ++ codes "\n"

-- the beginning of a leaf's group: the leaf's level and its i, j and k
abbrev pub group_line : Node → List ℕ
group_line n =
    codes "g b" ++ decimal n.level ++ codes "_" ++ decimal n.i ++ codes "_" ++ decimal n.j
    ++ codes "_" ++ decimal n.k ++ codes "\n"

-- a leaf with at least one triangle: its group, its vertices in the order of first use, its triangles
abbrev pub mesh_text : ℕ → Mesh → List ℕ
mesh_text base mesh = lines_of_mesh base mesh mesh.triangles
  where
    lines_of_mesh : ℕ → Mesh → List (List Key) → List ℕ
    lines_of_mesh base mesh [] = []
    lines_of_mesh base mesh (t ∷ ts) =
        group_line mesh.leaf ++ flat_map vertex_line mesh.positions
        ++ flat_map (triangle_line base mesh.keys) mesh.triangles

-- a triangle by the places of its keys in its mesh, from 0
abbrev pub face_line : ℕ → List ℕ → List ℕ
face_line base places =
    codes "f" ++ flat_map (λ place. codes " " ++ decimal (base + place + 1)) places ++ codes "\n"

-- the same text as that of a mesh, of the lists of a leaf's block
abbrev pub lists_text : ℕ → Node → MeshLists → List ℕ
lists_text base leaf lists = lines_of_lists base leaf lists lists.triangles
  where
    lines_of_lists : ℕ → Node → MeshLists → List (List ℕ) → List ℕ
    lines_of_lists base leaf lists [] = []
    lines_of_lists base leaf lists (t ∷ ts) =
        group_line leaf ++ flat_map vertex_line lists.positions
        ++ flat_map (face_line base) lists.triangles

-- leaf by leaf, the numbers of vertices going on
abbrev pub meshes_text : ℕ → List Mesh → List ℕ
meshes_text base [] = []
meshes_text base (mesh ∷ meshes) =
    mesh_text base mesh ++ meshes_text (base + length mesh.keys) meshes

-- the head of a shot: its number, and how many events its mesh holds
abbrev pub shot_head : ℕ → ℕ → List ℕ
shot_head number events =
    codes "o shot_" ++ decimal number ++ codes "\n# events " ++ decimal events ++ codes "\n"

-- a shot by its number, after this many vertices of earlier shots, of a mesh that holds this many
-- events
abbrev pub shot_text : ℕ → ℕ → ℕ → List Mesh → List ℕ
shot_text number base events meshes = shot_head number events ++ meshes_text base meshes

-- a shot of a frame: of the meshes that it has in its slots
abbrev pub shot_of : ℕ → ℕ → FrameState → List ℕ
shot_of number base frame = shot_text number base (length frame.events) (meshes_of frame)

-- ---- the line of stats

-- how many leaves, triangles and keys there are
abbrev pub stats_text : Stats → List ℕ
stats_text stats =
    codes "# stats leaves " ++ decimal stats.leaves ++ codes " triangles "
    ++ decimal stats.triangles ++ codes " keys " ++ decimal stats.keys ++ codes "\n"

-- ---- the line of a pick

-- a height, or that there is none
abbrev pub height_text : Option ℕ → List ℕ
height_text None = codes " none"
height_text (Some height) = codes " " ++ coordinate_text height

-- a place and the height over it, where x and y are in units of 1/256 cell and the height is in cells
abbrev pub pick_text : ℕ → ℕ → Option ℕ → List ℕ
pick_text x y height =
    codes "# pick " ++ decimal x ++ codes " " ++ decimal y ++ height_text height ++ codes "\n"

-- ---- the line of watchers

-- how many looks were made, how many cracks they counted, and how many of them went back
abbrev pub watch_text : Counts → List ℕ
watch_text counts =
    codes "# watch looks " ++ decimal counts.looks ++ codes " cracks " ++ decimal counts.cracks
    ++ codes " backward " ++ decimal counts.backward ++ codes "\n"
