-- The output of a script: the texts of its output commands, one after another. This project's rule.
use Rattle.std.specs.Prelude.{ℕ, ◌+◌, Bool, true, false, List, [], ◌∷◌, ◌++◌, length}
use Rattle.lattice.specs.declared.settings.Settings.{Settings}
use Rattle.snapshots.specs.Stats.{stats_of, vertex_count}
use Rattle.mesh_out.specs.Text.{pick_text, shot_text, stats_text}
use Rattle.surface_query.specs.NormalText.{normals_text}
use Rattle.frame_surface.specs.Surface.{surface_after}
use Rattle.frame_surface.specs.Tops.{height_over}
use Rattle.surface_query.specs.declared.bases.Bases.{Bases}
use Rattle.terrain.specs.declared.event.Event.{Event}
use Rattle.camera_script.specs.declared.commands.Command.{Command}
use Rattle.camera_script.specs.declared.commands.Command.TheVariants as commands
use Rattle.terrain.specs.Blocks.{Mesh, scratch}

-- a shot of a history, with normals or without, by its number, where so many vertices and normals were written before
abbrev pub shot_after : Settings → List Event → ℕ → Bases → Bool → List ℕ
shot_after settings events number bases true =
    normals_text number bases settings events (scratch settings events)
shot_after settings events number bases false =
    shot_text number bases.vertices (length events) (scratch settings events)

-- how many vertices and normals were written behind such a shot: each of its vertices has a normal, or none has one
abbrev pub bases_after : Bases → Bool → List Mesh → Bases
bases_after bases true meshes = record {
  vertices = bases.vertices + vertex_count meshes;
  normals = bases.normals + vertex_count meshes;
}
bases_after bases false meshes = record bases { vertices = bases.vertices + vertex_count meshes }

-- the line of a pick over a place, after a history
abbrev pub pick_after : Settings → List Event → ℕ → ℕ → List ℕ
pick_after settings events x y =
    pick_text x y (height_over settings.depth (surface_after settings events) x y)

-- what commands write after a history, where the next shot has this number and so many vertices and normals were
-- written before it
abbrev pub output_after : Settings → List Event → ℕ → Bases → List Command → List ℕ
output_after settings events number bases [] = []
output_after settings events number bases (commands.Event event ∷ rest) =
    output_after settings (events ++ event ∷ []) number bases rest
output_after settings events number bases (commands.Shot normals ∷ rest) =
    shot_after settings events number bases normals
    ++ output_after settings events (number + 1)
    (bases_after bases normals (scratch settings events)) rest
output_after settings events number bases (commands.Stats ∷ rest) =
    stats_text (stats_of (scratch settings events))
    ++ output_after settings events number bases rest
output_after settings events number bases (commands.Pick x y ∷ rest) =
    pick_after settings events x y ++ output_after settings events number bases rest

-- nothing was written yet
abbrev pub no_bases : Bases
no_bases = record { vertices = 0; normals = 0 }

-- what the commands of a script write: each shot, each line of stats and each pick is of the mesh from scratch of all
-- events before it; shots are numbered from 1, and vertices are counted over the whole output, and so are normals
abbrev pub output : Settings → List Command → List ℕ
output settings script = output_after settings [] 1 no_bases script
