-- The wire of a script: its head, and behind it the patches that lead from frame to frame. This project's rule.
use Rattle.std.specs.Prelude.{ℕ, List, [], ◌∷◌, ◌++◌, length, map}
use Rattle.lattice.specs.declared.node.Node.{Node}
use Rattle.lattice.specs.declared.settings.Settings.{Settings}
use Rattle.terrain.specs.declared.event.Event.{Event}
use Rattle.camera_script.specs.declared.commands.Command.{Command}
use Rattle.camera_script.specs.declared.commands.Command.TheVariants as commands
use Rattle.terrain.specs.Blocks.{Mesh}
use Rattle.event_laws.specs.Changes.{change}
use Rattle.block_mesh.specs.Mesh.{indices_of}
use Rattle.terrain.specs.MeshLists.{MeshLists}
use Rattle.snapshots.specs.Frame.{mesh_after}
use Rattle.replicas.specs.Grammar.{WireBlock, WirePatch, head_bytes, patch_bytes}

-- the lists of a mesh
abbrev pub lists_of_mesh : Mesh → MeshLists
lists_of_mesh mesh = record {
  keys = mesh.keys;
  positions = mesh.positions;
  triangles = indices_of mesh.keys mesh.triangles;
}

-- the block of a leaf after a history: its mesh from scratch
abbrev pub block_after : Settings → List Event → Node → WireBlock
block_after settings history n =
    record { node = n; mesh = lists_of_mesh (mesh_after settings history n) }

-- the patch of some events that follow a history: the leaves that are leaves no more, and the blocks of those that one
-- of the events touched
abbrev pub patch_after : Settings → List Event → List Event → WirePatch
patch_after settings history events =
    let changes = change settings history events in record {
      base = length history;
      events = events;
      gone = changes.gone;
      blocks = map (block_after settings (history ++ events)) changes.put;
    }

-- what an output command writes behind events that were sent and some that weren't yet: the patch of these, if there
-- are any
abbrev pub publication : Settings → List Event → List Event → List ℕ
publication settings sent [] = []
publication settings sent (event ∷ events) =
    patch_bytes (patch_after settings sent (event ∷ events))

-- what commands write behind such events
abbrev pub wire_after : Settings → List Event → List Event → List Command → List ℕ
wire_after settings sent since [] = []
wire_after settings sent since (commands.Event event ∷ rest) =
    wire_after settings sent (since ++ event ∷ []) rest
wire_after settings sent since (commands.Shot normals ∷ rest) =
    publication settings sent since ++ wire_after settings (sent ++ since) [] rest
wire_after settings sent since (commands.Stats ∷ rest) =
    publication settings sent since ++ wire_after settings (sent ++ since) [] rest
wire_after settings sent since (commands.Pick x y ∷ rest) =
    publication settings sent since ++ wire_after settings (sent ++ since) [] rest

-- the wire of a script
abbrev pub wire_output : Settings → List Command → List ℕ
wire_output settings script = head_bytes settings ++ wire_after settings [] [] script
