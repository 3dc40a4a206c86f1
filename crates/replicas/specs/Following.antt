-- What comes of the bytes of a wire: its whole patches take effect, one after another.
-- Source: this project's rule.
use Rattle.std.specs.Prelude.{ℕ, zero, suc, ◌+◌, ◌-◌, Bool, true, false, List, [], ◌∷◌, ◌++◌, length, if◌then◌else◌, Option, None, Some}
use Rattle.lattice.specs.declared.node.Node.{Node}
use Rattle.lattice.specs.declared.settings.Settings.{Settings}
use Rattle.lattice.specs.Node.{is_among, is_same_node, root}
use Rattle.terrain.specs.MeshLists.{MeshLists, no_lists}
use Rattle.replicas.specs.declared.fault.WireFault.{WireFault}
use Rattle.replicas.specs.Grammar.{WireBlock, WirePatch}
use Rattle.replicas.specs.Reading.{More, Refused, Reading, ReplicaWorld, Whole, head_at, patch_at}

-- what a node has once blocks were put, one after another
abbrev pub put_last : List WireBlock → Node → Option MeshLists → Option MeshLists
put_last [] n held = held
put_last (block ∷ blocks) n held =
    put_last blocks n (if is_same_node block.node n then Some block.mesh else held)

-- what a node has once some nodes lost their blocks
abbrev pub without : List Node → Node → Option MeshLists → Option MeshLists
without gone n held = if is_among gone n then None else held

-- a patch takes effect: its gone nodes lose their blocks, its blocks are put, and its events come behind those before
abbrev pub behind_patch : ReplicaWorld → WirePatch → ReplicaWorld
behind_patch world patch = record {
  settings = world.settings;
  events = world.events ++ patch.events;
  block = λ n. put_last patch.blocks n (without patch.gone n (world.block n));
}

-- behind the head there is no event, and the root has an empty block
abbrev pub opening_world : Settings → ReplicaWorld
opening_world settings = record {
  settings = settings;
  events = [];
  block = λ n. if is_same_node (root settings.depth) n then Some no_lists else None;
}

-- what comes of bytes: what is shown then, how many patches took effect, whether no part of a patch stands, the fault
-- if a field was refused, and how many bytes were taken, which are all, or those up to and with the refused field
pub record Outcome : Type 0 where
  pub world : Option ReplicaWorld
  pub patches : ℕ
  pub at_rest : Bool
  pub fault : Option WireFault
  pub taken : ℕ

-- the bytes end behind a patch, or within one
abbrev pub ends : ℕ → Option ReplicaWorld → Bool → Outcome
ends total world at_rest =
    record { world = world; patches = 0; at_rest = at_rest; fault = None; taken = total }

-- a field is refused
abbrev pub stops : ℕ → Option ReplicaWorld → WireFault → Outcome
stops taken world fault =
    record { world = world; patches = 0; at_rest = false; fault = Some fault; taken = taken }

-- so many patches took effect before
abbrev pub with_patches : ℕ → Outcome → Outcome
with_patches n outcome = record outcome { patches = n + outcome.patches }

-- what comes of reading a patch: it ends within it, or a field is refused; or the patch takes effect, and what is
-- behind it is gone on with. Of so many bytes in all some are read, and it is told whether none are left to read.
abbrev pub proceed : (ReplicaWorld → List ℕ → Outcome) → ℕ → ReplicaWorld → Bool
    → Reading WirePatch → Outcome
proceed go total world at_rest More = ends total (Some world) at_rest
proceed go total world at_rest (Refused fault rest) =
    stops (total - length rest) (Some world) fault
proceed go total world at_rest (Whole patch rest) =
    with_patches 1 (go (behind_patch world patch) rest)

-- whether there are no bytes
abbrev pub has_none : List ℕ → Bool
has_none [] = true
has_none (byte ∷ bytes) = false

-- patches are followed, but no more of them than the fuel: of so many bytes in all, these are left
unfoldable pub follow : ℕ → ℕ → ReplicaWorld → List ℕ → Outcome
follow total zero world bytes = ends total (Some world) (has_none bytes)
follow total (suc fuel) world bytes =
    proceed (follow total fuel) total world (has_none bytes) (patch_at world bytes)

-- the same with fuel for each byte, which is enough, since each patch has bytes
abbrev pub follow_all : ℕ → ReplicaWorld → List ℕ → Outcome
follow_all total world bytes = follow total (length bytes) world bytes

-- what comes of a head that was read, and of what is behind it
abbrev pub behind_head : ℕ → Reading Settings → Outcome
behind_head total More = ends total None false
behind_head total (Refused fault rest) = stops (total - length rest) None fault
behind_head total (Whole settings rest) = follow_all total (opening_world settings) rest

-- what comes of a wire: its head, and behind it patches
abbrev pub wire : List ℕ → Outcome
wire bytes = behind_head (length bytes) (head_at bytes)
