-- What a run writes of meshes without a crack. This project's rule.
use Rattle.std.specs.Prelude.{◌≡◌, ◌⊎◌, ℕ, List, [], ◌++◌, length}
use Rattle.std.specs.List.{AllByRecursion, flat_map}
use Rattle.lattice.specs.declared.settings.Settings.{Settings}
use Rattle.terrain.specs.declared.event.Event.{Event}
use Rattle.terrain.specs.Blocks.{Mesh}
use Rattle.snapshots.specs.Seamless.{AreSeamless}
use Rattle.snapshots.specs.Stats.{stats_of}
use Rattle.mesh_out.specs.Text.{shot_text, stats_text, watch_text}
use Rattle.surface_query.specs.NormalText.{normals_text}
use Rattle.surface_query.specs.declared.bases.Bases.{Bases}
use Rattle.script_play.specs.Output.{pick_after}
use Rattle.terra_io.specs.Stream.{Stream, AppendsPrefix}
use Rattle.requests.specs.Edited.{owner_lines}

-- a text is a shot, with normals or without, of meshes that hold the events of a history
pub record IsShotOf (text : List ℕ) (rules : Settings) (history : List Event)
    (meshes : List Mesh) : Type 0 where
  pub number : ℕ
  pub bases : Bases
  pub shot : (text ≡ shot_text number bases.vertices (length history) meshes)
      ⊎ (text ≡ normals_text number bases rules history meshes)

-- a text is the line of a pick after a history
pub record IsPickOf (text : List ℕ) (rules : Settings) (history : List Event) : Type 0 where
  pub x : ℕ
  pub y : ℕ
  pub pick : text ≡ pick_after rules history x y

-- a text is a shot, a line of stats or a pick of meshes of a history
pub data IsOutputOf (text : List ℕ) (rules : Settings) (history : List Event)
    (meshes : List Mesh) : Type 0 where
  of_shot : IsShotOf text rules history meshes → IsOutputOf text rules history meshes
  of_stats : text ≡ stats_text (stats_of meshes) → IsOutputOf text rules history meshes
  of_pick : IsPickOf text rules history → IsOutputOf text rules history meshes

-- a text is an output of meshes that are seamless as the mesh of a history
pub record ShowsSeamless (text : List ℕ) : Type 0 where
  pub rules : Settings
  pub history : List Event
  pub meshes : List Mesh
  pub seamless : AreSeamless rules history meshes
  pub shows : IsOutputOf text rules history meshes

-- such texts, one behind the other
pub record IsSeamlessOutput (output : List ℕ) : Type 0 where
  pub parts : List (List ℕ)
  pub joined : output ≡ flat_map (λ part. part) parts
  pub seamless : AllByRecursion ShowsSeamless parts

-- nothing, or lines that tell whose each event is
abbrev pub IsOwnerText : List ℕ → Type 0
IsOwnerText opening = (opening ≡ []) ⊎ ((owners : List ℕ) × (opening ≡ owner_lines owners))

-- nothing, or a line of watchers that counts no crack and no look that went back
abbrev pub IsClosing : List ℕ → Type 0
IsClosing closing =
    (closing ≡ [])
    ⊎ ((looks : ℕ) × (closing ≡ watch_text (record { looks = looks; cracks = 0; backward = 0 })))

-- what was written is shots, lines of stats and picks, each of meshes without a crack, with the lines of owners before
-- them and the line of watchers behind them, or a first part of such a text
pub record WritesSeamless (old new : Stream) : Type 0 where
  pub opening : List ℕ
  pub output : List ℕ
  pub closing : List ℕ
  pub opens : IsOwnerText opening
  pub seamless : IsSeamlessOutput output
  pub closes : IsClosing closing
  pub written : AppendsPrefix old new (opening ++ output ++ closing)
