-- The texts of a mesh's corners, which are kept for the triangles that have them. This project's rule.
use Rattle.std.specs.Prelude.{◌≡◌, ℕ, ◌<◌, ◌≤◌, List, length, slice_index_or, take}
use Rattle.surface_query.specs.declared.bases.Bases.{Bases}
use Rattle.surface_query.specs.declared.lines.Corner.{Corner}
use Rattle.surface_query.specs.declared.lines.TheConstants.{CORNER_ROOM}
use Rattle.surface_query.specs.NormalText.{corner_text}

-- the text of the corner at a place
pub record IsCornerText (bases : Bases) (place : ℕ) (corner : Corner) : Type 0 where
  pub len : corner.len ≤ CORNER_ROOM
  pub text : take corner.len corner.bytes ≡ corner_text bases place

-- those of the corners at places from 0 on
abbrev pub AreCornerTexts : Bases → List Corner → Type 0
AreCornerTexts bases corners =
    (k : ℕ) (d : Corner) → k < length corners → IsCornerText bases k (slice_index_or corners k d)
