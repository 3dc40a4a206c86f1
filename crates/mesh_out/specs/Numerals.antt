-- The texts of the numbers of a mesh's vertices, which are kept for the triangles that have them. This project's rule.
use Rattle.std.specs.Prelude.{◌≡◌, ℕ, ◌+◌, ◌<◌, ◌≤◌, List, ◌++◌, codes, decimal, length, slice_index_or, take}
use Rattle.mesh_out.specs.declared.numerals.Numeral.{Numeral}
use Rattle.mesh_out.specs.declared.numerals.TheConstants.{NUMERAL_ROOM}

-- the number of a vertex by its place in a mesh that is written behind so many vertices, with a blank in front
abbrev pub vertex_number : ℕ → ℕ → List ℕ
vertex_number base place = codes " " ++ decimal (base + place + 1)

-- the text of the number of the vertex at a place
pub record IsNumeral (base place : ℕ) (numeral : Numeral) : Type 0 where
  pub len : numeral.len ≤ NUMERAL_ROOM
  pub text : take numeral.len numeral.bytes ≡ vertex_number base place

-- those of the vertices at places from 0 on
abbrev pub AreNumerals : ℕ → List Numeral → Type 0
AreNumerals base numerals =
    (k : ℕ) (d : Numeral) → k < length numerals → IsNumeral base k (slice_index_or numerals k d)
