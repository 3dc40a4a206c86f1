-- The table from which the loops of a cell are read.
use Rattle.std.specs.Prelude.{◌≡◌, ℕ, ◌<◌, Bool, false, ◌&&◌, if◌then◌else◌, Option, Some, None, List, ◌∷◌, ◌++◌, length, slice_index_or}
use Rattle.arrayvec.specs.ArrayVec.{ArrayVec}
use Rattle.terrain.specs.declared.curve.Curve.{Curve}
use Rattle.face_curves.specs.declared.loop_list.TheConstants.{KEYS}
use Rattle.terrain.specs.Curves.{starts, next, orbit, is_least}

-- the end of the curve that starts at the key, if one does
abbrev pub follower : List Curve → ℕ → Option ℕ
follower cs key = if starts cs key then Some (next cs key) else None

-- the table has each key's follower
pub record Follows (cs : List Curve) (table : List (Option ℕ)) : Type 0 where
  pub whole : length table ≡ KEYS
  pub each : (key : ℕ) → key < KEYS → slice_index_or table key None ≡ follower cs key

-- each number in the table is below `KEYS`
abbrev pub EndsAreKeys : List (Option ℕ) → Type 0
EndsAreKeys table = (key end : ℕ) → slice_index_or table key None ≡ Some end → end < KEYS

-- no two of the curves start at one key
abbrev pub StartApart : List Curve → Type 0
StartApart cs = (before after : List Curve) (c : Curve) → cs ≡ before ++ c ∷ after
    → starts before c.start ≡ false

-- whether a loop is listed from the key: a curve starts there, and the key is the least of its orbit
abbrev pub begins_loop : List Curve → ℕ → Bool
begins_loop cs key = starts cs key && is_least cs key

-- the loop that is listed from the key, if one is
abbrev pub loop_from : List Curve → ℕ → Option (ArrayVec ℕ)
loop_from cs key = if begins_loop cs key then Some (record { items = orbit cs key }) else None
