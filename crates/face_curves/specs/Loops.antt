-- How the loops of a cell lie one after another in a list of keys.
use Rattle.std.specs.Prelude.{◌≡◌, ℕ, ◌≤◌, List, [], ◌∷◌, length, slice_index, slice_range}
use Rattle.std.specs.List.Sorted.{IsStrictlyIncreasing}
use Rattle.face_curves.specs.declared.loop_list.TheConstants.{KEYS}

-- the pieces of the keys from a place on, each up to the next end
abbrev pub pieces : List ℕ → ℕ → List ℕ → List (List ℕ)
pieces keys start [] = []
pieces keys start (end ∷ ends) = slice_range keys start end ∷ pieces keys end ends

-- the ends part the keys, of which there are no more than there are numbers for them, into pieces that have a key
pub record AreEnds (keys ends : List ℕ) : Type 0 where
  pub rising : IsStrictlyIncreasing (0 ∷ ends)
  pub whole : slice_index (0 ∷ ends) (length ends) ≡ length keys
  pub few : length keys ≤ KEYS
