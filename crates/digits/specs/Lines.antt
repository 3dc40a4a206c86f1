-- Lines of text, which are written into room that is there.
use Rattle.std.specs.Prelude.{◌≡◌, ℕ, ◌+◌, List, ◌++◌, length, take}

-- a text was written from a place on, up to which the room is as it was; `end` is the place behind it
pub record Puts (old new : List ℕ) (at end : ℕ) (text : List ℕ) : Type 0 where
  pub long : length new ≡ length old
  pub behind : end ≡ at + length text
  pub front : take end new ≡ take at old ++ text
