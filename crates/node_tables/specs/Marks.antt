-- Words with marks, by which what is empty is passed over.
-- Source: this project's rule.
use Rattle.std.specs.Prelude.{ℕ, true, false, ◌+◌, ◌-◌, ◌/◌, ◌^◌, ◌<◌, ◌≤◌, ◌≡◌, List, length}
use Rattle.node_tables.specs.declared.words.TheConstants.{WORD}
use Rattle.node_tables.specs.NodeBits.{has_bit}

-- there is a bit for each word, and it is set where a bit of the word is; where none is, it may be set too
pub record IsMarked (words marks : List ℕ) : Type 0 where
  pub few : length words ≤ 2 ^ 32
  pub long : length marks ≡ (length words + WORD - 1) / WORD
  pub unmarked : (place : ℕ) → has_bit marks (place / WORD) ≡ false → has_bit words place ≡ false
  pub spare : (word : ℕ) → has_bit marks word ≡ true → word < length words
